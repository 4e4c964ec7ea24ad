-- No second answer meets a public function's promise. Assumes nothing.
use mathlib.Core.Bool.{Bool}
use Rattle.num_working.proofs.Unique.{OneAnswer, by_equation}
use Rattle.desk_look.specs.declared.held.Look.{Look}
use Rattle.desk_look.specs.declared.held.Margin.{Margin}
use Rattle.desk_look.specs.Gauge.{Gauge}
use Rattle.desk_look.proofs.held.look_at.Reads as look_at
use Rattle.desk_look.proofs.held.is_heavy.Reads as is_heavy
use Rattle.desk_look.proofs.held.margin_of.Reads as margin_of
use Rattle.desk_look.proofs.gauge.gauge_of.Reads as gauge_of

pub look_at_once : OneAnswer Look (look_at.Post tt)
look_at_once a r s x y = by_equation

pub is_heavy_once : OneAnswer Bool (is_heavy.Post tt)
is_heavy_once a r s x y = by_equation

pub margin_of_once : OneAnswer Margin (margin_of.Post tt)
margin_of_once a r s x y = by_equation

pub gauge_of_once : OneAnswer Gauge (gauge_of.Post tt)
gauge_of_once a r s x y = by_equation
