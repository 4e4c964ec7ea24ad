-- RULES 14.4: a gauge that can't tell how much a cylinder holds, since it stands by the vapour pressure. Definitions only.
use Rattle.std.specs.Prelude.{ℕ, Bool, not, cond, Float, Some, None, Ok, Err, Option}
use Rattle.std.specs.Float.{binary64}
use Rattle.std.specs.Float.Ieee.{neg, sub, mul}
use Rattle.num_working.specs.Number.{whole}
use Rattle.num_whole.specs.Whole.{whole_below, Below}
use Rattle.equation.specs.Equation.{of1996}
use Rattle.door_limits.specs.Limits.{range, outside}
use Rattle.door_limits.specs.declared.Limits.{Limits}
use Rattle.door_saturation.specs.Saturation.{saturated, Saturated}
use Rattle.door_saturation.specs.declared.Saturation.{Saturation}
use Rattle.sheet_text.specs.Field.{Field}
use Rattle.sheet_line.specs.Line.{Temperature}
use Rattle.sheet_line.specs.declared.line.Reading.{Reading}
use Rattle.sheet_line.specs.declared.line.Line.{Line}
use Rattle.sheet_weigh.specs.Weighing.{is_volume}
use Rattle.desk_look.specs.declared.gauge.Doubt.{Doubt}

-- what a gauge that can't tell leaves open; none where it tells
abbrev pub Gauge : Type 0
Gauge = Option Doubt

-- within 2 bar, in Pa, both ends inside: one difference
unfoldable pub near : Float → Float → Bool
near p saturated = not (outside (range (neg (whole 200000)) (whole 200000)) (sub binary64 p saturated))

-- RULES 6.5: the milligrams of a density in so many mL
unfoldable pub product_of : Float → ℕ → Below
product_of rho v = whole_below (mul binary64 rho (whole v))

unfoldable pub doubt_of : Saturation → ℕ → Doubt
doubt_of s v = record { pressure = s.pressure; vapour = product_of s.vapour v; liquid = product_of s.liquid v }

abbrev pub gauge_by : Saturated → Float → ℕ → Gauge
gauge_by (Ok s) p v = cond (near p s.pressure) (Some (doubt_of s v)) None
gauge_by (Err n) p v = None

-- where the volume is in its range
unfoldable pub gauge_in : Limits → Float → Float → ℕ → Gauge
gauge_in L t p v = cond (is_volume v) (gauge_by (saturated of1996 L t) p v) None

-- of a pressure at a temperature
abbrev pub gauge_at : Limits → Temperature → Reading Float → ℕ → Gauge
gauge_at L None r v = None
gauge_at L (Some t) Reading.Blank v = None
gauge_at L (Some t) (Reading.Pressure p) v = gauge_in L t p v
gauge_at L (Some t) (Reading.Density d) v = None
gauge_at L (Some t) (Reading.Weighed g) v = None

-- none of the line's fields is blank
abbrev pub gauge_of : Limits → Field → Field → Temperature → Reading Float → Gauge
gauge_of L None volume k r = None
gauge_of L (Some n) None k r = None
gauge_of L (Some n) (Some v) k r = gauge_at L k r v

unfoldable pub gauge : Limits → Line Float → Gauge
gauge L l = gauge_of L l.number l.volume l.temperature l.reading
