-- RULES 2.2, 2.3 and 5.1: what may be asked, the critical box, and the ends of a search. Definitions only.
use Rattle.std.specs.Prelude.{Bool, true, cond, Float}
use Rattle.std.specs.Float.Ieee.{lt}
use Rattle.num_working.specs.Number.{whole, decimal}
use Rattle.door_limits.specs.declared.Range.{Range}
use Rattle.door_limits.specs.declared.Limits.{Limits}
use Rattle.door_limits.specs.declared.Ends.{Ends}

abbrev pub range : Float → Float → Range
range from to = record { from = from; to = to }

-- the limits that the program and C hand in
unfoldable pub document01 : Limits
document01 = record {
  -- RULES 2.2, in K, Pa and kg/m³
  asked = record {
    temperature = range (decimal 216592 3) (whole 523);
    pressure = range (whole 10000) (whole 30000000);
    density = range (decimal 1 1) (whole 1300);
  };
  -- RULES 2.3: its temperatures, with its pressures for the pressure door and with its densities for the density door
  critical = record {
    temperature = range (decimal 3031282 4) (decimal 3051282 4);
    pressure = range (whole 7000000) (whole 8000000);
    density = range (decimal 3507 1) (decimal 5845 1);
  };
}

-- RULES 5.1: from where to where is searched, of vapour up to 1.01 times and of liquid from 0.99 times the saturated density, whatever the limits are
unfoldable pub search_ends : Ends
search_ends = record { from = decimal 5 2; to = whole 1400; vapour = decimal 101 2; liquid = decimal 99 2 }

-- RULES 2: every end of a range is inside it
abbrev pub outside : Range → Float → Bool
outside r x = cond (lt x r.from) true (lt r.to x)
