-- A field's number has at most 10 digits, in the record too, so a float holds it; and the line that is read is that of the cylinder that is read.
use Rattle.std.specs.Prelude.{Float, Some, None, Option}
use mathlib.Core.Path.{◌≡◌, refl, sym, ◌∙◌}
use mathlib.Core.List.{List}
use Prim.Native.Nat.{ℕ, ◌<◌}
use native.Mathlib.Omega.{arith}
use lib.Dec.{T, le→leb}
use lib.IntN.{pos}
use lib.Ieee.{binary64, in_float, of_int, of_bits}
use Rattle.num_working.specs.Number.{whole}
use Rattle.sheet_text.specs.Parse.{and_then, give}
use Rattle.sheet_text.proofs.Parses.{read_once, none_or_some}
use Rattle.sheet_text.specs.Field.{Small, Field}
use Rattle.sheet_line.specs.Cylinder.{AllSmall, cylinder}
use Rattle.sheet_line.specs.Record.{recorded_of, record_of, SmallReading, SmallRecord}
use Rattle.sheet_line.specs.Line.{line_of, line}
use Rattle.sheet_line.specs.declared.cylinder.Kind.{Kind}
use Rattle.sheet_line.specs.declared.cylinder.Cylinder.{Cylinder}
use Rattle.sheet_line.specs.declared.line.Line.{Line}

-- ---- numbers as floats

pub in_float_lem : (n : ℕ) → n < 10_000_000_000 → T (in_float binary64 (pos n))
unfolding in_float
in_float_lem n h = le→leb n 9007199254740992 (omega arith)

pub ten_thousand : of_bits binary64 4666723172467343360 ≡ whole 10000
unfolding of_bits of_int whole
ten_thousand = refl

pub thousand : of_bits binary64 4652007308841189376 ≡ whole 1000
unfolding of_bits of_int whole
thousand = refl

-- ---- the record of a cylinder

small_reading : (k : Kind) (f : Field) → Small f → SmallReading (recorded_of k f)
small_reading k None h = tt
small_reading Kind.Pressure (Some n) h = h
small_reading Kind.Density (Some n) h = h
small_reading Kind.Weighed (Some n) h = tt

pub small_record : (c : Cylinder) → AllSmall c → SmallRecord (record_of c)
small_record c h = record { temperature = h.temperature; reading = small_reading c.kind c.value h.value }

-- ---- the cylinder of a line

-- l is the line of a cylinder that stands at the front of u, with r after it
pub record Of (u : List ℕ) (l : Line Float) (r : List ℕ) : Type 0 where
  pub c : Cylinder
  pub read : cylinder u ≡ Some (c, r)
  pub is : l ≡ line_of c

module _ (u : List ℕ) where
  none_of : (o : Option (Cylinder × List ℕ)) → and_then o (λ c. give (line_of c)) ≡ None → o ≡ None
  none_of None e = refl
  none_of (Some p) e = absurd (none_or_some e refl)

  some_of : (l : Line Float) (r : List ℕ) (o : Option (Cylinder × List ℕ)) → cylinder u ≡ o → and_then o (λ c. give (line_of c)) ≡ Some (l, r) → Of u l r
  some_of l r None e f = absurd (none_or_some refl f)
  some_of l r (Some p) e f = let g = read_once (line_of p.0) l p.1 r f in record { c = p.0; read = e ∙ rw g.1; is = sym g.0 }

  pub no_line : line u ≡ None → cylinder u ≡ None
  unfolding line
  no_line e = none_of (cylinder u) e

  pub of_cylinder : (l : Line Float) (r : List ℕ) → line u ≡ Some (l, r) → Of u l r
  unfolding line
  of_cylinder l r e = some_of l r (cylinder u) refl e
