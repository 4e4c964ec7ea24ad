-- RULES 10.1: what is demanded of a sheet: its report, for every byte string, in the order of RULES 3.4. Definitions only.
use Rattle.refusal.specs.Refused.{refused}
use Rattle.std.specs.Prelude.{Float, ℕ, ◌+◌, ◌≤◌, ◌<◌, ◌≡◌, List, [], ◌∷◌, ◌++◌, map, length, get_or, Some, None, Ok}
use Rattle.std.specs.Borrow.{Bor, MutBor}
use Rattle.door_limits.specs.declared.Limits.{Limits}
use Rattle.sheet_text.specs.Field.{Field}
use Rattle.sheet_mass.specs.Mass.{as_milligrams}
use Rattle.sheet_line.specs.Line.{line_of}
use Rattle.sheet_line.specs.declared.line.Line.{Line}
use Rattle.sheet_read.specs.Form.{Bank, in_form}
use Rattle.sheet_weigh.specs.Weighing.{weighed}
use Rattle.sheet_weigh.specs.Sheet.{marked}
use Rattle.sheet_outcome.specs.declared.Ending.{Ending}
use Rattle.sheet_report.specs.Report.{lines_bytes, ending_bytes, Written}
use Rattle.sheet_score.specs.Score.{sent_back}
use Rattle.demands.specs.Twice.{Twice}

abbrev pub lines : Bank → List (Line Float)
lines b = map line_of b.cylinders

-- the exact sum of the lines' milligrams
abbrev pub sum : List ℕ → ℕ
sum [] = 0
sum (mg ∷ mgs) = mg + sum mgs

-- the agent needed is blank or out of its range (RULES 2.4)
pub data NoNeed : Field → Type 0 where
  blank : NoNeed None
  no_agent : NoNeed (Some 0)
  too_much : {mg : ℕ} → 9_999_999_999 < mg → NoNeed (Some mg)

-- in the form, with 1 to 32 lines
pub record Lined (t : List ℕ) (b : Bank) : Type 0 where
  pub read : in_form t ≡ Some b
  pub some_line : 1 ≤ length b.cylinders
  pub at_most : length b.cylinders ≤ 32

-- and with a need
pub record Needs (t : List ℕ) (b : Bank) (mg : ℕ) : Type 0 where
  pub lined : Lined t b
  pub need : b.need ≡ Some mg
  pub at_least : 1 ≤ mg
  pub at_most : mg ≤ 9_999_999_999

module _ (L : Limits) where
  -- some line is refused by itself
  pub data OneRefused : List (Line Float) → Type 0 where
    here : {l : Line Float} {ls : List (Line Float)} {n : ℕ} → weighed L l ≡ refused n → OneRefused (l ∷ ls)
    there : {l : Line Float} {ls : List (Line Float)} → OneRefused ls → OneRefused (l ∷ ls)

  -- every line is answered by itself, and these are their milligrams
  pub data AllWeighed : List (Line Float) → List ℕ → Type 0 where
    none_left : AllWeighed [] []
    one_more : {l : Line Float} {ls : List (Line Float)} {mg : ℕ} {mgs : List ℕ} → weighed L l ≡ Ok (as_milligrams mg) → AllWeighed ls mgs → AllWeighed (l ∷ ls) (mg ∷ mgs)

  -- RULES 7.1 and 7.2: the report of a text
  pub data Reported (t : List ℕ) : List ℕ → Type 0 where
    not_in_form : in_form t ≡ None → Reported t (sent_back 14)
    no_lines : {b : Bank} → in_form t ≡ Some b → length b.cylinders ≡ 0 → Reported t (sent_back 10)
    many_lines : {b : Bank} → in_form t ≡ Some b → 32 < length b.cylinders → Reported t (sent_back 11)
    no_need : {b : Bank} → Lined t b → NoNeed b.need → Reported t (sent_back 12)
    one_refused : {b : Bank} {need : ℕ} → Needs t b need → OneRefused (lines b) → Reported t (lines_bytes 1 (marked L (lines b)) ++ sent_back 13)
    named_twice : {b : Bank} {need : ℕ} → Needs t b need → Twice b.cylinders → Reported t (lines_bytes 1 (marked L (lines b)) ++ sent_back 13)
    covered : {b : Bank} {need : ℕ} {mgs : List ℕ} → Needs t b need → (Twice b.cylinders → ⊥) → AllWeighed (lines b) mgs → need ≤ sum mgs
        → Reported t (lines_bytes 1 (marked L (lines b)) ++ ending_bytes (Ending.Covered (as_milligrams (sum mgs))))
    short : {b : Bank} {need : ℕ} {mgs : List ℕ} → Needs t b need → (Twice b.cylinders → ⊥) → AllWeighed (lines b) mgs → sum mgs < need
        → Reported t (lines_bytes 1 (marked L (lines b)) ++ ending_bytes (Ending.Short (as_milligrams (sum mgs))))

  -- RULES 7.3: and what the lent output holds then, byte by byte: the report and after it what was there; or, where it doesn't fit, what was there
  pub data Delivered (t old new : List ℕ) : Written → Type 0 where
    fits : {bs : List ℕ} → Reported t bs → length bs ≤ length old → length new ≡ length old
        → ((i : ℕ) → i < length bs → get_or new i 0 ≡ get_or bs i 0) → ((i : ℕ) → length bs ≤ i → get_or new i 0 ≡ get_or old i 0)
        → Delivered t old new (Ok (length bs))
    too_long : {bs : List ℕ} → Reported t bs → length old < length bs → new ≡ old → Delivered t old new (refused 15)

-- whatever meets the promise of a function from limits, a text and a lent output (`Post`, its own `ensures`) delivers. a is what it is called with,
-- (limits, (text, (output, ..))), x the same afterwards, and `now` what a reference holds
abbrev pub Delivers : {S T U W : Type 0} → (Limits × (Bor (List ℕ) × (MutBor (List ℕ) × S)) → Written → T × (U × (MutBor (List ℕ) × W)) → Type 0) → Type 0
Delivers {S} {T} {U} {W} Post =
    (a : Limits × (Bor (List ℕ) × (MutBor (List ℕ) × S))) (r : Written) (x : T × (U × (MutBor (List ℕ) × W))) → Post a r x
    → Delivered a.0 a.1.0.now a.1.1.0.now x.1.1.0.now r
