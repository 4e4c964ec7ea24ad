-- RULES 3.2, 6.6 and 10.1: what is demanded of a line on its sheet: when a number stands there twice, what came of each line then, and what is as it was
-- before there was a refusal 30. Definitions only.
use Rattle.std.specs.Prelude.{Float, ℕ, ◌<◌, ◌≡◌, true, List, map, length, get_or, Some, None, Ok, Option}
use Rattle.door_limits.specs.declared.Limits.{Limits}
use Rattle.sheet_mass.specs.Mass.{as_milligrams}
use Rattle.sheet_line.specs.Line.{line_of}
use Rattle.sheet_line.specs.declared.cylinder.Kind.{Kind}
use Rattle.sheet_line.specs.declared.cylinder.Cylinder.{Cylinder}
use Rattle.sheet_line.specs.declared.line.Line.{Line}
use Rattle.sheet_read.specs.Form.{Bank}
use Rattle.sheet_outcome.specs.Outcome.{admitted, Weighed}
use Rattle.sheet_weigh.specs.Weighing.{weighed}
use Rattle.sheet_weigh.specs.Sheet.{marked}
use Rattle.sheet_score.specs.Score.{sent_back, listed}
use Rattle.demands.specs.Demands.{Numbered}
use Rattle.demands.specs.Lines.{Dashed, RefusesLine, Weighs}

-- where a sheet has no line
abbrev pub no_cylinder : Cylinder
no_cylinder = record { number = None; temperature = None; kind = Kind.Pressure; value = None; volume = None }

-- and where there is no mark
abbrev pub no_mark : Weighed
no_mark = Ok (as_milligrams 0)

-- the line at a place, the first being 0
abbrev pub at : List Cylinder → ℕ → Cylinder
at cs i = get_or cs i no_cylinder

-- some line before the one at i has its number; a blank is none
pub record Again (cs : List Cylinder) (i : ℕ) : Type 0 where
  pub earlier : ℕ
  pub cylinder : ℕ
  pub before : earlier < i
  pub there : (at cs earlier).number ≡ Some cylinder
  pub here : (at cs i).number ≡ Some cylinder

-- a sheet that names a number twice
pub record Twice (cs : List Cylinder) : Type 0 where
  pub place : ℕ
  pub again : Again cs place

-- RULES 3.1: the numbers of a line's refusals on its sheet, those of the line alone, and 30
pub data NumberedAlone : ℕ → Type 0 where
  as_door : {n : ℕ} → Numbered 1 n → NumberedAlone n
  is_23 : NumberedAlone 23

pub data NumberedAt : ℕ → Type 0 where
  as_alone : {n : ℕ} → NumberedAlone n → NumberedAt n
  is_30 : NumberedAt 30

module _ (L : Limits) where
  -- what came of the line at i
  abbrev pub came : List Cylinder → ℕ → Weighed
  came cs i = get_or (marked L (map line_of cs)) i no_mark

  -- when it is refused, and by which number: by 1, by 30, or as the line alone is
  pub data RefusesAt (cs : List Cylinder) (i : ℕ) : ℕ → Type 0 where
    lacks : Dashed (at cs i) → RefusesAt cs i 1
    is_again : (Dashed (at cs i) → ⊥) → Again cs i → RefusesAt cs i 30
    alone : {n : ℕ} → (Dashed (at cs i) → ⊥) → (Again cs i → ⊥) → RefusesLine L (at cs i) n → RefusesAt cs i n

  -- and when it is answered, with its milligrams
  pub record WeighsAt (cs : List Cylinder) (i mg : ℕ) : Type 0 where
    pub first : Again cs i → ⊥
    pub weighs : Weighs L (at cs i) mg

  -- ---- as it was before: each line's mark is that of the line alone

  abbrev pub marked_before : List (Line Float) → List Weighed
  marked_before ls = map (weighed L) ls

  abbrev pub report_before : Option Bank → List ℕ
  report_before None = sent_back 14
  report_before (Some b) = listed (admitted true (length b.cylinders) b.need) (marked_before (map line_of b.cylinders))
