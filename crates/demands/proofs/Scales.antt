-- A line's record, and a weighed line: by what it is refused and with what it is answered, that its temperature is not used, the largest total, and what is as
-- it was. Assumes nothing.
use Rattle.std.specs.Prelude.{Some, None, Option}
use Prim.Native.Nat.{ℕ, ◌*◌, ◌≤◌}
use mathlib.Core.Path.{◌≡◌, refl, ap, subst, ◌∙◌}
use mathlib.Core.Bool.{true}
use mathlib.Core.List.{List, [], ◌∷◌, ◌++◌, map}
use native.Mathlib.Omega.{arith}
use lib.ListN.{length}
use lib.Ieee.{Float}
use Rattle.door_limits.specs.Limits.{document01}
use Rattle.door_limits.specs.declared.Limits.{Limits}
use Rattle.door_answers.specs.Answer.{Answer}
use Rattle.sheet_text.specs.Field.{field_text, Field}
use Rattle.sheet_text.proofs.Parses.{none_or_some}
use Rattle.sheet_mass.specs.Mass.{milligrams_of, from_scale}
use Rattle.sheet_line.specs.Cylinder.{kind_letter, cylinder_text}
use Rattle.sheet_line.specs.Record.{recorded_of, record_of}
use Rattle.sheet_line.specs.Line.{line_of}
use Rattle.sheet_line.specs.declared.cylinder.Kind.{Kind}
use Rattle.sheet_line.specs.declared.cylinder.Cylinder.{Cylinder}
use Rattle.sheet_line.specs.declared.line.Line.{Line}
use Rattle.sheet_line.proofs.Printed.{opened}
use Rattle.sheet_read.specs.Form.{Bank, cylinders_text, text, in_form}
use Rattle.sheet_read.proofs.Inverse.{the_form}
use Rattle.sheet_standing.specs.Standing.{lacking, is_on, numbers, standing}
use Rattle.sheet_outcome.specs.Outcome.{admitted, total, Summed, Weighed}
use Rattle.sheet_weigh.specs.Weighing.{if_passed, filled, by_reading, weighed, weighed_after}
use Rattle.sheet_weigh.specs.Sheet.{mark, marked_after, marked}
use Rattle.sheet_score.specs.Score.{listed, report}
use Rattle.demands.specs.Lines as lines
use Rattle.demands.specs.Lines.{AtDoor, for_pressure, for_density, Dashed, in_number, in_temperature, in_value, in_volume, Asked, by_pressure, by_density, OnScale, RefusesLine, no_volume, no_volume_weighed, no_mass, by_door, no_product, Weighs, by_product, by_scale}
use Rattle.demands.specs.Twice.{at, Again, RefusesAt, lacks, is_again, alone, WeighsAt}
use Rattle.demands.specs.Scales.{Lacks, lacks_number, lacks_value, lacks_volume, RefusesScale, by_1, by_30, by_2, by_23, AnswersScale, thousandfold, ScaleRefusals, ScaleAnswers, with_temperature, ButForTemperatures, no_more, alike, other, TemperatureNotUsed, largest, LargestTotal, heaviest, LargestReached, NoneOnScale, not_one, not_this, line_then, standing_then, weighed_then, marked_then, report_then, AsThen, TextAsThen, KeepsReading, keeps_none, keeps_pressure, keeps_density, keeps_grams, Keeps, Without, ReportedThen, was_in_form, was_not}
use Rattle.demands.specs.Sheets.{sum, AllWeighed, none_left, one_more}
use Rattle.demands.specs.Then.{weighed_of}
use Rattle.demands.proofs.Mosts.{line_most}
use Rattle.demands.proofs.Lines.{not_weighed, line_answers}
use Rattle.demands.proofs.Twice.{refusals_at, answers_at}
use Rattle.demands.proofs.Sheets.{Tally, refused, summed, tally, each_alone}

abbrev held : Summed → ℕ
held (Some mg) = mg.0
held None = 0

-- ---- A LINE'S RECORD KEEPS ALL THAT THE LINE SAYS

keeps_reading : (c : Cylinder) (k : Kind) (x : Field) → c.kind ≡ k → c.value ≡ x → KeepsReading c (recorded_of k x)
keeps_reading c k None p q = keeps_none q
keeps_reading c Kind.Pressure (Some n) p q = keeps_pressure p q
keeps_reading c Kind.Density (Some n) p q = keeps_density p q
keeps_reading c Kind.Weighed (Some n) p q = keeps_grams p q

pub record_keeps : (c : Cylinder) → Keeps c (record_of c)
record_keeps c = record { number = refl; temperature = refl; volume = refl; reading = keeps_reading c c.kind c.value refl refl }

-- ---- a text without a `W` is of no weighed line

past : (w : ℕ) (xs ys : List ℕ) → Without w (xs ++ ys) → Without w ys
past w [] ys h = h
past w (x ∷ xs) ys h = past w xs ys h.1

letter_at_door : (k : Kind) → (kind_letter k ≡ 87 → ⊥) → AtDoor k
letter_at_door Kind.Pressure h = for_pressure
letter_at_door Kind.Density h = for_density
letter_at_door Kind.Weighed h = absurd (h refl)

letter_of : (c : Cylinder) (rest : List ℕ) → Without 87 (cylinder_text c ++ rest) → kind_letter c.kind ≡ 87 → ⊥
letter_of c rest h =
    let number = subst (Without 87) (opened c rest) h in
    let temperature = past 87 (field_text c.number) _ number.1.1 in
    let kind = past 87 (field_text c.temperature) _ temperature.1 in
    kind.1.0

none_in : (cs : List Cylinder) → Without 87 (cylinders_text cs) → NoneOnScale cs
unfolding cylinders_text
none_in [] h = not_one
none_in (c ∷ cs) h =
    not_this (letter_at_door c.kind (letter_of c (cylinders_text cs) h)) (none_in cs (past 87 (cylinder_text c) (cylinders_text cs) h))

behind_need : (b : Bank) → Without 87 (text b) → Without 87 (cylinders_text b.cylinders)
unfolding text
behind_need b h = (past 87 (field_text b.need) _ h.1.1).1

-- ---- what a weighed line lacks

dashed : {c : Cylinder} → Lacks c → Dashed c
dashed (lacks_number e) = in_number e
dashed (lacks_value e) = in_value e
dashed (lacks_volume e) = in_volume e

lacked : {c : Cylinder} → c.kind ≡ Kind.Weighed → Dashed c → Lacks c
lacked k (in_number e) = lacks_number e
lacked k (in_temperature a e) = absurd (not_weighed a k)
lacked k (in_value e) = lacks_value e
lacked k (in_volume e) = lacks_volume e

apart : {A : Type 0} {n : ℕ} {f : Field} → f ≡ None → f ≡ Some n → A
apart p q = let z : ◌≡◌ {A = ℕ} 0 1 = cc in absurd (omega arith)

whole_line : {c : Cylinder} {v g : ℕ} → OnScale c v g → Dashed c → ⊥
whole_line f (in_number e) = apart e f.number
whole_line f (in_temperature a e) = not_weighed a f.kind
whole_line f (in_value e) = apart e f.value
whole_line f (in_volume e) = apart e f.volume

asked_at_door : {L : Limits} {t : Float} {k : Kind} {x : Field} {a : Answer} → Asked L t k x a → AtDoor k
asked_at_door (by_pressure n) = for_pressure
asked_at_door (by_density n) = for_density

-- ---- NO TOTAL IS LARGER than that of 32 lines of 9,999,999,999 g

weighs_most : {c : Cylinder} {mg : ℕ} → Weighs document01 c mg → mg ≤ 9_999_999_999_000
weighs_most {c} {mg} (by_product {v} {s = s} f r e) = omega (arith, line_most c v mg s f r e)
weighs_most (by_scale f r m) = omega (arith, m.at_most)

sum_most : (cs : List Cylinder) {mgs : List ℕ} → AllWeighed document01 (map line_of cs) mgs → sum mgs ≤ length cs * 9_999_999_999_000
sum_most [] none_left = omega arith
sum_most (c ∷ cs) (one_more {mg = mg} e a) = omega (arith, weighs_most ((line_answers document01 c mg).0 e), sum_most cs a)

pub largest_total_of_all : LargestTotal
largest_total_of_all cs mg h e = go (total (marked document01 (map line_of cs))) (tally (marked document01 (map line_of cs))) e
  where
    go : (s : Summed) → Tally (marked document01 (map line_of cs)) s → s ≡ Some mg → mg.0 ≤ largest
    go s (refused i n k r) p = let z : ◌≡◌ {A = ℕ} 0 1 = cc in absurd (omega arith)
    go s (summed mgs a) p =
        let m : sum mgs ≡ mg.0 = ap held p in
        omega (arith, m, sum_most cs (each_alone document01 cs mgs a))

module _ (L : Limits) where
  module _ (cs : List Cylinder) (i : ℕ) (k : (at cs i).kind ≡ Kind.Weighed) where
    by_scale_alone : {n : ℕ} → (Dashed (at cs i) → ⊥) → (Again cs i → ⊥) → RefusesLine L (at cs i) n → RefusesScale cs i n
    by_scale_alone d a (lines.blank b) = absurd (d b)
    by_scale_alone d a (no_volume f r) = absurd (not_weighed (asked_at_door f.asked) k)
    by_scale_alone d a (no_volume_weighed f r) = by_2 a f r
    by_scale_alone d a (no_mass f r m) = by_23 a f r m
    by_scale_alone d a (by_door f r) = absurd (not_weighed (asked_at_door f.asked) k)
    by_scale_alone d a (no_product f r e) = absurd (not_weighed (asked_at_door f.asked) k)

    to_scale : {n : ℕ} → RefusesAt L cs i n → RefusesScale cs i n
    to_scale (lacks d) = by_1 (lacked k d)
    to_scale (is_again d a) = by_30 (λ l. d (dashed l)) a
    to_scale (alone d a r) = by_scale_alone d a r

    from_scale_lem : {n : ℕ} → RefusesScale cs i n → RefusesAt L cs i n
    from_scale_lem (by_1 l) = lacks (dashed l)
    from_scale_lem (by_30 l a) = is_again (λ d. l (lacked k d)) a
    from_scale_lem (by_2 a f r) = alone (whole_line f) a (no_volume_weighed f r)
    from_scale_lem (by_23 a f r m) = alone (whole_line f) a (no_mass f r m)

    answers_scale : {mg : ℕ} → (Again cs i → ⊥) → Weighs L (at cs i) mg → AnswersScale cs i mg
    answers_scale a (by_product f r e) = absurd (not_weighed (asked_at_door f.asked) k)
    answers_scale a (by_scale f r m) = thousandfold a f r m

    scale_answers : {mg : ℕ} → AnswersScale cs i mg → WeighsAt L cs i mg
    scale_answers (thousandfold a f r m) = record { first = a; weighs = by_scale f r m }

  -- A WEIGHED LINE is refused by 1, 30, 2 and 23, each exactly under its condition, and by nothing else; and its milligrams are 1000 times its grams
  pub weighed_refusals : ScaleRefusals L
  weighed_refusals cs i h k n = (λ e. to_scale cs i k ((refusals_at L cs i h n).0 e), λ r. (refusals_at L cs i h n).1 (from_scale_lem cs i k r))

  pub weighed_answers : ScaleAnswers L
  weighed_answers cs i h k mg =
      (λ e. let w = (answers_at L cs i h mg).0 e in answers_scale cs i k w.first w.weighs, λ a. (answers_at L cs i h mg).1 (scale_answers cs i k a))

  -- ---- the temperature of a weighed line

  abbrev weighed_line : Field → Field → Field → Field → Cylinder
  weighed_line n t x v = record { number = n; temperature = t; kind = Kind.Weighed; value = x; volume = v }

  any_temperature : (before : List ℕ) (n s t x v : Field)
      → weighed_after L before (line_of (weighed_line n s x v)) ≡ weighed_after L before (line_of (weighed_line n t x v))
  unfolding weighed_after standing lacking weighed by_reading
  any_temperature before n s t None v = refl
  any_temperature before n s t (Some g) v = refl

  other_mark : (before : List ℕ) (c : Cylinder) (t : Field) → c.kind ≡ Kind.Weighed
      → mark L before (line_of c) ≡ mark L before (line_of (with_temperature t c))
  other_mark before c t e =
      rw e (any_temperature before c.number c.temperature t c.value c.volume)

  same_marks : (before : List ℕ) {cs ds : List Cylinder} → ButForTemperatures cs ds
      → marked_after L before (map line_of cs) ≡ marked_after L before (map line_of ds)
  unfolding marked_after numbers
  same_marks before no_more = refl
  same_marks before (alike {c} p) = ap (λ (ms : List Weighed). mark L before (line_of c) ∷ ms) (same_marks (before ++ numbers (line_of c ∷ [])) p)
  same_marks before (other {c} {cs} {ds} t e p) =
      ap (λ (m : Weighed). m ∷ marked_after L (before ++ numbers (line_of c ∷ [])) (map line_of cs)) (other_mark before c t e)
      ∙ ap (λ (ms : List Weighed). mark L before (line_of (with_temperature t c)) ∷ ms) (same_marks (before ++ numbers (line_of c ∷ [])) p)

  same_count : {cs ds : List Cylinder} → ButForTemperatures cs ds → length cs ≡ length ds
  same_count no_more = refl
  same_count (alike p) = rw (same_count p)
  same_count (other t e p) = rw (same_count p)

  -- A BANK'S REPORT DOES NOT DEPEND ON THE TEMPERATURE OF A WEIGHED LINE
  pub temperature_not_used : TemperatureNotUsed L
  unfolding report marked
  temperature_not_used need cs ds p = rw (same_count p, same_marks [] p)

  -- ---- the largest total is reached

  pub largest_reached : LargestReached L
  unfolding heaviest total marked marked_after numbers weighed_after standing lacking is_on weighed by_reading filled from_scale milligrams_of
  largest_reached = refl

  -- ---- A SHEET WITHOUT A WEIGHED LINE HAS THE REPORT THAT IT HAD

  abbrev came_then : List ℕ → Line Float → Weighed
  came_then before l = if_passed (standing_then before l) (weighed_then L l)

  -- by which fields are blank
  by_fields : (before : List ℕ) (n t : Field) (k : Kind) (x v : Field) → AtDoor k
      → (let c : Cylinder = record { number = n; temperature = t; kind = k; value = x; volume = v } in weighed_after L before (line_of c) ≡ came_then before (line_then c))
  unfolding weighed_after standing lacking weighed by_reading filled
  by_fields before None t k x v a = refl
  by_fields before (Some n) None k x None a = refl
  by_fields before (Some n) None k None (Some v) a = refl
  by_fields before (Some n) None Kind.Pressure (Some x) (Some v) a = refl
  by_fields before (Some n) None Kind.Density (Some x) (Some v) a = refl
  by_fields before (Some n) (Some t) k x None a = refl
  by_fields before (Some n) (Some t) k None (Some v) a = refl
  by_fields before (Some n) (Some t) Kind.Pressure (Some x) (Some v) a = refl
  by_fields before (Some n) (Some t) Kind.Density (Some x) (Some v) a = refl
  by_fields before (Some n) t Kind.Weighed (Some x) (Some v) a = absurd (not_weighed a refl)

  marks_as_then : (before : List ℕ) {cs : List Cylinder} → NoneOnScale cs → marked_after L before (map line_of cs) ≡ map weighed_of (marked_then L before (map line_then cs))
  unfolding marked_after marked_then numbers
  marks_as_then before not_one = refl
  marks_as_then before (not_this {c} {cs} a p) =
      let later = before ++ numbers (line_of c ∷ []) in
      ap (λ (w : Weighed). w ∷ marked_after L later (map line_of cs))
      (by_fields before c.number c.temperature c.kind c.value c.volume a)
      ∙ ap (λ (ms : List Weighed). came_then before (line_then c) ∷ ms) (marks_as_then later p)

  bank_as_then : (b : Bank) → NoneOnScale b.cylinders → report L (Some b) ≡ report_then L (Some b)
  unfolding report marked
  bank_as_then b h = ap (listed (admitted true (length b.cylinders) b.need)) (marks_as_then [] h)

  pub as_then : AsThen L
  unfolding report
  as_then None h = refl
  as_then (Some b) h = bank_as_then b (h b refl)

  -- and so has every text without a `W`
  pub text_as_then : TextAsThen L
  text_as_then t w = go (in_form t) refl
    where
      go : (o : Option Bank) → in_form t ≡ o → ReportedThen L t (report L o)
      go None e = rw (as_then None (λ b z. absurd (none_or_some refl z))) (was_not (λ b p f n h. none_or_some e ((the_form t b).1 (p, f, n))))
      go (Some b) e =
          let q = (the_form t b).0 e in
          let h = none_in b.cylinders (behind_need b (subst (Without 87) q.0 w)) in
          rw (bank_as_then b h) (was_in_form q.0 q.1 q.2 h)
