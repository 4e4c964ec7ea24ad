-- A line on its sheet: each refusal exactly under its condition, 30 among them; and where no number stands twice, all as it was. Assumes nothing.
use Rattle.refusal.specs.Refused as refusal
use Rattle.std.specs.Prelude.{Float, Some, None, Ok, Option}
use Prim.Native.Nat.{ℕ, zero, suc, ◌<◌}
use mathlib.Core.Path.{◌≡◌, refl, sym, ap, subst, ◌∙◌}
use mathlib.Core.Bool.{Bool, true, false, cond, ◌||◌, true≢false}
use mathlib.Core.List.{List, [], ◌∷◌, map}
use mathlib.Core.Logic.{◌⊎◌, inl, inr, ⊎_elim}
use native.Mathlib.Nat.{le_of_suc-le-suc}
use native.Mathlib.Omega.{arith}
use lib.ListN.{length, take, get_or, length-map, length-take}
use lib.Seq.{get_or-take, ext_get_or}
use Rattle.door_limits.specs.declared.Limits.{Limits}
use Rattle.sheet_text.specs.Field.{Field}
use Rattle.sheet_mass.specs.Mass.{as_milligrams}
use Rattle.sheet_mass.specs.declared.Milligrams.{Milligrams}
use Rattle.sheet_line.specs.Record.{recorded_of}
use Rattle.sheet_line.specs.Line.{temperature_of, reading_of, line_of, blank_line}
use Rattle.sheet_line.specs.declared.cylinder.Kind.{Kind}
use Rattle.sheet_line.specs.declared.cylinder.Cylinder.{Cylinder}
use Rattle.sheet_line.specs.declared.line.Line.{Line}
use Rattle.sheet_read.specs.Form.{Bank}
use Rattle.door_checks.specs.Check.{Check}
use Rattle.sheet_standing.specs.Standing.{if_numbered, no_volume, no_reading, lacking, is_on, numbers, standing}
use Rattle.sheet_standing.proofs.Named.{named, is_named}
use Rattle.sheet_outcome.specs.Outcome.{admitted}
use Rattle.sheet_weigh.specs.Weighing.{weighed, if_passed, weighed_after}
use Rattle.sheet_weigh.specs.Sheet.{marked}
use Rattle.sheet_weigh.proofs.Markings.{marked_length, marked_at}
use Rattle.sheet_score.specs.Score.{listed, report}
use Rattle.demands.specs.Demands.{Exactly}
use Rattle.demands.specs.Lines.{AtDoor, for_pressure, for_density, Dashed, in_number, in_temperature, in_value, in_volume}
use Rattle.demands.specs.Twice.{at, Again, Twice, no_mark, came, RefusesAt, lacks, is_again, alone, WeighsAt, marked_before, report_before}
use Rattle.demands.proofs.Checks.{same_number}
use Rattle.demands.proofs.Lines.{not_weighed, dash_refused, line_refusals, line_answers}

-- ---- 1: a field that the line requires is blank, as it is written and as it is read

module _ (c : Cylinder) where
  is_dashed : lacking (line_of c) ≡ true → Dashed c
  unfolding lacking
  is_dashed e = go c.temperature refl c.volume refl c.value refl c.kind refl e
    where
      go : (t : Field) → c.temperature ≡ t → (v : Field) → c.volume ≡ v → (x : Field) → c.value ≡ x → (k : Kind) → c.kind ≡ k
          → no_volume v || no_reading (temperature_of t) (reading_of (recorded_of k x)) ≡ true → Dashed c
      go t q None r x s k p e = in_volume r
      go t q (Some v) r None s k p e = in_value s
      go None q (Some v) r (Some x) s Kind.Pressure p e = in_temperature (rw p for_pressure) q
      go None q (Some v) r (Some x) s Kind.Density p e = in_temperature (rw p for_density) q
      go (Some t) q (Some v) r (Some x) s Kind.Pressure p e = absurd (true≢false (sym e))
      go (Some t) q (Some v) r (Some x) s Kind.Density p e = absurd (true≢false (sym e))
      go t q (Some v) r (Some x) s Kind.Weighed p e = absurd (true≢false (sym e))

  second : (a b : Bool) → b ≡ true → a || b ≡ true
  second true b e = refl
  second false b e = e

  -- without a temperature that its kind asks for there is no reading
  no_door : (k : Kind) (x : Field) → AtDoor k → no_reading None (reading_of (recorded_of k x)) ≡ true
  no_door k None a = refl
  no_door Kind.Pressure (Some x) a = refl
  no_door Kind.Density (Some x) a = refl
  no_door Kind.Weighed (Some x) a = absurd (not_weighed a refl)

  -- its number, or another of its fields
  lacks_one : Dashed c → (c.number ≡ None) ⊎ (lacking (line_of c) ≡ true)
  unfolding lacking
  lacks_one (in_number e) = inl e
  lacks_one (in_temperature a e) = inr (rw e (second (no_volume c.volume) _ (no_door c.kind c.value a)))
  lacks_one (in_volume e) = inr (rw e)
  lacks_one (in_value e) = inr (rw e (second (no_volume c.volume) _ refl))

  lacks_none : (Dashed c → ⊥) → lacking (line_of c) ≡ false
  lacks_none h = go (lacking (line_of c)) refl
    where
      go : (b : Bool) → lacking (line_of c) ≡ b → b ≡ false
      go true e = absurd (h (is_dashed e))
      go false e = refl

-- ---- 30: a line before it has its number

pub line_at : (cs : List Cylinder) (i : ℕ) → get_or (map line_of cs) i blank_line ≡ line_of (at cs i)
line_at [] i = refl
line_at (c ∷ cs) zero = refl
line_at (c ∷ cs) (suc i) = line_at cs i

-- a line that has a number is one of the sheet's
on_sheet : (cs : List Cylinder) (i n : ℕ) → (at cs i).number ≡ Some n → i < length cs
on_sheet [] i n e = let z : ◌≡◌ {A = ℕ} 0 1 = cc in absurd (omega arith)
on_sheet (c ∷ cs) zero n e = omega arith
on_sheet (c ∷ cs) (suc i) n e = omega (arith, on_sheet cs i n e)

module _ (cs : List Cylinder) (i : ℕ) where
  abbrev above : List (Line Float)
  above = take i (map line_of cs)

  above_at : (j : ℕ) → j < i → get_or above j blank_line ≡ line_of (at cs j)
  above_at j h = get_or-take i (map line_of cs) j blank_line h ∙ line_at cs j

  module _ (n : ℕ) (here : (at cs i).number ≡ Some n) where
    on_again : is_on (numbers above) n ≡ true → Again cs i
    on_again e =
        let a = named blank_line above n e in
        let h : a.place < i = omega (arith, a.within, length-take i (map line_of cs)) in
        record {
          earlier = a.place;
          cylinder = n;
          before = h;
          there = ap (λ (l : Line Float). l.number) (sym (above_at a.place h)) ∙ a.has;
          here = here;
        }

    again_on : Again cs i → is_on (numbers above) n ≡ true
    again_on a =
        let same : a.cylinder ≡ n = cc in
        let h = on_sheet cs a.earlier a.cylinder a.there in
        is_named blank_line above n a.earlier (omega (arith, h, a.before, length-take i (map line_of cs), length-map cs line_of))
        (ap (λ (l : Line Float). l.number) (above_at a.earlier a.before) ∙ a.there ∙ ap Some same)

  -- ---- so each line passes its first checks, or doesn't, as its condition says

  abbrev stands : Check
  stands = standing (numbers above) (line_of (at cs i))

  stands_lacking : Dashed (at cs i) → stands ≡ refusal.refused 1
  unfolding standing
  stands_lacking d = ⊎_elim (λ e. rw e) (λ e. rw e (go (at cs i).number)) (lacks_one (at cs i) d)
    where
      go : (f : Field) → if_numbered f (λ n. refusal.refused 1) ≡ refusal.refused 1
      go None = refl
      go (Some n) = refl

  -- none is blank, and so there is a number
  by_number : (Dashed (at cs i) → ⊥) → (c : Check) → ((n : ℕ) → (at cs i).number ≡ Some n → cond (is_on (numbers above) n) (refusal.refused 30) (Ok tt) ≡ c) → stands ≡ c
  unfolding standing
  by_number h c f = rw (lacks_none (at cs i) h) (go (at cs i).number refl)
    where
      go : (g : Field) → (at cs i).number ≡ g → if_numbered g (λ n. cond (is_on (numbers above) n) (refusal.refused 30) (Ok tt)) ≡ c
      go None e = absurd (h (in_number e))
      go (Some n) e = f n e

  pub stands_again : (Dashed (at cs i) → ⊥) → Again cs i → stands ≡ refusal.refused 30
  stands_again h a = by_number h (refusal.refused 30) (λ n e. rw (again_on n e a))

  stands_ready : (Dashed (at cs i) → ⊥) → (Again cs i → ⊥) → stands ≡ Ok tt
  stands_ready h a = by_number h (Ok tt) (λ n e. go n e (is_on (numbers above) n) refl)
    where
      go : (n : ℕ) → (at cs i).number ≡ Some n → (b : Bool) → is_on (numbers above) n ≡ b → ◌≡◌ {A = Check} (cond b (refusal.refused 30) (Ok tt)) (Ok tt)
      go n e true p = absurd (a (on_again n e p))
      go n e false p = refl

  -- and it is one of the three
  pub data Stands : Type 0 where
    lacking_one : Dashed (at cs i) → Stands
    standing_again : (Dashed (at cs i) → ⊥) → Again cs i → Stands
    standing_ready : (Dashed (at cs i) → ⊥) → (Again cs i → ⊥) → Stands

  pub how : Stands
  how = by_field (at cs i).number refl (lacking (line_of (at cs i))) refl
    where
      not_dashed : {n : ℕ} → (at cs i).number ≡ Some n → lacking (line_of (at cs i)) ≡ false → Dashed (at cs i) → ⊥
      not_dashed e f d =
          ⊎_elim (λ p. let z : ◌≡◌ {A = ℕ} 0 1 = cc in omega arith) (λ p. true≢false (sym p ∙ f)) (lacks_one (at cs i) d)

      by_on : (Dashed (at cs i) → ⊥) → (n : ℕ) → (at cs i).number ≡ Some n → (b : Bool) → is_on (numbers above) n ≡ b → Stands
      by_on h n e true p = standing_again h (on_again n e p)
      by_on h n e false p = standing_ready h (λ a. true≢false (sym (again_on n e a) ∙ p))

      by_field : (f : Field) → (at cs i).number ≡ f → (b : Bool) → lacking (line_of (at cs i)) ≡ b → Stands
      by_field None e b p = lacking_one (in_number e)
      by_field (Some n) e true p = lacking_one (is_dashed (at cs i) p)
      by_field (Some n) e false p = by_on (not_dashed e p) n e (is_on (numbers above) n) refl

-- ---- what came of it

pub no_mass : {A : Type 0} {n : ℕ} {mg : Milligrams} → refusal.refused n ≡ Ok mg → A
no_mass e = let z : ◌≡◌ {A = ℕ} 0 1 = cc in absurd (omega arith)

alone_at : (L : Limits) (cs : List Cylinder) (i : ℕ) → i < length cs → get_or (marked_before L (map line_of cs)) i no_mark ≡ weighed L (line_of (at cs i))
alone_at L [] i h = absurd (omega arith)
alone_at L (c ∷ cs) zero h = refl
alone_at L (c ∷ cs) (suc i) h = alone_at L cs i (le_of_suc-le-suc h)

module _ (L : Limits) where
  module _ (cs : List Cylinder) (i : ℕ) (h : i < length cs) where
    came_as : came L cs i ≡ if_passed (stands cs i) (weighed L (line_of (at cs i)))
    unfolding weighed_after
    came_as =
        marked_at L (map line_of cs) i _ blank_line (omega (arith, length-map cs line_of))
        ∙ ap (weighed_after L (numbers (above cs i))) (line_at cs i)

    came_lacking : Dashed (at cs i) → came L cs i ≡ refusal.refused 1
    came_lacking d = came_as ∙ rw (stands_lacking cs i d)

    came_again : (Dashed (at cs i) → ⊥) → Again cs i → came L cs i ≡ refusal.refused 30
    came_again d a = came_as ∙ rw (stands_again cs i d a)

    came_ready : (Dashed (at cs i) → ⊥) → (Again cs i → ⊥) → came L cs i ≡ weighed L (line_of (at cs i))
    came_ready d a = came_as ∙ rw (stands_ready cs i d a)

    refused_at : (n : ℕ) → came L cs i ≡ refusal.refused n → RefusesAt L cs i n
    refused_at n e = go (how cs i)
      where
        go : Stands cs i → RefusesAt L cs i n
        go (lacking_one d) = let z : 1 ≡ n = same_number (sym (came_lacking d) ∙ e) in subst (RefusesAt L cs i) z (lacks d)
        go (standing_again d a) = let z : 30 ≡ n = same_number (sym (came_again d a) ∙ e) in subst (RefusesAt L cs i) z (is_again d a)
        go (standing_ready d a) = alone d a ((line_refusals L (at cs i) n).0 (sym (came_ready d a) ∙ e))

    is_refused_at : {n : ℕ} → RefusesAt L cs i n → came L cs i ≡ refusal.refused n
    is_refused_at (lacks d) = came_lacking d
    is_refused_at (is_again d a) = came_again d a
    is_refused_at (alone {n} d a r) = came_ready d a ∙ (line_refusals L (at cs i) n).1 r

    weighs_at : (mg : ℕ) → came L cs i ≡ Ok (as_milligrams mg) → WeighsAt L cs i mg
    weighs_at mg e = go (how cs i)
      where
        go : Stands cs i → WeighsAt L cs i mg
        go (lacking_one d) = no_mass (sym (came_lacking d) ∙ e)
        go (standing_again d a) = no_mass (sym (came_again d a) ∙ e)
        go (standing_ready d a) = record { first = a; weighs = (line_answers L (at cs i) mg).0 (sym (came_ready d a) ∙ e) }

    is_weighed_at : {mg : ℕ} → WeighsAt L cs i mg → came L cs i ≡ Ok (as_milligrams mg)
    is_weighed_at {mg} w =
        let e = (line_answers L (at cs i) mg).1 w.weighs in
        came_ready (λ d. no_mass (sym (dash_refused L (at cs i) d) ∙ e)) w.first ∙ e

  -- EACH LINE'S REFUSAL, on its sheet, exactly under its condition, and its milligrams exactly as they are defined
  pub refusals_at : (cs : List Cylinder) (i : ℕ) → i < length cs → (n : ℕ) → Exactly (came L cs i ≡ refusal.refused n) (RefusesAt L cs i n)
  refusals_at cs i h n = (refused_at cs i h n, is_refused_at cs i h)

  pub answers_at : (cs : List Cylinder) (i : ℕ) → i < length cs → (mg : ℕ) → Exactly (came L cs i ≡ Ok (as_milligrams mg)) (WeighsAt L cs i mg)
  answers_at cs i h mg = (weighs_at cs i h mg, is_weighed_at cs i h)

  -- ---- some line of a sheet is refused

  pub record SomeRefused (cs : List Cylinder) : Type 0 where
    pub place : ℕ
    pub number : ℕ
    pub within : place < length cs
    pub refused : came L cs place ≡ refusal.refused number

  module _ (cs : List Cylinder) where
    -- where one is by itself it is on its sheet, by the same number or another
    pub some_alone : (i n : ℕ) → i < length cs → weighed L (line_of (at cs i)) ≡ refusal.refused n → SomeRefused cs
    some_alone i n h e = go (how cs i)
      where
        go : Stands cs i → SomeRefused cs
        go (lacking_one d) = record { place = i; number = 1; within = h; refused = came_lacking cs i h d }
        go (standing_again d a) = record { place = i; number = 30; within = h; refused = came_again cs i h d a }
        go (standing_ready d a) = record { place = i; number = n; within = h; refused = came_ready cs i h d a ∙ e }

    -- where a number stands twice, the later line is: by 30, or by 1 where a field that it requires is blank
    pub some_twice : Twice cs → SomeRefused cs
    some_twice t = go (how cs t.place)
      where
        h : t.place < length cs
        h = on_sheet cs t.place _ t.again.here

        go : Stands cs t.place → SomeRefused cs
        go (lacking_one d) = record { place = t.place; number = 1; within = h; refused = came_lacking cs t.place h d }
        go (standing_again d a) = record { place = t.place; number = 30; within = h; refused = came_again cs t.place h d a }
        go (standing_ready d a) = absurd (a t.again)

    -- ---- WHERE NO NUMBER STANDS TWICE each line's outcome is that of the line alone

    pub came_alone : (Twice cs → ⊥) → (i : ℕ) → i < length cs → came L cs i ≡ weighed L (line_of (at cs i))
    came_alone once i h = go (how cs i)
      where
        go : Stands cs i → came L cs i ≡ weighed L (line_of (at cs i))
        go (lacking_one d) = came_lacking cs i h d ∙ sym (dash_refused L (at cs i) d)
        go (standing_again d a) = absurd (once (record { place = i; again = a }))
        go (standing_ready d a) = came_ready cs i h d a

    pub marked_as_before : (Twice cs → ⊥) → marked L (map line_of cs) ≡ marked_before L (map line_of cs)
    marked_as_before once =
        let n = length-map cs line_of in
        ext_get_or no_mark _ _ (marked_length L (map line_of cs) ∙ sym (length-map (map line_of cs) (weighed L)))
        (λ i h. let k : i < length cs = omega (arith, h, n, marked_length L (map line_of cs)) in
        came_alone once i k ∙ sym (alone_at L cs i k))

  -- and the report is what it was
  pub report_as_before : (o : Option Bank) → ((b : Bank) → o ≡ Some b → Twice b.cylinders → ⊥) → report L o ≡ report_before L o
  unfolding report
  report_as_before None once = refl
  report_as_before (Some b) once =
      ap (listed (admitted true (length b.cylinders) b.need)) (marked_as_before b.cylinders (once b refl))

  -- as it is, twice or not, where the sheet is sent back before its lines are worked
  pub sent_back_as_before : (b : Bank) (n : ℕ) → admitted true (length b.cylinders) b.need ≡ refusal.refused n
      → report L (Some b) ≡ report_before L (Some b)
  unfolding report
  sent_back_as_before b n e = rw e
