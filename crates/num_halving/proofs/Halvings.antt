-- The shared facts about halving (RULES 4.5), over whatever figure is probed: what an answer means, when exactly there is no crossing, when exactly it fails,
-- and that 63 halvings are enough. Assumes nothing.
use Rattle.num_halving.specs.declared.Missed.TheVariants.{Nowhere, Broke}
use Rattle.std.specs.Prelude.{Some, None, Ok, Err}
use mathlib.Core.Path.{◌≡◌, refl, sym, ap, ◌∙◌}
use mathlib.Core.Bool.{Bool, true, false, cond, true≢false}
use Prim.Native.Nat.{ℕ, zero, suc, ◌+◌, ◌-◌, ◌*◌, ◌^◌, ◌≤◌, ◌<◌}
use native.Mathlib.Nat.{pow-succ'}
use native.Mathlib.Omega.{arith}
use lib.Dec.{leb, ltb, eqb}
use borrow.Author.Tests.{eqb-true, eqb-false, eq-eqb, ne_eqb, leb-true, leb-false, le-leb, lt-leb, ltb-true, ltb-false}
use lib.Ieee.{Float, lt, of_int}
use lib.Ieee.Scale.{finite}
use Rattle.num_working.specs.Number.{whole}
use Rattle.num_halving.specs.Halving.{Figure, Side, low, high, broken, side, ends, middle, narrow, halve, NotAbove, Above, Worthy, worthy, Unworthy, failed, unbounded, Found, NoCrossing, met, first_above, second_not_above, Halves, ended, upper, lower, broke, Breaks, at_first, at_second, at_middle, Crossing}
use Rattle.num_working.proofs.Cases.{by_test, never}
use Rattle.num_working.specs.Working.{Worked}

-- ---- the middle
pub record Between (lo hi : ℕ) : Type 0 where
  pub above : lo < middle lo hi
  pub below : middle lo hi < hi

pub between : (lo hi : ℕ) → lo < hi → (hi ≡ lo + 1 → ⊥) → Between lo hi
unfolding middle
between lo hi h ne = record { above = omega arith; below = omega arith }

upper_width : (lo hi n : ℕ) → lo < hi → hi - lo ≤ 2 ^ suc n → hi - middle lo hi ≤ 2 ^ n
unfolding middle
upper_width lo hi n h w = let e : 2 ^ suc n ≡ 2 * 2 ^ n = pow-succ' 2 n in omega arith

lower_width : (lo hi n : ℕ) → hi - lo ≤ 2 ^ suc n → middle lo hi - lo ≤ 2 ^ n
unfolding middle
lower_width lo hi n w = let e : 2 ^ suc n ≡ 2 * 2 ^ n = pow-succ' 2 n in omega arith

-- ---- a side, as a fact about the figure, and back
data Stands (f : Figure) (t : Float) (k : ℕ) : Side → Type 0 where
  is_low : NotAbove f t k → Stands f t k low
  is_high : Above f t k → Stands f t k high
  is_broken : Unworthy f k → Stands f t k broken

stands : (f : Figure) (t : Float) (k : ℕ) → Stands f t k (side t (f k))
stands f t k = go (f k) refl
  where
    num : (x : Float) (b c : Bool) → f k ≡ Some x → finite x ≡ b → lt t x ≡ c → Stands f t k (cond b (cond c high low) broken)
    num x true true e h l = is_high (record { number = x; worked = e; bounded = h; stands = l })
    num x true false e h l = is_low (record { number = x; worked = e; bounded = h; stands = l })
    num x false c e h l = is_broken (unbounded x e h)

    go : (w : Worked) → f k ≡ w → Stands f t k (side t w)
    go (Some x) e = num x (finite x) (lt t x) e refl refl
    go None e = is_broken (failed e)

not_above_of : (f : Figure) (t : Float) (k : ℕ) (s : Side) → Stands f t k s → s ≡ low → NotAbove f t k
not_above_of f t k low (is_low a) e = a
not_above_of f t k high (is_high a) e = never (cc)
not_above_of f t k broken (is_broken a) e = never (cc)

is_above_of : (f : Figure) (t : Float) (k : ℕ) (s : Side) → Stands f t k s → s ≡ high → Above f t k
is_above_of f t k low (is_low a) e = never (cc)
is_above_of f t k high (is_high a) e = a
is_above_of f t k broken (is_broken a) e = never (cc)

is_unworthy_of : (f : Figure) (t : Float) (k : ℕ) (s : Side) → Stands f t k s → s ≡ broken → Unworthy f k
is_unworthy_of f t k low (is_low a) e = never (cc)
is_unworthy_of f t k high (is_high a) e = never (cc)
is_unworthy_of f t k broken (is_broken a) e = a

not_above : (f : Figure) (t : Float) (k : ℕ) → side t (f k) ≡ low → NotAbove f t k
not_above f t k e = not_above_of f t k (side t (f k)) (stands f t k) e

is_above : (f : Figure) (t : Float) (k : ℕ) → side t (f k) ≡ high → Above f t k
is_above f t k e = is_above_of f t k (side t (f k)) (stands f t k) e

is_unworthy : (f : Figure) (t : Float) (k : ℕ) → side t (f k) ≡ broken → Unworthy f k
is_unworthy f t k e = is_unworthy_of f t k (side t (f k)) (stands f t k) e

side_low : (f : Figure) (t : Float) (k : ℕ) → NotAbove f t k → side t (f k) ≡ low
side_low f t k a = rw (a.worked, a.bounded, a.stands) refl

side_high : (f : Figure) (t : Float) (k : ℕ) → Above f t k → side t (f k) ≡ high
side_high f t k a = rw (a.worked, a.bounded, a.stands) refl

side_broken : (f : Figure) (t : Float) (k : ℕ) → Unworthy f k → side t (f k) ≡ broken
side_broken f t k (failed e) = rw e refl
side_broken f t k (unbounded x e h) = rw (e, h) refl

-- a finite figure is on one side or the other
side_worthy : (f : Figure) (t : Float) (k : ℕ) → Worthy f k → (b : Bool) × (side t (f k) ≡ cond b high low)
side_worthy f t k (worthy x e h) = (lt t x, rw (e, h) refl)

worthy_low : (f : Figure) (t : Float) (k : ℕ) → NotAbove f t k → Worthy f k
worthy_low f t k a = worthy a.number a.worked a.bounded

worthy_high : (f : Figure) (t : Float) (k : ℕ) → Above f t k → Worthy f k
worthy_high f t k a = worthy a.number a.worked a.bounded

-- ---- one halving
module _ (f : Figure) (t : Float) where
  narrow_ended : (n lo hi : ℕ) → hi ≡ lo + 1 → narrow f t n lo hi ≡ Ok lo
  unfolding narrow
  narrow_ended zero lo hi e = refl
  narrow_ended (suc n) lo hi e = rw (eq-eqb hi (lo + 1) e) refl

  narrow_upper : (n lo hi : ℕ) → (hi ≡ lo + 1 → ⊥) → NotAbove f t (middle lo hi) → narrow f t (suc n) lo hi ≡ narrow f t n (middle lo hi) hi
  unfolding narrow
  narrow_upper n lo hi ne a = rw (ne_eqb hi (lo + 1) ne, side_low f t (middle lo hi) a) refl

  narrow_lower : (n lo hi : ℕ) → (hi ≡ lo + 1 → ⊥) → Above f t (middle lo hi) → narrow f t (suc n) lo hi ≡ narrow f t n lo (middle lo hi)
  unfolding narrow
  narrow_lower n lo hi ne a = rw (ne_eqb hi (lo + 1) ne, side_high f t (middle lo hi) a) refl

  narrow_broke : (n lo hi : ℕ) → (hi ≡ lo + 1 → ⊥) → Unworthy f (middle lo hi) → narrow f t (suc n) lo hi ≡ Err Broke
  unfolding narrow
  narrow_broke n lo hi ne e = rw (ne_eqb hi (lo + 1) ne, side_broken f t (middle lo hi) e) refl

  -- ---- 63 halvings are enough: the bounded halving is the halving itself
  HalvedIn : ℕ → Type 0
  HalvedIn n = (lo hi : ℕ) → lo < hi → hi - lo ≤ 2 ^ n → (m : ℕ) × (m ≤ n) × Halves f t lo hi m (narrow f t n lo hi)

  halved_step : (n : ℕ) → HalvedIn n → HalvedIn (suc n)
  unfolding HalvedIn
  halved_step n ih lo hi h w = go (eqb hi (lo + 1)) refl
    where
      by : (hi ≡ lo + 1 → ⊥) → (s : Side) → side t (f (middle lo hi)) ≡ s → (m : ℕ) × (m ≤ suc n) × Halves f t lo hi m (narrow f t (suc n) lo hi)
      by ne low q =
          let a = not_above f t (middle lo hi) q in
          let r = ih (middle lo hi) hi (between lo hi h ne).below (upper_width lo hi n h w) in
          (suc r.0, omega arith, rw (narrow_upper n lo hi ne a) (upper ne a r.2))
      by ne high q =
          let a = is_above f t (middle lo hi) q in
          let r = ih lo (middle lo hi) (between lo hi h ne).above (lower_width lo hi n w) in
          (suc r.0, omega arith, rw (narrow_lower n lo hi ne a) (lower ne a r.2))
      by ne broken q =
          let e = is_unworthy f t (middle lo hi) q in
          (1, omega arith, rw (narrow_broke n lo hi ne e) (broke ne e))

      go : (b : Bool) → eqb hi (lo + 1) ≡ b → (m : ℕ) × (m ≤ suc n) × Halves f t lo hi m (narrow f t (suc n) lo hi)
      go true q = let e = eqb-true hi (lo + 1) q in (0, omega arith, rw (narrow_ended (suc n) lo hi e) (ended e))
      go false q = by (eqb-false hi (lo + 1) q) (side t (f (middle lo hi))) refl

  halved_in : (n : ℕ) → HalvedIn n
  unfolding HalvedIn
  halved_in zero lo hi h w = let e : hi ≡ lo + 1 = omega arith in (0, omega arith, rw (narrow_ended 0 lo hi e) (ended e))
  halved_in (suc n) lo hi h w = halved_step n (halved_in n) lo hi h w

  pub at_most_63 : (lo hi : ℕ) → lo < hi → hi ≤ 2 ^ 63 → (m : ℕ) × (m ≤ 63) × Halves f t lo hi m (narrow f t 63 lo hi)
  unfolding HalvedIn
  at_most_63 lo hi h w = halved_in 63 lo hi h (omega arith)

  -- where the ends are apart and no further than 2ⁿ, and have not met, there is a halving to go
  one_more : (n lo hi : ℕ) → lo < hi → hi - lo ≤ 2 ^ n → (hi ≡ lo + 1 → ⊥) → (m : ℕ) × (n ≡ suc m)
  one_more zero lo hi h w ne = absurd (ne (omega arith))
  one_more (suc m) lo hi h w ne = (m, refl)

  -- and there is no second way to halve
  pub same_halving : {lo hi m : ℕ} {c : Crossing} → Halves f t lo hi m c → (n : ℕ) → lo < hi → hi - lo ≤ 2 ^ n → narrow f t n lo hi ≡ c
  same_halving {lo} {hi} (ended e) n h w = narrow_ended n lo hi e
  same_halving {lo} {hi} (upper ne a r) n h w =
      let k = one_more n lo hi h w ne in
      let v : hi - lo ≤ 2 ^ suc k.0 = rw k.1 at w in
      ap (λ (i : ℕ). narrow f t i lo hi) k.1
      ∙ narrow_upper k.0 lo hi ne a
      ∙ same_halving r k.0 (between lo hi h ne).below (upper_width lo hi k.0 h v)
  same_halving {lo} {hi} (lower ne a r) n h w =
      let k = one_more n lo hi h w ne in
      let v : hi - lo ≤ 2 ^ suc k.0 = rw k.1 at w in
      ap (λ (i : ℕ). narrow f t i lo hi) k.1
      ∙ narrow_lower k.0 lo hi ne a
      ∙ same_halving r k.0 (between lo hi h ne).above (lower_width lo hi k.0 v)
  same_halving {lo} {hi} (broke ne e) n h w =
      let k = one_more n lo hi h w ne in
      ap (λ (i : ℕ). narrow f t i lo hi) k.1 ∙ narrow_broke k.0 lo hi ne e

  -- ---- what the halving comes to
  found : {lo hi m : ℕ} {c : Crossing} → Halves f t lo hi m c → (r : ℕ) → lo < hi → NotAbove f t lo → Above f t hi → c ≡ Ok r → Found f t lo hi r
  found {lo} {hi} (ended e) r h a b q =
      let s : lo ≡ r = cc in
      let u : hi ≡ r + 1 = omega arith in
      record { from = omega arith; to = omega arith; here = rw s at a; next = rw u at b }
  found {lo} {hi} (upper ne x g) r h a b q =
      let m = between lo hi h ne in
      let i = found g r m.below x b q in
      record { from = omega arith; to = i.to; here = i.here; next = i.next }
  found {lo} {hi} (lower ne x g) r h a b q =
      let m = between lo hi h ne in
      let i = found g r m.above a x q in
      record { from = i.from; to = omega arith; here = i.here; next = i.next }
  found (broke ne e) r h a b q = never (cc)

  somewhere : {lo hi m : ℕ} {c : Crossing} → Halves f t lo hi m c → c ≡ Err Nowhere → ⊥
  somewhere (ended e) q = never (cc)
  somewhere (upper ne x g) q = somewhere g q
  somewhere (lower ne x g) q = somewhere g q
  somewhere (broke ne e) q = never (cc)

high_any : (b : Bool) (c : Crossing) → ends high (cond b high low) c ≡ Err Nowhere
high_any true c = refl
high_any false c = refl

any_low : (b : Bool) (c : Crossing) → ends (cond b high low) low c ≡ Err Nowhere
any_low true c = refl
any_low false c = refl

either_nowhere : (b : Bool) → cond {A = Crossing} b (Err Nowhere) (Err Nowhere) ≡ Err Nowhere
either_nowhere b = by_test (λ (c : Crossing). c ≡ Err Nowhere) b (Err Nowhere) (Err Nowhere) (λ _. refl) (λ _. refl)

-- ---- THE SHARED FACT
module _ (f : Figure) (t : Float) where
  -- an answer lies within the ends, where the figure passes the target
  pub answer : (lo hi r : ℕ) → hi ≤ 2 ^ 63 → halve f t lo hi ≡ Ok r → Found f t lo hi r
  unfolding halve
  answer lo hi r w e = go (leb hi lo) refl e
    where
      by : lo < hi → (a b : Side) → side t (f lo) ≡ a → side t (f hi) ≡ b → ends a b (narrow f t 63 lo hi) ≡ Ok r → Found f t lo hi r
      by h low low p q k = never (cc)
      by h low high p q k = found f t (at_most_63 f t lo hi h w).2 r h (not_above f t lo p) (is_above f t hi q) k
      by h low broken p q k = never (cc)
      by h high low p q k = never (cc)
      by h high high p q k = never (cc)
      by h high broken p q k = never (cc)
      by h broken b p q k = never (cc)

      go : (x : Bool) → leb hi lo ≡ x → cond x (Err Nowhere) (ends (side t (f lo)) (side t (f hi)) (narrow f t 63 lo hi)) ≡ Ok r → Found f t lo hi r
      go true p k = never (cc)
      go false p k = by (leb-false hi lo p) (side t (f lo)) (side t (f hi)) refl refl k

  -- no crossing exactly where there is none to be found
  pub nowhere : (lo hi : ℕ) → hi ≤ 2 ^ 63 → halve f t lo hi ≡ Err Nowhere → NoCrossing f t lo hi
  unfolding halve
  nowhere lo hi w e = go (leb hi lo) refl e
    where
      by : lo < hi → (a b : Side) → side t (f lo) ≡ a → side t (f hi) ≡ b → ends a b (narrow f t 63 lo hi) ≡ Err Nowhere → NoCrossing f t lo hi
      by h low low p q k = second_not_above (worthy_low f t lo (not_above f t lo p)) (not_above f t hi q)
      by h low high p q k = absurd (somewhere f t (at_most_63 f t lo hi h w).2 k)
      by h low broken p q k = never (cc)
      by h high low p q k = second_not_above (worthy_high f t lo (is_above f t lo p)) (not_above f t hi q)
      by h high high p q k = first_above (is_above f t lo p) (worthy_high f t hi (is_above f t hi q))
      by h high broken p q k = never (cc)
      by h broken b p q k = never (cc)

      go : (x : Bool) → leb hi lo ≡ x → cond x (Err Nowhere) (ends (side t (f lo)) (side t (f hi)) (narrow f t 63 lo hi)) ≡ Err Nowhere → NoCrossing f t lo hi
      go true p k = met (leb-true hi lo p)
      go false p k = by (leb-false hi lo p) (side t (f lo)) (side t (f hi)) refl refl k

  pub nowhere_back : (lo hi : ℕ) → NoCrossing f t lo hi → halve f t lo hi ≡ Err Nowhere
  unfolding halve
  nowhere_back lo hi (met h) = rw (le-leb hi lo h) refl
  nowhere_back lo hi (first_above a w) = let s = side_worthy f t hi w in rw (side_high f t lo a, s.1, high_any s.0 _) (either_nowhere (leb hi lo))
  nowhere_back lo hi (second_not_above w b) = let s = side_worthy f t lo w in rw (side_low f t hi b, s.1, any_low s.0 _) (either_nowhere (leb hi lo))

  -- where the ends bracket the target, what is left is to narrow them
  pub bracketed : (lo hi : ℕ) → lo < hi → NotAbove f t lo → Above f t hi → halve f t lo hi ≡ narrow f t 63 lo hi
  unfolding halve
  bracketed lo hi h a b = rw (lt-leb hi lo h, side_low f t lo a, side_high f t hi b) refl

  -- failure exactly where an end, or a middle that the halving comes to, can't be worked
  pub breaks : (lo hi : ℕ) → hi ≤ 2 ^ 63 → halve f t lo hi ≡ Err Broke → (lo < hi) × Breaks f t lo hi
  unfolding halve
  breaks lo hi w e = go (leb hi lo) refl e
    where
      by : lo < hi → (a b : Side) → side t (f lo) ≡ a → side t (f hi) ≡ b → ends a b (narrow f t 63 lo hi) ≡ Err Broke → Breaks f t lo hi
      by h low low p q k = never (cc)
      by h low high p q k = let r = at_most_63 f t lo hi h w in at_middle r.0 (not_above f t lo p) (is_above f t hi q) (rw k at r.2)
      by h low broken p q k = at_second (is_unworthy f t hi q)
      by h high low p q k = never (cc)
      by h high high p q k = never (cc)
      by h high broken p q k = at_second (is_unworthy f t hi q)
      by h broken b p q k = at_first (is_unworthy f t lo p)

      go : (x : Bool) → leb hi lo ≡ x → cond x (Err Nowhere) (ends (side t (f lo)) (side t (f hi)) (narrow f t 63 lo hi)) ≡ Err Broke → (lo < hi) × Breaks f t lo hi
      go true p k = never (cc)
      go false p k = let h = leb-false hi lo p in (h, by h (side t (f lo)) (side t (f hi)) refl refl k)

  pub breaks_back : (lo hi : ℕ) → lo < hi → hi ≤ 2 ^ 63 → Breaks f t lo hi → halve f t lo hi ≡ Err Broke
  unfolding halve
  breaks_back lo hi h w (at_first e) = rw (lt-leb hi lo h, side_broken f t lo e) refl
  breaks_back lo hi h w (at_second e) = rw (lt-leb hi lo h, side_broken f t hi e) (go (side t (f lo)))
    where
      go : (x : Side) → ends x broken (narrow f t 63 lo hi) ≡ Err Broke
      go low = refl
      go high = refl
      go broken = refl
  breaks_back lo hi h w (at_middle m a b r) = bracketed lo hi h a b ∙ same_halving f t r 63 h (omega arith)

-- ---- a loop that halves: what a turn keeps is that the halving from here is the one asked for
module _ (f : Figure) (t : Float) where
  pub record Narrowing (asked : Crossing) (lo hi : ℕ) : Type 0 where
    pub fuel : ℕ
    pub apart : lo < hi
    pub wide : hi - lo ≤ 2 ^ fuel
    pub same : asked ≡ narrow f t fuel lo hi

  pub begins : (lo hi : ℕ) → lo < hi → hi ≤ 2 ^ 63 → NotAbove f t lo → Above f t hi → Narrowing (halve f t lo hi) lo hi
  begins lo hi h w a b = record { fuel = 63; apart = h; wide = omega arith; same = bracketed f t lo hi h a b }

  module _ (asked : Crossing) (lo hi : ℕ) (r : Narrowing asked lo hi) where
    pub ends_at : hi ≡ lo + 1 → asked ≡ Ok lo
    ends_at e = r.same ∙ narrow_ended f t r.fuel lo hi e

    module _ (ne : hi ≡ lo + 1 → ⊥) where
      turn : (n : ℕ) × (r.fuel ≡ suc n)
      turn = one_more f t r.fuel lo hi r.apart r.wide ne

      width : hi - lo ≤ 2 ^ suc turn.0
      width = rw turn.1 at r.wide

      next : asked ≡ narrow f t (suc turn.0) lo hi
      next = r.same ∙ ap (λ (n : ℕ). narrow f t n lo hi) turn.1

      pub to_upper : NotAbove f t (middle lo hi) → Narrowing asked (middle lo hi) hi
      to_upper a = record {
        fuel = turn.0;
        apart = (between lo hi r.apart ne).below;
        wide = upper_width lo hi turn.0 r.apart width;
        same = next ∙ narrow_upper f t turn.0 lo hi ne a;
      }

      pub to_lower : Above f t (middle lo hi) → Narrowing asked lo (middle lo hi)
      to_lower a = record {
        fuel = turn.0;
        apart = (between lo hi r.apart ne).above;
        wide = lower_width lo hi turn.0 width;
        same = next ∙ narrow_lower f t turn.0 lo hi ne a;
      }

      pub to_broke : Unworthy f (middle lo hi) → asked ≡ Err Broke
      to_broke e = next ∙ narrow_broke f t turn.0 lo hi ne e

-- ---- a figure that rises: it passes the target at one place only, however that is come by
abbrev pub Rises : Figure → Float → ℕ → Type 0
Rises f t top = (b c : ℕ) → b ≤ c → c ≤ top → Above f t b → NotAbove f t c → ⊥

abbrev pub Works : Figure → ℕ → ℕ → Type 0
Works f lo hi = (k : ℕ) → lo ≤ k → k ≤ hi → Worthy f k

not_both : (f : Figure) (k : ℕ) → Worthy f k → Unworthy f k → ⊥
not_both f k (worthy x e h) (failed g) = never (cc)
not_both f k (worthy x e h) (unbounded y g l) = let s : x ≡ y = cc in true≢false (sym h ∙ ap finite s ∙ l)

module _ (f : Figure) (t : Float) where
  one_place : (top r s : ℕ) → Rises f t top → r + 1 ≤ top → s + 1 ≤ top → NotAbove f t r → Above f t (r + 1) → NotAbove f t s → Above f t (s + 1) → r ≡ s
  one_place top r s rise p q a b c d = go (ltb r s) (ltb s r) refl refl
    where
      go : (x y : Bool) → ltb r s ≡ x → ltb s r ≡ y → r ≡ s
      go true y h k = let l = ltb-true r s h in absurd (rise (r + 1) s (omega arith) (omega arith) b c)
      go false true h k = let l = ltb-true s r k in absurd (rise (s + 1) r (omega arith) (omega arith) d a)
      go false false h k = let l = ltb-false r s h in let m = ltb-false s r k in omega arith

  reaches : {lo hi m : ℕ} {c : Crossing} → Halves f t lo hi m c → lo < hi → Works f lo hi → (r : ℕ) × (c ≡ Ok r)
  reaches {lo} (ended e) h w = (lo, refl)
  reaches {lo} {hi} (upper ne x g) h w = let m = between lo hi h ne in reaches g m.below (λ k a b. w k (omega arith) b)
  reaches {lo} {hi} (lower ne x g) h w = let m = between lo hi h ne in reaches g m.above (λ k a b. w k a (omega arith))
  reaches {lo} {hi} (broke ne e) h w =
      let m = between lo hi h ne in
      absurd (not_both f (middle lo hi) (w (middle lo hi) (omega arith) (omega arith)) e)

  -- a place within the ends where a rising figure passes the target is the halving's answer
  pub unique_crossing : (lo hi r : ℕ) → Rises f t hi → Works f lo hi → hi ≤ 2 ^ 63 → NotAbove f t lo → Above f t hi
      → lo ≤ r → r + 1 ≤ hi → NotAbove f t r → Above f t (r + 1) → halve f t lo hi ≡ Ok r
  unique_crossing lo hi r rise w d a b p q x y =
      let h : lo < hi = omega arith in
      let z = reaches (at_most_63 f t lo hi h d).2 h w in
      let g = bracketed f t lo hi h a b ∙ z.1 in
      let u = answer f t lo hi z.0 d g in
      g ∙ ap Ok (one_place hi z.0 r rise u.to q u.here u.next x y)

-- ---- two crossings: the middle is rounded down, so the lower one is found
two_crossings : Figure
two_crossings zero = Some (whole 0)
two_crossings (suc zero) = Some (whole 2)
two_crossings (suc (suc zero)) = Some (whole 0)
two_crossings (suc (suc (suc n))) = Some (whole 2)

lower_found : halve two_crossings (whole 1) 0 3 ≡ Ok 0
unfolding two_crossings halve narrow middle whole of_int lt
lower_found = refl
