-- RULES 4.5: halving, over whatever figure is probed. Definitions only.
use Rattle.num_halving.specs.declared.Missed.TheVariants.{Nowhere, Broke}
use Rattle.std.specs.Prelude.{ℕ, zero, suc, ◌+◌, ◌-◌, ◌/◌, ◌≤◌, ◌≡◌, true, false, cond, leb, eqb, Float, Some, None, Ok, Err, Result}
use Rattle.std.specs.Float.Ieee.{lt}
use Rattle.std.specs.Float.Ieee.Scale.{finite}
use Rattle.num_working.specs.Working.{Worked}
use Rattle.num_halving.specs.declared.Missed.{Missed}

-- where the figure passes the target, or why that is not known
abbrev pub Crossing : Type 0
Crossing = Result ℕ Missed

-- a figure: what is worked at each number of bits
abbrev pub Figure : Type 0
Figure = ℕ → Worked

-- where a figure stands: not above the target, above it, or not finite; one whose working failed counts as not finite
pub data Side : Type 0 where
  low high broken : Side

abbrev pub side : Float → Worked → Side
side t (Some x) = cond (finite x) (cond (lt t x) high low) broken
side t None = broken

-- at lo, then at hi: not finite is a failure; above the target at lo, or not above it at hi, is no crossing
abbrev pub ends : Side → Side → Crossing → Crossing
ends low low c = Err Nowhere
ends low high c = c
ends low broken c = Err Broke
ends high low c = Err Nowhere
ends high high c = Err Nowhere
ends high broken c = Err Broke
ends broken b c = Err Broke

-- at mid: the halving goes on in the upper half where the figure is not above the target, in the lower where it is; not finite is a failure
abbrev pub half : Side → Crossing → Crossing → Crossing
half low upper lower = upper
half high upper lower = lower
half broken upper lower = Err Broke

-- mid, rounded down
unfoldable pub middle : ℕ → ℕ → ℕ
middle lo hi = lo + (hi - lo) / 2

-- as long as hi is not lo + 1: at most n halvings, of which 63 are always enough (`at_most_63`). Each half is bound by a `let`, so that antt works only the
-- one that is picked.
unfoldable pub narrow : Figure → Float → ℕ → ℕ → ℕ → Crossing
narrow f t zero lo hi = Ok lo
narrow f t (suc n) lo hi =
    let upper = narrow f t n (middle lo hi) hi in
    let lower = narrow f t n lo (middle lo hi) in
    let rest = half (side t (f (middle lo hi))) upper lower in
    cond (eqb hi (lo + 1)) (Ok lo) rest

-- lo not below hi is no crossing; else the ends are looked at, and then at most 63 halvings are made
unfoldable pub halve : Figure → Float → ℕ → ℕ → Crossing
halve f t lo hi =
    let rest = ends (side t (f lo)) (side t (f hi)) (narrow f t 63 lo hi) in
    cond (leb hi lo) (Err Nowhere) rest

-- ---- what it means, as demand 3 of RULES 10.1 says it of the pressure

-- the figure at k is a finite number that is not above the target; that is above it
pub record NotAbove (f : Figure) (t : Float) (k : ℕ) : Type 0 where
  pub number : Float
  pub worked : f k ≡ Some number
  pub bounded : finite number ≡ true
  pub stands : lt t number ≡ false

pub record Above (f : Figure) (t : Float) (k : ℕ) : Type 0 where
  pub number : Float
  pub worked : f k ≡ Some number
  pub bounded : finite number ≡ true
  pub stands : lt t number ≡ true

-- the figure at k is a finite number, or it is not
pub data Worthy (f : Figure) (k : ℕ) : Type 0 where
  worthy : (x : Float) → f k ≡ Some x → finite x ≡ true → Worthy f k

pub data Unworthy (f : Figure) (k : ℕ) : Type 0 where
  failed : f k ≡ None → Unworthy f k
  unbounded : (x : Float) → f k ≡ Some x → finite x ≡ false → Unworthy f k

-- an answer: r and the next lie within the ends, and the figure passes the target between them
pub record Found (f : Figure) (t : Float) (lo hi r : ℕ) : Type 0 where
  pub from : lo ≤ r
  pub to : r + 1 ≤ hi
  pub here : NotAbove f t r
  pub next : Above f t (r + 1)

-- no crossing: fewer than two numbers; or finite at both ends, and above the target already at the lower or not above it even at the upper
pub data NoCrossing (f : Figure) (t : Float) (lo hi : ℕ) : Type 0 where
  met : hi ≤ lo → NoCrossing f t lo hi
  first_above : Above f t lo → Worthy f hi → NoCrossing f t lo hi
  second_not_above : Worthy f lo → NotAbove f t hi → NoCrossing f t lo hi

-- the halving itself, with no bound on its length: from lo and hi it comes to an answer, or to a figure that is not finite, in n halvings
pub data Halves (f : Figure) (t : Float) : ℕ → ℕ → ℕ → Crossing → Type 0 where
  ended : {lo hi : ℕ} → hi ≡ lo + 1 → Halves f t lo hi zero (Ok lo)
  upper : {lo hi n : ℕ} {c : Crossing} → (hi ≡ lo + 1 → ⊥) → NotAbove f t (middle lo hi) → Halves f t (middle lo hi) hi n c → Halves f t lo hi (suc n) c
  lower : {lo hi n : ℕ} {c : Crossing} → (hi ≡ lo + 1 → ⊥) → Above f t (middle lo hi) → Halves f t lo (middle lo hi) n c → Halves f t lo hi (suc n) c
  broke : {lo hi : ℕ} → (hi ≡ lo + 1 → ⊥) → Unworthy f (middle lo hi) → Halves f t lo hi (suc zero) (Err Broke)

-- failure: an end is not finite, or a middle that the halving comes to
pub data Breaks (f : Figure) (t : Float) (lo hi : ℕ) : Type 0 where
  at_first : Unworthy f lo → Breaks f t lo hi
  at_second : Unworthy f hi → Breaks f t lo hi
  at_middle : (n : ℕ) → NotAbove f t lo → Above f t hi → Halves f t lo hi n (Err Broke) → Breaks f t lo hi
