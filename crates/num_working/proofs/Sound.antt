-- What was worked is finite: a test, an operation, and a choice between two such. Assumes nothing.
use Rattle.std.specs.Prelude.{Some, None}
use mathlib.Core.Path.{◌≡◌, refl}
use mathlib.Core.Bool.{Bool, true, cond}
use lib.Dec.{T}
use lib.Ieee.{Float, nan, inf, fin}
use lib.Ieee.Scale.{finite}
use Rattle.num_working.specs.Working.{checked, plain, or_else, both, Worked}
use Rattle.num_working.proofs.Cases.{by_test, by_working}

abbrev pub sound : Worked → Bool
sound (Some x) = finite x
sound None = true

pub checked_sound : (x : Float) → T (sound (checked x))
checked_sound nan = tt
checked_sound (inf s) = tt
checked_sound (fin s m e) = tt

pub both_sound : (op : Float → Float → Float) (v w : Worked) → T (sound (both op v w))
both_sound op None w = tt
both_sound op (Some x) None = tt
both_sound op (Some x) (Some y) = checked_sound (op x y)

pub cond_sound : (b : Bool) (v w : Worked) → T (sound v) → T (sound w) → T (sound (cond b v w))
cond_sound b v w p q = by_test (λ (r : Worked). T (sound r)) b v w (λ _. p) (λ _. q)

-- what a number that was worked leads to, or nothing
pub or_else_sound : (w : Worked) (f : Float → Worked) → ((x : Float) → T (sound (f x))) → T (sound (or_else w None f))
or_else_sound w f h = by_working (λ (r : Worked). T (sound r)) w None f (λ _. tt) (λ x _. h x)

-- such a number loses nothing as a plain f64
pub checked_plain : (w : Worked) → T (sound w) → checked (plain w) ≡ w
checked_plain None s = refl
checked_plain (Some nan) s = absurd s
checked_plain (Some (inf b)) s = absurd s
checked_plain (Some (fin b m e)) s = refl
