-- What the relations of specs/Place say: each has one solution, and what is read from a later place on is read past an earlier one.
use Rattle.std.specs.Prelude.{Some, None, Option}
use mathlib.Core.Path.{◌≡◌, refl, sym, ap, ◌∙◌}
use mathlib.Core.List.{List}
use Prim.Native.Nat.{ℕ, ◌≤◌, ◌<◌}
use native.Mathlib.Omega.{arith}
use lib.ListN.{length, drop, length-drop}
use Rattle.sheet_text.specs.Place.{Leaves, Reads, PlaceIs}
use Rattle.sheet_text.proofs.Parses.{read_once, none_or_some}

-- the rest has one place only, by its length
pub one_place : (s : List ℕ) (n m : ℕ) → n ≤ length s → m ≤ length s → drop n s ≡ drop m s → n ≡ m
one_place s n m h g e = let l = simp length-drop at (ap length e) in omega arith

pub leaves_once : {A : Type 0} (s : List ℕ) (at : ℕ) (p : Option (A × List ℕ)) (a b : A) (n m : ℕ) → Leaves s at p a n → Leaves s at p b m → (a ≡ b) × (n ≡ m)
leaves_once s at p a b n m l k = let e = read_once a b (drop n s) (drop m s) (sym l.0 ∙ k.0) in (e.0, one_place s n m l.2 k.2 e.1)

pub reads_once : {A : Type 0} (s : List ℕ) (at : ℕ) (p : Option (A × List ℕ)) (r t : Option (A × ℕ)) → Reads s at p r → Reads s at p t → r ≡ t
reads_once s at p None None x y = refl
reads_once s at p None (Some (a, n)) x y = absurd (none_or_some x y.0)
reads_once s at p (Some (a, n)) None x y = absurd (none_or_some y x.0)
reads_once s at p (Some (a, n)) (Some (b, m)) x y = let e = leaves_once s at p a b n m x y in let f = e.0 in let g = e.1 in cc

pub place_is_once : (s : List ℕ) (at : ℕ) (p : Option (Unit {0} × List ℕ)) (r t : Option ℕ) → PlaceIs s at p r → PlaceIs s at p t → r ≡ t
place_is_once s at p None None x y = refl
place_is_once s at p None (Some n) x y = absurd (none_or_some x y.0)
place_is_once s at p (Some n) None x y = absurd (none_or_some y x.0)
place_is_once s at p (Some n) (Some m) x y = let b = (leaves_once s at p tt tt n m x y).1 in cc

pub reads_from : {A : Type 0} (s : List ℕ) (at from : ℕ) (p : Option (A × List ℕ)) (r : Option (A × ℕ)) → Reads s from p r → at < from → Reads s at p r
reads_from s at from p None x h = x
reads_from s at from p (Some (a, n)) x h = (x.0, omega (arith, x.1), x.2)
