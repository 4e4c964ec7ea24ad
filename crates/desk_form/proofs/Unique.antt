-- No second answer meets a public function's promise. Assumes nothing.
use Rattle.std.specs.Prelude.{Option, Some, None}
use contract.Lifetimes.{Lfts}
use mathlib.Core.Path.{◌≡◌, refl, sym, ap, ◌∙◌}
use mathlib.Core.List.{List}
use Prim.Native.Nat.{ℕ, ◌-◌, ◌≤◌}
use native.Mathlib.Omega.{arith}
use lib.ListN.{length, drop, length-drop}
use Rattle.num_working.proofs.Unique.{OneAnswer}
use Rattle.sheet_text.proofs.Parses.{none_or_some}
use Rattle.desk_form.specs.Wrong.{lines_of, WrongIs}
use Rattle.desk_form.specs.declared.wrong.Wrong.{Wrong}
use Rattle.desk_form.proofs.Cuts.{together, lines_together}
use Rattle.desk_form.proofs.wrong.first_wrong.Reads as first_wrong

-- the lines of what is left tell its place
one_place : (t : List ℕ) (n m : ℕ) → n ≤ length t → m ≤ length t → lines_of (drop n t) ≡ lines_of (drop m t) → n ≡ m
one_place t n m h g e =
    let d : drop n t ≡ drop m t = sym (lines_together (drop n t)) ∙ ap together e ∙ lines_together (drop m t) in
    let l : length t - n ≡ length t - m = sym (length-drop n t) ∙ ap length d ∙ length-drop m t in
    omega (arith, h, g, l)

one_line : {A : Type 0} (o : Option (ℕ × A)) (i j : ℕ) (x y : A) → o ≡ Some (i, x) → o ≡ Some (j, y) → (i ≡ j) × (x ≡ y)
one_line {A} o i j x y e f =
    let p : ◌≡◌ {A = ℕ × A} (i, x) (j, y) = cc in
    (ap (λ (q : ℕ × A). q.0) p, ap (λ (q : ℕ × A). q.1) p)

same : (v w : Wrong) → v.line ≡ w.line → v.from ≡ w.from → Some v ≡ Some w
same v w e f =
    let line : Some v ≡ Some (record { line = w.line; from = v.from }) = ap (λ (i : ℕ). Some (record { line = i; from = v.from })) e in
    line ∙ ap (λ (i : ℕ). Some (record { line = w.line; from = i })) f

wrong_once : (t : List ℕ) (r s : Option Wrong) → WrongIs t r → WrongIs t s → r ≡ s
wrong_once t None None x y = refl
wrong_once t None (Some w) x y = absurd (none_or_some x y.0)
wrong_once t (Some v) None x y = absurd (none_or_some y x.0)
wrong_once t (Some v) (Some w) x y =
    let e = one_line _ v.line w.line _ _ x.0 y.0 in
    same v w e.0 (one_place t v.from w.from x.1 y.1 e.1)

-- however long the text is lent
pub first_wrong_once : (κs : Lfts 1) → OneAnswer (Option Wrong) (first_wrong.Post κs)
first_wrong_once κs a r s x y = wrong_once _ r s
