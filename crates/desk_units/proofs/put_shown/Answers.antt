-- It fits, and each piece is written into the part that starts where the former ended; or it doesn't, and nothing is. Assumes nothing.
use Prim.Native.Nat.{ℕ, ◌+◌, ◌≤◌}
use mathlib.Core.Path.{◌≡◌}
use native.Mathlib.Omega.{arith}
use lib.ListN.{length, length-append}
use Rattle.sheet_text.specs.Decimal.{decimal}
use Rattle.sheet_write.proofs.Writings.{fits, stays, then}
use Rattle.desk_units.specs.declared.Shown.{Shown}
use Rattle.desk_units.specs.Shown.{front, sign_text, shown_text}
use Rattle.desk_units.proofs.Digits.{shown_length}
use Rattle.desk_units.proofs.put_shown.Goals as goal

-- past the test there is room for each piece
room : (s : Shown) (whole long n : ℕ) → whole ≡ front s.places s.digits → long ≡ length (shown_text s) → long ≤ n
    → length (sign_text s.below) + (length (decimal whole) + (1 + s.places)) ≤ n
room s whole long n e f h = rw e (omega (arith, shown_length s))

pub returns-then-shown_len-out : goal.returns-then-shown_len-out
returns-then-shown_len-out c = stays (omega (arith, c.shown_len.ensures))

pub returns : goal.returns
unfolding shown_text
returns c =
    let h = room c.args.s c.front-whole.result c.shown_len.result (length c.args.out.now) c.front-whole.ensures c.shown_len.ensures c.if-shown_len-out.false in
    let s = then c.put_sign-a.ensures (omega arith) c.put_number.ensures in
    let t = then s (simp length-append (omega arith)) c.put.ensures in
    let u = then t (simp length-append (omega arith)) c.put_last.ensures in
    fits (omega (arith, shown_length c.args.s, c.shown_len.ensures)) (rw c.front-whole.ensures at u)
