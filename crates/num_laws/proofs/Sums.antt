-- Sums, differences, products and quotients of floats with no minus sign keep their order: each is a fraction that is rounded once. Assumes nothing.
use mathlib.Core.Path.{◌≡◌, refl, sym, ◌∙◌}
use mathlib.Core.Bool.{true, false}
use Prim.Native.Nat.{ℕ, ◌+◌, ◌-◌, ◌*◌, ◌≤◌, ◌<◌}
use native.Mathlib.Nat.{add-le-add, add-mul, mul_comm, mul_assoc, mul_left_comm, mul_right_comm, mul-le-mul_right, mul-pos}
use native.Mathlib.Omega.{arith}
use lib.Dec.{T}
use lib.Ieee.{Float, nan, inf, fin, Format, up, down, round, add, sub, mul, div, le, lt}
use lib.Ieee.Exact.{HasValue}
use lib.Ieee.Order.{le_of_values, round_mono}
use lib.Ieee.Positive.{num, den, positive, den_pos, own_value, value_pos, through}
use lib.Ieee.Scale.{finite}
use Rattle.num_working.specs.Number.{nonneg}
use Rattle.num_laws.proofs.Halves.{le_by, div_is}
use Rattle.num_laws.proofs.Units.{minus_times, add_of, sub_of}
use Rattle.num_laws.proofs.Orders.{unsigned, unsigned_finite, own, cross, not_lt_cross, under, round_unsigned, mul_unsigned, mul_mono, Ordered}

-- as `Ordered`, the infinity included
pub record Ranked (x y : Float) : Type 0 where
  pub first : T (unsigned x)
  pub second : T (unsigned y)
  pub order : T (le x y)

pub ordered : {x y : Float} → Ranked x y → T (finite y) → Ordered x y
ordered {x} {y} r f =
    let p = unsigned_finite y r.second f in
    record { first = under x y r.first p r.order; second = p; order = r.order }

-- ---- the order, from that of the fractions
of_cross : {x y : Float} → T (nonneg x) → T (nonneg y) → num x * den y ≤ num y * den x → Ordered x y
of_cross {x} {y} p q h = record {
  first = p;
  second = q;
  order = le_of_values x y (num x) (den x) (num y) (den y) (den_pos x) (den_pos y) (own x p) (own y q) h;
}

pub not_below : (x y : Float) → T (nonneg x) → T (nonneg y) → lt y x ≡ false → Ordered x y
not_below x y p q h = of_cross p q (not_lt_cross y x q p h)

crossed : {x y : Float} → Ordered x y → num x * den y ≤ num y * den x
crossed {x} {y} o = cross x y o.first o.second o.order

pub onward : {x y z : Float} → Ordered x y → Ordered y z → Ordered x z
onward {x} {y} {z} o r =
    of_cross o.first r.second (through (num x) (num y) (num z) (den x) (den y) (den z) (den_pos y) (crossed o) (crossed r))

-- ---- the operations as fractions that are rounded
wider : (x : Float) (d : ℕ) → T (nonneg x) → HasValue x false (num x * d) (den x * d)
wider nan d p = absurd p
wider (inf s) d p = absurd p
wider (fin true m e) d p = absurd p
wider (fin false m e) d p = (refl, sym (mul_assoc (m * up e) (down e) d) ∙ mul_right_comm (m * up e) (down e) d)

module _ (f : Format) (x y : Float) (p : T (nonneg x)) (q : T (nonneg y)) where
  wider_second : HasValue y false (num y * den x) (den x * den y)
  wider_second = rw (mul_comm (den x) (den y)) (wider y (den x) q)

  add_is : add f x y ≡ round f false (num x * den y + num y * den x) (den x * den y)
  add_is = add_of f x y (num x * den y) (num y * den x) (den x * den y) (mul-pos (den_pos x) (den_pos y)) (wider x (den y) p) wider_second

  sub_is : num y * den x ≤ num x * den y → sub f x y ≡ round f false (num x * den y - num y * den x) (den x * den y)
  sub_is = sub_of f x y (num x * den y) (num y * den x) (den x * den y) (mul-pos (den_pos x) (den_pos y)) (wider x (den y) p) wider_second

-- ---- and the order of these
of_sums : (a p b q a' p' b' q' : ℕ) → a * p' ≤ a' * p → b * q' ≤ b' * q → (a * q + b * p) * (p' * q') ≤ (a' * q' + b' * p') * (p * q)
of_sums a p b q a' p' b' q' h k =
    le_by (simp (add-mul, mul_assoc, mul_comm, mul_left_comm))
    (add-le-add (mul-le-mul_right (q * q') h) (mul-le-mul_right (p * p') k))
    (simp (add-mul, mul_assoc, mul_comm, mul_left_comm))

less : (a b a' b' : ℕ) → a ≤ a' → b ≡ b' → a - b ≤ a' - b'
less a b a' b' h e = omega arith

of_differences : (a p a' p' b q : ℕ) → a * p' ≤ a' * p → (a * q - b * p) * (p' * q) ≤ (a' * q - b * p') * (p * q)
of_differences a p a' p' b q h =
    le_by (minus_times (a * q) (b * p) (p' * q))
    (less (a * q * (p' * q)) (b * p * (p' * q)) (a' * q * (p * q)) (b * p' * (p * q))
    (le_by (simp (mul_assoc, mul_left_comm)) (mul-le-mul_right (q * q) h) (simp (mul_assoc, mul_comm, mul_left_comm)))
    (simp (mul_assoc, mul_comm, mul_left_comm)))
    (sym (minus_times (a' * q) (b * p') (p * q)))

of_quotients : (a p a' p' b q : ℕ) → a * p' ≤ a' * p → a * q * (b * p') ≤ a' * q * (b * p)
of_quotients a p a' p' b q h =
    le_by (simp (mul_assoc, mul_comm, mul_left_comm)) (mul-le-mul_right (q * b) h) (simp (mul_assoc, mul_comm, mul_left_comm))

module _ (f : Format) where
  rounded : {z z' : Float} (a b c d : ℕ) → z ≡ round f false a b → z' ≡ round f false c d → 0 < b → 0 < d → a * d ≤ c * b → Ranked z z'
  rounded a b c d e e' B D h =
      rw (e, e') (record { first = round_unsigned f a b; second = round_unsigned f c d; order = round_mono f a b c d B D h })

  pub add_keeps : (x x' y y' : Float) → Ordered x x' → Ordered y y' → Ranked (add f x y) (add f x' y')
  add_keeps x x' y y' o r =
      rounded _ _ _ _ (add_is f x y o.first r.first) (add_is f x' y' o.second r.second)
      (mul-pos (den_pos x) (den_pos y)) (mul-pos (den_pos x') (den_pos y'))
      (of_sums (num x) (den x) (num y) (den y) (num x') (den x') (num y') (den y') (crossed o) (crossed r))

  pub sub_keeps : (x x' y : Float) → Ordered y x → Ordered x x' → Ranked (sub f x y) (sub f x' y)
  sub_keeps x x' y l o =
      rounded _ _ _ _ (sub_is f x y o.first l.first (crossed l)) (sub_is f x' y o.second l.first (crossed (onward l o)))
      (mul-pos (den_pos x) (den_pos y)) (mul-pos (den_pos x') (den_pos y))
      (of_differences (num x) (den x) (num x') (den x') (num y) (den y) (crossed o))

  pub div_keeps : (x x' y : Float) → Ordered x x' → T (positive y) → Ranked (div f x y) (div f x' y)
  div_keeps x x' y o q =
      let N = value_pos y (num y) (den y) q (den_pos y) (own_value y q) in
      rounded _ _ _ _ (div_is f x y o.first q) (div_is f x' y o.second q) (mul-pos N (den_pos x)) (mul-pos N (den_pos x'))
      (of_quotients (num x) (den x) (num x') (den x') (num y) (den y) (crossed o))

  pub mul_keeps : (x x' y y' : Float) → Ordered x x' → Ordered y y' → Ranked (mul f x y) (mul f x' y')
  mul_keeps x x' y y' o r =
      record {
        first = mul_unsigned f x y o.first r.first;
        second = mul_unsigned f x' y' o.second r.second;
        order = mul_mono f x x' y y' o.first o.second r.first r.second o.order r.order;
      }
