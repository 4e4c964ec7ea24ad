-- The four constants are the bits of the nearest f64 as worked elsewhere, in exact fractions. Assumes nothing.
use Prim.Native.Nat.{ℕ}
use mathlib.Core.Path.{◌≡◌, refl}
use mathlib.Core.List.{List, [], ◌∷◌, map}
use lib.Ieee.{Float, binary64, of_bits, of_int, round}
use Rattle.num_working.specs.Number.{fraction, decimal, whole}
use Rattle.eos_constants.specs.Constant.{span_wagner}

constants : List Float
constants = span_wagner.temperature ∷ span_wagner.density ∷ span_wagner.gas ∷ span_wagner.pressure ∷ []

worked_elsewhere : List ℕ
worked_elsewhere = 0x4073_020d_1b71_758e ∷ 0x407d_3999_9999_999a ∷ 0x4067_9d92_3a29_c77a ∷ 0x415c_2465_0000_0000 ∷ []

constants_agree : constants ≡ map (of_bits binary64) worked_elsewhere
unfolding constants worked_elsewhere span_wagner decimal fraction whole of_bits of_int round
constants_agree = refl
