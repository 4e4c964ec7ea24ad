-- RULES 4.8 (docs/ARRANGEMENT.md, sections 2 and 7): the five derivatives that Table 3 needs, each with its factor, a number for each, and how a row's
-- figures are added up. Definitions only.
use Rattle.std.specs.Prelude.{Bool, true, cond, Float}
use Rattle.std.specs.Float.{binary64}
use Rattle.std.specs.Float.Ieee.{add, mul}
use Rattle.eos_brackets.specs.declared.Five.{Five}

-- δφ_δ, δ²φ_δδ, τφ_τ, τ²φ_ττ, δτφ_δτ
pub data Derivative : Type 0 where
  Delta DeltaDelta Tau TauTau DeltaTau : Derivative

-- one for each, in that order
abbrev pub columns : {A : Type 0} → A → A → A → A → A → Derivative → A
columns d dd t tt dt Delta = d
columns d dd t tt dt DeltaDelta = dd
columns d dd t tt dt Tau = t
columns d dd t tt dt TauTau = tt
columns d dd t tt dt DeltaTau = dt

abbrev pub of : Five → Derivative → Float
of s = columns s.d s.dd s.t s.tt s.dt

abbrev pub five : (Derivative → Float) → Five
five f = record { d = f Delta; dd = f DeltaDelta; t = f Tau; tt = f TauTau; dt = f DeltaTau }

-- a row's figures: its term times its brackets
abbrev pub times : Float → (Derivative → Float) → Five
times term bracket = five (λ k. mul binary64 term (bracket k))

-- whether a sum is among those that are asked for: all five, or the first alone, which a pressure needs
abbrev pub asked : Bool → Derivative → Bool
asked all = columns true all all all all

-- the sums so far, with a row's figures added to those that are asked for
abbrev pub grown : Bool → Five → Float → (Derivative → Float) → Five
grown all s term bracket = five (λ k. cond (asked all k) (add binary64 (of s k) (mul binary64 term (bracket k))) (of s k))
