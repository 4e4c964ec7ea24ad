-- Table 31 of 004 as printed, row by row, read as docs/READING.md says: sign, digits, places. Rows 39 and 42 have a name, since each also answers for a
-- place past the end; rows 7 and 34, since proofs name them; rows 40 and 41, since they share most of their numbers. Definitions only.
use Rattle.std.specs.Prelude.{ℕ, List, [], ◌∷◌, eqb, Float}
use Rattle.std.specs.Float.Ieee as Ieee
use Rattle.num_working.specs.Number.{fraction, decimal, whole}
use Rattle.eos_constants.specs.Exponent.{as_printed}
use Rattle.eos_constants.specs.declared.Printed.{Printed}
use Rattle.eos_constants.specs.declared.Printed.TheVariants.{Of0_875, Of0_925}
use Rattle.eos_rows.specs.declared.Gaussian.{Gaussian}
use Rattle.eos_rows.specs.declared.NonAnalytic.{NonAnalytic}

-- the fourteen digits, and how many places stand after the point
abbrev pub plus : ℕ → ℕ → Float
plus digits places = decimal digits places

abbrev pub minus : ℕ → ℕ → Float
minus digits places = Ieee.neg (decimal digits places)

-- ---- rows 1 to 7: n, d, and t in quarters
pub record Polynomial : Type 0 where
  pub n : Float
  pub d : ℕ
  pub q : ℕ

abbrev pub polynomial : Float → ℕ → ℕ → Polynomial
polynomial n d q = record { n = n; d = d; q = q }

abbrev pub row7 : Polynomial
row7 = polynomial (plus 12279411220335 14) 3 3

unfoldable pub polynomials : List Polynomial
polynomials =
    polynomial (plus 38856823203161 14) 1 0
    ∷ polynomial (plus 29385475942740 13) 1 3
    ∷ polynomial (minus 55867188534934 13) 1 4
    ∷ polynomial (minus 76753199592477 14) 1 8
    ∷ polynomial (plus 31729005580416 14) 2 3
    ∷ polynomial (plus 54803315897767 14) 2 8
    ∷ row7
    ∷ []

-- ---- rows 8 to 34: n, d, t in quarters, c
pub record Exponential : Type 0 where
  pub n : Float
  pub d : ℕ
  pub q : ℕ
  pub c : ℕ

abbrev pub exponential : Float → ℕ → ℕ → ℕ → Exponential
exponential n d q c = record { n = n; d = d; q = q; c = c }

abbrev pub row34 : Exponential
row34 = exponential (minus 30335118055646 17) 8 56 6

unfoldable pub exponentials : List Exponential
exponentials =
    exponential (plus 21658961543220 13) 1 6 1
    ∷ exponential (plus 15841735109724 13) 2 6 1
    ∷ exponential (minus 23132705405503 14) 4 10 1
    ∷ exponential (plus 58116916431436 15) 5 0 1
    ∷ exponential (minus 55369137205382 14) 5 6 1
    ∷ exponential (plus 48946615909422 14) 5 8 1
    ∷ exponential (minus 24275739843501 15) 6 0 1
    ∷ exponential (plus 62494790501678 15) 6 4 1
    ∷ exponential (minus 12175860225246 14) 6 8 1
    ∷ exponential (minus 37055685270086 14) 1 12 2
    ∷ exponential (minus 16775879700426 15) 1 24 2
    ∷ exponential (minus 11960736637987 14) 4 12 2
    ∷ exponential (minus 45619362508778 15) 4 24 2
    ∷ exponential (plus 35612789270346 15) 4 32 2
    ∷ exponential (minus 74427727132052 16) 7 24 2
    ∷ exponential (minus 17395704902432 16) 8 0 2
    ∷ exponential (minus 21810121289527 15) 2 28 3
    ∷ exponential (plus 24332166559236 15) 3 48 3
    ∷ exponential (minus 37440133423463 15) 3 64 3
    ∷ exponential (plus 14338715756878 14) 5 88 4
    ∷ exponential (minus 13491969083286 14) 5 96 4
    ∷ exponential (minus 23151225053480 15) 6 64 4
    ∷ exponential (plus 12363125492901 15) 7 96 4
    ∷ exponential (plus 21058321972940 16) 8 32 4
    ∷ exponential (minus 33958519026368 17) 10 8 4
    ∷ exponential (plus 55993651771592 16) 4 112 5
    ∷ row34
    ∷ []

-- ---- rows 35 to 39: n, d, t in quarters, α, β, and γ in hundredths; ε is 1 in every row
abbrev pub gaussian : Float → ℕ → ℕ → ℕ → ℕ → ℕ → Gaussian
gaussian n d q alpha beta gamma = record {
  n = n;
  d = d;
  q = q;
  alpha = whole alpha;
  beta = whole beta;
  gamma = decimal gamma 2;
  epsilon = whole 1;
}

abbrev pub row39 : Gaussian
row39 = gaussian (plus 21247284400179 11) 3 12 20 275 122

unfoldable pub gaussians : List Gaussian
gaussians =
    gaussian (minus 21365488688320 11) 2 4 25 325 116
    ∷ gaussian (plus 26641569149272 9) 2 0 25 300 119
    ∷ gaussian (minus 24027212204557 9) 2 4 25 300 119
    ∷ gaussian (minus 28341603423999 11) 3 12 15 275 125
    ∷ row39
    ∷ []

-- ---- rows 40 to 42: n, a in tenths, b, and A, B, C, D in tenths; β is 0.3 in every row
abbrev pub non_analytic : Float → ℕ → Printed → ℕ → ℕ → ℕ → ℕ → NonAnalytic
non_analytic n a b ka kb kc kd = record {
  n = n;
  a = decimal a 1;
  half = eqb a 35;
  b = fraction (as_printed b).numerator (as_printed b).denominator;
  root = b;
  ka = decimal ka 1;
  kb = decimal kb 1;
  kc = decimal kc 1;
  kd = decimal kd 1;
}

abbrev pub row40 : NonAnalytic
row40 = non_analytic (minus 66642276540751 14) 35 Of0_875 7 3 100 2750

abbrev pub row41 : NonAnalytic
row41 = non_analytic (plus 72608632349897 14) 35 Of0_925 7 3 100 2750

abbrev pub row42 : NonAnalytic
row42 = non_analytic (plus 55068668612842 15) 30 Of0_875 7 10 125 2750

unfoldable pub non_analytics : List NonAnalytic
non_analytics = row40 ∷ row41 ∷ row42 ∷ []
