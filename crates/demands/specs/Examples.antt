-- Sheets and their reports, byte for byte: the first and the last example of RULES 7.4, the sheets of RULES 8.2, and five more, of 12, of blanks, of
-- RULES 6.6 and of RULES 6.7. Definitions only.
use Rattle.std.specs.Prelude.{ℕ, zero, suc, List, [], ◌∷◌, ◌++◌}
use Prim.Native.String.{String}
use Rattle.sheet_write.specs.Writing.{ascii}

pub record Example : Type 0 where
  pub text : List ℕ
  pub report : String

abbrev times : ℕ → List ℕ → List ℕ
times zero l = []
times (suc n) l = l ++ times n l

unfoldable pub examples : List Example
examples =
    record { text = ascii "N 45000000\nC 7 - P 5000000 40000\nC 8 2000000 P 5000000 40000\n"; report = "L 1 R 1\nL 2 R 4\nSENT BACK 13\n" }
    ∷ record { text = []; report = "SENT BACK 14\n" }
    ∷ record { text = ascii "N -\n"; report = "SENT BACK 10\n" }
    ∷ record { text = ascii "N -\n" ++ times 33 (ascii "C 1 3000000 P 5000000 40000\n"); report = "SENT BACK 11\n" }
    ∷ record { text = ascii "N 0\nC 1 3000000 P 5000000 40000\n"; report = "SENT BACK 12\n" }
    ∷ record { text = ascii "N 1\nC 1 - D 5000000 40000\nC - 3000000 D - 40000\nC 3 3000000 P 1 -\n"; report = "L 1 R 1\nL 2 R 1\nL 3 R 1\nSENT BACK 13\n" }
    ∷ record {
      text = ascii "N 1\nC - 1 P 1 1\nC - 1 P 1 1\nC 0 2000000 P 5000000 40000\nC 5 - P 1 1\nC 0 3000000 P - 40000\nC 5 1 P 1 0\nC 0 3000000 P 5000000 40000\n";
      report = "L 1 R 1\nL 2 R 1\nL 3 R 4\nL 4 R 1\nL 5 R 1\nL 6 R 30\nL 7 R 30\nSENT BACK 13\n";
    }
    ∷ record { text = ascii "N 13000\nC 1 - W 12 50000\nC 2 9999999999 W 1 40\nC 3 - W 0 40\n"; report = "L 1 M 12000\nL 2 M 1000\nL 3 R 23\nSENT BACK 13\n" }
    ∷ record { text = ascii "N 13000\nC 1 - W 12 50000\nC 2 9999999999 W 1 40\n"; report = "L 1 M 12000\nL 2 M 1000\nTOTAL 13000 COVERED\n" }
    ∷ record { text = ascii "N 13001\nC 1 - W 12 50000\nC 2 0 W 1 40\n"; report = "L 1 M 12000\nL 2 M 1000\nTOTAL 13000 SHORT\n" }
    ∷ record {
      text = ascii "N 1\nC 1 - W 0 0\nC 1 - W 0 40\nC 2 - W - 0\nC 3 - W 1 -\nC - - W 1 1\nC 1 - P 5000000 40000\nC 1 - D 100000 40000\nC 6 - W 9999999999 1000001\n";
      report = "L 1 R 2\nL 2 R 30\nL 3 R 1\nL 4 R 1\nL 5 R 1\nL 6 R 1\nL 7 R 1\nL 8 R 2\nSENT BACK 13\n";
    }
    ∷ []
