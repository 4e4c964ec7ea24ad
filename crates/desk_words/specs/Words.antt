-- RULES 14.1: the words of each refusal, what it says and then what to do; and the version. Definitions only.
use Rattle.std.specs.Prelude.{ℕ, zero, suc, cond, List, [], ◌∷◌, eqb, get_or}
use Rattle.sheet_write.specs.Writing.{ascii}

-- 10,000 times the first number, 100 times the second, and the third
abbrev pub version : ℕ
version = 10700

-- from 0, which is no refusal, on
unfoldable pub all : List (List ℕ)
all =
    []
    -- 1
    ∷ ascii "A field that the line needs is blank, and only a weighed line needs no temperature. Read it at the cylinder and fill it in."
    -- 2
    ∷ ascii "The volume is not 1 to 1,000,000 mL. Look at the cylinder's stamp: litres times 1,000. What was not read is written -, not 0."
    -- 3
    ∷ ascii "A number is infinite or no number, which no sheet can give. Mend the program that calls."
    -- 4
    ∷ ascii "The temperature is not 216.592 to 523 K (-56.55 to 249.85 C), or asked for saturation not below 304.1282 K. Check the thermometer: (Celsius + 273.15) times 10,000. What was not read is written -, not 0."
    -- 5
    ∷ ascii "The pressure, read or worked, is not 0.1 to 300 bar absolute, or the density not 0.1 to 1,300 kg/m3. Check the gauge, its unit and the thermometer. What was not read is written -, not 0."
    -- 6
    ∷ ascii "Too near the critical point to tell the density. Weigh the cylinder and write W and the grams of agent in the place of its reading, or warm it evenly to 40 to 45 C and read again: there a bar is about one per cent of a full cylinder's density and up to seven of a half empty one's, at 32.1 C up to half. Mind the pressure: filled to 750 kg/m3 it stands at 175 bar at 50 C."
    -- 7
    ∷ ascii "The working failed, and no reading is known that gives this. Report it with the sheet."
    -- 8
    ∷ ascii "Liquid and vapour stand together, or the pressure is exactly the vapour pressure. Weigh the cylinder and write W and the grams of agent in the place of its reading, or warm it evenly to 40 to 45 C and read again: there a bar is about one per cent of a full cylinder's density and up to seven of a half empty one's, at 32.1 C up to half. Mind the pressure: filled to 750 kg/m3 it stands at 175 bar at 50 C."
    -- 9
    ∷ ascii "No density in the range has this pressure, and no reading is known that gives this. Report it with the sheet."
    -- 10
    ∷ ascii "The sheet has no cylinder lines. Add one for each cylinder of the bank."
    -- 11
    ∷ ascii "The sheet has more than 32 cylinder lines. Make two sheets and add their totals: the verdict of one is not the bank's."
    -- 12
    ∷ ascii "The need is blank or 0. Fill in what the dryer needs, in mg: kg times 1,000,000."
    -- 13
    ∷ ascii "Some line was refused, so there is no verdict. See to that line and score again."
    -- 14
    ∷ ascii "The text is not in the form. scorer --help shows a whole sheet, and --explain where this one stops being in it."
    -- 15
    ∷ ascii "What was lent doesn't have the length that the answer needs. Lend eight figures for a state, three for saturation, 1,512 bytes for a report; for many states as many pressures and answers as temperatures, and ten figures for each."
    -- 16 to 18
    ∷ [] ∷ [] ∷ []
    -- 19
    ∷ ascii "Solid: dry ice and no agent that flows. Check the thermometer and the gauge, or warm the cylinder above -50 C and read again."
    -- 20 to 22
    ∷ [] ∷ [] ∷ []
    -- 23
    ∷ ascii "The weighed mass is not 1 to 9,999,999,999 g. Weigh the cylinder again and take off its empty weight: kg times 1,000; an empty cylinder has no line. What was not read is written -, not 0."
    -- 24 to 29
    ∷ [] ∷ [] ∷ [] ∷ [] ∷ [] ∷ []
    -- 30
    ∷ ascii "The cylinder is already on the sheet. Take the line out if it was copied, or read its number at the cylinder again."
    ∷ []

-- a number that is no refusal has none
unfoldable pub words : ℕ → List ℕ
words n = get_or all n []

-- ---- what code inside asks for: a line of a text, 10 being LF

-- what stands behind n line ends
unfoldable pub behind_lines : ℕ → List ℕ → List ℕ
behind_lines n [] = []
behind_lines zero (b ∷ s) = b ∷ s
behind_lines (suc n) (b ∷ s) = cond (eqb b 10) (behind_lines n s) (behind_lines (suc n) s)

-- what stands before the first
unfoldable pub up_to_line : List ℕ → List ℕ
up_to_line [] = []
up_to_line (b ∷ s) = cond (eqb b 10) [] (b ∷ up_to_line s)
