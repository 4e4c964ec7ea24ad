-- RULES 13: what the program is asked for, word by word. Definitions only.
use Rattle.std.specs.Prelude.{ℕ, Bool, true, false, cond, ◌&&◌, List, [], ◌∷◌, eqb}
use Rattle.sheet_write.specs.Writing.{ascii}
use Rattle.desk_arguments.specs.declared.Word.{Word}
use Rattle.desk_arguments.specs.declared.Wish.{Wish}
use Rattle.desk_arguments.specs.declared.Named.{Named}
use Rattle.desk_arguments.specs.declared.Asked.{Asked}

unfoldable pub same_bytes : List ℕ → List ℕ → Bool
same_bytes [] [] = true
same_bytes [] (y ∷ ys) = false
same_bytes (x ∷ xs) [] = false
same_bytes (x ∷ xs) (y ∷ ys) = eqb x y && same_bytes xs ys

-- `-`, which is 45, stands in front
unfoldable pub dashed : List ℕ → Bool
dashed [] = false
dashed (x ∷ xs) = eqb x 45

-- a word by itself: a flag, a file's name, or one that begins with `-` and is neither

unfoldable pub other_of : List ℕ → Word
other_of w = cond (same_bytes w (ascii "--")) Word.End (cond (dashed w) Word.NoFlag Word.File)

unfoldable pub is_help : List ℕ → Bool
is_help w = cond (same_bytes w (ascii "-h")) true (same_bytes w (ascii "--help"))

unfoldable pub flag_of : List ℕ → Word
flag_of w =
    cond (is_help w) Word.Help
    (cond (same_bytes w (ascii "--explain")) Word.Explain
    (cond (same_bytes w (ascii "--version")) Word.Version
    (other_of w)))

-- `-` is standard input; behind `--`, which ended the flags, any other is a file's name
unfoldable pub word_of : Bool → List ℕ → Word
word_of ended w = cond (same_bytes w (ascii "-")) Word.Input (cond ended Word.File (flag_of w))

-- ---- by all words so far

abbrev pub none : Asked
none = record { wish = Wish.Score; named = Named.Nothing; explained = false; ended = false }

-- the first of `--help`, `--version` and a word that is no flag decides
abbrev pub first_of : Wish → Wish → Wish
first_of Wish.Score w = w
first_of Wish.Help w = Wish.Help
first_of Wish.Version w = Wish.Version
first_of (Wish.NoFlag i) w = Wish.NoFlag i

abbrev pub one_more : Named → Named
one_more Named.Nothing = Named.One
one_more Named.One = Named.Several
one_more Named.Several = Named.Several

abbrev pub wishing : Asked → Wish → Asked
wishing a w = record { wish = first_of a.wish w; named = a.named; explained = a.explained; ended = a.ended }

abbrev pub naming : Asked → Asked
naming a = record { wish = a.wish; named = one_more a.named; explained = a.explained; ended = a.ended }

abbrev pub flagged : Asked → Bool → Bool → Asked
flagged a explained ended = record { wish = a.wish; named = a.named; explained = explained; ended = ended }

-- with one word more, at place i
abbrev pub taken : Asked → ℕ → Word → Asked
taken a i Word.Explain = flagged a true a.ended
taken a i Word.Help = wishing a Wish.Help
taken a i Word.Version = wishing a Wish.Version
taken a i Word.End = flagged a a.explained true
taken a i Word.Input = naming a
taken a i Word.File = naming a
taken a i Word.NoFlag = wishing a (Wish.NoFlag i)
