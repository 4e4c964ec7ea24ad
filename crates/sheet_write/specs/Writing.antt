-- RULES 7.3: text as bytes, and bytes written to the front of a lent output. Definitions only.
use Rattle.std.specs.Prelude.{ℕ, ◌≡◌, cond, List, [], ◌∷◌, ◌++◌, ltb, length, drop}
use Prim.Native.Char.{code}
use Prim.Native.String as string

-- a text's bytes, of characters that are one byte each
abbrev pub ascii : string.String → List ℕ
ascii string.[] = []
ascii (string.◌∷◌ c rest) = code c ∷ ascii rest

-- bs laid over the front of o: every byte behind them stays as it was
unfoldable pub overlaid : List ℕ → List ℕ → List ℕ
overlaid o bs = bs ++ drop (length bs) o

-- what a function ensures that writes bs to the front of o: it answers r, how many bytes these are, and o has become xs
pub record Wrote (o xs : List ℕ) (r : ℕ) (bs : List ℕ) : Type 0 where
  pub count : r ≡ length bs
  pub bytes : xs ≡ overlaid o bs

-- what a function ensures that writes bs to the front of o where they fit: how many bytes these are, and o has become xs; else 0, and o stays
pub record Fitted (o xs bs : List ℕ) (r : ℕ) : Type 0 where
  pub number : r ≡ cond (ltb (length o) (length bs)) 0 (length bs)
  pub bytes : xs ≡ cond (ltb (length o) (length bs)) o (overlaid o bs)
