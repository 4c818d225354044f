-- Rows and their words. Document 01, "The shape each place takes": the bitfield is `[u64; 2]`, and node rows hold such
-- arrays.
use Rattle.std.specs.Prelude.{List, [], map, ◌≡◌, ℕ, ◌<◌, get_or, length}
use Rattle.sizes.specs.Sizes.{WORDS, BLOCKS}
use Rattle.graph_rows.specs.declared.Row.{Row}

abbrev pub bits_of : Row → List ℕ
bits_of r = r.bits

abbrev pub row_of : List ℕ → Row
row_of w = record { bits = w }

-- the words of each row
unfoldable pub words_of : List Row → List (List ℕ)
words_of rows = map bits_of rows

-- a row for each place's words
unfoldable pub rows_of : List (List ℕ) → List Row
rows_of words = map row_of words

-- two words a place, which the types say of an array in code
abbrev pub Paired : List (List ℕ) → Type 0
Paired words = (x : ℕ) → x < BLOCKS → length (get_or words x []) ≡ WORDS
