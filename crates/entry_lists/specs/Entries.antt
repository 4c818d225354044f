-- Entries of history in a column. Document 01, "Sizes": history holds at most 4 entries a voter.
use Rattle.std.specs.Prelude.{List, ℕ, ◌<◌, length, get_or}
use Rattle.sizes.specs.Sizes.{HISTORY}
use Rattle.columns.specs.Lists.{padded}
use Rattle.entry_lists.specs.declared.Entries.{Entries}

-- a list of entries as the code holds it
unfoldable pub entered : List ℕ → Entries
entered l = record { entries = padded HISTORY l; count = length l }

-- the first n of a column are entries of history
abbrev pub Fit : List ℕ → ℕ → Type 0
Fit entries n = (k : ℕ) → k < n → get_or entries k 0 < HISTORY
