-- The sizes of a round, by the names that the code has for them. Document 01, "Sizes".
use Rattle.std.specs.Prelude.{ℕ, ◌*◌}

abbrev pub WORD : ℕ
WORD = 64

abbrev pub PHASE_WORDS : ℕ
PHASE_WORDS = 1

abbrev pub WORDS : ℕ
WORDS = 2 * PHASE_WORDS

abbrev pub VOTERS : ℕ
VOTERS = WORD * PHASE_WORDS

abbrev pub VOTES : ℕ
VOTES = 2 * VOTERS

abbrev pub HISTORY : ℕ
HISTORY = 2 * VOTES

abbrev pub PAIRS : ℕ
PAIRS = 256

abbrev pub BLOCKS : ℕ
BLOCKS = 256
