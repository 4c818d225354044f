-- A layout of votes in words is one number, its run: so many prevotes by rising place, then as many precommits, and so on. Run 1 is the
-- alternating layout of document 01, "Weights and bits"; run 64 is a word a phase, run 192 three words a phase.
use Rattle.std.specs.Prelude.{ℕ, ◌+◌, ◌*◌, ◌/◌, ◌%◌}

-- the bit of place p, in phase 0 or 1
unfoldable pub bit : ℕ → ℕ → ℕ → ℕ
bit r d p = (2 * (p / r) + d) * r + p % r

-- the place and the phase of a bit
unfoldable pub place_of : ℕ → ℕ → ℕ
place_of r j = j / r / 2 * r + j % r

unfoldable pub phase_of : ℕ → ℕ → ℕ
phase_of r j = j / r % 2

-- the run of a round's votes. Document 01, "Weights and bits": a voter at place p has bit 2p for prevote and 2p + 1 for precommit
unfoldable pub RUN : ℕ
RUN = 1

-- the index of a voter's votes in a phase, which is also its bit
unfoldable pub index : ℕ → ℕ → ℕ
index d p = bit RUN d p

-- the place and the phase of an index
unfoldable pub index_place : ℕ → ℕ
index_place j = place_of RUN j

unfoldable pub index_phase : ℕ → ℕ
index_phase j = phase_of RUN j

-- an entry of history stands for the first pair of an index, k = 0, or the second, k = 1
unfoldable pub entry : ℕ → ℕ → ℕ
entry j k = 2 * j + k

-- the index of an entry, and which of its pairs the entry is
unfoldable pub entry_index : ℕ → ℕ
entry_index e = e / 2

unfoldable pub entry_pair : ℕ → ℕ
entry_pair e = e % 2
