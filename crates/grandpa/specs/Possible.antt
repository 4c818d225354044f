-- Document 01, "The four answers": Possible(B).
use Rattle.std.specs.Prelude.{Bool, ℕ, ◌+◌, ◌-◌, min, leb}
use Rattle.grandpa.specs.declared.PossibleToPrecommit.{PossibleToPrecommit}
use Rattle.grandpa.specs.Weight.{fault, threshold}
use Rattle.grandpa.specs.Vote.{Vote, Voters, total, heard, equivocators, phase_weight}

-- with heard precommit weight c, precommit equivocators e, precommit weight w of B, every subtraction stopping at 0:
-- w + (total - c) + min (c - w) (F - e) is at least T
abbrev pub possible : ℕ → ℕ → ℕ → ℕ → Bool
possible total c e w = leb (threshold total) (w + (total - c) + min (c - w) (fault total - e))

-- of a block, by the recorded precommits
abbrev pub possible_at : Voters → (ℕ → ℕ) → (ℕ → Vote) → ℕ → Bool
possible_at vs up pc b = possible (total vs) (heard vs pc) (equivocators vs pc) (phase_weight vs up pc b)

-- the same question as the Rust asks it: what it holds is worked out once, total - T standing for F, and then asked of
-- each weight. `possible_asked` says that it is the same.
abbrev pub asked : ℕ → ℕ → ℕ → ℕ → PossibleToPrecommit
asked total t c e = record { current = c; additional = total - t - e; remaining = total - c; threshold = t }

abbrev pub enough : PossibleToPrecommit → ℕ → Bool
enough q w = leb q.threshold (w + q.remaining + min (q.current - w) q.additional)
