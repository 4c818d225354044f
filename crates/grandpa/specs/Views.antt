-- Document 02, R-2, in place of document 01's "Two views": for two rounds of one round number, voters, base and block table, the sum of
-- weights of voters, each once, who equivocated in precommits in either view, or who have recorded precommits in both views whose targets
-- differ in id. Ids are distinct, so that targets differ in id where they differ in place. A voter silent in both adds 0, and so does
-- one that voted once in one view and is silent in the other.
use Rattle.std.specs.Prelude.{Bool, false, not, ◌||◌, ℕ, eqb}
use Rattle.loops.specs.Sum.{weigh}
use Rattle.grandpa.specs.Vote.{Vote, silent, once, twice, Voters, equivocated}

-- recorded in both views, and the first targets differ: all that document 01 looked at
abbrev pub differ_from : ℕ → Vote → Bool
differ_from s silent = false
differ_from s (once t) = not (eqb s t)
differ_from s (twice t) = not (eqb s t)

abbrev pub targets_differ : Vote → Vote → Bool
targets_differ silent y = false
targets_differ (once s) y = differ_from s y
targets_differ (twice s) y = differ_from s y

-- equivocated in either view, whatever the other has of the voter; or targets that differ
abbrev pub differ : Vote → Vote → Bool
differ x y = equivocated x || (equivocated y || targets_differ x y)

abbrev pub two_views : Voters → (ℕ → Vote) → (ℕ → Vote) → ℕ
two_views vs v w = weigh vs.size (λ i. differ (v i) (w i)) vs.weight
