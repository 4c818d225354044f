-- Document 02, R-2, and document 01, "Refusal numbers" 9 and 16: for two rounds of one round number, voters, base and block table, the
-- sum of weights of voters who equivocated in precommits in either view, or have recorded precommits in both whose targets differ in id.
-- The tables are one and its ids are distinct, so that targets differ in id where they differ in place.
use Rattle.std.specs.Prelude.{Bool, cond, ◌&&◌, List, ℕ, min, eqb, length, get_or, Result, Ok, Err}
use Rattle.loops.specs.All.{all}
use Rattle.loops.specs.Sum.{weigh}
use Rattle.weights.specs.Weights.{most}
use Rattle.grandpa.specs.Vote.{Vote, silent, once, twice, Voters}
use Rattle.grandpa.specs.Views.{differ, two_views}
use Rattle.voter_set.specs.declared.VoterSet.{VoterSet}
use Rattle.blocks.specs.declared.BlockTable.{BlockTable}
use Rattle.context.specs.declared.Phase.TheVariants.{Precommit}
use Rattle.context.specs.Votes.{bit}
use Rattle.nodes.specs.Nodes.{col}
use Rattle.tracker.specs.Recorded.{cast_of, cast}
use Rattle.round.specs.declared.Round.{Round}
use Rattle.round.specs.Shape.{shaped}
use Rattle.refusals.specs.declared.Refusal.{Refusal}
use Rattle.refusals.specs.declared.Refusal.TheVariants.{Misshapen, UnlikeViews}

-- the voter of an index counts: an equivocation in either view, or targets that differ
unfoldable pub apart : List ℕ → List ℕ → List ℕ → List ℕ → ℕ → Bool
apart counts first_block others theirs j = differ (cast_of (col counts j) (col first_block j)) (cast_of (col others j) (col theirs j))

-- the same in weight, over the precommits of so many voters; weights add with saturation
unfoldable pub differing : List ℕ → List ℕ → List ℕ → List ℕ → List ℕ → ℕ → ℕ
differing counts first_block others theirs weights size =
    min (weigh size (λ p. apart counts first_block others theirs (bit Precommit p)) (λ p. get_or weights p 0)) most

-- two columns are one
unfoldable pub same : List ℕ → List ℕ → Bool
same xs ys = eqb (length xs) (length ys) && all (length xs) (λ k. eqb (get_or xs k 0) (get_or ys k 0))

unfoldable pub same_voters : VoterSet → VoterSet → Bool
same_voters a b =
    eqb a.count b.count
    && (eqb a.threshold b.threshold
    && (eqb a.total b.total && (same a.ids b.ids && same a.weights b.weights)))

unfoldable pub same_table : BlockTable → BlockTable → Bool
same_table a b =
    eqb a.count b.count
    && (same a.ids b.ids && (same a.numbers b.numbers && same a.parents b.parents))

-- one round number, base, voters and table
unfoldable pub agree : Round → Round → Bool
agree a b =
    eqb a.number b.number
    && (eqb a.graph.base b.graph.base
    && (same_voters a.context.voters b.context.voters && same_table a.table b.table))

-- a round as the definitions speak of it
abbrev pub voters : Round → Voters
voters r = record { size = r.context.voters.count; weight = λ p. get_or r.context.voters.weights p 0 }

abbrev pub precommits : Round → ℕ → Vote
precommits r p = cast r.votes (bit Precommit p)

-- a vote with its target by id
abbrev pub by_id : List ℕ → Vote → Vote
by_id ids silent = silent
by_id ids (once x) = once (col ids x)
by_id ids (twice x) = twice (col ids x)

-- the call
unfoldable pub views : Round → Round → Result ℕ Refusal
views a b =
    cond (shaped a)
    (cond (shaped b) (cond (agree a b) (Ok (two_views (voters a) (precommits a) (precommits b))) (Err UnlikeViews)) (Err Misshapen))
    (Err Misshapen)
