-- Document 01, "Porting order", 4: weight with equivocators joined in. What the calls make of nodes, votes and equivocators.
use Rattle.std.specs.Prelude.{Bool, ◌||◌, List, ℕ, min, replicate}
use Rattle.sizes.specs.Sizes.{WORDS}
use Rattle.weights.specs.Weights.{most}
use Rattle.voter_set.specs.declared.VoterSet.{VoterSet}
use Rattle.bitfield.specs.Bits.{put, joined}
use Rattle.context.specs.declared.Phase.{Phase}
use Rattle.context.specs.declared.Vote.{Vote}
use Rattle.context.specs.declared.VoteNode.{VoteNode}
use Rattle.context.specs.declared.Context.{Context}
use Rattle.context.specs.Votes.{bit, voted}

-- the vote of the voter at a place: its bit, and where no number of the machine is as large, the largest; both lie past the
-- words, where nothing is set
abbrev pub vote : Phase → ℕ → Vote
vote phase place = record { bit = record { position = min (bit phase place) most } }

-- two words without a bit
abbrev pub none : List ℕ
none = replicate WORDS 0

abbrev pub no_votes : VoteNode
no_votes = record { bits = none }

abbrev pub with_node : VoteNode → VoteNode → VoteNode
with_node node other = record { bits = joined node.bits other.bits }

abbrev pub with_vote : VoteNode → Vote → VoteNode
with_vote node v = record { bits = put node.bits v.bit.position }

abbrev pub opened : VoterSet → Context
opened voters = record { voters = voters; equivocations = none }

abbrev pub with_equivocator : Context → Phase → ℕ → Context
with_equivocator c phase place =
    record { voters = c.voters; equivocations = put c.equivocations (vote phase place).bit.position }

-- whether the voter at a place counts for a node in a phase: it voted for it or equivocated
abbrev pub counts : Context → VoteNode → Phase → ℕ → Bool
counts c node phase place = voted node.bits phase place || voted c.equivocations phase place
