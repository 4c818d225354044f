-- The shape rules that tie the recorded votes to what is kept beside them, as a test. Document 01, "Shape rules": counts within
-- sizes; vote-nodes are the base and the targets of first votes, one each and no others; history one entry for each recorded
-- pair; node bits (first votes only) and equivocator bits as the recorded votes say; unused places 0. Index j of the columns
-- of votes is the bit of its voter and phase.
use Rattle.std.specs.Prelude.{Bool, not, ◌&&◌, ◌||◌, List, [], ◌∷◌, ◌++◌, ℕ, zero, suc, eqb, leb, ltb}
use Rattle.sizes.specs.Sizes.{VOTES, HISTORY, BLOCKS}
use Rattle.layouts.specs.Layout.{index_place}
use Rattle.loops.specs.All.{all, any}
use Rattle.nodes.specs.Nodes.{col, flag}
use Rattle.lists.specs.Laid.{laid}
use Rattle.vote_bits.specs.Told.{aims, told, doubled}
use Rattle.tracker.specs.declared.Votes.{Votes}
use Rattle.tracker.specs.Recorded.{paired}

-- no, one or two pairs, and none of a voter past the last
abbrev pub counted : ℕ → ℕ → ℕ → Bool
counted size j n = leb n 2 && (ltb (index_place j) size || eqb n 0)

-- with no first pair its places are 0
abbrev pub first_clear : ℕ → ℕ → ℕ → Bool
first_clear n place signature = ltb 0 n || (eqb place 0 && eqb signature 0)

-- with no second pair its places are 0
abbrev pub second_clear : ℕ → ℕ → ℕ → ℕ → Bool
second_clear n target number second = ltb 1 n || (eqb target 0 && (eqb number 0 && eqb second 0))

unfoldable pub tidy_at : ℕ → Votes → ℕ → Bool
tidy_at size v j =
    counted size j (col v.counts j)
    && (first_clear (col v.counts j) (col v.first_block j) (col v.first_signature j)
    && second_clear (col v.counts j) (col v.second_target j) (col v.second_number j) (col v.second_signature j))

unfoldable pub tidy : ℕ → Votes → Bool
tidy size v = all VOTES (tidy_at size v)

-- the places below n, those that pass a test marked
unfoldable pub marks : ℕ → (ℕ → Bool) → List Bool
marks zero p = []
marks (suc n) p = marks n p ++ (p n ∷ [])

-- x is the base or the target of a first vote
abbrev pub noted : ℕ → List ℕ → List ℕ → ℕ → Bool
noted base counts first_block x = eqb x base || any VOTES (aims counts first_block x)

-- the targets of first votes are nodes
unfoldable pub targets_used : List Bool → List ℕ → List ℕ → Bool
targets_used used counts first_block = all VOTES (λ j. leb (col counts j) 0 || flag used (col first_block j))

-- no place is a node that is not marked
unfoldable pub only_marked : List Bool → List Bool → Bool
only_marked used ms = all BLOCKS (λ x. not (flag used x) || flag ms x)

-- the nodes are the base and the targets of first votes
unfoldable pub noded : ℕ → List Bool → List ℕ → List ℕ → Bool
noded base used counts first_block =
    flag used base && (targets_used used counts first_block && only_marked used (marks BLOCKS (noted base counts first_block)))

-- the first `count` entries are the recorded pairs, once each, and the rest 0
unfoldable pub written : List ℕ → List ℕ → ℕ → Bool
written counts entries count = leb count HISTORY && laid HISTORY entries count (marks HISTORY (paired counts))

-- the whole test
unfoldable pub voted : ℕ → List ℕ → ℕ → List Bool → List (List ℕ) → Votes → List ℕ → List ℕ → ℕ → Bool
voted size parents base used rows v equivocations entries count =
    tidy size v
    && (noded base used v.counts v.first_block
    && (told parents used rows v.counts v.first_block
    && (doubled v.counts equivocations && written v.counts entries count)))
