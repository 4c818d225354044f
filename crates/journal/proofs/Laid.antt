-- A state by value: it tells what was laid into it, and the test passes exactly where it stands.
use mathlib.Core.Bool.{◌&&◌}
use mathlib.Core.Path.{◌≡◌, refl, sym, ap, subst}
use Prim.Native.Nat.{◌≤◌}
use lib.Dec.{T, leb→le, le→leb}
use Rattle.loops.proofs.Tests.{T_true, true_T, both, left_of, right_of}
use Rattle.weights.specs.Weights.{most}
use Rattle.voter_set.specs.Good.{good}
use Rattle.voter_laws.proofs.Goods.{good_means, means_good}
use Rattle.block_shape.specs.Shape.{tabled}
use Rattle.block_shape.proofs.Shapes.{tabled_shaped, shaped_tabled}
use Rattle.vote_graph.proofs.Shapes.{columns_of}
use Rattle.importing.specs.Import.{Frame, with_graph}
use Rattle.held_laws.specs.Kept.{Kept}
use Rattle.round.specs.Shape.{frame, held, shaped}
use Rattle.round.specs.Calls.{opened}
use Rattle.round_laws.specs.Fits.{Marked}
use Rattle.round_laws.proofs.Shaped.{shaped_kept, kept_shaped}
use Rattle.voting.specs.Voting.{Voting}
use Rattle.turns.specs.Turns as turns
use Rattle.turns.specs.Turns.{pairing, growing, voting}
use Rattle.turns.specs.Stands.{Stands}
use Rattle.journal.specs.declared.Turn.{Turn}
use Rattle.journal.specs.declared.Turn.TheVariants.{Voters, Blocks, Votes}
use Rattle.journal.specs.declared.Journal.{Journal}
use Rattle.journal.specs.Journal.{round_of, laid, told_by, told, unset, stands_by, stands}

pub frame_of : (v : Voting) → frame (round_of v) ≡ v.frame
unfolding round_of
frame_of v = refl

pub held_of : (v : Voting) → held (round_of v) ≡ v.held
unfolding round_of
held_of v = ap (with_graph v.held) (columns_of v.frame.base v.held.graph)

pub told_laid : (j : turns.Journal) → told (laid j) ≡ j
unfolding told opened
told_laid (pairing p) = refl
told_laid (growing v t) = refl
told_laid (voting v) = λ i. voting (record { frame = frame_of v i; held = held_of v i })

-- what the test says of a state that is handed in; that the sum of the weights is a u64 is said by its type
pub stands_told : (j : Journal) → j.round.context.voters.total ≤ most → T (stands j) → Stands Kept (told j)
unfolding stands told
stands_told j fits = go j.turn
  where
    go : (t : Turn) → T (stands_by t j) → Stands Kept (told_by t j)
    go Voters h = leb→le _ _ h
    go Blocks h =
        let r = right_of (good j.round.context.voters) (tabled j.round.table) h in
        let l = left_of (good j.round.context.voters) (tabled j.round.table) h in
        (good_means j.round.context.voters (true_T _ l), fits, tabled_shaped j.round.table r)
    go Votes h = shaped_kept j.round fits (left_of (shaped j.round) (unset j.round.history.prevoted && unset j.round.history.precommitted) h)

round_marked : (v : Voting) → Marked (round_of v)
unfolding round_of
round_marked v = record { prevoted = tt; precommitted = tt }

none_set : (v : Voting) → T (unset (round_of v).history.prevoted && unset (round_of v).history.precommitted)
unfolding round_of
none_set v = tt

-- a state that stands, by value, passes the test
pub laid_stands : (j : turns.Journal) → Stands Kept j → T (stands (laid j))
unfolding stands opened
laid_stands (pairing p) h = le→leb _ _ h
laid_stands (growing v t) h = both (good v) (tabled t) (T_true (means_good v h.0)) (shaped_tabled t h.2)
laid_stands (voting v) k =
    both (shaped (round_of v)) _
    (kept_shaped (round_of v) (subst (λ (f : Frame). Kept f (held (round_of v))) (sym (frame_of v)) (subst (Kept v.frame) (sym (held_of v)) k))
    (round_marked v))
    (none_set v)
