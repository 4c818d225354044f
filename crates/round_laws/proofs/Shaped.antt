-- The shape test of a round passes where the facts of its shape hold, and there alone.
use lib.Dec.{T}
use Rattle.loops.proofs.Tests.{T_true, true_T, both, left_of, right_of}
use Rattle.voter_set.specs.Good.{good}
use Rattle.voter_laws.proofs.Goods.{good_means, means_good}
use Rattle.block_shape.proofs.Shapes.{shaped_tabled}
use Rattle.nodes.specs.Nodes.{row}
use Rattle.vote_graph.specs.Shape.{columns, is_graph}
use Rattle.vote_graph.proofs.Shapes.{means_is_graph}
use Rattle.answer_shape.specs.Stored.{all_stored, weighed}
use Rattle.held_laws.specs.Kept.{Kept}
use Rattle.held_laws.proofs.Tested.{tested_kept, kept_tested, kept_lengths}
use Rattle.round.specs.declared.Round.{Round}
use Rattle.round.specs.Shape.{frame, held, sized, index_fits, tells_votes, shaped}
use Rattle.round.proofs.Steps.{says_sized, sized_says, graph_kept}
use Rattle.round_laws.specs.Fits.{Fits, Marked}

module _ (r : Round) where
  pub shaped_kept : Fits r → T (shaped r) → Kept (frame r) (held r)
  unfolding shaped tells_votes
  shaped_kept fits t =
      let a = right_of (is_graph r.graph r.table) _ t in
      let b = right_of (good r.context.voters) _ a in
      let c = right_of (sized (held r)) _ b in
      let d = right_of (tells_votes (frame r) (held r)) _ c in
      let e = right_of (weighed r.context.voters.weights (row (columns r.graph).rows r.graph.base) r.heard) _ d in
      let g = graph_kept r t in
      let s = sized_says r (left_of (sized (held r)) _ b) in
      tested_kept (frame r) (held r) (good_means r.context.voters (true_T _ (left_of (good r.context.voters) _ a))) fits g.table g.sound g.clear s
      (true_T _ (left_of (tells_votes (frame r) (held r)) _ c))
      (left_of (weighed r.context.voters.weights (row (columns r.graph).rows r.graph.base) r.heard) _ d)
      (left_of (all_stored r.table.parents r.table.count r.graph.base r.answers) _ e)

  pub kept_shaped : Kept (frame r) (held r) → Marked r → T (shaped r)
  unfolding shaped tells_votes
  kept_shaped k m =
      let tests = kept_tested (frame r) (held r) k in
      both (is_graph r.graph r.table) _ (means_is_graph r.graph r.table (shaped_tabled r.table k.table) k.sound k.clear)
      (both (good r.context.voters) _ (T_true (means_good r.context.voters k.good))
      (both (sized (held r)) _
      (T_true (says_sized r (kept_lengths (frame r) (held r) k)))
      (both (tells_votes (frame r) (held r)) _ (T_true tests.0)
      (both (weighed r.context.voters.weights (row (columns r.graph).rows r.graph.base) r.heard) _ tests.1
      (both (all_stored r.table.parents r.table.count r.graph.base r.answers) _ tests.2
      (both (index_fits r.history.prevoted) _ m.prevoted m.precommitted))))))

  pub shaped_marked : T (shaped r) → Marked r
  unfolding shaped
  shaped_marked t =
      let a = right_of (is_graph r.graph r.table) _ t in
      let b = right_of (good r.context.voters) _ a in
      let c = right_of (sized (held r)) _ b in
      let d = right_of (tells_votes (frame r) (held r)) _ c in
      let e = right_of (weighed r.context.voters.weights (row (columns r.graph).rows r.graph.base) r.heard) _ d in
      let f = right_of (all_stored r.table.parents r.table.count r.graph.base r.answers) _ e in
      record {
        prevoted = left_of (index_fits r.history.prevoted) _ f;
        precommitted = right_of (index_fits r.history.prevoted) _ f;
      }
