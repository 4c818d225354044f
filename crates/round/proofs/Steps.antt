-- What the shape test gives the calls, and the ways through them.
use mathlib.Core.Bool.{Bool, true, false, cond, ◌&&◌}
use mathlib.Core.List.{List}
use mathlib.Core.Path.{◌≡◌, refl, sym, ap, subst, ◌∙◌}
use mathlib.Core.Logic.{◌≢◌}
use Prim.Native.Nat.{ℕ, ◌≤◌, ◌<◌}
use native.Mathlib.Omega.{arith}
use lib.Dec.{T, eqb, leb, ltb, eqb→eq}
use lib.ListN.{length}
use borrow.Author.Tests.{eq-eqb}
use Rattle.sizes.specs.Sizes.{VOTERS, VOTES, HISTORY, BLOCKS}
use Rattle.loops.proofs.Tests.{T_true, true_T, left_of, right_of}
use Rattle.grandpa.specs.Tree.{below}
use Rattle.voter_set.specs.Good.{Good, good}
use Rattle.voter_laws.proofs.Goods.{good_means}
use Rattle.blocks.specs.Table.{Stands}
use Rattle.context.specs.declared.Phase.{Phase}
use Rattle.context.specs.declared.Phase.TheVariants.{Prevote, Precommit}
use Rattle.nodes.specs.Nodes.{col, row, Falls}
use Rattle.graph_rows.specs.declared.Row.{Row}
use Rattle.graph_rows.specs.Rows.{words_of, rows_of}
use Rattle.vote_graph.specs.Shape.{lent, columns, is_graph}
use Rattle.vote_graph.proofs.Shapes.{Kept, is_graph_means}
use Rattle.vote_graph.proofs.Standings.{gate_falls}
use Rattle.entry_lists.specs.Entries.{Fit}
use Rattle.tracker.specs.declared.Pair.{Pair}
use Rattle.vote_shape.specs.Voted.{voted}
use Rattle.vote_shape_laws.specs.Recorded.{Recorded}
use Rattle.vote_shape_laws.proofs.Means.{voted_means}
use Rattle.vote_shape_laws.proofs.Keeps.{written_room}
use Rattle.vote_shape_laws.proofs.Histories.{written_fit}
use Rattle.answers.specs.Update.{Scene, InBase, Grounded, phase_ghost}
use Rattle.answer_shape.specs.Stored.{stored, all_stored, weighed}
use Rattle.judging.specs.declared.Verdict.{Verdict}
use Rattle.judging.specs.declared.Verdict.TheVariants as verdicts
use Rattle.importing.specs.Import.{Frame, Held, Lengths, Taken, Ready, scene, verdict, apply, import}
use Rattle.importing.proofs.Turns.{first_grounded}
use Rattle.round.specs.declared.Round.{Round}
use Rattle.round.specs.Shape.{frame, held_lent, held, sized, index_fits, tells_votes, shaped}
use Rattle.round.specs.Calls.{made, imported, sought}
use Rattle.std.specs.Prelude.{Option, Some, None, Result}
use Rattle.refusals.specs.declared.Refusal.{Refusal}
use Rattle.round.specs.declared.After.{After}
use Rattle.judging.specs.declared.ImportResult.{ImportResult}

module _ (r : Round) where
  pub says_sized : Lengths (held r) → sized (held r) ≡ true
  unfolding sized
  says_sized s =
      rw (
        eq-eqb _ VOTES s.wide.counts_size,
        eq-eqb _ VOTES s.wide.first_block_size,
        eq-eqb _ VOTES s.wide.first_signature_size,
        eq-eqb _ VOTES s.wide.second_target_size,
        eq-eqb _ VOTES s.wide.second_number_size,
        eq-eqb _ VOTES s.wide.second_signature_size,
        eq-eqb _ HISTORY s.entries_size,
        eq-eqb _ 2 s.words,
      )

  pub sized_says : T (sized (held r)) → Lengths (held r)
  unfolding sized
  sized_says t =
      let a = right_of (eqb (length r.votes.counts) VOTES) _ t in
      let b = right_of (eqb (length r.votes.first_block) VOTES) _ a in
      let c = right_of (eqb (length r.votes.first_signature) VOTES) _ b in
      let d = right_of (eqb (length r.votes.second_target) VOTES) _ c in
      let e = right_of (eqb (length r.votes.second_number) VOTES) _ d in
      let f = right_of (eqb (length r.votes.second_signature) VOTES) _ e in
      record {
        wide = record {
          counts_size = eqb→eq _ _ (left_of (eqb (length r.votes.counts) VOTES) _ t);
          first_block_size = eqb→eq _ _ (left_of (eqb (length r.votes.first_block) VOTES) _ a);
          first_signature_size = eqb→eq _ _ (left_of (eqb (length r.votes.first_signature) VOTES) _ b);
          second_target_size = eqb→eq _ _ (left_of (eqb (length r.votes.second_target) VOTES) _ c);
          second_number_size = eqb→eq _ _ (left_of (eqb (length r.votes.second_number) VOTES) _ d);
          second_signature_size = eqb→eq _ _ (left_of (eqb (length r.votes.second_signature) VOTES) _ e);
        };
        entries_size = eqb→eq _ _ (left_of (eqb (length r.history.entries) HISTORY) _ f);
        words = eqb→eq _ _ (right_of (eqb (length r.history.entries) HISTORY) _ f);
      }

  -- the test by its parts
  pub shaped_by : {a b c d e f g h : Bool} → is_graph r.graph r.table ≡ a → good r.context.voters ≡ b → sized (held r) ≡ c
      → tells_votes (frame r) (held r) ≡ d
      → weighed r.context.voters.weights (row (columns r.graph).rows r.graph.base) r.heard ≡ e
      → all_stored r.table.parents r.table.count r.graph.base r.answers ≡ f
      → index_fits r.history.prevoted ≡ g → index_fits r.history.precommitted ≡ h
      → (a && (b && (c && (d && (e && (f && (g && h))))))) ≡ shaped r
  unfolding shaped
  shaped_by p q s t u v w x = rw (p, q, s, t, u, v, w, x)

  pub votes_told : (w : List (List ℕ)) → w ≡ words_of r.graph.rows → (z : Bool)
      → z ≡ voted r.context.voters.count r.table.parents r.graph.base r.graph.used w r.votes r.context.equivocations r.history.entries r.history.count
      → (d : Bool) → z ≡ d → tells_votes (frame r) (held r) ≡ d
  unfolding tells_votes
  votes_told w e z q d p = rw (← e, ← q) p

  pub weights_told : (w : List (List ℕ)) → w ≡ words_of r.graph.rows → (x : List ℕ) → x ≡ row w r.graph.base → (z : Bool)
      → z ≡ weighed r.context.voters.weights x r.heard → (d : Bool) → z ≡ d
      → weighed r.context.voters.weights (row (columns r.graph).rows r.graph.base) r.heard ≡ d
  weights_told w e x i z q d p = rw (← e, ← i, ← q) p

  -- of a round that keeps the shape
  module _ (t : T (shaped r)) where
    passed : T (is_graph r.graph r.table) × T (good r.context.voters) × T (sized (held r)) × T (tells_votes (frame r) (held r))
        × T (all_stored r.table.parents r.table.count r.graph.base r.answers)
    unfolding shaped
    passed =
        let a = right_of (is_graph r.graph r.table) _ t in
        let b = right_of (good r.context.voters) _ a in
        let c = right_of (sized (held r)) _ b in
        let d = right_of (tells_votes (frame r) (held r)) _ c in
        let e = right_of (weighed r.context.voters.weights (row (columns r.graph).rows r.graph.base) r.heard) _ d in (
          left_of (is_graph r.graph r.table) _ t,
          left_of (good r.context.voters) _ a,
          left_of (sized (held r)) _ b,
          left_of (tells_votes (frame r) (held r)) _ c,
          left_of (all_stored r.table.parents r.table.count r.graph.base r.answers) _ e,
        )

    pub graph_kept : Kept r.graph r.table
    graph_kept = is_graph_means r.graph r.table passed.0

    pub few_blocks : r.table.count ≤ BLOCKS
    few_blocks = graph_kept.table.few

    recorded : Recorded r.context.voters.count r.table.parents r.graph.base r.graph.used (words_of r.graph.rows) r.votes
        r.context.equivocations r.history.entries r.history.count
    unfolding tells_votes
    recorded =
        let s = sized_says passed.2 in
        voted_means _ _ _ _ _ _ _ _ _ s.wide graph_kept.sound.sized.used_size graph_kept.sound.sized.row_size s.words s.entries_size
        (true_T _ passed.3)

    stored_in : (o : Option ℕ) → T (stored r.table.parents r.table.count r.graph.base o) → InBase r.table.parents r.graph.base o
    stored_in None h = tt
    stored_in (Some b) h = right_of (ltb b r.table.count) _ h

    pub prevote_in : InBase r.table.parents r.graph.base r.answers.prevote
    unfolding all_stored
    prevote_in = stored_in r.answers.prevote (left_of (stored r.table.parents r.table.count r.graph.base r.answers.prevote) _ passed.4)

    pub precommit_in : InBase r.table.parents r.graph.base r.answers.precommit
    unfolding all_stored
    precommit_in =
        let a = right_of (stored r.table.parents r.table.count r.graph.base r.answers.prevote) _ passed.4 in
        stored_in r.answers.precommit (left_of (stored r.table.parents r.table.count r.graph.base r.answers.precommit) _ a)

    pub shaped_ready : Ready (frame r) (held r)
    shaped_ready =
        record {
          voters_few = (good_means r.context.voters (true_T _ passed.1)).few;
          sound = graph_kept.sound;
          apart = λ x y h k d e.
              d (graph_kept.table.distinct (col r.table.ids y) x y (record { inside = h; named = e }) (record { inside = k; named = refl }));
          stored = prevote_in;
          room = λ j h l. written_room r.votes (sized_says passed.2).wide.counts_size r.history.entries r.history.count recorded.history j h l;
        }

    pub parents_fall : Falls r.table.parents
    parents_fall = gate_falls r.graph r.table (true_T _ passed.0)

    pub few_voters : r.context.voters.count ≤ VOTERS
    few_voters = (good_means r.context.voters (true_T _ passed.1)).few

    -- history has entries of history
    pub fit_votes : Fit r.history.entries r.history.count
    fit_votes = written_fit r.votes (sized_says passed.2).wide.counts_size r.history.entries r.history.count recorded.history

    pub few_votes : r.history.count ≤ HISTORY
    few_votes = recorded.history.fits

module _ (r : Round) (t : T (shaped r)) (w : List (List ℕ)) (e : w ≡ words_of r.graph.rows) where
  pub lent_ready : Ready (frame r) (held_lent r w)
  lent_ready = rw e (shaped_ready r t)

  pub lent_grounded : Grounded r.table.parents r.graph.base (lent r.graph w)
  lent_grounded = rw e (record { ids = r.table.ids; count = r.table.count; sound = (graph_kept r t).sound })

  pub import_done : (phase : Phase) (signer : ℕ) (p : Pair) (x : Taken) → x ≡ import (frame r) phase signer p (held_lent r w)
      → (rows : List Row) → rows ≡ rows_of x.held.graph.rows
      → ◌≡◌ {A = After (Result ImportResult Refusal)}
      (record {
        answer = x.answer;
        round = made (frame r) x.held rows r.history.prevoted r.history.precommitted;
      })
      (imported phase signer p r)
  unfolding imported
  import_done phase signer p x q rows i = rw (i, q, e)

  pub sought_done : (o : Option ℕ)
      → o ≡ phase_ghost (scene (frame r) (held_lent r w)) Precommit r.heard.precommit r.answers.precommit → o ≡ sought r
  unfolding sought
  sought_done o q = rw e at q

-- the rows keep their size over a vote
pub import_sized : (f : Frame) (h : Held) → Ready f h → (phase : Phase) (signer : ℕ) (p : Pair)
    → length (import f phase signer p h).held.graph.rows ≡ BLOCKS
unfolding import
import_sized f h ready phase signer p = go (verdict f phase signer p h) refl
  where
    go : (x : Verdict) → verdict f phase signer p h ≡ x → length (apply f phase signer p h x).held.graph.rows ≡ BLOCKS
    go (verdicts.Nothing a) e = ready.sound.sized.rows_size
    go (verdicts.First v b) e = (first_grounded f h ready phase signer p v b e _ _ refl).sound.sized.rows_size
    go (verdicts.Second v a) e = ready.sound.sized.rows_size
