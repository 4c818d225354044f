-- The tests of the shape rules at the level of what is held: they pass where the shape is kept, and there alone.
use mathlib.Core.Bool.{Bool}
use mathlib.Core.Path.{◌≡◌, refl, sym, ap, ◌∙◌}
use Prim.Native.Nat.{ℕ, ◌≤◌}
use native.Mathlib.Omega.{arith}
use lib.Dec.{T, eqb, eqb→eq, ltb, ltb→lt}
use lib.ListN.{length}
use borrow.Author.Tests.{eq-eqb, lt-ltb}
use Rattle.sizes.specs.Sizes.{HISTORY}
use Rattle.loops.specs.Listing.{front}
use Rattle.loops.proofs.Tests.{T_true, true_T, both, left_of, right_of}
use Rattle.loops.proofs.Listings.{length_front}
use Rattle.loops.proofs.Sums.{weigh_cong}
use Rattle.columns.proofs.Padded.{length_padded}
use Rattle.weights.specs.Weights.{most}
use Rattle.grandpa.specs.Tree.{below}
use Rattle.grandpa.specs.Vote.{Vote, silent, once, twice, spoke, lands, heard}
use Rattle.voter_set.specs.Good.{Good}
use Rattle.block_shape.specs.Shape.{Shaped}
use Rattle.context.specs.declared.Phase.{Phase}
use Rattle.context.specs.declared.Phase.TheVariants.{Prevote, Precommit}
use Rattle.context.specs.Votes.{bit, voted, weight_of}
use Rattle.context.proofs.Contexts.{weight_good}
use Rattle.graph.specs.Shape.{Targets}
use Rattle.nodes.specs.Nodes.{col, row}
use Rattle.nodes.specs.Columns.{Sound}
use Rattle.graph_shape.specs.Graphed.{Clear}
use Rattle.tracker.specs.Recorded.{cast}
use Rattle.vote_shape_laws.specs.Recorded.{Recorded}
use Rattle.vote_shape_laws.proofs.Means.{voted_means, means_voted}
use Rattle.answer_shape.specs.Stored.{stored, all_stored, weighed}
use Rattle.answer_laws.specs.Faithful.{voters, votes, heard_in}
use Rattle.answer_laws.specs.Seats.{Seated, AllSeated}
use Rattle.importing.specs.Import.{Frame, Held, Lengths}
use Rattle.held_laws.specs.Kept.{setting, Kept}
use Rattle.held_laws.specs.Tested.{VotesPass, WeightsPass, BlocksPass}
use Rattle.std.specs.Prelude.{Option, Some, None}

module _ (f : Frame) (h : Held) where
  module _ (good : Good f.voters) (fits : f.voters.total ≤ most)
      (sound : Sound f.table.parents f.table.ids f.base f.table.count h.graph)
      (recorded : Recorded f.voters.count f.table.parents f.base h.graph.used h.graph.rows h.votes h.equivocations h.entries h.count) where
    -- every first target is at or below the base
    root_lands : (v : Vote) → ((x : ℕ) → Targets v x → T (below (col f.table.parents) f.base x)) → lands (col f.table.parents) f.base v ≡ spoke v
    root_lands silent in_base = refl
    root_lands (once t) in_base = true_T _ (in_base t refl)
    root_lands (twice t) in_base = true_T _ (in_base t refl)

    root_voted : (phase : Phase) (p : ℕ) → voted (row h.graph.rows f.base) phase p ≡ spoke (votes (setting f h) phase p)
    unfolding voted
    root_voted phase p =
        recorded.bits.told f.base sound.nodes.base_used (bit phase p)
        ∙ root_lands (cast h.votes (bit phase p)) (λ x t. sound.nodes.inside x (recorded.nodes_voted.target_used (bit phase p) x t))

    -- the base's node has the bits of all first votes
    pub root_heard : (phase : Phase)
        → weight_of f.voters.weights (voted (row h.graph.rows f.base) phase) ≡ heard (voters (setting f h)) (votes (setting f h) phase)
    root_heard phase = weight_good f.voters good fits _ ∙ weigh_cong f.voters.count (voters (setting f h)).weight _ _ (λ p l. root_voted phase p)

    abbrev as_bits : Phase → Bool
    as_bits phase = eqb (heard_in phase h.heard) (weight_of f.voters.weights (voted (row h.graph.rows f.base) phase))

    weighed_means : WeightsPass f h → (phase : Phase) → heard_in phase h.heard ≡ heard (voters (setting f h)) (votes (setting f h) phase)
    unfolding weighed
    weighed_means t Prevote = eqb→eq _ _ (left_of (as_bits Prevote) (as_bits Precommit) t) ∙ root_heard Prevote
    weighed_means t Precommit = eqb→eq _ _ (right_of (as_bits Prevote) (as_bits Precommit) t) ∙ root_heard Precommit

    means_weighed : h.heard.prevote ≡ heard (voters (setting f h)) (votes (setting f h) Prevote)
        → h.heard.precommit ≡ heard (voters (setting f h)) (votes (setting f h) Precommit) → WeightsPass f h
    unfolding weighed
    means_weighed a b =
        both (as_bits Prevote) (as_bits Precommit) (T_true (eq-eqb _ _ (a ∙ sym (root_heard Prevote)))) (T_true (eq-eqb _ _ (b ∙ sym (root_heard Precommit))))

  abbrev seat : Option ℕ → Type 0
  seat o = Seated f.table.parents f.base f.table.count o

  seat_means : (o : Option ℕ) → T (stored f.table.parents f.table.count f.base o) → seat o
  seat_means None t = tt
  seat_means (Some b) t = (ltb→lt b f.table.count (left_of (ltb b f.table.count) _ t), right_of (ltb b f.table.count) _ t)

  means_seat : (o : Option ℕ) → seat o → T (stored f.table.parents f.table.count f.base o)
  means_seat None s = tt
  means_seat (Some b) s = both (ltb b f.table.count) _ (T_true (lt-ltb b f.table.count s.0)) s.1

  abbrev kept_in : Option ℕ → Bool
  kept_in o = stored f.table.parents f.table.count f.base o

  stored_means : BlocksPass f h → AllSeated f.table.parents f.base f.table.count h.answers
  unfolding all_stored
  stored_means t =
      let a = right_of (kept_in h.answers.prevote) _ t in
      let b = right_of (kept_in h.answers.precommit) _ a in
      record {
        prevote = seat_means h.answers.prevote (left_of (kept_in h.answers.prevote) _ t);
        precommit = seat_means h.answers.precommit (left_of (kept_in h.answers.precommit) _ a);
        finalized = seat_means h.answers.finalized (left_of (kept_in h.answers.finalized) _ b);
        estimate = seat_means h.answers.estimate (right_of (kept_in h.answers.finalized) _ b);
      }

  means_stored : AllSeated f.table.parents f.base f.table.count h.answers → BlocksPass f h
  unfolding all_stored
  means_stored s =
      both (kept_in h.answers.prevote) _ (means_seat h.answers.prevote s.prevote)
      (both (kept_in h.answers.precommit) _ (means_seat h.answers.precommit s.precommit)
      (both (kept_in h.answers.finalized) _ (means_seat h.answers.finalized s.finalized) (means_seat h.answers.estimate s.estimate)))

  pub tested_kept : Good f.voters → f.voters.total ≤ most → Shaped f.table
      → Sound f.table.parents f.table.ids f.base f.table.count h.graph → Clear f.base h.graph → Lengths h
      → VotesPass f h → WeightsPass f h → BlocksPass f h → Kept f h
  tested_kept good fits table sound clear lengths v w b =
      let recorded = voted_means f.voters.count f.table.parents f.base h.graph.used h.graph.rows h.votes h.equivocations h.entries h.count
      lengths.wide sound.sized.used_size sound.sized.row_size lengths.words lengths.entries_size v in
      record {
        good = good;
        fits = fits;
        table = table;
        sound = sound;
        clear = clear;
        wide = lengths.wide;
        recorded = recorded;
        prevotes_heard = weighed_means good fits sound recorded w Prevote;
        precommits_heard = weighed_means good fits sound recorded w Precommit;
        seated = stored_means b;
      }

  pub kept_tested : Kept f h → VotesPass f h × WeightsPass f h × BlocksPass f h
  kept_tested k = (
    means_voted f.voters.count f.table.parents f.base h.graph.used h.graph.rows h.votes h.equivocations h.entries h.count k.wide k.recorded,
    means_weighed k.good k.fits k.sound k.recorded k.prevotes_heard k.precommits_heard,
    means_stored k.seated,
  )

  -- sizes that the types say in code
  pub kept_lengths : Kept f h → Lengths h
  kept_lengths k =
      record {
        wide = k.wide;
        entries_size =
            ap length k.recorded.history.clear
            ∙ length_padded HISTORY (front h.count h.entries) (omega (arith, length_front h.count h.entries, k.recorded.history.fits));
        words = k.recorded.equivocators.0;
      }
