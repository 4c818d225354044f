-- The shape by its parts: what it is for the laws of the answers and for the step, and what makes it.
use mathlib.Core.Path.{◌≡◌, refl, ap}
use mathlib.Core.Logic.{◌≢◌}
use Prim.Native.Nat.{ℕ, ◌+◌, ◌≤◌, ◌<◌}
use native.Mathlib.Omega.{arith}
use Rattle.grandpa.specs.Vote.{silent, unheard}
use Rattle.grandpa.proofs.Votes.{heard_unheard}
use Rattle.voter_laws.proofs.Goods.{total_used}
use Rattle.block_shape.specs.Shape.{Shaped}
use Rattle.context.specs.declared.Phase.{Phase}
use Rattle.context.specs.declared.Phase.TheVariants.{Prevote, Precommit}
use Rattle.context.specs.Votes.{bit}
use Rattle.context.proofs.Places.{place_bit}
use Rattle.nodes.specs.Nodes.{col}
use Rattle.nodes.specs.Columns.{Sound}
use Rattle.graph_shape.specs.Graphed.{Clear}
use Rattle.tracker.specs.declared.Votes.{Votes}
use Rattle.tracker.specs.Recorded.{cast_of, cast}
use Rattle.tracker.specs.Votes.{Wide}
use Rattle.vote_shape_laws.specs.Recorded.{Tidy, Written}
use Rattle.vote_shape_laws.proofs.Keeps.{written_room}
use Rattle.answer_laws.specs.Faithful.{voters, votes, heard_in, Faithful}
use Rattle.answer_laws.specs.Seats.{AllSeated}
use Rattle.answer_laws.proofs.Kept.{seated_in}
use Rattle.importing.specs.Import.{Frame, Held, Ready}
use Rattle.held_laws.specs.Kept.{setting, Kept}

-- no pair, no vote
pub cast_silent : (v : Votes) (j : ℕ) → col v.counts j ≡ 0 → cast v j ≡ silent
unfolding cast
cast_silent v j e = ap (λ (n : ℕ). cast_of n (col v.first_block j)) e

module _ (f : Frame) (h : Held) where
  pub kept_faithful : Kept f h → Faithful (setting f h)
  kept_faithful k =
      record {
        good = k.good;
        fits = k.fits;
        tabled = k.table.tree;
        small = k.table.few;
        shape = record { nodes = k.sound.nodes; rows = k.recorded.bits; voted = k.recorded.nodes_voted };
        only = k.recorded.nodes_only;
        no_voter = λ phase p l. cast_silent h.votes (bit phase p) (k.recorded.tidy.none_past (bit phase p) (rw (place_bit phase p) l));
        two_words = k.recorded.equivocators.0;
        doubled = k.recorded.equivocators.1;
        prevotes_heard = k.prevotes_heard;
        precommits_heard = k.precommits_heard;
      }

  pub faithful_kept : Faithful (setting f h) → Shaped f.table
      → Sound f.table.parents f.table.ids f.base f.table.count h.graph → Clear f.base h.graph → Wide h.votes
      → Tidy f.voters.count h.votes → Written h.votes h.entries h.count
      → AllSeated f.table.parents f.base f.table.count h.answers → Kept f h
  faithful_kept k table sound clear wide tidy written seated =
      record {
        good = k.good;
        fits = k.fits;
        table = table;
        sound = sound;
        clear = clear;
        wide = wide;
        recorded =
            record {
              tidy = tidy;
              base_used = sound.nodes.base_used;
              nodes_voted = k.shape.voted;
              nodes_only = k.only;
              bits = k.shape.rows;
              equivocators = (k.two_words, k.doubled);
              history = written;
            };
        prevotes_heard = k.prevotes_heard;
        precommits_heard = k.precommits_heard;
        seated = seated;
      }

  -- different places have different ids
  pub kept_apart : Kept f h → (x y : ℕ) → x < f.table.count → y < f.table.count → x ≢ y
      → col f.table.ids x ≢ col f.table.ids y
  kept_apart k x y i j n e = n (k.table.distinct (col f.table.ids y) x y (record { inside = i; named = e }) (record { inside = j; named = refl }))

  pub kept_ready : Kept f h → Ready f h
  kept_ready k =
      record {
        voters_few = k.good.few;
        sound = k.sound;
        apart = kept_apart k;
        stored = seated_in f.table.parents f.base f.table.count h.answers.prevote k.seated.prevote;
        room = written_room h.votes k.wide.counts_size h.entries h.count k.recorded.history;
      }

  -- in each phase the voters heard and the others make the whole
  pub heard_whole : Kept f h → (phase : Phase)
      → heard_in phase h.heard + unheard (voters (setting f h)) (votes (setting f h) phase) ≡ f.voters.total
  heard_whole k Prevote =
      omega (arith, k.prevotes_heard, heard_unheard (voters (setting f h)) (votes (setting f h) Prevote), total_used f.voters k.good)
  heard_whole k Precommit =
      omega (arith, k.precommits_heard, heard_unheard (voters (setting f h)) (votes (setting f h) Precommit), total_used f.voters k.good)

  -- so that no heard weight passes the largest
  pub heard_le : Kept f h → (phase : Phase) → heard_in phase h.heard ≤ f.voters.total
  heard_le k phase = omega (arith, heard_whole k phase)
