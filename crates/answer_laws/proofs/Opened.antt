-- A round just opened is faithful: nothing is recorded, and the base is the only node.
use mathlib.Core.Bool.{false}
use mathlib.Core.List.{List, []}
use mathlib.Core.Path.{◌≡◌, refl, sym, ap, ◌∙◌}
use mathlib.Core.Logic.{◌≢◌}
use Prim.Native.Nat.{ℕ, ◌≤◌, ◌<◌}
use native.Mathlib.Omega.{arith}
use lib.Dec.{T}
use lib.ListN.{length, replicate, get_or-replicate}
use Rattle.sizes.specs.Sizes.{WORDS, BLOCKS}
use Rattle.loops.specs.Listing.{times, front}
use Rattle.loops.proofs.Listings.{times_none}
use Rattle.loops.proofs.Sums.{weigh_none}
use Rattle.weights.specs.Weights.{most}
use Rattle.grandpa.specs.Tree.{Tabled}
use Rattle.grandpa.specs.Vote.{silent}
use Rattle.voter_set.specs.declared.VoterSet.{VoterSet}
use Rattle.voter_set.specs.Good.{Good}
use Rattle.bitfield.specs.Bits.{has}
use Rattle.bitfield.proofs.Sets.{has_none}
use Rattle.graph.specs.Shape.{Nodes, Shape}
use Rattle.nodes.specs.Nodes.{col, flag, row}
use Rattle.nodes.specs.Columns.{view}
use Rattle.vote_insert.specs.Insert.{opened}
use Rattle.vote_insert.proofs.Opens.{sound_opened}
use Rattle.answers.specs.Update.{no_heard}
use Rattle.answer_laws.specs.Faithful.{Setting, table, voters, Faithful}

module _ (set : VoterSet) (parents ids numbers : List ℕ) (count base : ℕ) where
  abbrev pub opening : Setting
  opening =
      record {
        set = set;
        parents = parents;
        ids = ids;
        numbers = numbers;
        count = count;
        base = base;
        graph = opened base;
        equivocations = replicate WORDS 0;
        heard = no_heard;
        cast = λ j. silent;
      }

  module _ (good : Good set) (fits : set.total ≤ most) (tabled : Tabled (table opening)) (in_table : base < count) (small : count ≤ BLOCKS) where
    nodes : Nodes (col parents) (col ids) base count (view (opened base)).used (view (opened base)).order (view (opened base)).heads
    nodes = (sound_opened parents ids tabled.falls base count in_table small).nodes

    no_bit : (x : ℕ) → x < BLOCKS → row (opened base).rows x ≡ replicate WORDS 0
    unfolding opened
    no_bit x h = get_or-replicate BLOCKS x (replicate WORDS 0) [] h

    -- no other node is listed
    alone : (x : ℕ) → T (flag (opened base).used x) → x ≢ base → ⊥
    alone x u n = omega (arith, nodes.listed x u n, unlisted)
      where
        unlisted : times x (view (opened base)).order ≡ 0
        unlisted = unfold opened in unfold front in times_none x

    shape : Shape (col parents) (col ids) base count (λ j. silent) (view (opened base))
    shape =
        record {
          nodes = nodes;
          rows =
              record {
                words = λ x u. ap length (no_bit x (omega (arith, nodes.tabled x u)));
                told = λ x u j. ap (λ (b : List ℕ). has b j) (no_bit x (omega (arith, nodes.tabled x u))) ∙ has_none WORDS j;
              };
          voted = record { target_used = λ j x t. absurd t };
        }

    pub opened_faithful : Faithful opening
    opened_faithful =
        record {
          good = good;
          fits = fits;
          tabled = tabled;
          small = small;
          shape = shape;
          only = λ x u n. absurd (alone x u n);
          no_voter = λ phase p h. refl;
          two_words = refl;
          doubled = λ j. has_none WORDS j;
          prevotes_heard = sym (weigh_none set.count (voters opening).weight (λ p. false) (λ i h s. s));
          precommits_heard = sym (weigh_none set.count (voters opening).weight (λ p. false) (λ i h s. s));
        }
