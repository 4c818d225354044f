-- The test of the shape rules of the recorded votes passes exactly where they are kept.
use mathlib.Core.Bool.{Bool, true, ◌&&◌}
use mathlib.Core.List.{List}
use mathlib.Core.Path.{◌≡◌}
use Prim.Native.Nat.{ℕ, ◌<◌}
use lib.Dec.{T}
use lib.ListN.{length}
use Rattle.sizes.specs.Sizes.{WORDS, HISTORY, BLOCKS}
use Rattle.loops.proofs.Tests.{T_true, true_T, both, left_of, right_of}
use Rattle.nodes.specs.Nodes.{row}
use Rattle.tracker.specs.declared.Votes.{Votes}
use Rattle.tracker.specs.Votes.{Wide}
use Rattle.vote_bits.specs.Told.{told, doubled}
use Rattle.vote_shape.specs.Voted.{tidy, noded, written, voted}
use Rattle.vote_shape_laws.specs.Recorded.{Recorded}
use Rattle.vote_shape_laws.proofs.Tidies.{tidy_says, says_tidy}
use Rattle.vote_shape_laws.proofs.Nodes.{noded_says, says_noded, told_says, says_told, doubled_says, says_doubled}
use Rattle.vote_shape_laws.proofs.Histories.{written_says, says_written}

module _ (size : ℕ) (parents : List ℕ) (base : ℕ) (used : List Bool) (rows : List (List ℕ)) (v : Votes) (equivocations entries : List ℕ)
    (count : ℕ) where
  -- each test of the whole
  record Passed : Type 0 where
    pub tidies : T (tidy size v)
    pub nodes : T (noded base used v.counts v.first_block)
    pub tells : T (told parents used rows v.counts v.first_block)
    pub doubles : T (doubled v.counts equivocations)
    pub writes : T (written v.counts entries count)

  passed : T (voted size parents base used rows v equivocations entries count) → Passed
  unfolding voted
  passed t =
      let a = right_of (tidy size v) _ t in
      let b = right_of (noded base used v.counts v.first_block) _ a in
      let c = right_of (told parents used rows v.counts v.first_block) _ b in
      record {
        tidies = left_of (tidy size v) _ t;
        nodes = left_of (noded base used v.counts v.first_block) _ a;
        tells = left_of (told parents used rows v.counts v.first_block) _ b;
        doubles = left_of (doubled v.counts equivocations) _ c;
        writes = right_of (doubled v.counts equivocations) _ c;
      }

  passes : Passed → T (voted size parents base used rows v equivocations entries count)
  unfolding voted
  passes p =
      both (tidy size v) _ p.tidies
      (both (noded base used v.counts v.first_block) _ p.nodes
      (both (told parents used rows v.counts v.first_block) _ p.tells
      (both (doubled v.counts equivocations) _ p.doubles p.writes)))

  module _ (w : Wide v) (used_size : length used ≡ BLOCKS) (row_size : (x : ℕ) → x < BLOCKS → length (row rows x) ≡ WORDS)
      (words : length equivocations ≡ WORDS) (entries_size : length entries ≡ HISTORY) where
    recorded : Passed → Recorded size parents base used rows v equivocations entries count
    recorded p =
        let n = noded_says base used v w.counts_size used_size p.nodes in
        record {
          tidy = tidy_says size v w p.tidies;
          base_used = n.0;
          nodes_voted = n.1;
          nodes_only = n.2;
          bits = told_says parents used rows v w.counts_size used_size row_size p.tells;
          equivocators = (words, doubled_says v equivocations w.counts_size words p.doubles);
          history = written_says v w.counts_size entries count entries_size p.writes;
        }

    pub voted_means : voted size parents base used rows v equivocations entries count ≡ true
        → Recorded size parents base used rows v equivocations entries count
    voted_means e = recorded (passed (T_true e))

  pub means_voted : Wide v → Recorded size parents base used rows v equivocations entries count
      → voted size parents base used rows v equivocations entries count ≡ true
  means_voted w r =
      true_T (voted size parents base used rows v equivocations entries count)
      (passes
      (record {
        tidies = says_tidy size v r.tidy;
        nodes = says_noded base used v w.counts_size r.base_used r.nodes_voted r.nodes_only;
        tells = says_told parents used rows v r.bits;
        doubles = says_doubled v equivocations r.equivocators.1;
        writes = says_written v w.counts_size entries count r.history;
      }))
