-- An opened round has no votes, and keeps the shape rules of the recorded votes.
use mathlib.Core.Bool.{Bool, true, false, cond, ◌&&◌}
use mathlib.Core.List.{List, []}
use mathlib.Core.Path.{◌≡◌, refl, sym, ap, subst, ◌∙◌}
use mathlib.Core.Logic.{◌≢◌}
use Prim.Native.Nat.{ℕ, zero, suc, ◌≤◌, ◌<◌}
use native.Mathlib.Decide.{ℕ_discrete}
use native.Mathlib.Omega.{arith}
use lib.Dec.{T, ltb}
use lib.ListN.{get_or, set, length, replicate, length-replicate, get_or-replicate}
use lib.Seq.{get_or-set_same, get_or-set_other}
use borrow.Author.Tests.{le-ltb}
use Rattle.sizes.specs.Sizes.{WORDS, VOTES, HISTORY, BLOCKS}
use Rattle.layouts.specs.Layout.{entry_index, entry_pair}
use Rattle.loops.specs.Listing.{times, front}
use Rattle.loops.proofs.Tests.{T_true}
use Rattle.loops.proofs.Listings.{times_none}
use Rattle.columns.specs.Lists.{padded}
use Rattle.grandpa.specs.Tree.{below}
use Rattle.grandpa.specs.Vote.{lands, equivocated}
use Rattle.bitfield.specs.Bits.{has}
use Rattle.bitfield.proofs.Sets.{has_none}
use Rattle.graph.specs.Graph.{no_bits}
use Rattle.graph.specs.Shape.{Targets}
use Rattle.nodes.specs.Nodes.{col, flag, row}
use Rattle.vote_insert.specs.Insert.{opened}
use Rattle.tracker.specs.Recorded.{cast, paired}
use Rattle.tracker.specs.Votes.{Wide, no_votes}
use Rattle.vote_shape_laws.specs.Recorded.{Tidy, Written, Recorded}
use Rattle.vote_shape_laws.proofs.Casts.{lands_cast, twice_cast, aim_cast}

blank : {A : Type 0} (x : A) (n k : ℕ) → get_or (replicate n x) k x ≡ x
blank x zero k = refl
blank x (suc n) zero = refl
blank x (suc n) (suc k) = blank x n k

pub zeros : (k : ℕ) → col (replicate VOTES 0) k ≡ 0
zeros k = blank {A = ℕ} 0 VOTES k

pub wide_opened : Wide no_votes
wide_opened =
    record { counts_size = refl; first_block_size = refl; first_signature_size = refl; second_target_size = refl; second_number_size = refl; second_signature_size = refl }

pub tidy_opened : (size : ℕ) → Tidy size no_votes
tidy_opened size =
    record {
      few = λ j. omega (arith, zeros j);
      none_past = λ j h. zeros j;
      no_first = λ j e. (zeros j, zeros j);
      no_second = λ j e. (zeros j, zeros j, zeros j);
    }

pub written_opened : Written no_votes (replicate HISTORY 0) 0
unfolding front padded
written_opened = record { fits = omega arith; each = λ e. times_none e ∙ ap (λ (b : Bool). cond b 1 0) (sym (none e)); clear = refl }
  where
    none : (e : ℕ) → paired no_votes.counts e ≡ false
    none e = le-ltb (entry_pair e) (col (replicate VOTES 0) (entry_index e)) (omega (arith, zeros (entry_index e)))

module _ (size : ℕ) (parents : List ℕ) (base : ℕ) (h : base < BLOCKS) where
  only : (x : ℕ) → T (flag (set (replicate BLOCKS false) base true) x) → x ≡ base
  only x u = go (ℕ_discrete x base)
    where
      go : Dec (x ≡ base) → x ≡ base
      go (yes e) = e
      go (no n) = absurd (subst T (get_or-set_other (replicate BLOCKS false) base x true false n ∙ blank false BLOCKS x) u)

  silent_lands : (x j : ℕ) → false ≡ lands (col parents) x (cast no_votes j)
  silent_lands x j =
      sym (lands_cast no_votes j (col parents) x
      ∙ ap (λ (b : Bool). b && below (col parents) x (col (replicate VOTES 0) j)) (le-ltb 0 (col (replicate VOTES 0) j) (omega (arith, zeros j))))

  pub recorded_opened : Recorded size parents base (opened base).used (opened base).rows no_votes no_bits (replicate HISTORY 0) 0
  unfolding opened
  recorded_opened =
      record {
        tidy = tidy_opened size;
        base_used = T_true (get_or-set_same (replicate BLOCKS false) base true false (omega (arith, length-replicate BLOCKS false)));
        nodes_voted = record { target_used = λ j x t. absurd (let a = aim_cast no_votes j x t in omega (arith, a.0, zeros j)) };
        nodes_only = λ x u n. absurd (n (only x u));
        bits = record {
          words = λ x u. ap length (bare x u);
          told = λ x u j. ap (λ (ws : List ℕ). has ws j) (bare x u) ∙ has_none WORDS j ∙ silent_lands x j;
        };
        equivocators = (refl, λ j. has_none WORDS j ∙ sym (twice_cast no_votes j ∙ le-ltb 1 (col (replicate VOTES 0) j) (omega (arith, zeros j))));
        history = written_opened;
      }
    where
      bare : (x : ℕ) → T (flag (set (replicate BLOCKS false) base true) x) → row (replicate BLOCKS no_bits) x ≡ no_bits
      bare x u = get_or-replicate BLOCKS x no_bits [] (omega (arith, only x u))
