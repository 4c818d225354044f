-- What it means that the history is written: the recorded pairs, once each.
use mathlib.Core.Bool.{Bool, true, false, cond, ◌&&◌}
use mathlib.Core.List.{List}
use mathlib.Core.Path.{◌≡◌, sym, subst, ◌∙◌}
use Prim.Native.Nat.{ℕ, ◌≤◌, ◌<◌}
use native.Mathlib.Decide.{ℕ_discrete}
use native.Mathlib.Omega.{arith}
use lib.Dec.{T, leb, ltb, leb→le, ltb→lt}
use lib.ListN.{length, get_or}
use borrow.Author.Tests.{le-leb}
use Rattle.sizes.specs.Sizes.{VOTES, HISTORY}
use Rattle.layouts.specs.Layout.{entry_index}
use Rattle.layouts.proofs.Indices.{few_entry}
use Rattle.loops.specs.Listing.{times, front}
use Rattle.loops.proofs.Tests.{T_true, true_T, false_not, both, left_of, right_of, dec_T}
use Rattle.nodes.specs.Nodes.{col, flag}
use Rattle.lists.specs.Laid.{once_each, laid}
use Rattle.graph_shape.proofs.Marks.{in_front, Once, once_says, says_once, blank_padded, padded_blank}
use Rattle.tracker.specs.declared.Votes.{Votes}
use Rattle.tracker.specs.Recorded.{paired}
use Rattle.entry_lists.specs.Entries.{Fit}
use Rattle.vote_shape.specs.Voted.{marks, written}
use Rattle.vote_shape.proofs.Marks.{length_marks, marks_at}
use Rattle.vote_shape_laws.specs.Recorded.{Written}
use Rattle.vote_shape_laws.proofs.Casts.{spoken_in}
use Rattle.vote_shape_laws.proofs.Nodes.{marked_in}

module _ (v : Votes) (s : length v.counts ≡ VOTES) where
  -- an entry of a recorded pair is below HISTORY
  pub pair_in : (e : ℕ) → T (paired v.counts e) → e < HISTORY
  pair_in e t =
      few_entry e (spoken_in v (entry_index e) s (let l = ltb→lt _ (col v.counts (entry_index e)) t in omega arith))

  abbrev ms : List Bool
  ms = marks HISTORY (paired v.counts)

  marked_pair : (e : ℕ) → T (flag ms e) → T (paired v.counts e)
  marked_pair e t = subst T (marks_at (paired v.counts) HISTORY e (marked_in ms e (length_marks (paired v.counts) HISTORY) t)) t

  pair_marked : (e : ℕ) → T (paired v.counts e) → T (flag ms e)
  pair_marked e t = subst T (sym (marks_at (paired v.counts) HISTORY e (pair_in e t))) t

  module _ (entries : List ℕ) (count : ℕ) where
    pub written_says : length entries ≡ HISTORY → T (written v.counts entries count) → Written v entries count
    unfolding written laid
    written_says w t =
        let l = right_of (leb count HISTORY) _ t in
        let h = leb→le count HISTORY (left_of (leb count HISTORY) _ t) in
        let o = once_says HISTORY entries count ms (length_marks (paired v.counts) HISTORY) (left_of (once_each HISTORY entries count ms) _ l) in
        record {
          fits = h;
          each = λ e. each o e (dec_T (paired v.counts e)) (ℕ_discrete (times e (front count entries)) 0);
          clear = blank_padded entries HISTORY count w h (right_of (once_each HISTORY entries count ms) _ l);
        }
      where
        each : Once entries count ms → (e : ℕ) → Dec (T (paired v.counts e)) → Dec (times e (front count entries) ≡ 0)
            → times e (front count entries) ≡ cond (paired v.counts e) 1 0
        each o e (yes p) d = rw (true_T (paired v.counts e) p) (o.there e (pair_marked e p))
        each o e (no p) (yes z) = rw (false_not (paired v.counts e) p) z
        each o e (no p) (no z) = absurd (p (marked_pair e (o.only e (omega arith))))

    pub says_written : Written v entries count → T (written v.counts entries count)
    unfolding written laid
    says_written w =
        both (leb count HISTORY) _ (T_true (le-leb count HISTORY w.fits))
        (both (once_each HISTORY entries count ms) _ (says_once HISTORY entries count ms (record { there = there; only = λ x h. only x h (dec_T (paired v.counts x)) }))
        (padded_blank entries HISTORY count w.clear))
      where
        there : (x : ℕ) → T (flag ms x) → times x (front count entries) ≡ 1
        there x t = rw (true_T (paired v.counts x) (marked_pair x t)) at (w.each x)

        only : (x : ℕ) → 0 < times x (front count entries) → Dec (T (paired v.counts x)) → T (flag ms x)
        only x h (yes p) = pair_marked x p
        only x h (no p) =
            absurd (let z : times x (front count entries) ≡ 0 = (rw (false_not (paired v.counts x) p) at (w.each x)) in omega arith)

    -- and they are entries of history
    pub written_fit : Written v entries count → Fit entries count
    written_fit w k h = go (dec_T (paired v.counts (get_or entries k 0)))
      where
        go : Dec (T (paired v.counts (get_or entries k 0))) → get_or entries k 0 < HISTORY
        go (yes t) = pair_in (get_or entries k 0) t
        go (no t) =
            absurd (let z : times (get_or entries k 0) (front count entries) ≡ 0 = (rw (false_not (paired v.counts (get_or entries k 0)) t) at (w.each (get_or entries k 0))) in omega (arith, in_front entries k count h))
