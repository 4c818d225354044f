-- The entries of a phase by rising voter, and the loop that keeps those that are wanted.
use mathlib.Core.Bool.{Bool, true, false, cond, ◌&&◌}
use mathlib.Core.List.{List, [], ◌∷◌, ◌++◌, append-nil, append_assoc}
use mathlib.Core.Path.{◌≡◌, refl, sym, ap, subst, ◌∙◌}
use mathlib.Core.Logic.{◌⊎◌, inl, inr}
use Prim.Native.Nat.{ℕ, zero, suc, ◌+◌, ◌≤◌, ◌<◌}
use native.Mathlib.Decide.{ℕ_discrete}
use native.Mathlib.Numerals.{add-one}
use native.Mathlib.Omega.{arith}
use lib.Dec.{T, ltb, eqb, ltb→lt}
use lib.ListN.{length, set, replicate, length-append}
use borrow.Author.Tests.{lt-ltb, le-ltb, eq-eqb, ne_eqb}
use Rattle.sizes.specs.Sizes.{VOTERS, VOTES, HISTORY}
use Rattle.layouts.specs.Layout.{entry, entry_index, entry_pair}
use Rattle.layouts.proofs.Indices.{index_entry, pair_entry, entry_parts, entry_pair_lt, few_entry}
use Rattle.loops.specs.Listing.{times, keep}
use Rattle.loops.proofs.Tests.{and_false, false_not, right_of, dec_T, le_or_lt}
use Rattle.loops.proofs.Listings.{times_append, times_none, times_keep, keep_append}
use Rattle.context.specs.declared.Phase.{Phase}
use Rattle.context.specs.Votes.{bit}
use Rattle.context.proofs.Places.{same_phase, bit_parts, bit_same, bit_few}
use Rattle.nodes.specs.Nodes.{col}
use Rattle.nodes.proofs.Lists.{length_keep}
use Rattle.entry_lists.specs.Entries.{entered}
use Rattle.entry_lists.proofs.Lists.{entered_none, entered_next, entered_count}
use Rattle.listing.specs.declared.Wanted.{Wanted}
use Rattle.listing.specs.Entries.{by_voter, suits, wants}
use Rattle.listing.specs.Written.{phase_of, voter_of}

pub length_by_voter : (phase : Phase) (n : ℕ) → length (by_voter phase n) ≡ n + n
unfolding by_voter
length_by_voter phase zero = refl
length_by_voter phase (suc n) = omega (arith, length-append (by_voter phase n) (entry (bit phase n) 0 ∷ entry (bit phase n) 1 ∷ []), length_by_voter phase n)

pub few_kept : (p : ℕ → Bool) (phase : Phase) (n : ℕ) → length (keep p (by_voter phase n)) ≤ n + n
few_kept p phase n = omega (arith, length_keep p (by_voter phase n), length_by_voter phase n)

-- an index has two entries
two_entries : (j e : ℕ) → times e (entry j 0 ∷ entry j 1 ∷ []) ≡ cond (eqb (entry_index e) j) 1 0
unfolding times
two_entries j e = go (ℕ_discrete (entry_index e) j)
  where
    own : (k : ℕ) → entry_pair e ≡ k → k < 2 → entry_index e ≡ j → cond (eqb (entry j 0) e) 1 0 + (cond (eqb (entry j 1) e) 1 0 + 0) ≡ 1
    own zero d h q =
        let a : entry j 0 ≡ e = sym (rw (q, d) at (sym (entry_parts e))) in
        rw (eq-eqb (entry j 0) e a, ne_eqb (entry j 1) e (λ r. omega (arith, sym (pair_entry j 1 (omega arith)) ∙ ap entry_pair r ∙ d)))
    own (suc zero) d h q =
        let a : entry j 1 ≡ e = sym (rw (q, d) at (sym (entry_parts e))) in
        rw (ne_eqb (entry j 0) e (λ r. omega (arith, sym (pair_entry j 0 (omega arith)) ∙ ap entry_pair r ∙ d)), eq-eqb (entry j 1) e a)
    own (suc (suc k)) d h q = absurd (omega arith)

    go : Dec (entry_index e ≡ j) → cond (eqb (entry j 0) e) 1 0 + (cond (eqb (entry j 1) e) 1 0 + 0) ≡ cond (eqb (entry_index e) j) 1 0
    go (yes q) = rw (eq-eqb (entry_index e) j q) (own (entry_pair e) refl (entry_pair_lt e) q)
    go (no n) =
        rw (
          ne_eqb (entry_index e) j n,
          ne_eqb (entry j 0) e (λ r. n (sym (ap entry_index r) ∙ index_entry j 0 (omega arith))),
          ne_eqb (entry j 1) e (λ r. n (sym (ap entry_index r) ∙ index_entry j 1 (omega arith))),
        )

-- an entry of the phase and of a voter below n is there once, and no other
pub times_by_voter : (phase : Phase) (n e : ℕ) → times e (by_voter phase n) ≡ cond (same_phase (phase_of e) phase && ltb (voter_of e) n) 1 0
unfolding by_voter
times_by_voter phase zero e = rw (le-ltb (voter_of e) 0 (omega arith), and_false (same_phase (phase_of e) phase)) (times_none e)
times_by_voter phase (suc n) e =
    times_append e (by_voter phase n) (entry (bit phase n) 0 ∷ entry (bit phase n) 1 ∷ [])
    ∙ rw (times_by_voter phase n e, two_entries (bit phase n) e, here) (split (same_phase (phase_of e) phase))
  where
    here : eqb (entry_index e) (bit phase n) ≡ (same_phase (phase_of e) phase && eqb (voter_of e) n)
    here =
        ap (λ (j : ℕ). eqb j (bit phase n)) (sym (bit_parts (entry_index e)))
        ∙ bit_same (phase_of e) phase (voter_of e) n

    split : (b : Bool) → cond (b && ltb (voter_of e) n) 1 0 + cond (b && eqb (voter_of e) n) 1 0 ≡ cond (b && ltb (voter_of e) (suc n)) 1 0
    split false = refl
    split true = go (ℕ_discrete (voter_of e) n) (le_or_lt n (voter_of e))
      where
        go : Dec (voter_of e ≡ n) → (n ≤ voter_of e) ⊎ (voter_of e < n)
            → cond (ltb (voter_of e) n) 1 0 + cond (eqb (voter_of e) n) 1 0 ≡ cond (ltb (voter_of e) (suc n)) 1 0
        go (yes q) o = rw (le-ltb (voter_of e) n (omega arith), eq-eqb (voter_of e) n q, lt-ltb (voter_of e) (suc n) (omega arith))
        go (no q) (inl h) = rw (le-ltb (voter_of e) n h, ne_eqb (voter_of e) n q, le-ltb (voter_of e) (suc n) (omega arith))
        go (no q) (inr h) = rw (lt-ltb (voter_of e) n h, ne_eqb (voter_of e) n q, lt-ltb (voter_of e) (suc n) (omega arith))

-- a list of wanted entries has each that is wanted once, and no other
pub listed_once : (p : ℕ → Bool) (phase : Phase) (n e : ℕ)
    → times e (keep p (by_voter phase n)) ≡ cond (p e) (cond (same_phase (phase_of e) phase && ltb (voter_of e) n) 1 0) 0
listed_once p phase n e = times_keep p e (by_voter phase n) ∙ ap (λ (m : ℕ). cond (p e) m 0) (times_by_voter phase n e)

-- they are entries of history
pub by_voter_in : (phase : Phase) (n e : ℕ) → n ≤ VOTERS → 0 < times e (by_voter phase n) → e < HISTORY
by_voter_in phase n e h l = go (dec_T (same_phase (phase_of e) phase && ltb (voter_of e) n))
  where
    go : Dec (T (same_phase (phase_of e) phase && ltb (voter_of e) n)) → e < HISTORY
    go (yes t) =
        let v = ltb→lt (voter_of e) n (right_of (same_phase (phase_of e) phase) _ t) in
        few_entry e (subst (λ (j : ℕ). j < VOTES) (bit_parts (entry_index e)) (bit_few (phase_of e) (voter_of e) (omega arith)))
    go (no t) =
        absurd (let z : times e (by_voter phase n) ≡ 0 = rw (false_not (same_phase (phase_of e) phase && ltb (voter_of e) n) t) at (times_by_voter phase n e) in omega arith)

-- the list that the loop has laid down: nothing at first, and always with room for two entries more
pub laid_none : (p : ℕ → Bool) (phase : Phase) → record { entries = replicate HISTORY 0; count = 0 } ≡ entered (keep p (by_voter phase 0))
unfolding keep by_voter
laid_none p phase = entered_none

pub laid_room : (p : ℕ → Bool) (phase : Phase) (k n : ℕ) (entries : List ℕ) → record { entries = entries; count = n } ≡ entered (keep p (by_voter phase k))
    → k < VOTERS → n + 2 ≤ HISTORY
laid_room p phase k n entries l h = omega (arith, entered_count (record { entries = entries; count = n }) (keep p (by_voter phase k)) l, few_kept p phase k)

-- of two numbers none is kept, the first, or both
keep_neither : (p : ℕ → Bool) (x y : ℕ) → p x ≡ false → p y ≡ false → keep p (x ∷ y ∷ []) ≡ []
unfolding keep
keep_neither p x y a b = rw (a, b)

keep_one : (p : ℕ → Bool) (x y : ℕ) → p x ≡ true → p y ≡ false → keep p (x ∷ y ∷ []) ≡ x ∷ []
unfolding keep
keep_one p x y a b = rw (a, b)

keep_both : (p : ℕ → Bool) (x y : ℕ) → p x ≡ true → p y ≡ true → keep p (x ∷ y ∷ []) ≡ x ∷ y ∷ []
unfolding keep
keep_both p x y a b = rw (a, b)

-- a turn of the loop, at the voter of place p
module _ (counts first_block parents : List ℕ) (wanted : Wanted) (phase : Phase) (p j : ℕ) (at : j ≡ bit phase p) where
  abbrev W : ℕ → Bool
  W e = wants counts first_block parents wanted e

  turn : keep W (by_voter phase (p + 1)) ≡ keep W (by_voter phase p) ++ keep W (entry j 0 ∷ entry j 1 ∷ [])
  unfolding by_voter
  turn = rw (add-one, at) (keep_append W (by_voter phase p) (entry (bit phase p) 0 ∷ entry (bit phase p) 1 ∷ []))

  wants_is : (k : ℕ) → k < 2 → W (entry j k) ≡ (ltb k (col counts j) && suits counts first_block parents wanted j)
  unfolding wants
  wants_is k h = rw (index_entry j k h, pair_entry j k h)

  neither : W (entry j 0) ≡ false → W (entry j 1) ≡ false → keep W (by_voter phase (p + 1)) ≡ keep W (by_voter phase p)
  neither a b = turn ∙ ap (λ (l : List ℕ). keep W (by_voter phase p) ++ l) (keep_neither W (entry j 0) (entry j 1) a b) ∙ append-nil (keep W (by_voter phase p))

  pub turn_silent : col counts j ≡ 0 → keep W (by_voter phase (p + 1)) ≡ keep W (by_voter phase p)
  turn_silent z =
      neither (wants_is 0 (omega arith) ∙ rw (le-ltb 0 (col counts j) (omega arith)))
      (wants_is 1 (omega arith) ∙ rw (le-ltb 1 (col counts j) (omega arith)))

  pub turn_unsuited : suits counts first_block parents wanted j ≡ false → keep W (by_voter phase (p + 1)) ≡ keep W (by_voter phase p)
  turn_unsuited s =
      neither (wants_is 0 (omega arith) ∙ rw s (and_false (ltb 0 (col counts j)))) (wants_is 1 (omega arith) ∙ rw s (and_false (ltb 1 (col counts j))))

  pub turn_single : col counts j ≡ 1 → suits counts first_block parents wanted j ≡ true
      → keep W (by_voter phase (p + 1)) ≡ keep W (by_voter phase p) ++ (entry j 0 ∷ [])
  turn_single n s =
      let a : W (entry j 0) ≡ true = wants_is 0 (omega arith) ∙ rw (s, lt-ltb 0 (col counts j) (omega arith)) in
      let b : W (entry j 1) ≡ false = wants_is 1 (omega arith) ∙ rw (le-ltb 1 (col counts j) (omega arith)) in
      turn ∙ ap (λ (l : List ℕ). keep W (by_voter phase p) ++ l) (keep_one W (entry j 0) (entry j 1) a b)

  pub turn_both : 2 ≤ col counts j → suits counts first_block parents wanted j ≡ true
      → keep W (by_voter phase (p + 1)) ≡ (keep W (by_voter phase p) ++ (entry j 0 ∷ [])) ++ (entry j 1 ∷ [])
  turn_both n s =
      let a : W (entry j 0) ≡ true = wants_is 0 (omega arith) ∙ rw (s, lt-ltb 0 (col counts j) (omega arith)) in
      let b : W (entry j 1) ≡ true = wants_is 1 (omega arith) ∙ rw (s, lt-ltb 1 (col counts j) (omega arith)) in
      turn ∙ ap (λ (l : List ℕ). keep W (by_voter phase p) ++ l) (keep_both W (entry j 0) (entry j 1) a b)
      ∙ sym (append_assoc (keep W (by_voter phase p)) (entry j 0 ∷ []) (entry j 1 ∷ []))

  module _ (entries : List ℕ) (n : ℕ) (laid : record { entries = entries; count = n } ≡ entered (keep W (by_voter phase p))) (few : p < VOTERS) where
    short : length (keep W (by_voter phase p)) + 2 ≤ HISTORY
    short = omega (arith, few_kept W phase p)

    pub laid_single : (x : ℕ) → x ≡ entry j 0 → col counts j ≡ 1 → suits counts first_block parents wanted j ≡ true
        → record { entries = set entries n x; count = n + 1 } ≡ entered (keep W (by_voter phase (p + 1)))
    laid_single x e c s =
        rw e (entered_next entries n (keep W (by_voter phase p)) (entry j 0) laid (omega (arith, short)) ∙ ap entered (sym (turn_single c s)))

    pub laid_both : (x y : ℕ) → x ≡ entry j 0 → y ≡ entry j 1 → 2 ≤ col counts j → suits counts first_block parents wanted j ≡ true
        → record { entries = set (set entries n x) (n + 1) y; count = n + 1 + 1 } ≡ entered (keep W (by_voter phase (p + 1)))
    laid_both x y e f c s =
        rw (e, f)
        (entered_next (set entries n (entry j 0)) (n + 1) (keep W (by_voter phase p) ++ (entry j 0 ∷ [])) (entry j 1)
        (entered_next entries n (keep W (by_voter phase p)) (entry j 0) laid (omega (arith, short)))
        (omega (arith, short, length-append (keep W (by_voter phase p)) (entry j 0 ∷ [])))
        ∙ ap entered (sym (turn_both c s)))
