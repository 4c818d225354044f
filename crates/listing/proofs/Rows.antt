-- Records one after the other, and the loop that writes each into the part of a buffer that remains.
use mathlib.Core.List.{List, [], ◌∷◌, ◌++◌, append_assoc, append-nil}
use mathlib.Core.Path.{◌≡◌, refl, sym, ap, ◌∙◌}
use Prim.Native.Nat.{ℕ, ◌+◌, ◌-◌, ◌*◌, ◌≤◌, ◌<◌}
use native.Mathlib.Numerals.{add-one}
use native.Mathlib.Omega.{arith}
use lib.ListN.{get_or, length, take, drop, length-append, length-drop, drop_of_length-le}
use lib.Seq.{take_all, take_at, drop-drop, drop-append-add}
use borrow.Author.Tests.{lt-ltb, le-ltb}
use Rattle.loops.specs.Listing.{front}
use Rattle.loops.proofs.Listings.{length_front}
use Rattle.layouts.specs.Layout.{index_place, entry_index}
use Rattle.context.specs.declared.Phase.{Phase}
use Rattle.context.specs.Votes.{phase_at}
use Rattle.nodes.specs.Nodes.{col}
use Rattle.tracker.specs.declared.Votes.{Votes}
use Rattle.tracker.specs.declared.Pair.{Pair}
use Rattle.records.specs.Bytes.{vote_bytes}
use Rattle.records.proofs.Bytes.{length_vote}
use Rattle.listing.specs.Written.{phase_of, voter_of, pair_of, record_of, in_a_row, written}
use Rattle.std.specs.Prelude.{Ok, Err}
use Rattle.refusals.specs.declared.Refusal.TheVariants.{ShortBuffer}

module _ (f : ℕ → List ℕ) where
  pub row_append : (a b : List ℕ) → in_a_row f (a ++ b) ≡ in_a_row f a ++ in_a_row f b
  unfolding in_a_row
  row_append [] b = refl
  row_append (x ∷ a) b = ap (λ (l : List ℕ). f x ++ l) (row_append a b) ∙ sym (append_assoc (f x) (in_a_row f a) (in_a_row f b))

  pub row_one : (x : ℕ) → in_a_row f (x ∷ []) ≡ f x
  unfolding in_a_row
  row_one x = append-nil (f x)

  -- one record more
  pub row_next : (k : ℕ) (xs : List ℕ) → in_a_row f (front (k + 1) xs) ≡ in_a_row f (front k xs) ++ f (get_or xs k 0)
  unfolding front
  row_next k xs = rw add-one (row_append (front k xs) (get_or xs k 0 ∷ []) ∙ ap (λ (l : List ℕ). in_a_row f (front k xs) ++ l) (row_one (get_or xs k 0)))

  module _ (size : (e : ℕ) → length (f e) ≡ 22) where
    pub row_length : (es : List ℕ) → length (in_a_row f es) ≡ 22 * length es
    unfolding in_a_row
    row_length [] = refl
    row_length (e ∷ es) = omega (arith, length-append (f e) (in_a_row f es), size e, row_length es)

-- a record written into the part that remains
pub from_part : (out row : List ℕ) (used : ℕ)
    → take used out ++ ((row ++ drop 22 (take (length out - used) (drop used out))) ++ drop (length out - used) (drop used out))
    ≡ take used out ++ (row ++ drop (used + 22) out)
from_part out row used =
    let n : length (drop used out) ≤ length out - used = omega (arith, length-drop used out) in
    rw (take_all (length out - used) (drop used out) n, drop_of_length-le (drop used out) n, drop-drop 22 used out, append-nil (row ++ drop (used + 22) out))

-- what k turns have made of a buffer
pub record Filled (f : ℕ → List ℕ) (xs old : List ℕ) (k : ℕ) (out : List ℕ) (used : ℕ) : Type 0 where
  pub used_is : used ≡ 22 * k
  pub size : length out ≡ length old
  pub bytes_are : out ≡ in_a_row f (front k xs) ++ drop used old

pub filled_none : (f : ℕ → List ℕ) (xs old : List ℕ) → Filled f xs old 0 old 0
unfolding front in_a_row
filled_none f xs old = record { used_is = refl; size = refl; bytes_are = refl }

pub filled_next : (f : ℕ → List ℕ) (sizes : (e : ℕ) → length (f e) ≡ 22) (xs old : List ℕ) (k : ℕ) (out : List ℕ) (used : ℕ)
    → Filled f xs old k out used → used + 22 ≤ length old
    → (part : List ℕ) → part ≡ f (get_or xs k 0) ++ drop 22 (take (length out - used) (drop used out))
    → Filled f xs old (k + 1) (take used out ++ (part ++ drop (length out - used) (drop used out))) (used + 22)
filled_next f sizes xs old k out used h room part e =
    record {
      used_is = omega (arith, h.used_is);
      size =
          rw whole
          (omega (
            arith,
            length-append (in_a_row f (front (k + 1) xs)) (drop (used + 22) old),
            row_length f sizes (front (k + 1) xs),
            length_front (k + 1) xs,
            length-drop (used + 22) old,
            h.used_is,
          ));
      bytes_are = whole;
    }
  where
    head : List ℕ
    head = in_a_row f (front k xs)

    long : length head ≡ used
    long = row_length f sizes (front k xs) ∙ ap (λ (n : ℕ). 22 * n) (length_front k xs) ∙ sym h.used_is

    before : take used out ≡ head
    before = ap (take used) h.bytes_are ∙ take_at head (drop used old) used long

    after : drop (used + 22) out ≡ drop (used + 22) old
    after =
        ap (drop (used + 22)) h.bytes_are
        ∙ ap (λ (n : ℕ). drop (n + 22) (head ++ drop used old)) (sym long)
        ∙ drop-append-add head (drop used old) 22
        ∙ drop-drop 22 used old

    middle : take used out ++ (f (get_or xs k 0) ++ drop (used + 22) out) ≡ (head ++ f (get_or xs k 0)) ++ drop (used + 22) old
    middle = rw (before, after) (sym (append_assoc head (f (get_or xs k 0)) (drop (used + 22) old)))

    whole : take used out ++ (part ++ drop (length out - used) (drop used out)) ≡ in_a_row f (front (k + 1) xs) ++ drop (used + 22) old
    whole =
        rw e
        (from_part out (f (get_or xs k 0)) used ∙ middle ∙ ap (λ (l : List ℕ). l ++ drop (used + 22) old) (sym (row_next f k xs)))

pub filled_end : (f : ℕ → List ℕ) (xs old : List ℕ) (n k : ℕ) (out : List ℕ) (used : ℕ) → Filled f xs old k out used → k ≡ n
    → 22 * n ≤ length old → record { answer = Ok used; bytes = out } ≡ written f (front n xs) old
unfolding written
filled_end f xs old n k out used h e room =
    rw (length_front n xs, le-ltb _ _ room, h.bytes_are, h.used_is, e)

pub filled_not : (f : ℕ → List ℕ) (xs old : List ℕ) (n : ℕ) → length old < 22 * n
    → record { answer = Err ShortBuffer; bytes = old } ≡ written f (front n xs) old
unfolding written
filled_not f xs old n short = rw (length_front n xs, lt-ltb _ _ short)

-- the record of an entry
module _ (v : Votes) (voters ids numbers : List ℕ) where
  pub record_size : (e : ℕ) → length (record_of v voters ids numbers e) ≡ 22
  unfolding record_of
  record_size e = length_vote (phase_of e) (col voters (voter_of e)) (pair_of v ids numbers e)

  pub record_is : (e at place : ℕ) (phase : Phase) (pair : Pair) → at ≡ entry_index e → place ≡ index_place at → phase ≡ phase_at at
      → pair ≡ pair_of v ids numbers e → vote_bytes phase (col voters place) pair ≡ record_of v voters ids numbers e
  unfolding record_of
  record_is e at place phase pair a b d q = rw (d, q, b, a)
