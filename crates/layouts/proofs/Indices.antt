-- Indices of votes and entries of history, by laws that hold of any run: the layers above cite these alone.
use mathlib.Core.Path.{◌≡◌, refl, sym, ap, ◌∙◌}
use Prim.Native.Nat.{ℕ, ◌+◌, ◌*◌, ◌/◌, ◌%◌, ◌≤◌, ◌<◌}
use native.Mathlib.Omega.{arith}
use Rattle.sizes.specs.Sizes.{VOTERS, VOTES, HISTORY}
use Rattle.layouts.specs.Layout.{RUN, index, index_place, index_phase, entry, entry_index, entry_pair}
use Rattle.layouts.proofs.Bits.{phase_lt, place_bit, phase_bit, bit_parts, bit_inside, bit_outside, place_inside}

-- a run is not empty, and the voters fill whole runs
some : 0 < RUN
unfolding RUN
some = omega arith

abbrev pub Whole : ℕ → Type 0
Whole n = n ≡ n / RUN * RUN

pub voters_whole : Whole VOTERS
unfolding RUN
voters_whole = refl

-- an index has one place and one phase
pub place_index : (d p : ℕ) → d < 2 → index_place (index d p) ≡ p
unfolding index index_place
place_index d p h = place_bit RUN some d p h

pub phase_index : (d p : ℕ) → d < 2 → index_phase (index d p) ≡ d
unfolding index index_phase
phase_index d p h = phase_bit RUN some d p h

pub index_phase_lt : (j : ℕ) → index_phase j < 2
unfolding index_phase
index_phase_lt j = phase_lt RUN j

pub index_parts : (j : ℕ) → index (index_phase j) (index_place j) ≡ j
unfolding index index_place index_phase
index_parts j = bit_parts RUN some j

pub index_one : (c d p q : ℕ) → c < 2 → d < 2 → index c p ≡ index d q → (c ≡ d) × (p ≡ q)
index_one c d p q h l e = (
  sym (phase_index c p h) ∙ ap index_phase e ∙ phase_index d q l,
  sym (place_index c p h) ∙ ap index_place e ∙ place_index d q l,
)

-- of n voters in whole runs
module _ (n : ℕ) (w : Whole n) where
  pub index_inside : (d p : ℕ) → d < 2 → p < n → index d p < 2 * n
  unfolding index
  index_inside d p h l = rw w (bit_inside RUN some (n / RUN) d p h (rw (← w) l))

  pub index_outside : (d p : ℕ) → n ≤ p → 2 * n ≤ index d p
  unfolding index
  index_outside d p l = rw w (bit_outside RUN some (n / RUN) d p (rw (← w) l))

  pub place_within : (j : ℕ) → j < 2 * n → index_place j < n
  unfolding index_place
  place_within j l = rw w (place_inside RUN some (n / RUN) j (rw (← w) l))

-- of the voters of a round
pub index_few : (d p : ℕ) → d < 2 → p < VOTERS → index d p < VOTES
index_few d p h l = index_inside VOTERS voters_whole d p h l

pub index_past : (d p : ℕ) → VOTERS ≤ p → VOTES ≤ index d p
index_past d p l = index_outside VOTERS voters_whole d p l

pub place_few : (j : ℕ) → j < VOTES → index_place j < VOTERS
place_few j l = place_within VOTERS voters_whole j l

-- an entry has one index, and is the first or the second pair of it
pub index_entry : (j k : ℕ) → k < 2 → entry_index (entry j k) ≡ j
unfolding entry entry_index
index_entry j k h = omega arith

pub pair_entry : (j k : ℕ) → k < 2 → entry_pair (entry j k) ≡ k
unfolding entry entry_pair
pair_entry j k h = omega arith

pub entry_parts : (e : ℕ) → entry (entry_index e) (entry_pair e) ≡ e
unfolding entry entry_index entry_pair
entry_parts e = omega arith

pub entry_pair_lt : (e : ℕ) → entry_pair e < 2
unfolding entry_pair
entry_pair_lt e = omega arith

-- of n indices
pub entry_inside : (n j k : ℕ) → k < 2 → j < n → entry j k < 2 * n
unfolding entry
entry_inside n j k h l = omega arith

pub entry_within : (n e : ℕ) → entry_index e < n → e < 2 * n
unfolding entry_index
entry_within n e l = omega arith

pub entry_few : (j k : ℕ) → k < 2 → j < VOTES → entry j k < HISTORY
entry_few j k h l = entry_inside VOTES j k h l

pub few_entry : (e : ℕ) → entry_index e < VOTES → e < HISTORY
few_entry e l = entry_within VOTES e l
