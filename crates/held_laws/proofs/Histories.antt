-- History has at most four entries a voter: two pairs in each phase.
use mathlib.Core.Bool.{Bool, true, false, cond}
use mathlib.Core.List.{List, [], ◌∷◌, map}
use mathlib.Core.Path.{◌≡◌, refl, sym, ap, ◌∙◌}
use mathlib.Core.Logic.{◌≢◌}
use Prim.Native.Nat.{ℕ, suc, ◌*◌, ◌≤◌, ◌<◌}
use native.Mathlib.Decide.{ℕ_discrete, dec_lt}
use native.Mathlib.Omega.{arith}
use lib.Dec.{ltb→lt}
use lib.ListN.{length}
use Rattle.layouts.specs.Layout.{bit, place_of, phase_of, index, index_place, index_phase, entry, entry_index, entry_pair}
use Rattle.layouts.proofs.Bits.{place_bit, phase_bit, bit_inside}
use Rattle.layouts.proofs.Indices.{index_parts, index_phase_lt, index_entry, pair_entry, entry_parts, entry_pair_lt, entry_inside}
use Rattle.loops.specs.Listing.{times, front}
use Rattle.loops.proofs.Tests.{T_true}
use Rattle.loops.proofs.Listings.{times_none, times_here, times_past, length_front}
use Rattle.nodes.specs.Nodes.{col}
use Rattle.vote_insert.proofs.Keeps.{pigeon}
use Rattle.tracker.specs.Recorded.{paired}
use Rattle.importing.specs.Import.{Frame, Held}
use Rattle.held_laws.specs.Kept.{Kept}

-- entries numbered by place, whatever the run: as they would be in the alternating layout, and back
abbrev by_place : ℕ → ℕ
by_place e = entry (bit 1 (index_phase (entry_index e)) (index_place (entry_index e))) (entry_pair e)

abbrev of_place : ℕ → ℕ
of_place n = entry (index (phase_of 1 (entry_index n)) (place_of 1 (entry_index n))) (entry_pair n)

undone : (e : ℕ) → of_place (by_place e) ≡ e
undone e =
    rw (
      index_entry (bit 1 (index_phase (entry_index e)) (index_place (entry_index e))) (entry_pair e) (entry_pair_lt e),
      pair_entry (bit 1 (index_phase (entry_index e)) (index_place (entry_index e))) (entry_pair e) (entry_pair_lt e),
      phase_bit 1 (omega arith) (index_phase (entry_index e)) (index_place (entry_index e)) (index_phase_lt (entry_index e)),
      place_bit 1 (omega arith) (index_phase (entry_index e)) (index_place (entry_index e)) (index_phase_lt (entry_index e)),
      index_parts (entry_index e),
    )
    (entry_parts e)

by_place_lt : (n e : ℕ) → index_place (entry_index e) < n → by_place e < 4 * n
by_place_lt n e h =
    let b : bit 1 (index_phase (entry_index e)) (index_place (entry_index e)) < 2 * (n * 1)
    = bit_inside 1 (omega arith) n (index_phase (entry_index e)) (index_place (entry_index e)) (index_phase_lt (entry_index e)) (omega arith) in
    omega (
      arith,
      b,
      entry_inside (2 * (n * 1)) (bit 1 (index_phase (entry_index e)) (index_place (entry_index e))) (entry_pair e) (entry_pair_lt e) b,
    )

-- numbers of a list are there as often as what they number
module _ (f g : ℕ → ℕ) (back : (x : ℕ) → g (f x) ≡ x) where
  times_map : (y : ℕ) (l : List ℕ) → times y (map f l) ≤ times (g y) l
  times_map y [] = omega (arith, times_none y, times_none (g y))
  times_map y (x ∷ l) = go (ℕ_discrete (f x) y) (ℕ_discrete x (g y)) (times_map y l)
    where
      go : Dec (f x ≡ y) → Dec (x ≡ g y) → times y (map f l) ≤ times (g y) l → times y (f x ∷ map f l) ≤ times (g y) (x ∷ l)
      go (yes p) (yes q) r = rw (p, q) (omega (arith, r, times_here y (map f l), times_here (g y) l))
      go (yes p) (no q) r = absurd (q (sym (back x) ∙ ap g p))
      go (no p) (yes q) r = rw q (omega (arith, r, times_here (g y) l, times_past y (f (g y)) (map f l) (λ e. p (ap f q ∙ e))))
      go (no p) (no q) r = omega (arith, r, times_past y (f x) (map f l) p, times_past (g y) x l q)

  numbered : (y : ℕ) (l : List ℕ) → 0 < times y (map f l) → f (g y) ≡ y
  numbered y [] h = absurd (omega (arith, h, times_none y))
  numbered y (x ∷ l) h = go (ℕ_discrete (f x) y) (numbered y l)
    where
      go : Dec (f x ≡ y) → (0 < times y (map f l) → f (g y) ≡ y) → f (g y) ≡ y
      go (yes p) r = ap f (sym (ap g p) ∙ back x) ∙ p
      go (no p) r = r (omega (arith, h, times_past y (f x) (map f l) p))

  length_map : (l : List ℕ) → length (map f l) ≡ length l
  length_map [] = refl
  length_map (x ∷ l) = ap suc (length_map l)

module _ (f : Frame) (h : Held) (k : Kept f h) where
  abbrev entries : List ℕ
  entries = front h.count h.entries

  -- an entry of history is of a voter of the set, and is there once
  inside : (x : ℕ) → 0 < times x entries → (index_place (entry_index x) < f.voters.count) × (times x entries ≤ 1)
  inside x p = go (paired h.votes.counts x) refl
    where
      early : col h.votes.counts (entry_index x) ≢ 0 → Dec (index_place (entry_index x) < f.voters.count) → index_place (entry_index x) < f.voters.count
      early n (yes l) = l
      early n (no l) = absurd (n (k.recorded.tidy.none_past (entry_index x) (omega arith)))

      go : (b : Bool) → paired h.votes.counts x ≡ b → (index_place (entry_index x) < f.voters.count) × (times x entries ≤ 1)
      go true e =
          let z : times x entries ≡ 1 = k.recorded.history.each x ∙ ap (λ (b : Bool). cond b 1 0) e in
          let l = ltb→lt (entry_pair x) (col h.votes.counts (entry_index x)) (T_true e) in
          (early (λ q. omega (arith, l, q)) (dec_lt (index_place (entry_index x)) f.voters.count), omega (arith, z))
      go false e =
          let z : times x entries ≡ 0 = k.recorded.history.each x ∙ ap (λ (b : Bool). cond b 1 0) e in
          absurd (omega (arith, z, p))

  pub history_short : h.count ≤ 4 * f.voters.count
  history_short =
      omega (
        arith,
        length_front h.count h.entries,
        length_map by_place of_place undone entries,
        pigeon (4 * f.voters.count) (map by_place entries) each,
      )
    where
      each : (y : ℕ) → 0 < times y (map by_place entries) → (y < 4 * f.voters.count) × (times y (map by_place entries) ≤ 1)
      each y p =
          let m = times_map by_place of_place undone y entries in
          let i = inside (of_place y) (omega arith) in (
            omega (arith, by_place_lt f.voters.count (of_place y) i.0, numbered by_place of_place undone y entries p),
            omega (arith, m, i.1),
          )
