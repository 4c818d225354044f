-- Pairs in another order. Document 01, "Weights and bits": equal ids summed, voters placed by rising id, so that the order
-- in which pairs come is irrelevant, as the Rust says of `new`.
use Rattle.std.specs.Prelude.{List, ℕ, ◌<◌, length, get_or, set}

-- the numbers at two places change places
abbrev pub swap : ℕ → ℕ → List ℕ → List ℕ
swap i j xs = set (set xs i (get_or xs j 0)) j (get_or xs i 0)

-- two pairs change places, any number of times
pub data Reordered : List ℕ → List ℕ → List ℕ → List ℕ → Type 0 where
  as_it_is : {ids weights : List ℕ} → Reordered ids weights ids weights
  swapped : {ids weights ids' weights' : List ℕ} (i j : ℕ) → i < length ids → j < length ids
      → Reordered (swap i j ids) (swap i j weights) ids' weights' → Reordered ids weights ids' weights'
