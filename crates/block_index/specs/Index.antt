-- Slots beside a table of blocks. Document 01, "Refusal numbers" 5 and 6: a Bk asks where two ids stand.
use Rattle.std.specs.Prelude.{List, ◌≢◌, ◌≡◌, ℕ, zero, suc, ◌*◌, ◌/◌, ◌%◌, ◌≤◌, ◌<◌, length, get_or, set, Result, Ok, Err}
use Rattle.sizes.specs.Sizes.{BLOCKS}
use Rattle.refusals.specs.declared.Refusal.{Refusal}

-- the slot of an id: its digits of ten bits, added up by one product
unfoldable pub slot : ℕ → ℕ
slot id = id * 1049601 / 1048576 % 1024

-- the place in an id's slot
abbrev pub held : List ℕ → ℕ → ℕ
held slots id = get_or slots (slot id) 0

-- an id's slot holds a used place, that of an id with this slot, and the first of that id
pub record Slotted (ids slots : List ℕ) (count id : ℕ) : Type 0 where
  pub inside : held slots id < count
  pub alike : slot (get_or ids (held slots id) 0) ≡ slot id
  pub first : (j : ℕ) → j < held slots id → get_or ids j 0 ≢ get_or ids (held slots id) 0

pub record Indexed (ids slots : List ℕ) (count : ℕ) : Type 0 where
  pub few : count ≤ BLOCKS
  pub ids_size : length ids ≡ BLOCKS
  pub slots_size : length slots ≡ 1024
  pub used : (k : ℕ) → k < count → Slotted ids slots count (get_or ids k 0)

-- the slots of the first n places, set from the last to the first
unfoldable pub indexed : List ℕ → ℕ → List ℕ → List ℕ
indexed ids zero slots = slots
indexed ids (suc n) slots = indexed ids n (set slots (slot (get_or ids n 0)) n)

-- the slots after an answer
abbrev pub marked : List ℕ → ℕ → Result ℕ Refusal → List ℕ
marked slots id (Ok k) = set slots (slot id) k
marked slots id (Err n) = slots
