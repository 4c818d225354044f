-- A text in a lent buffer: its bytes from a place on, all others as they were.
use Rattle.std.specs.Prelude.{List, ◌++◌, ◌≡◌, ℕ, ◌+◌, ◌≤◌, length, take, drop}

-- old at `at` holds the text, and is new; the next free place is `next`
pub record Put (old : List ℕ) (at : ℕ) (text new : List ℕ) (next : ℕ) : Type 0 where
  pub bytes_are : new ≡ take at old ++ (text ++ drop next old)
  pub next_is : next ≡ at + length text
  pub fits : next ≤ length old
