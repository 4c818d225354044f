-- The three tests of an index of the recorded votes, one after the other.
use mathlib.Core.Bool.{true, false}
use mathlib.Core.Path.{◌≡◌}
use Prim.Native.Nat.{ℕ}
use Rattle.nodes.specs.Nodes.{col}
use Rattle.tracker.specs.declared.Votes.{Votes}
use Rattle.vote_shape.specs.Voted.{counted, first_clear, second_clear, tidy_at}

module _ (size : ℕ) (v : Votes) (j : ℕ) where
  pub count_fails : counted size j (col v.counts j) ≡ false → tidy_at size v j ≡ false
  unfolding tidy_at
  count_fails e = rw e

  pub first_fails : counted size j (col v.counts j) ≡ true → first_clear (col v.counts j) (col v.first_block j) (col v.first_signature j) ≡ false
      → tidy_at size v j ≡ false
  unfolding tidy_at
  first_fails e f = rw (e, f)

  pub second_fails : counted size j (col v.counts j) ≡ true → first_clear (col v.counts j) (col v.first_block j) (col v.first_signature j) ≡ true
      → second_clear (col v.counts j) (col v.second_target j) (col v.second_number j) (col v.second_signature j) ≡ false → tidy_at size v j ≡ false
  unfolding tidy_at
  second_fails e f g = rw (e, f, g)

  pub three_pass : counted size j (col v.counts j) ≡ true → first_clear (col v.counts j) (col v.first_block j) (col v.first_signature j) ≡ true
      → second_clear (col v.counts j) (col v.second_target j) (col v.second_number j) (col v.second_signature j) ≡ true → tidy_at size v j ≡ true
  unfolding tidy_at
  three_pass e f g = rw (e, f, g)
