-- Document 01, "How a vote is taken" and "Sizes": what calls on one opened round can change, and what stays. The third
-- demand: nothing told is taken back.
use Rattle.std.specs.Prelude.{◌≡◌, ℕ, ◌≤◌, ◌<◌, T, Option, Some, None}
use Rattle.grandpa.specs.Tree.{Blocks, below}
use Rattle.grandpa.specs.Vote.{Vote, silent, once, twice, Voters}
use Rattle.grandpa.specs.Answers.{Told}

-- a first vote may come, then a second, and nothing more
pub data Later : Vote → Vote → Type 0 where
  any_yet : (y : Vote) → Later silent y
  the_same : (t : ℕ) → Later (once t) (once t)
  a_second : (t : ℕ) → Later (once t) (twice t)
  no_third : (t : ℕ) → Later (twice t) (twice t)

abbrev pub VotesLater : Voters → (ℕ → Vote) → (ℕ → Vote) → Type 0
VotesLater vs v w = (i : ℕ) → i < vs.size → Later (v i) (w i)

-- blocks are added and none changes
pub record Grown (s t : Blocks) : Type 0 where
  pub more : s.count ≤ t.count
  pub same_up : (k : ℕ) → k < s.count → s.up k ≡ t.up k
  pub same_number : (k : ℕ) → k < s.count → s.number k ≡ t.number k

-- a first target is in the table, at or below the base
abbrev pub Placed : Blocks → ℕ → Vote → Type 0
Placed t base silent = Unit {0}
Placed t base (once x) = (x < t.count) × T (below t.up base x)
Placed t base (twice x) = (x < t.count) × T (below t.up base x)

abbrev pub VotesPlaced : Voters → Blocks → ℕ → (ℕ → Vote) → Type 0
VotesPlaced vs t base v = (i : ℕ) → i < vs.size → Placed t base (v i)

-- a stored block is in the table, at or below the base
abbrev pub Stored : Blocks → ℕ → Option ℕ → Type 0
Stored t base None = Unit {0}
Stored t base (Some x) = (x < t.count) × T (below t.up base x)

-- a later answer is the earlier one or a descendant
abbrev pub Down : (ℕ → ℕ) → Option ℕ → Option ℕ → Type 0
Down up None y = Unit {0}
Down up (Some a) None = ⊥
Down up (Some a) (Some b) = T (below up a b)

-- an estimate lies at or below the finalized block
abbrev pub Ordered : (ℕ → ℕ) → Told → Type 0
Ordered up x = Down up x.finalized x.estimate

-- a later GHOST or finalized block is the earlier one or a descendant; where `few`, a completable round stays so and its
-- estimate stays or moves towards the base
pub record Kept (up : ℕ → ℕ) (few : Type 0) (x y : Told) : Type 0 where
  pub ghost : Down up x.ghost y.ghost
  pub finalized : Down up x.finalized y.finalized
  pub completable : few → T x.completable → T y.completable
  pub estimate : few → T x.completable → Down up y.estimate x.estimate
