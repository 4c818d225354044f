-- Document 01, "The four answers", and the GRANDPA paper: each answer as a relation that fixes it and as a function that
-- computes it. proofs/Answers.antt joins the two.
use Rattle.std.specs.Prelude.{Bool, true, false, cond, not, ◌&&◌, ◌||◌, ◌≡◌, ◌≢◌, ◌⊎◌, ℕ, zero, suc, ◌≤◌, ◌<◌, T, leb, ltb, eqb, Option, Some, None}
use Rattle.loops.specs.All.{all}
use Rattle.grandpa.specs.Weight.{threshold}
use Rattle.grandpa.specs.Tree.{Blocks, below, child}
use Rattle.grandpa.specs.Vote.{Vote, Voters, total, heard, weighty, noded}
use Rattle.grandpa.specs.Possible.{possible_at}

-- an answer says what a relation fixes: none where it holds of nothing
abbrev pub Says : (ℕ → Type 0) → Option ℕ → Type 0
Says P None = (x : ℕ) → P x → ⊥
Says P (Some x) = P x

-- the highest-numbered of the first n blocks that pass
pub record Highest (number : ℕ → ℕ) (ok : ℕ → Bool) (n g : ℕ) : Type 0 where
  pub tabled : g < n
  pub passes : T (ok g)
  pub highest : (b : ℕ) → b < n → T (ok b) → number b ≤ number g

abbrev pub higher : (ℕ → ℕ) → ℕ → Option ℕ → Option ℕ
higher number b None = Some b
higher number b (Some a) = cond (ltb (number a) (number b)) (Some b) (Some a)

unfoldable pub highest_of : (ℕ → ℕ) → (ℕ → Bool) → ℕ → Option ℕ
highest_of number ok zero = None
highest_of number ok (suc n) = cond (ok n) (higher number n (highest_of number ok n)) (highest_of number ok n)

-- Prevote-GHOST: once heard prevote weight reaches T, the highest-numbered block of phase weight T or more
pub record Ghost (vs : Voters) (t : Blocks) (pv : ℕ → Vote) (g : ℕ) : Type 0 where
  pub reached : threshold (total vs) ≤ heard vs pv
  pub highest : Highest t.number (weighty vs t.up pv) t.count g

unfoldable pub ghost_of : Voters → Blocks → (ℕ → Vote) → Option ℕ
ghost_of vs t pv =
    cond (leb (threshold (total vs)) (heard vs pv)) (highest_of t.number (weighty vs t.up pv) t.count) None

-- "the first block from g towards the base" that passes: each that passes on the way is at or above it
pub record First (up : ℕ → ℕ) (ok : ℕ → Bool) (base g b : ℕ) : Type 0 where
  pub inside : T (below up base b)
  pub above : T (below up b g)
  pub passes : T (ok b)
  pub nearest : (x : ℕ) → T (below up base x) → T (below up x g) → T (ok x) → T (below up x b)

unfoldable pub search_up : (ℕ → ℕ) → (ℕ → Bool) → ℕ → ℕ → ℕ → Option ℕ
search_up up ok base zero b = None
search_up up ok base (suc f) b =
    let rest = search_up up ok base f (up b) in cond (ok b) (Some b) (cond (eqb b base) None rest)

unfoldable pub first_of : (ℕ → ℕ) → (ℕ → Bool) → ℕ → ℕ → Option ℕ
first_of up ok base g = search_up up ok base (suc g) g

-- Finalized: once heard precommit weight reaches T, the first block from g towards the base with precommit weight T or more
pub record Finalized (vs : Voters) (up : ℕ → ℕ) (base : ℕ) (pc : ℕ → Vote) (g b : ℕ) : Type 0 where
  pub reached : threshold (total vs) ≤ heard vs pc
  pub first : First up (weighty vs up pc) base g b

unfoldable pub finalized_of : Voters → (ℕ → ℕ) → ℕ → (ℕ → Vote) → ℕ → Option ℕ
finalized_of vs up base pc g = cond (leb (threshold (total vs)) (heard vs pc)) (first_of up (weighty vs up pc) base g) None

-- Estimate: g while heard precommit weight is below T, else the first possible block from g towards the base
abbrev pub Estimate : Voters → (ℕ → ℕ) → ℕ → (ℕ → Vote) → ℕ → ℕ → Type 0
Estimate vs up base pc g b =
    ((heard vs pc < threshold (total vs)) × (b ≡ g))
    ⊎ ((threshold (total vs) ≤ heard vs pc) × First up (possible_at vs up pc) base g b)

unfoldable pub estimate_of : Voters → (ℕ → ℕ) → ℕ → (ℕ → Vote) → ℕ → Option ℕ
estimate_of vs up base pc g =
    cond (leb (threshold (total vs)) (heard vs pc)) (first_of up (possible_at vs up pc) base g) (Some g)

-- Completable: heard precommit weight at least T, and the estimate is not g or no child of g that is asked is possible.
-- The children that are asked are `every_child` of the table in the paper, those `with_node` at or below them in the Rust.
pub record Completable (vs : Voters) (up : ℕ → ℕ) (base : ℕ) (pc : ℕ → Vote) (ask : ℕ → Bool) (g : ℕ) : Type 0 where
  pub reached : threshold (total vs) ≤ heard vs pc
  pub estimate : ℕ
  pub first : First up (possible_at vs up pc) base g estimate
  pub settled : (estimate ≢ g) ⊎ ((k : ℕ) → T (child up g k) → T (ask k) → T (possible_at vs up pc k) → ⊥)

abbrev pub every_child : Blocks → ℕ → Bool
every_child t k = ltb k t.count

abbrev pub with_node : Voters → Blocks → (ℕ → Vote) → (ℕ → Vote) → ℕ → Bool
with_node vs t pv pc k = ltb k t.count && noded vs t.up pv pc k

abbrev pub settled_at : ℕ → Bool → Option ℕ → Bool
settled_at g childless None = false
settled_at g childless (Some e) = not (eqb e g) || childless

-- of a table of n blocks
unfoldable pub completable_of : Voters → (ℕ → ℕ) → ℕ → (ℕ → Vote) → (ℕ → Bool) → ℕ → ℕ → Bool
completable_of vs up base pc ask n g =
    leb (threshold (total vs)) (heard vs pc)
    && settled_at g (all n (λ k. not (child up g k && (ask k && possible_at vs up pc k)))) (first_of up (possible_at vs up pc) base g)

-- the four answers
pub record Told : Type 0 where
  pub ghost : Option ℕ
  pub finalized : Option ℕ
  pub estimate : Option ℕ
  pub completable : Bool

-- Before g exists, all four are none or no
unfoldable pub told_from : Voters → Blocks → ℕ → (ℕ → Vote) → (ℕ → Vote) → Option ℕ → Told
told_from vs t base pv pc None = record { ghost = None; finalized = None; estimate = None; completable = false }
told_from vs t base pv pc (Some g) =
    record {
      ghost = Some g;
      finalized = finalized_of vs t.up base pc g;
      estimate = estimate_of vs t.up base pc g;
      completable = completable_of vs t.up base pc (with_node vs t pv pc) t.count g;
    }

unfoldable pub told : Voters → Blocks → ℕ → (ℕ → Vote) → (ℕ → Vote) → Told
told vs t base pv pc = told_from vs t base pv pc (ghost_of vs t pv)
