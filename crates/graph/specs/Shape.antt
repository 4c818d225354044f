-- Document 01, "Shape rules", of the vote graph: vote-nodes are the base and the targets of first votes, one each and no
-- others; every node but the base listed once; node bits as the first votes say; heads the nodes that list none, by
-- rising id. `cast j` is what is recorded of bit j.
use Rattle.std.specs.Prelude.{Bool, cond, List, [], ◌∷◌, ◌≡◌, ◌≢◌, ℕ, ◌<◌, T, eqb, length}
use Rattle.sizes.specs.Sizes.{WORDS}
use Rattle.loops.specs.Listing.{times}
use Rattle.grandpa.specs.Tree.{below}
use Rattle.grandpa.specs.Vote.{Vote, silent, once, twice, lands}
use Rattle.bitfield.specs.Bits.{has}
use Rattle.graph.specs.Graph.{Graph, no_bits}

-- x's edge holds b: x is a node at or below b, and no other node is on the way
pub record Holds (up : ℕ → ℕ) (used : ℕ → Bool) (b x : ℕ) : Type 0 where
  pub is_node : T (used x)
  pub under : T (below up b x)
  pub alone : (y : ℕ) → T (used y) → T (below up b y) → T (below up y x) → y ≡ x

-- no node is strictly below x
abbrev pub Tip : (ℕ → ℕ) → (ℕ → Bool) → ℕ → Type 0
Tip up used x = (y : ℕ) → T (used y) → T (below up x y) → y ≡ x

-- places by rising id
abbrev pub Rising : (ℕ → ℕ) → List ℕ → Type 0
Rising ids [] = Unit {0}
Rising ids (x ∷ xs) = ((y : ℕ) → 0 < times y xs → ids x < ids y) × Rising ids xs

pub record Nodes (up ids : ℕ → ℕ) (base count : ℕ) (used : ℕ → Bool) (order heads : List ℕ) : Type 0 where
  pub base_used : T (used base)
  pub inside : (x : ℕ) → T (used x) → T (below up base x)
  pub tabled : (x : ℕ) → T (used x) → x < count
  pub listed : (x : ℕ) → T (used x) → x ≢ base → times x order ≡ 1
  pub list_only : (x : ℕ) → 0 < times x order → T (used x) × (x ≢ base)
  pub headed : (x : ℕ) → T (used x) → Tip up used x → times x heads ≡ 1
  pub head_only : (x : ℕ) → 0 < times x heads → T (used x) × Tip up used x
  pub rising : Rising ids heads

-- the target of a first vote
abbrev pub Targets : Vote → ℕ → Type 0
Targets silent x = ⊥
Targets (once t) x = t ≡ x
Targets (twice t) x = t ≡ x

-- the first vote of bit j, for t
abbrev pub with_vote : (ℕ → Vote) → ℕ → ℕ → ℕ → Vote
with_vote cast j t i = cond (eqb i j) (once t) (cast i)

pub record Bits (up : ℕ → ℕ) (cast : ℕ → Vote) (used : ℕ → Bool) (bits : ℕ → List ℕ) : Type 0 where
  pub words : (x : ℕ) → T (used x) → length (bits x) ≡ WORDS
  pub told : (x : ℕ) → T (used x) → (j : ℕ) → has (bits x) j ≡ lands up x (cast j)

pub record Voted (cast : ℕ → Vote) (used : ℕ → Bool) : Type 0 where
  pub target_used : (j x : ℕ) → Targets (cast j) x → T (used x)

-- no node but the base and the targets of first votes. It stands apart from `Shape`: no law on inserting or searching asks for it
abbrev pub UsedOnly : ℕ → (ℕ → Vote) → (ℕ → Bool) → Type 0
UsedOnly base cast used = (x : ℕ) → T (used x) → x ≢ base → (j : ℕ) × Targets (cast j) x

pub record Shape (up ids : ℕ → ℕ) (base count : ℕ) (cast : ℕ → Vote) (g : Graph) : Type 0 where
  pub nodes : Nodes up ids base count g.used g.order g.heads
  pub rows : Bits up cast g.used g.bits
  pub voted : Voted cast g.used
