-- The vote graph and its steps, from vote_graph.rs without `adjust_base`. A node's bits say who voted at or below it.
use Rattle.std.specs.Prelude.{Bool, cond, not, ◌&&◌, ◌||◌, List, [], ◌∷◌, ◌++◌, ℕ, zero, suc, ltb, eqb, replicate}
use Rattle.sizes.specs.Sizes.{WORDS}
use Rattle.loops.specs.Listing.{times, keep, fold}
use Rattle.grandpa.specs.Tree.{below}
use Rattle.bitfield.specs.Bits.{put, joined}
use Rattle.graph.specs.Search.{containing, nearest}

-- which blocks have a vote-node, and its bits; all nodes but the base in the order in which they were listed under the
-- nodes above them; the nodes that list none, by rising id
pub record Graph : Type 0 where
  pub used : ℕ → Bool
  pub bits : ℕ → List ℕ
  pub order : List ℕ
  pub heads : List ℕ

abbrev pub no_bits : List ℕ
no_bits = replicate WORDS 0

-- the bits of several nodes joined
unfoldable pub join_of : (ℕ → List ℕ) → List ℕ → List ℕ
join_of bits ns = fold (λ n v. joined v (bits n)) ns no_bits

-- `cumulative_vote` of a block: a node's own, else the joined bits of the nodes whose edge holds it
unfoldable pub tally : (ℕ → ℕ) → Graph → ℕ → List ℕ
tally up g b = cond (g.used b) (g.bits b) (join_of g.bits (containing up g.used g.heads b))

-- the nodes listed under x, in order
unfoldable pub children : (ℕ → ℕ) → Graph → ℕ → List ℕ
children up g x = keep (λ n. eqb (nearest up g.used (up n)) x) g.order

-- t among places that lie by rising id
unfoldable pub enter : (ℕ → ℕ) → ℕ → List ℕ → List ℕ
enter ids t [] = t ∷ []
enter ids t (h ∷ hs) = cond (ltb (ids t) (ids h)) (t ∷ h ∷ hs) (h ∷ enter ids t hs)

-- `append` and `introduce_branch` are one: the members, which the search met in this order, leave the listing and are
-- listed under the new node, which comes last under the node above it. Append has no members.
unfoldable pub relist : ℕ → List ℕ → List ℕ → List ℕ
relist t ms order = keep (λ x. eqb (times x ms) 0) order ++ (ms ++ (t ∷ []))

-- an appended node is a head in the place of the node above it
abbrev pub rehead : (ℕ → ℕ) → ℕ → List ℕ → ℕ → List ℕ → List ℕ
rehead ids t [] above heads = enter ids t (keep (λ x. not (eqb x above)) heads)
rehead ids t (m ∷ ms) above heads = heads

unfoldable pub add_node : (ℕ → ℕ) → (ℕ → ℕ) → ℕ → Graph → Graph
add_node up ids t g =
    let ms = containing up g.used g.heads t in
    record {
      used = λ x. g.used x || eqb x t;
      bits = λ x. cond (eqb x t) (join_of g.bits ms) (g.bits x);
      order = relist t ms g.order;
      heads = rehead ids t ms (nearest up g.used (up t)) g.heads;
    }

-- bit j for t: in every node at or above t
unfoldable pub mark : (ℕ → ℕ) → ℕ → ℕ → Graph → Graph
mark up t j g =
    record {
      used = g.used;
      bits = λ x. cond (g.used x && below up x t) (put (g.bits x) j) (g.bits x);
      order = g.order;
      heads = g.heads;
    }

-- `insert`: a vote, as bit j, for block t
unfoldable pub insert : (ℕ → ℕ) → (ℕ → ℕ) → ℕ → ℕ → Graph → Graph
insert up ids t j g = mark up t j (cond (g.used t) g (add_node up ids t g))
