-- The searches of vote_graph.rs: `find_ancestor`, and `find_ghost` with its merge point. A condition is a question about
-- joined bits. Document 01, "The four answers": above F the Rust's child order and stored start decide.
use Rattle.std.specs.Prelude.{Bool, cond, not, ◌&&◌, List, [], ◌∷◌, ◌++◌, ℕ, zero, suc, eqb, Option, Some, None}
use Rattle.sizes.specs.Sizes.{BLOCKS}
use Rattle.loops.specs.Listing.{keep}
use Rattle.grandpa.specs.Tree.{below}
use Rattle.grandpa.specs.Answers.{first_of}
use Rattle.graph.specs.Search.{containing, until, nearest}
use Rattle.graph.specs.Graph.{Graph, join_of, tally, children}

-- a block is in the graph: it has a node, or a node's edge holds it
abbrev pub is_nil : List ℕ → Bool
is_nil [] = Bool.true
is_nil (x ∷ xs) = Bool.false

-- the first block from b towards the base whose bits pass; none where b is not in the graph
unfoldable pub find_ancestor : (ℕ → ℕ) → Graph → ℕ → (List ℕ → Bool) → ℕ → Option ℕ
find_ancestor up g base ok b =
    cond (not (g.used b) && is_nil (containing up g.used g.heads b)) None (first_of up (λ x. ok (tally up g x)) base b)

-- n is strictly below b
abbrev pub under : (ℕ → ℕ) → ℕ → ℕ → Bool
under up b n = below up b n && not (eqb n b)

-- the child of b towards a block strictly below it
unfoldable pub towards : (ℕ → ℕ) → ℕ → ℕ → ℕ
towards up b n = until up (λ x. eqb (up x) b) n n

-- the first node that passes, or 0: place 0 is no child
unfoldable pub first_in : (ℕ → Bool) → List ℕ → ℕ
first_in p [] = 0
first_in p (x ∷ xs) = cond (p x) x (first_in p xs)

-- the first child of b, in which a second node meets those seen before it, whose joined bits pass, or 0. A node that is
-- that child itself has been asked already.
unfoldable pub meets : (ℕ → ℕ) → (ℕ → List ℕ) → (List ℕ → Bool) → ℕ → List ℕ → List ℕ → ℕ
meets up bits ok b seen [] = 0
meets up bits ok b seen (n ∷ ns) =
    let c = towards up b n in
    let same = keep (λ s. eqb (towards up b s) c) seen in
    let on = meets up bits ok b (seen ++ (n ∷ [])) ns in
    cond (eqb n c) (meets up bits ok b seen ns)
    (cond (is_nil same) on (cond (ok (join_of bits (same ++ (n ∷ [])))) c on))

-- `ghost_find_merge_point`: from b down the blocks in which nodes meet, while their joined bits pass
unfoldable pub merge : (ℕ → ℕ) → (ℕ → List ℕ) → (List ℕ → Bool) → ℕ → ℕ → List ℕ → ℕ
merge up bits ok zero b ns = b
merge up bits ok (suc f) b ns =
    let c = meets up bits ok b [] ns in
    cond (eqb c 0) b (merge up bits ok f c (keep (under up c) ns))

-- from b, with the nodes that follow it, down the nodes that pass, and then to the merge point
unfoldable pub settle : (ℕ → ℕ) → Graph → (List ℕ → Bool) → ℕ → ℕ → List ℕ → ℕ
settle up g ok zero b ns = b
settle up g ok (suc f) b ns =
    let c = first_in (λ n. ok (g.bits n)) ns in
    cond (eqb c 0) (merge up g.bits ok BLOCKS b ns) (settle up g ok f c (children up g c))

-- the nodes that follow a block: below it, with no node between
unfoldable pub following : (ℕ → ℕ) → Graph → ℕ → List ℕ
following up g b = keep (under up b) (children up g (nearest up g.used b))

-- where `find_ghost` ends from a block that passes
abbrev pub descend : (ℕ → ℕ) → Graph → (List ℕ → Bool) → ℕ → ℕ
descend up g ok b = settle up g ok BLOCKS b (following up g b)

-- `find_ghost` from a block: none where the block does not pass
unfoldable pub find_ghost : (ℕ → ℕ) → Graph → (List ℕ → Bool) → ℕ → Option ℕ
find_ghost up g ok b = cond (ok (tally up g b)) (Some (descend up g ok b)) None
