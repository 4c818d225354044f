-- How many nodes the search over heads finds.
use mathlib.Core.List.{List, [], ◌∷◌, ◌++◌}
use mathlib.Core.Path.{◌≡◌}
use Prim.Native.Nat.{ℕ, suc, ◌+◌, ◌≤◌}
use native.Mathlib.Omega.{arith}
use lib.Dec.{eqb}
use lib.ListN.{length, length-append}
use Rattle.loops.specs.Listing.{times, fold}
use Rattle.loops.proofs.Tests.{by_test}
use Rattle.graph.specs.Search.{note}
use Rattle.nodes.specs.declared.Places.{Places}
use Rattle.nodes.specs.Nodes.{placed, found, held}
use Rattle.nodes.proofs.Lists.{placed_count}

-- the search finds at most a node a head
noted : (x : ℕ) (l : List ℕ) → length (note x l) ≤ suc (length l)
unfolding note
noted x l =
    by_test (λ (m : List ℕ). length m ≤ suc (length l)) (eqb x 0) l _ (λ e. omega arith)
    (λ e. by_test (λ (m : List ℕ). length m ≤ suc (length l)) (eqb (times x l) 0) (l ++ (x ∷ [])) l (λ f. omega (arith, length-append l (x ∷ []))) (λ f. omega arith))

noted_all : (f : ℕ → ℕ) (hs l : List ℕ) → length (fold (λ h l. note (f h) l) hs l) ≤ length l + length hs
unfolding fold
noted_all f [] l = omega arith
noted_all f (h ∷ hs) l = omega (arith, noted_all f hs (note (f h) l), noted (f h) l)

pub found_few : (up above : ℕ → ℕ) (heads : List ℕ) (b : ℕ) (m : Places) → m ≡ placed (found up above heads b) → m.count ≤ length heads
unfolding found
found_few up above heads b m e = omega (arith, placed_count m _ e, noted_all (held up above b) heads [])
