-- Document 01, case J and its variants in "Numbers to hold it to", computed from the definitions; and a round above the
-- fault weight, in which the estimate moves away from the base and a completable round stops being so.
use mathlib.Core.Bool.{Bool, true, false}
use mathlib.Core.List.{List, [], ◌∷◌}
use mathlib.Core.Path.{◌≡◌, refl}
use Prim.Native.Nat.{ℕ}
use lib.ListN.{get_or, length}
use Rattle.loops.specs.All.{all, any}
use Rattle.loops.specs.Sum.{sum}
use Rattle.grandpa.specs.Tree.{Blocks, within, below}
use Rattle.grandpa.specs.Vote.{Vote, silent, once, twice, Voters}
use Rattle.grandpa.specs.Answers.{Told, told, told_from, ghost_of, highest_of, first_of, search_up, finalized_of, estimate_of, completable_of}
use Rattle.std.specs.Prelude.{Option, Some, None}

-- blocks by their parents and numbers, votes by voter
abbrev blocks : List ℕ → List ℕ → Blocks
blocks ups numbers = record { count = length ups; up = λ k. get_or ups k 0; number = λ k. get_or numbers k 0 }

abbrev votes : List Vote → ℕ → Vote
votes l i = get_or l i silent

-- four voters of weight 1: F is 1, T is 3
abbrev four : Voters
four = record { size = 4; weight = λ i. 1 }

-- 10 at place 0; 11 under it; 12 and 13 under 11, at places 2 and 3
abbrev tree_j : Blocks
tree_j = blocks (0 ∷ 0 ∷ 1 ∷ 1 ∷ []) (0 ∷ 1 ∷ 2 ∷ 2 ∷ [])

abbrev prevotes_j : ℕ → Vote
prevotes_j = votes (once 2 ∷ once 2 ∷ once 3 ∷ once 2 ∷ [])

-- ghost, estimate, finalized, completable
abbrev says : Option ℕ → Option ℕ → Option ℕ → Bool → Told
says g e f c = record { ghost = g; finalized = f; estimate = e; completable = c }

-- 14 at place 4, under 12
abbrev tree_14 : Blocks
tree_14 = blocks (0 ∷ 0 ∷ 1 ∷ 1 ∷ 2 ∷ []) (0 ∷ 1 ∷ 2 ∷ 2 ∷ 3 ∷ [])

-- each row: what is told of the votes, and what document 01 says
abbrev rows : List Told
rows =
    -- case J
    told four tree_j 0 prevotes_j (votes (once 2 ∷ once 2 ∷ once 1 ∷ []))
    -- after three prevotes
    ∷ told four tree_j 0 (votes (once 2 ∷ once 2 ∷ once 3 ∷ [])) (votes [])
    -- J with voter 3's second precommit for 13
    ∷ told four tree_j 0 prevotes_j (votes (once 2 ∷ once 2 ∷ twice 1 ∷ []))
    -- precommits 1 for 12, 2 for 11, 3 for 13; then 4 for 11
    ∷ told four tree_j 0 prevotes_j (votes (once 2 ∷ once 1 ∷ once 3 ∷ []))
    ∷ told four tree_j 0 prevotes_j (votes (once 2 ∷ once 1 ∷ once 3 ∷ once 1 ∷ []))
    -- after two prevotes
    ∷ told four tree_j 0 (votes (once 2 ∷ once 2 ∷ [])) (votes [])
    ∷ []

cases_j : rows
    ≡ says (Some 2) (Some 2) (Some 1) true
    ∷ says (Some 1) (Some 1) None false
    ∷ says (Some 2) (Some 2) (Some 2) true
    ∷ says (Some 2) (Some 2) (Some 1) true
    ∷ says (Some 2) (Some 1) (Some 1) true
    ∷ says None None None false
    ∷ []
unfolding told told_from ghost_of highest_of first_of search_up finalized_of estimate_of completable_of below within sum all any
cases_j = refl

-- precommits 1 for 14, 2 and 4 for 11, 3 for 13: estimate 11, completable. Then 2 and 4 equivocate, weight 2 above F: the
-- estimate moves away from the base, to 12, and the round is no longer completable, since 14 has become possible
above_fault : told four tree_14 0 prevotes_j (votes (once 4 ∷ once 1 ∷ once 3 ∷ once 1 ∷ []))
    ∷ told four tree_14 0 prevotes_j (votes (once 4 ∷ twice 1 ∷ once 3 ∷ twice 1 ∷ []))
    ∷ []
    ≡ says (Some 2) (Some 1) (Some 1) true ∷ says (Some 2) (Some 2) (Some 2) false ∷ []
unfolding told told_from ghost_of highest_of first_of search_up finalized_of estimate_of completable_of below within sum all any
above_fault = refl
