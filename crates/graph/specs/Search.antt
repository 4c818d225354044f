-- Document 01, "Porting order" 6: the search over heads climbs ancestors and goes on to the next head once one is settled.
-- A vote-node is the place of its block. A climb goes by places: parents are earlier, so that a climb towards b ends at
-- the first place that is not past b. Place 0 says none: what is looked for lies strictly below another block.
use Rattle.std.specs.Prelude.{Bool, cond, List, [], ◌∷◌, ◌++◌, ℕ, zero, suc, leb, eqb}
use Rattle.loops.specs.Listing.{times, fold}

-- a climb that stands at `at`, having met the node `last` last: the node whose edge holds b, or 0
unfoldable pub hold_from : (ℕ → ℕ) → (ℕ → Bool) → ℕ → ℕ → ℕ → ℕ → ℕ
hold_from up used b zero at last = 0
hold_from up used b (suc f) at last =
    cond (leb at b) (cond (eqb at b) last 0) (hold_from up used b f (up at) (cond (used at) at last))

unfoldable pub lead : (ℕ → ℕ) → (ℕ → Bool) → ℕ → ℕ → ℕ → ℕ
lead up used b at last = hold_from up used b (suc at) at last

-- the node at or above h whose edge holds b, or 0
unfoldable pub hold : (ℕ → ℕ) → (ℕ → Bool) → ℕ → ℕ → ℕ
hold up used b h = lead up used b h h

-- x at the end, where it is not 0 and not there yet
unfoldable pub note : ℕ → List ℕ → List ℕ
note x xs = cond (eqb x 0) xs (cond (eqb (times x xs) 0) (xs ++ (x ∷ [])) xs)

-- `find_containing_nodes`: the nodes whose edge holds b, in the order in which the search over heads meets them
unfoldable pub containing : (ℕ → ℕ) → (ℕ → Bool) → List ℕ → ℕ → List ℕ
containing up used heads b = fold (λ h l. note (hold up used b h) l) heads []

-- the first block that stops a climb from `at`; the root stops every climb
unfoldable pub until : (ℕ → ℕ) → (ℕ → Bool) → ℕ → ℕ → ℕ
until up stop zero at = at
until up stop (suc f) at = cond (stop at) at (until up stop f (up at))

-- the nearest node at or above a block
unfoldable pub nearest : (ℕ → ℕ) → (ℕ → Bool) → ℕ → ℕ
nearest up used at = until up used at at
