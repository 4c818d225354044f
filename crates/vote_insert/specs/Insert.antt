-- `insert` of vote_graph.rs on columns. proofs/ says that it is `insert` of the graph that they hold, and that it keeps the
-- columns sound.
use Rattle.std.specs.Prelude.{true, false, cond, List, [], ◌∷◌, ◌≡◌, ℕ, zero, suc, ◌≤◌, leb, set, length, replicate}
use Rattle.sizes.specs.Sizes.{WORDS, BLOCKS}
use Rattle.loops.specs.Listing.{front, fold}
use Rattle.columns.specs.Lists.{padded}
use Rattle.bitfield.specs.Bits.{put}
use Rattle.graph.specs.Search.{nearest}
use Rattle.graph.specs.Graph.{join_of, relist, rehead}
use Rattle.nodes.specs.Nodes.{col, flag, row, Falls, found}
use Rattle.nodes.specs.Columns.{Columns}

-- `VoteGraph::new`: the base alone
unfoldable pub opened : ℕ → Columns
opened base =
    record {
      used = set (replicate BLOCKS false) base true;
      above = replicate BLOCKS 0;
      rows = replicate BLOCKS (replicate WORDS 0);
      order = replicate BLOCKS 0;
      listed = 0;
      heads = padded BLOCKS (base ∷ []);
      tips = 1;
    }

-- x at each of some places
unfoldable pub set_all : List ℕ → List ℕ → ℕ → List ℕ
set_all xs places x = fold (λ p v. set v p x) places xs

-- a node at t, which has none: `append` where the search met no members, else `introduce_branch`
unfoldable pub added : List ℕ → List ℕ → ℕ → Columns → Columns
added parents ids t g =
    let ms = found (col parents) (col g.above) (front g.tips g.heads) t in
    let over = nearest (col parents) (flag g.used) (col parents t) in
    let order = relist t ms (front g.listed g.order) in
    let heads = rehead (col ids) t ms over (front g.tips g.heads) in
    record {
      used = set g.used t true;
      above = set (set_all g.above ms t) t over;
      rows = set g.rows t (join_of (row g.rows) ms);
      order = padded BLOCKS order;
      listed = length order;
      heads = padded BLOCKS heads;
      tips = length heads;
    }

-- the loop of `insert`: bit j in the node at `at` and in those above it. The climb ends at the first place that is not past the base.
unfoldable pub marked_from : List ℕ → ℕ → ℕ → ℕ → ℕ → List (List ℕ) → List (List ℕ)
marked_from above base j zero at rows = rows
marked_from above base j (suc f) at rows =
    let next = set rows at (put (row rows at) j) in
    cond (leb at base) next (marked_from above base j f (col above at) next)

unfoldable pub marked : List ℕ → ℕ → ℕ → ℕ → List (List ℕ) → List (List ℕ)
marked above base j at rows = marked_from above base j (suc at) at rows

abbrev pub with_rows : Columns → List (List ℕ) → Columns
with_rows g rows =
    record { used = g.used; above = g.above; rows = rows; order = g.order; listed = g.listed; heads = g.heads; tips = g.tips }

-- a vote, as bit j, for block t
unfoldable pub inserted : List ℕ → List ℕ → ℕ → ℕ → ℕ → Columns → Columns
inserted parents ids base t j g =
    let next = cond (flag g.used t) g (added parents ids t g) in
    with_rows next (marked next.above base j t next.rows)

-- columns that have room for a node at t
pub record Addable (parents ids : List ℕ) (t : ℕ) (g : Columns) : Type 0 where
  pub parents_fall : Falls parents
  pub above_falls : Falls g.above
  pub listed_fits : g.listed ≤ BLOCKS
  pub tips_fit : g.tips ≤ BLOCKS
  pub list_fits : (added parents ids t g).listed ≤ BLOCKS
  pub heads_fit : (added parents ids t g).tips ≤ BLOCKS
  pub heads_clear : g.heads ≡ padded BLOCKS (front g.tips g.heads)

-- columns into which a vote for t can be put
pub record Insertable (parents ids : List ℕ) (t : ℕ) (g : Columns) : Type 0 where
  pub above_falls : Falls g.above
  pub addable : flag g.used t ≡ false → Addable parents ids t g
  pub added_falls : flag g.used t ≡ false → Falls (added parents ids t g).above
