-- The bits that are kept of the recorded votes, as a test. Document 01, "Shape rules": node bits (first votes only) and equivocator
-- bits as the recorded votes say. Index j of the columns of votes is the bit of its voter and phase.
use Rattle.std.specs.Prelude.{Bool, not, ◌&&◌, ◌||◌, List, ◌≡◌, ℕ, ◌<◌, eqb, ltb, length}
use Rattle.std.specs.Bool.{beq}
use Rattle.sizes.specs.Sizes.{WORDS, VOTES, BLOCKS}
use Rattle.loops.specs.All.{all}
use Rattle.grandpa.specs.Tree.{below}
use Rattle.bitfield.specs.Bits.{has}
use Rattle.nodes.specs.Nodes.{col, flag, row}

-- the first vote at index j is for block x
abbrev pub aims : List ℕ → List ℕ → ℕ → ℕ → Bool
aims counts first_block x j = ltb 0 (col counts j) && eqb (col first_block j) x

-- or for one below it
abbrev pub lies : List ℕ → List ℕ → List ℕ → ℕ → ℕ → Bool
lies parents counts first_block x j = ltb 0 (col counts j) && below (col parents) x (col first_block j)

-- the bits of a set are the indices that pass a test
abbrev pub same_bits : List ℕ → (ℕ → Bool) → Bool
same_bits bits p = all VOTES (λ j. beq (has bits j) (p j))

-- a node's bits are the first votes for it and for blocks below it
unfoldable pub told : List ℕ → List Bool → List (List ℕ) → List ℕ → List ℕ → Bool
told parents used rows counts first_block = all BLOCKS (λ x. not (flag used x) || same_bits (row rows x) (lies parents counts first_block x))

-- the equivocators' bits are those of two pairs
unfoldable pub doubled : List ℕ → List ℕ → Bool
doubled counts equivocations = same_bits equivocations (λ j. ltb 1 (col counts j))

-- rows of two words whose bits are the indices that pass a test
pub record Held (rows : List (List ℕ)) (p : ℕ → ℕ → Bool) : Type 0 where
  pub sized : length rows ≡ BLOCKS
  pub words : (x : ℕ) → x < BLOCKS → length (row rows x) ≡ WORDS
  pub says : (x : ℕ) → x < BLOCKS → (j : ℕ) → j < VOTES → has (row rows x) j ≡ p x j
