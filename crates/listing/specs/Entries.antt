-- Which recorded votes a list has. Document 01, "The four answers": `finalizing_precommits` has, by rising voter, single
-- precommits at or below the finalized block and both of every equivocator. The Rust's `prevotes` and `precommits` have every
-- recorded vote of a phase, an equivocator's two in arrival order.
use Rattle.std.specs.Prelude.{Bool, true, not, ◌&&◌, ◌||◌, List, [], ◌∷◌, ◌++◌, ℕ, zero, suc, eqb}
use Rattle.layouts.specs.Layout.{entry, entry_index}
use Rattle.grandpa.specs.Tree.{below}
use Rattle.context.specs.declared.Phase.{Phase}
use Rattle.context.specs.declared.Phase.TheVariants.{Precommit}
use Rattle.context.specs.Votes.{bit}
use Rattle.nodes.specs.Nodes.{col}
use Rattle.tracker.specs.Recorded.{paired}
use Rattle.listing.specs.declared.Wanted.{Wanted}
use Rattle.listing.specs.declared.Wanted.TheVariants.{Of, Finalizing}

-- the entries of the first n voters in a phase, by rising voter: of each the first pair and the second
unfoldable pub by_voter : Phase → ℕ → List ℕ
by_voter phase zero = []
by_voter phase (suc n) = by_voter phase n ++ (entry (bit phase n) 0 ∷ entry (bit phase n) 1 ∷ [])

-- the phase of the wanted votes
abbrev pub phase_in : Wanted → Phase
phase_in (Of phase) = phase
phase_in (Finalizing block) = Precommit

-- the precommits at an index: not a single one, or one at or below the block
abbrev pub finalizes : List ℕ → List ℕ → List ℕ → ℕ → ℕ → Bool
finalizes counts first_block parents block j = not (eqb (col counts j) 1) || below (col parents) block (col first_block j)

-- among the votes of its phase
abbrev pub suits : List ℕ → List ℕ → List ℕ → Wanted → ℕ → Bool
suits counts first_block parents (Of phase) j = true
suits counts first_block parents (Finalizing block) j = finalizes counts first_block parents block j

-- the pair is recorded, and suits
unfoldable pub wants : List ℕ → List ℕ → List ℕ → Wanted → ℕ → Bool
wants counts first_block parents wanted e = paired counts e && suits counts first_block parents wanted (entry_index e)
