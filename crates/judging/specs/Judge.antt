-- What is to be done with a vote. Document 01, "How a vote is taken", rules 1 to 5 in order; "Refusal numbers" 11, 12, 13 after
-- rule 1, of first votes alone.
use Rattle.std.specs.Prelude.{Bool, cond, List, ℕ, T, eqb, Option, Some, None, Ok, Err}
use Rattle.grandpa.specs.Tree.{below}
use Rattle.voter_info.specs.declared.VoterInfo.{VoterInfo}
use Rattle.voter_info.specs.Info.{look_up}
use Rattle.blocks.specs.Add.{place_of, on_place}
use Rattle.context.specs.declared.Phase.{Phase}
use Rattle.context.specs.Votes.{bit}
use Rattle.nodes.specs.Nodes.{col, flag}
use Rattle.tracker.specs.declared.Votes.{Votes}
use Rattle.tracker.specs.declared.Pair.{Pair}
use Rattle.tracker.specs.declared.AddVoteResult.{AddVoteResult}
use Rattle.tracker.specs.declared.AddVoteResult.TheVariants as added
use Rattle.tracker.specs.Recorded.{recorded, add_vote}
use Rattle.judging.specs.declared.ImportResult.TheVariants as answer
use Rattle.judging.specs.declared.Verdict.{Verdict}
use Rattle.judging.specs.declared.Verdict.TheVariants.{Nothing, First, Second}
use Rattle.refusals.specs.declared.Refusal.TheVariants.{OffTheBase, UnknownTarget, WrongNumber}
use Rattle.refusals.specs.declared.Refusal.{Refusal}

abbrev pub refused : Refusal → Verdict
refused n = Nothing (Err n)

-- where nodes are: at or below the base
abbrev pub Inside : List ℕ → ℕ → List Bool → Type 0
Inside parents base used = (x : ℕ) → T (flag used x) → T (below (col parents) base x)

-- a first vote: its target is in the table (11), by its right number (12), at or below the base (13)
unfoldable pub judge_first : List ℕ → List ℕ → List ℕ → ℕ → ℕ → VoterInfo → Pair → Verdict
judge_first ids numbers parents blocks base voter pair =
    on_place (place_of ids blocks pair.target)
    (λ b.
    cond (eqb (col numbers b) pair.number) (cond (below (col parents) base b) (First voter b) (refused OffTheBase)) (refused WrongNumber))
    (refused UnknownTarget)

-- rules 2 to 5; a second pair's target is not looked up
abbrev pub by_rule : AddVoteResult → Verdict → VoterInfo → Verdict
by_rule added.Single first voter = first
by_rule added.Duplicated first voter = Nothing (Ok answer.Duplicated)
by_rule (added.Equivocated a) first voter = Second voter a
by_rule added.Ignored first voter = Nothing (Ok answer.Ignored)

abbrev pub on_voter : Option VoterInfo → (VoterInfo → Verdict) → Verdict
on_voter (Some v) f = f v
on_voter None f = Nothing (Ok answer.Outside)

unfoldable pub judge : List ℕ → List ℕ → ℕ → List ℕ → List ℕ → List ℕ → ℕ → ℕ → Votes → Phase → ℕ → Pair → Verdict
judge voters weights size ids numbers parents blocks base votes phase signer pair =
    on_voter (look_up voters weights size signer)
    (λ v.
    by_rule (add_vote (recorded votes ids numbers (bit phase v.position)) pair)
    (judge_first ids numbers parents blocks base v pair)
    v)
