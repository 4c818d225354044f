-- The journal's third turn. Document 01, "The journal": then Bk, Pv and Pc mixed; non-voters, duplicates and third pairs are not
-- refusals; "Refusal numbers": a block's 5 to 8, a vote's 11 to 13, and 18, out of turn.
use Rattle.std.specs.Prelude.{List, ℕ, Result, Ok, Err, ⊤}
use Rattle.blocks.specs.declared.BlockTable.{BlockTable}
use Rattle.context.specs.declared.Phase.{Phase}
use Rattle.context.specs.declared.Phase.TheVariants.{Prevote, Precommit}
use Rattle.tracker.specs.declared.Pair.{Pair}
use Rattle.judging.specs.declared.ImportResult.{ImportResult}
use Rattle.judging.specs.declared.ImportResult.TheVariants.{Outside, Counted, Duplicated, Equivocated, Ignored}
use Rattle.importing.specs.Import.{Frame, Held, import, with_table}
use Rattle.marks.specs.declared.Mark.{Mark}
use Rattle.marks.specs.declared.Mark.TheVariants.{Vt, Rt, Bk, Op, Pv, Pc}
use Rattle.marks.specs.Marks.{word, long}
use Rattle.runs.specs.Run.{Next, goes, stops, leaves}
use Rattle.runs.specs.Tried.{taken_or_not}
use Rattle.growing.specs.Growing.{grown}
use Rattle.voting.specs.declared.Kind.{Kind}
use Rattle.voting.specs.declared.Kind.TheVariants as kind
use Rattle.refusals.specs.declared.Refusal.{Refusal}
use Rattle.std.specs.declared.ops.ControlFlow.{ControlFlow}
use Rattle.marks.specs.declared.End.{End}
use Rattle.refusals.specs.declared.Refusal.TheVariants.{OutOfTurn}

-- a round while its votes come in
pub record Voting : Type 0 where
  pub frame : Frame
  pub held : Held

abbrev pub both : Frame → Held → Voting
both f h = record { frame = f; held = h }

-- voter, target, number, signature
abbrev pub pair_in : List ℕ → Pair
pair_in fs = record { target = word fs 4; number = word fs 8; signature = long fs 12 }

-- only a refused vote is a refusal
abbrev pub answered : {S : Type 0} → S → Result ImportResult Refusal → Next S
answered s (Err n) = stops n
answered s (Ok Outside) = goes s
answered s (Ok Counted) = goes s
answered s (Ok Duplicated) = goes s
answered s (Ok (Equivocated e)) = goes s
answered s (Ok Ignored) = goes s

-- a Pv or Pc record
unfoldable pub counted : Phase → Voting → List ℕ → Next Voting
counted phase v fs =
    let t = import v.frame phase (word fs 0) (pair_in fs) v.held in answered (both v.frame t.held) t.answer

-- a Bk record, as in the second turn
abbrev pub with_blocks : Voting → Next BlockTable → Next Voting
with_blocks v (goes t) = goes (both (with_table v.frame t) v.held)
with_blocks v (stops n) = stops n
with_blocks v leaves = leaves

-- a record in the third turn
unfoldable pub voted : Voting → Mark → List ℕ → Next Voting
voted v Bk fs = with_blocks v (grown v.frame.table Bk fs)
voted v Pv fs = counted Prevote v fs
voted v Pc fs = counted Precommit v fs
voted v Vt fs = stops OutOfTurn
voted v Rt fs = stops OutOfTurn
voted v Op fs = stops OutOfTurn

-- what a mark is in this turn
abbrev pub kind_of : Mark → Kind
kind_of Bk = kind.Block
kind_of Pv = kind.Vote Prevote
kind_of Pc = kind.Vote Precommit
kind_of Vt = kind.Other
kind_of Rt = kind.Other
kind_of Op = kind.Other

-- whether the loop goes on after an answer
abbrev pub turn_of : Result ImportResult Refusal → ControlFlow End ⊤
turn_of a = (taken_or_not {S = Unit {0}} tt (answered tt a)).turn
