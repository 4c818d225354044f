-- How long a text and a list can be.
use mathlib.Core.Bool.{Bool, true, false}
use mathlib.Core.List.{List, ◌++◌}
use mathlib.Core.Path.{◌≡◌}
use Prim.Native.Nat.{ℕ, ◌+◌, ◌*◌, ◌≤◌}
use native.Mathlib.Omega.{arith}
use lib.ListN.{length, length-append}
use Rattle.sizes.specs.Sizes.{VOTES}
use Rattle.loops.specs.Listing.{keep}
use Rattle.weights.specs.Weights.{plus}
use Rattle.context.specs.declared.Phase.TheVariants.{Prevote, Precommit}
use Rattle.loops.proofs.Tests.{T_true}
use Rattle.listing.specs.declared.Wanted.TheVariants.{Finalizing}
use Rattle.listing.specs.Entries.{by_voter, wants}
use Rattle.listing.specs.Written.{record_of, in_a_row}
use Rattle.listing.proofs.Rows.{row_length, record_size}
use Rattle.listing.proofs.Voters.{few_kept}
use Rattle.answers.specs.declared.Answers.{Answers}
use Rattle.round.specs.declared.Round.{Round}
use Rattle.round.specs.Shape.{shaped}
use Rattle.round.specs.Ask.{heard_in, entries_of}
use Rattle.round.specs.Calls.{block_of}
use Rattle.two_views.proofs.Rounds.{voters_good}
use Rattle.journal.specs.declared.Turn.{Turn}
use Rattle.journal.specs.declared.Turn.TheVariants.{Voters, Blocks, Votes}
use Rattle.feeding.specs.declared.Replay.{Replay}
use Rattle.lines.specs.Lines as lines
use Rattle.lines.specs.Lines.{text, decimal, named, line, heard_line, block_end, block_line, completable_line, answer_lines}
use Rattle.lines.proofs.Decimals.{decimal_length}
use Rattle.report.specs.Report.{lines_by, lines_of}
use Rattle.std.specs.Prelude.{Option, Some, None, Result, Ok, Err, ⊤}
use Rattle.refusals.specs.declared.Refusal.{Refusal}
use Rattle.refusals.specs.Number.{number}

-- two precommits of each voter, 22 bytes each
pub list_size : (r : Round) → shaped r ≡ true → (b : ℕ)
    → length (in_a_row (record_of r.votes r.context.voters.ids r.table.ids r.table.numbers) (entries_of (Finalizing b) r)) ≤ 22 * VOTES
unfolding entries_of
list_size r s b =
    omega (
      arith,
      row_length (record_of r.votes r.context.voters.ids r.table.ids r.table.numbers)
          (record_size r.votes r.context.voters.ids r.table.ids r.table.numbers)
          (keep (wants r.votes.counts r.votes.first_block r.table.parents (Finalizing b)) (by_voter Precommit r.context.voters.count)),
      few_kept (wants r.votes.counts r.votes.first_block r.table.parents (Finalizing b)) Precommit r.context.voters.count,
      (voters_good r (T_true s)).few,
    )

-- texts one after the other; each number has at most 20 digits
record Within (n : ℕ) (xs : List ℕ) : Type 0 where
  pub at_most : length xs ≤ n

both_size : {xs ys : List ℕ} {m n : ℕ} → Within m xs → Within n ys → Within (m + n) (xs ++ ys)
both_size {xs} {ys} h k = record { at_most = omega (arith, h.at_most, k.at_most, length-append xs ys) }

end_size : Within 1 (text "\n")
end_size = record { at_most = omega arith }

named_size : (word : List ℕ) (n : ℕ) → Within (length word + 20) (named word n)
unfolding named
named_size word n = record { at_most = omega (arith, length-append word (decimal n), decimal_length n) }

line_size : (word : List ℕ) (n : ℕ) → Within (length word + 20 + 1) (line word n)
unfolding line
line_size word n = both_size (named_size word n) end_size

heard_size : (word : List ℕ) (a b c d : ℕ) → Within (length word + 99) (heard_line word a b c d)
unfolding heard_line
heard_size word a b c d =
    let all =
    both_size
    (both_size (both_size (both_size (named_size word a) (named_size (text " of ") b)) (named_size (text " need ") c)) (named_size (text " voters ") d))
    end_size in
    record { at_most = omega (arith, all.at_most) }

told_size : (t : Option (ℕ × ℕ)) → Within 43 (block_end t)
told_size (Some (id, number)) = both_size (both_size (named_size (text " ") id) (named_size (text " ") number)) end_size
told_size None = record { at_most = omega arith }

block_size : (word : List ℕ) (t : Option (ℕ × ℕ)) → Within (length word + 43) (block_line word t)
unfolding block_line
block_size word t = record { at_most = omega (arith, length-append word (block_end t), (told_size t).at_most) }

completable_size : (b : Bool) → Within 16 (completable_line b)
unfolding completable_line
completable_size true = record { at_most = omega arith }
completable_size false = record { at_most = omega arith }

answers_size : (ids numbers : List ℕ) (a : Answers) → Within 163 (answer_lines ids numbers a)
unfolding answer_lines
answers_size ids numbers a =
    both_size
    (both_size
    (both_size (block_size (text "ghost") (block_of ids numbers a.prevote)) (block_size (text "estimate") (block_of ids numbers a.estimate)))
    (block_size (text "final") (block_of ids numbers a.finalized)))
    (completable_size a.completable)

round_size : (r : Round) (tail : ℕ) → Within 432 (lines.round_lines r tail)
unfolding lines.round_lines
round_size r tail =
    let total = r.context.voters.total in
    let threshold = r.context.voters.threshold in
    both_size
    (both_size
    (both_size
    (both_size (line_size (text "round ") r.number) (heard_size (text "prevote ") r.heard.prevote total threshold (heard_in r.graph Prevote)))
    (heard_size (text "precommit ") r.heard.precommit total threshold (heard_in r.graph Precommit)))
    (answers_size r.table.ids r.table.numbers r.answers))
    (line_size (text "tail ") tail)

no_round_size : Within 9 (text "no round\n")
no_round_size = record { at_most = omega arith }

early_size : (tail : ℕ) → Within 35 (lines.no_round tail)
unfolding lines.no_round
early_size tail = both_size no_round_size (line_size (text "tail ") tail)

refused_size : (n k : ℕ) → Within 53 (lines.refused n k)
unfolding lines.refused
refused_size n k = both_size (both_size (named_size (text "refused ") n) (named_size (text " at ") k)) end_size

pub lines_size : (r : Replay) → length (lines_of r) ≤ 432
unfolding lines_of
lines_size r = go r.stop r.journal.turn
  where
    go : (s : Result ⊤ Refusal) (t : Turn) → length (lines_by s t r) ≤ 432
    go (Err e) t = omega (arith, (refused_size (number e) (plus r.records 1)).at_most)
    go (Ok tt) Votes = (round_size r.journal.round r.rest.count).at_most
    go (Ok tt) Blocks = omega (arith, (early_size r.rest.count).at_most)
    go (Ok tt) Voters = omega (arith, (early_size r.rest.count).at_most)
