-- A round's lines, put one after the other.
use mathlib.Core.List.{List, ◌++◌}
use mathlib.Core.Path.{◌≡◌}
use Prim.Native.Nat.{ℕ}
use lib.ListN.{length, drop}
use Rattle.context.specs.declared.Phase.TheVariants.{Prevote, Precommit}
use Rattle.round.specs.declared.Round.{Round}
use Rattle.round.specs.Ask.{heard_in}
use Rattle.lines.specs.Lines.{text, line, heard_line, answer_lines, round_lines}
use Rattle.lines.specs.Put.{Put}
use Rattle.lines.proofs.Puts.{◌then◌, put_whole}

pub put_lines : (r : Round) (tail p q : ℕ) {old a b c d new : List ℕ} {h i j k next : ℕ}
    → p ≡ heard_in r.graph Prevote
    → q ≡ heard_in r.graph Precommit
    → Put old 0 (line (text "round ") r.number) a h
    → Put a h (heard_line (text "prevote ") r.heard.prevote r.context.voters.total r.context.voters.threshold p) b i
    → Put b i (heard_line (text "precommit ") r.heard.precommit r.context.voters.total r.context.voters.threshold q) c j
    → Put c j (answer_lines r.table.ids r.table.numbers r.answers) d k
    → Put d k (line (text "tail ") tail) new next
    → (new ≡ round_lines r tail ++ drop (length (round_lines r tail)) old) × (next ≡ length (round_lines r tail))
unfolding round_lines
put_lines r tail p q e f first second third fourth last =
    put_whole (first then rw e at second then rw f at third then fourth then last)
