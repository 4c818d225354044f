-- What a replay prints. Document 01, "The journal": it stops at the first refusal and prints only `refused N at K`; an end before Op
-- prints `no round`, then the tail line; else there are eight lines, which give heard weight, total, T and voters heard; block and
-- number, or `none`; `yes` or `no`; bytes after the last whole record.
use Rattle.std.specs.Prelude.{Bool, cond, List, [], ◌∷◌, ◌++◌, ℕ, zero, suc, ◌+◌, ◌-◌, ◌*◌, ◌/◌, ◌%◌, ltb, Option, Some, None}
use Prim.Native.Char.{code}
use Prim.Native.String.{String, [] as none, ◌∷◌ as before}
use Rattle.answers.specs.declared.Answers.{Answers}
use Rattle.context.specs.declared.Phase.TheVariants.{Prevote, Precommit}
use Rattle.round.specs.declared.Round.{Round}
use Rattle.round.specs.Ask.{heard_in}
use Rattle.round.specs.Calls.{block_of}

-- a text's characters as numbers: its bytes, since all of them are ASCII here
abbrev pub text : String → List ℕ
text none = []
text (before c s) = code c ∷ text s

-- a number in decimal with no zero in front, of at most k digits
unfoldable pub digits : ℕ → ℕ → List ℕ
digits zero n = []
digits (suc k) n = cond (ltb n 10) ((48 + n) ∷ []) (digits k (n / 10) ++ ((48 + n % 10) ∷ []))

-- 20 digits hold any u64
unfoldable pub decimal : ℕ → List ℕ
decimal n = digits 20 n

-- the number that digits tell after those that tell n
unfoldable pub told_after : ℕ → List ℕ → ℕ
told_after n [] = n
told_after n (d ∷ ds) = told_after (10 * n + (d - 48)) ds

unfoldable pub named : List ℕ → ℕ → List ℕ
named word n = word ++ decimal n

-- `round 7`, `tail 0`
unfoldable pub line : List ℕ → ℕ → List ℕ
line word n = named word n ++ text "\n"

-- `prevote 4 of 4 need 3 voters 4`
unfoldable pub heard_line : List ℕ → ℕ → ℕ → ℕ → ℕ → List ℕ
heard_line word weight total threshold voters =
    named word weight ++ named (text " of ") total ++ named (text " need ") threshold ++ named (text " voters ") voters ++ text "\n"

-- ` 12 2`, ` none`
abbrev pub block_end : Option (ℕ × ℕ) → List ℕ
block_end (Some (id, number)) = named (text " ") id ++ named (text " ") number ++ text "\n"
block_end None = text " none\n"

-- `ghost 12 2`
unfoldable pub block_line : List ℕ → Option (ℕ × ℕ) → List ℕ
block_line word told = word ++ block_end told

unfoldable pub completable_line : Bool → List ℕ
completable_line b = cond b (text "completable yes\n") (text "completable no\n")

unfoldable pub answer_lines : List ℕ → List ℕ → Answers → List ℕ
answer_lines ids numbers a =
    block_line (text "ghost") (block_of ids numbers a.prevote)
    ++ block_line (text "estimate") (block_of ids numbers a.estimate)
    ++ block_line (text "final") (block_of ids numbers a.finalized)
    ++ completable_line a.completable

-- the whole texts
unfoldable pub refused : ℕ → ℕ → List ℕ
refused n k = named (text "refused ") n ++ named (text " at ") k ++ text "\n"

unfoldable pub no_round : ℕ → List ℕ
no_round tail = text "no round\n" ++ line (text "tail ") tail

unfoldable pub round_lines : Round → ℕ → List ℕ
round_lines r tail =
    let total = r.context.voters.total in
    let threshold = r.context.voters.threshold in
    line (text "round ") r.number
    ++ heard_line (text "prevote ") r.heard.prevote total threshold (heard_in r.graph Prevote)
    ++ heard_line (text "precommit ") r.heard.precommit total threshold (heard_in r.graph Precommit)
    ++ answer_lines r.table.ids r.table.numbers r.answers
    ++ line (text "tail ") tail
