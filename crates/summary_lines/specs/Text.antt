-- Document 01's lines ("The journal"), from what a replay tells. "Refusal numbers": 14, with the buffer untouched.
use Rattle.std.specs.Prelude.{Bool, cond, List, ◌++◌, ℕ, ltb, length, drop, Option, Ok, Err}
use Rattle.weights.specs.Weights.{plus}
use Rattle.listing.specs.Written.{Lent}
use Rattle.lines.specs.Lines.{text, line, heard_line, block_line, completable_line}
use Rattle.lines.specs.Lines as lines
use Rattle.summary.specs.declared.Outcome.{Outcome}
use Rattle.summary.specs.declared.Outcome.TheVariants.{Voting, Early, Refused}
use Rattle.summary.specs.declared.Summary.{Summary}
use Rattle.refusals.specs.declared.Refusal.TheVariants.{ShortBuffer}
use Rattle.refusals.specs.Number.{number}

unfoldable pub answer_text : Option (ℕ × ℕ) → Option (ℕ × ℕ) → Option (ℕ × ℕ) → Bool → List ℕ
answer_text highest estimate finalized completable =
    block_line (text "ghost") highest ++ block_line (text "estimate") estimate ++ block_line (text "final") finalized ++ completable_line completable

unfoldable pub round_text : Summary → List ℕ
round_text s =
    line (text "round ") s.number
    ++ heard_line (text "prevote ") s.heard.prevote s.total s.threshold s.prevoters
    ++ heard_line (text "precommit ") s.heard.precommit s.total s.threshold s.precommitters
    ++ answer_text s.prevote s.estimate s.finalized s.completable
    ++ line (text "tail ") s.tail

-- the refused record is the one after those taken
abbrev pub text_by : Outcome → Summary → List ℕ
text_by Voting s = round_text s
text_by Early s = lines.no_round s.tail
text_by (Refused e) s = lines.refused (number e) (plus s.records 1)

unfoldable pub text_of : Summary → List ℕ
text_of s = text_by s.outcome s

unfoldable pub printed : Summary → List ℕ → Lent
printed s out =
    cond (ltb (length out) (length (text_of s)))
    (record { answer = Err ShortBuffer; bytes = out })
    (record { answer = Ok (length (text_of s)); bytes = text_of s ++ drop (length (text_of s)) out })
