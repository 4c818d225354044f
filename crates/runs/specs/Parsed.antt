-- A journal as a list of records. Document 01, "The journal": a record is a mark and its fields; records are taken in order up to the
-- first refusal; an unknown mark is refused with UnknownMark; a journal cut at any byte gives the state of the whole records before the cut.
use Rattle.std.specs.Prelude.{cond, List, [], ◌∷◌, ℕ, zero, suc, ◌+◌, ◌-◌, leb, length, take, drop}
use Rattle.marks.specs.declared.Mark.{Mark}
use Rattle.marks.specs.declared.End.{End}
use Rattle.marks.specs.declared.End.TheVariants.{Cut, Refused, Left}
use Rattle.marks.specs.Marks.{read, size, fields, after}
use Rattle.runs.specs.Run.{Next, Run, on_read, on_next, ended}
use Rattle.runs.specs.Follow.{on_cut}
use Rattle.refusals.specs.declared.Refusal.TheVariants.{UnknownMark}

pub record Entry : Type 0 where
  pub mark : Mark
  pub fields : List ℕ

-- the whole records at the start of some bytes, at most f of them
unfoldable pub entries : ℕ → List ℕ → List Entry
entries zero bs = []
entries (suc f) bs = on_read (read bs) (λ m. record { mark = m; fields = fields m bs } ∷ entries f (after m bs)) [] []

-- all of them: a record has more than one byte
unfoldable pub parsed : List ℕ → List Entry
parsed bs = entries (length bs) bs

-- how many bytes some records take
unfoldable pub span : List Entry → ℕ
span [] = 0
span (e ∷ es) = 2 + size e.mark + span es

-- the bytes after the first n records, and after the last whole one
unfoldable pub rest_after : ℕ → List ℕ → List ℕ
rest_after n bs = drop (span (take n (parsed bs))) bs

unfoldable pub tail : List ℕ → List ℕ
tail bs = drop (span (parsed bs)) bs

-- some records taken in order: the state, how many were taken, and Cut where that is all, else what ended it
pub record Folded (S : Type 0) : Type 0 where
  pub state : S
  pub count : ℕ
  pub end : End

abbrev pub folded_on : {S : Type 0} → Folded S → Folded S
folded_on r = record { state = r.state; count = 1 + r.count; end = r.end }

unfoldable pub folded : {S : Type 0} → (S → Mark → List ℕ → Next S) → S → List Entry → Folded S
folded step s [] = record { state = s; count = 0; end = Cut }
folded step s (e ∷ es) =
    on_next (step s e.mark e.fields) (λ t. folded_on (folded step t es))
    (λ k. record { state = s; count = 0; end = Refused k }) (record { state = s; count = 0; end = Left })

-- how a run ends that took every whole record: refused where an unknown mark follows
unfoldable pub tail_end : List ℕ → End
tail_end bs = on_read (read bs) (λ m. Cut) Cut (Refused UnknownMark)

-- a run over some bytes, told from what becomes of their whole records
unfoldable pub after_fold : {S : Type 0} → List ℕ → Folded S → Run S
after_fold bs r = ended r.state r.count (rest_after r.count bs) (on_cut r.end (tail_end (tail bs)) r.end)

-- the first of some records that end at or before byte k
unfoldable pub within : ℕ → List Entry → List Entry
within k [] = []
within k (e ∷ es) = cond (leb (2 + size e.mark) k) (e ∷ within (k - (2 + size e.mark)) es) []
