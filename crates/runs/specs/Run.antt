-- A loop over the records of some bytes. Document 01, "The journal": records are taken in order up to the first refusal, the bytes
-- after the last whole record are left.
use Rattle.std.specs.Prelude.{List, ℕ, zero, suc, ◌+◌, length}
use Rattle.marks.specs.declared.Mark.{Mark}
use Rattle.marks.specs.declared.Record.{Record}
use Rattle.marks.specs.declared.Record.TheVariants as is
use Rattle.marks.specs.declared.End.{End}
use Rattle.marks.specs.declared.End.TheVariants.{Cut, Refused, Left}
use Rattle.marks.specs.Marks.{read, fields, after}
use Rattle.refusals.specs.declared.Refusal.TheVariants.{UnknownMark}
use Rattle.refusals.specs.declared.Refusal.{Refusal}

-- what becomes of a state at a record: the next state, a refusal, or the record belongs to another turn
pub data Next (S : Type 0) : Type 0 where
  goes : S → Next S
  stops : Refusal → Next S
  leaves : Next S

-- the state after the records that were taken, how many these are, the bytes that are left, and why no more are taken
pub record Run (S : Type 0) : Type 0 where
  pub state : S
  pub count : ℕ
  pub rest : List ℕ
  pub end : End

abbrev pub on_read : {A : Type 0} → Record → (Mark → A) → A → A → A
on_read (is.Whole m) f cut unknown = f m
on_read is.Cut f cut unknown = cut
on_read is.Unknown f cut unknown = unknown

abbrev pub on_next : {S A : Type 0} → Next S → (S → A) → (Refusal → A) → A → A
on_next (goes s) f g left = f s
on_next (stops n) f g left = g n
on_next leaves f g left = left

abbrev pub ended : {S : Type 0} → S → ℕ → List ℕ → End → Run S
ended s n bs e = record { state = s; count = n; rest = bs; end = e }

-- at most f records more, n taken before
unfoldable pub run : {S : Type 0} → (S → Mark → List ℕ → Next S) → ℕ → S → ℕ → List ℕ → Run S
run step zero s n bs = ended s n bs Cut
run step (suc f) s n bs =
    on_read (read bs)
    (λ m. on_next (step s m (fields m bs)) (λ t. run step f t (n + 1) (after m bs)) (λ r. ended s n bs (Refused r)) (ended s n bs Left))
    (ended s n bs Cut) (ended s n bs (Refused UnknownMark))

-- all records of some bytes: a record has more than one byte, so there are not more of them than bytes
unfoldable pub ran : {S : Type 0} → (S → Mark → List ℕ → Next S) → S → List ℕ → Run S
ran step s bs = run step (length bs) s 0 bs

-- the same run, n records taken before it
unfoldable pub counted : {S : Type 0} → ℕ → Run S → Run S
counted n r = record { state = r.state; count = n + r.count; rest = r.rest; end = r.end }
