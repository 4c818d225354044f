use Rattle.journal.proofs.Unset.{none_unset}
use Rattle.journal.proofs.has_no_index.Goals as goal

pub returns-then-is_none : goal.returns-then-is_none
returns-then-is_none c =
    rw (none_unset _ _ c.is_none.ensures, c.if-is_none.true, none_unset _ _ c.is_none-then-is_none.ensures)

pub returns-else-is_none : goal.returns-else-is_none
returns-else-is_none c = rw (none_unset _ _ c.is_none.ensures, c.if-is_none.false)
