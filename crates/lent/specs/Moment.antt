-- What a contract reads from a lent column. A definition over columns takes the moment first, and so stands once for what a call is
-- given, for what was there before it and what is there after it, and for plain lists.
use Rattle.std.specs.Borrow.{Bor, MutBor}
use denote.Triple.Both.{Both}

pub record Moment : Type 1 where
  pub Column : Type 0 → Type 0
  pub list : (A : Type 0) → Column A → A

-- in a `requires`: a column that is only read, and one that is written
abbrev pub given : Moment
given = record { Column = Bor; list = λ A x. x.now }

abbrev pub given_mut : Moment
given_mut = record { Column = MutBor; list = λ A x. x.now }

-- in an `ensures`, likewise
abbrev pub before : Moment
before = record { Column = λ A. Both (Bor A) (Bor A); list = λ A x. x.entry.now }

abbrev pub before_mut : Moment
before_mut = record { Column = λ A. Both (MutBor A) (MutBor A); list = λ A x. x.entry.now }

abbrev pub after : Moment
after = record { Column = λ A. Both (MutBor A) (MutBor A); list = λ A x. x.exit.now }

-- in a proof, where columns are lists already
abbrev pub plain : Moment
plain = record { Column = λ A. A; list = λ A x. x }
