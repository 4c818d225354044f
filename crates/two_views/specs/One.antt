-- Two views of one round. Document 01, "Two views": one round number, voters, base and block table.
use Rattle.std.specs.Prelude.{◌≡◌}
use Rattle.round.specs.declared.Round.{Round}

pub record One (a b : Round) : Type 0 where
  pub number : a.number ≡ b.number
  pub base : a.graph.base ≡ b.graph.base
  pub voters : a.context.voters ≡ b.context.voters
  pub table : a.table ≡ b.table
