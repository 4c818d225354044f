use native.Mathlib.Omega.{arith}
use borrow.Author.Rules.{rules}
use borrow.Author.Tests.{tests}
use Rattle.std.proofs.lemmas.Fn.{always_returns_same}
use Rattle.graph_lists.proofs.Rows.{below, rising_is}
use Rattle.graph_lists.proofs.rising.Goals as goal

pub returns : goal.returns
returns c =
    rising_is c.args.ids.now c.args.heads.now c.args.tips c.is_sorted_by.result (omega (arith, c.requires))
    (c.is_sorted_by.ensures.cases (below c.args.ids.now c.args.heads.now c.args.tips) (always_returns_same _ _ _ (λ a r q k. search (rules, tests))))
