use native.Mathlib.Omega.{arith}
use Rattle.graph_rows.specs.Rows.{words_of}
use Rattle.graph_rows.proofs.Copies.{copied_all, words_paired}
use borrow.Author.Rules.{rules}
use Rattle.graph_rows.proofs.words_of.Goals as goal

pub returns : goal.returns
unfolding words_of
returns c =
    let e = copied_all _ _ _ _ _ (search rules) (omega (arith, c.loop-k-test.false)) c.loop-k.invariant.0 in
    (e, words_paired _ _ (omega (arith, c.loop-k-test.false)) c.loop-k.invariant.1 _ e)
