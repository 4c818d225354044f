use mathlib.Core.Path.{◌≡◌, ◌∙◌}
use lib.ListN.{length}
use borrow.Author.Rules.{rules}
use Rattle.graph_lists.proofs.Rows.{zero_bits_is}
use Rattle.graph_lists.proofs.is_bare.Goals as goal

pub returns-else-node : goal.returns-else-node
returns-else-node c =
    let two : length c.args.bits ≡ 2 = search rules in
    rw c.if-node.false (c.is_blank.ensures ∙ zero_bits_is c.args.bits two)
