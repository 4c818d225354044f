use mathlib.Core.Path.{◌∙◌}
use Rattle.marks.proofs.Bytes.{word_is}
use Rattle.marks.proofs.word.Goals as goal

pub returns : goal.returns
returns c =
    let cut = rw c.unwrap.ensures at c.try_into.ensures.1 in
    (c.from_le_bytes.ensures ∙ word_is c.args.fields.now c.args.at c.unwrap.result cut.same, c.from_le_bytes.type_inv)
