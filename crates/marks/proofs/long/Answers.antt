use mathlib.Core.Path.{◌∙◌}
use Rattle.marks.proofs.Bytes.{long_is}
use Rattle.marks.proofs.long.Goals as goal

pub returns : goal.returns
returns c =
    let cut = rw c.unwrap.ensures at c.try_into.ensures.1 in
    c.from_le_bytes.ensures ∙ long_is c.args.fields.now c.args.at c.unwrap.result cut.same
