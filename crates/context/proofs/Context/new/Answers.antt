use Rattle.context.proofs.Context.new.Goals as goal

pub returns : goal.returns
returns c = rw c.new.ensures
