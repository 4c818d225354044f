use Rattle.graph_sweeps.proofs.is_tied.Goals as goal

pub returns-then-listed : goal.returns-then-listed
returns-then-listed c = rw c.if-listed.true

pub returns : goal.returns
returns c = rw c.if-listed.false
