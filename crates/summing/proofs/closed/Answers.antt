use Rattle.summing.proofs.closed.Goals as goal

pub returns-in-Cut : goal.returns-in-Cut
returns-in-Cut c = rw (c.in-Cut.is, ← c.wide-at.ensures.0) c.of_parts.ensures

pub returns-in-Refused : goal.returns-in-Refused
returns-in-Refused c = rw c.in-Refused.is c.bare.ensures

pub returns-in-Left : goal.returns-in-Left
returns-in-Left c = rw c.in-Left.is c.bare-in-Left.ensures
