use Rattle.figures.proofs.ended_by.Goals as goal

pub returns-in-Voting : goal.returns-in-Voting
returns-in-Voting c = rw c.in-Voting.is

pub returns-in-Early : goal.returns-in-Early
returns-in-Early c = rw c.in-Early.is
