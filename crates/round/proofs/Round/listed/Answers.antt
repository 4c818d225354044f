use Rattle.round.proofs.Steps.{parents_fall, few_voters}
use Rattle.round.proofs.Lists.{few_entries, fit_entries, listed_done}
use Rattle.round.proofs.Round.listed.Goals as goal

pub entries_of-list-requires : goal.entries_of-list-requires
entries_of-list-requires c = (parents_fall c.args.self c.requires, few_voters c.args.self c.requires)

pub records-requires : goal.records-requires
records-requires c = (few_entries c.args.self _ _ c.entries_of-list.ensures c.requires, fit_entries c.args.self _ _ c.entries_of-list.ensures c.requires)

pub returns : goal.returns
returns c = listed_done c.args.self _ _ c.entries_of-list.ensures _ _ c.records.ensures
