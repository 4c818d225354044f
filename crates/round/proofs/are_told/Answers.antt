use borrow.Author.Rules.{rules}
use Rattle.round.proofs.are_told.Goals as goal

pub is_voted-requires : goal.is_voted-requires
is_voted-requires c = c.requires

pub returns : goal.returns
returns c = (c.is_voted.ensures, record { counts_size = search rules; first_block_size = search rules; first_signature_size = search rules; second_target_size = search rules; second_number_size = search (rules, c.well_formed.1.1.1.1.1.0); second_signature_size = search (rules, c.well_formed.1.1.1.1.1.0) }, search rules, search rules)
