use mathlib.Core.Path.{refl, sym, ap, ◌∙◌}
use Rattle.nodes.specs.Nodes.{row}
use Rattle.round.proofs.Steps.{shaped_by, says_sized, votes_told, weights_told}
use Rattle.vote_graph.proofs.Standings.{gate_falls}
use Rattle.round.proofs.Round.is_round.Goals as goal

pub returns-then-not-is_graph : goal.returns-then-not-is_graph
returns-then-not-is_graph c = shaped_by c.args.self (sym c.is_graph.ensures ∙ c.if-not-is_graph.true) refl refl refl refl refl refl refl

pub returns-then-not-is_good : goal.returns-then-not-is_good
returns-then-not-is_good c = shaped_by c.args.self (sym c.is_graph.ensures ∙ c.if-not-is_graph.false) (sym c.is_good.ensures ∙ c.if-not-is_good.true) refl refl refl refl refl refl

pub are_told-requires : goal.are_told-requires
are_told-requires c = gate_falls _ _ (sym c.is_graph.ensures ∙ c.if-not-is_graph.false)

pub returns-then-not-are_told : goal.returns-then-not-are_told
returns-then-not-are_told c = shaped_by c.args.self (sym c.is_graph.ensures ∙ c.if-not-is_graph.false) (sym c.is_good.ensures ∙ c.if-not-is_good.false) (says_sized c.args.self (record { wide = c.are_told.ensures.1; entries_size = c.are_told.ensures.2; words = c.are_told.ensures.3 })) (votes_told c.args.self _ c.words_of-words.ensures.0 _ c.are_told.ensures.0 _ (c.if-not-are_told.true)) refl refl refl refl

pub returns-then-not-is_weighed : goal.returns-then-not-is_weighed
returns-then-not-is_weighed c = shaped_by c.args.self (sym c.is_graph.ensures ∙ c.if-not-is_graph.false) (sym c.is_good.ensures ∙ c.if-not-is_good.false) (says_sized c.args.self (record { wide = c.are_told.ensures.1; entries_size = c.are_told.ensures.2; words = c.are_told.ensures.3 })) (votes_told c.args.self _ c.words_of-words.ensures.0 _ c.are_told.ensures.0 _ (c.if-not-are_told.false)) (weights_told c.args.self _ c.words_of-words.ensures.0 _ (ap (row c.words_of-words.result) c.wide.ensures.0) _ c.is_weighed.ensures _ (c.if-not-is_weighed.true)) refl refl refl

pub are_stored-requires : goal.are_stored-requires
are_stored-requires c = gate_falls _ _ (sym c.is_graph.ensures ∙ c.if-not-is_graph.false)

pub returns-then-not-are_stored : goal.returns-then-not-are_stored
returns-then-not-are_stored c = shaped_by c.args.self (sym c.is_graph.ensures ∙ c.if-not-is_graph.false) (sym c.is_good.ensures ∙ c.if-not-is_good.false) (says_sized c.args.self (record { wide = c.are_told.ensures.1; entries_size = c.are_told.ensures.2; words = c.are_told.ensures.3 })) (votes_told c.args.self _ c.words_of-words.ensures.0 _ c.are_told.ensures.0 _ (c.if-not-are_told.false)) (weights_told c.args.self _ c.words_of-words.ensures.0 _ (ap (row c.words_of-words.result) c.wide.ensures.0) _ c.is_weighed.ensures _ (c.if-not-is_weighed.false)) (sym c.are_stored.ensures ∙ c.if-not-are_stored.true) refl refl

pub returns-then-not-index_fits : goal.returns-then-not-index_fits
returns-then-not-index_fits c = shaped_by c.args.self (sym c.is_graph.ensures ∙ c.if-not-is_graph.false) (sym c.is_good.ensures ∙ c.if-not-is_good.false) (says_sized c.args.self (record { wide = c.are_told.ensures.1; entries_size = c.are_told.ensures.2; words = c.are_told.ensures.3 })) (votes_told c.args.self _ c.words_of-words.ensures.0 _ c.are_told.ensures.0 _ (c.if-not-are_told.false)) (weights_told c.args.self _ c.words_of-words.ensures.0 _ (ap (row c.words_of-words.result) c.wide.ensures.0) _ c.is_weighed.ensures _ (c.if-not-is_weighed.false)) (sym c.are_stored.ensures ∙ c.if-not-are_stored.false) (sym c.index_fits.ensures ∙ c.if-not-index_fits.true) refl

pub returns : goal.returns
returns c = c.index_fits-2.ensures ∙ shaped_by c.args.self (sym c.is_graph.ensures ∙ c.if-not-is_graph.false) (sym c.is_good.ensures ∙ c.if-not-is_good.false) (says_sized c.args.self (record { wide = c.are_told.ensures.1; entries_size = c.are_told.ensures.2; words = c.are_told.ensures.3 })) (votes_told c.args.self _ c.words_of-words.ensures.0 _ c.are_told.ensures.0 _ (c.if-not-are_told.false)) (weights_told c.args.self _ c.words_of-words.ensures.0 _ (ap (row c.words_of-words.result) c.wide.ensures.0) _ c.is_weighed.ensures _ (c.if-not-is_weighed.false)) (sym c.are_stored.ensures ∙ c.if-not-are_stored.false) (sym c.index_fits.ensures ∙ c.if-not-index_fits.false) refl
