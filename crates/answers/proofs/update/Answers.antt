use Rattle.answers.specs.Update.{scene}
use Rattle.answers.proofs.Steps.{stands, told_in, possible_in, update_early, update_none, update_waiting, update_reached}
use Rattle.answers.proofs.update.Goals as goal

pub returns-then-heard-threshold : goal.returns-then-heard-threshold
returns-then-heard-threshold c = update_early _ _ _ _ c.if-heard-threshold.true

pub returns-in_default : goal.returns-in_default
returns-in_default c = update_none _ _ _ _ c.if-heard-threshold.false c.in_default.is

pub returns-then-heard-threshold-2 : goal.returns-then-heard-threshold-2
returns-then-heard-threshold-2 c = update_waiting _ _ _ _ c.if-heard-threshold.false _ c.in-Some.is c.if-heard-threshold-2.true

pub find_both-both-requires : goal.find_both-both-requires
find_both-both-requires c = (_, _, stands _ _ _ c.requires.0 _ (told_in _ _ _ c.requires.1 _ c.in-Some.is))

pub is_completable-completable-requires : goal.is_completable-completable-requires
is_completable-completable-requires c =
    let s = scene _ _ _ c.args.threshold _ _ in
    (_, _, _, c.requires.0, possible_in s c.requires.0 _ _ _ (told_in _ _ _ c.requires.1 _ c.in-Some.is) c.find_both-both.ensures)

pub returns : goal.returns
returns c =
    update_reached _ _ _ _ c.if-heard-threshold.false _ c.in-Some.is c.requires.0 (told_in _ _ _ c.requires.1 _ c.in-Some.is) c.if-heard-threshold-2.false _ _ c.weight-equivocated.ensures c.new-still.ensures _ c.find_both-both.ensures _ c.is_completable-completable.ensures
