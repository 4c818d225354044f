use native.Mathlib.Omega.{arith}
use Rattle.grandpa.proofs.Trees.{below_le}
use Rattle.vote_search.proofs.Together.{on_start, on_outside, on_weighty, on_base, on_up}
use Rattle.vote_search.proofs.find_both.Goals as goal

pub loop-bits-init : goal.loop-bits-init
loop-bits-init c = on_start _ _ _ _ _ _ _ c.requires.2.in_base

pub cumulative_vote-requires : goal.cumulative_vote-requires
cumulative_vote-requires c = let s = c.requires.2.sound in (s.parents_fall, s.above_falls, s.tips_fit)

pub returns-in_default : goal.returns-in_default
returns-in_default c = on_outside _ _ _ _ _ c.requires.2.sound _ _ _ _ _ _ c.loop-bits.invariant _ c.cumulative_vote.ensures c.in_default.is

pub returns-then-still-weight : goal.returns-then-still-weight
returns-then-still-weight c =
    on_weighty _ _ _ _ _ c.requires.2.sound _ _ _ _ _ _ c.loop-bits.invariant _ c.cumulative_vote.ensures _ c.in-Some.is _ c.merged_weight-weight.ensures _ c.or_this-possible.ensures c.if-still-weight.true

pub returns-then-here-base : goal.returns-then-here-base
returns-then-here-base c =
    on_base _ _ _ _ _ c.requires.2.sound _ _ _ _ _ _ c.loop-bits.invariant _ c.cumulative_vote.ensures _ c.in-Some.is _ c.merged_weight-weight.ensures _ c.or_this-possible.ensures c.if-still-weight.false c.if-here-base.true

pub bounds-parents-wide : goal.bounds-parents-wide
bounds-parents-wide c = c.wide.ensures.1

pub loop-bits-smaller : goal.loop-bits-smaller
loop-bits-smaller c =
    let s = c.requires.2.sound in
    omega (arith, s.parents_fall c.wide.result, c.wide.ensures.0, below_le _ s.parents_fall _ _ c.loop-bits.invariant.inside, c.if-here-base.false)

pub loop-bits-preserved : goal.loop-bits-preserved
loop-bits-preserved c =
    on_up _ _ _ _ _ c.requires.2.sound _ _ _ _ _ _ c.loop-bits.invariant _ c.cumulative_vote.ensures _ c.in-Some.is _ c.merged_weight-weight.ensures _ c.or_this-possible.ensures c.if-still-weight.false c.if-here-base.false _ c.wide.ensures.0
