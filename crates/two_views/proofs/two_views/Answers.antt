use mathlib.Core.Path.{sym, ◌∙◌}
use Prim.Native.Nat.{◌≤◌}
use Rattle.loops.proofs.Tests.{T_true}
use Rattle.weights.specs.Weights.{most}
use Rattle.two_views.specs.Views.{views}
use Rattle.two_views.proofs.Rounds.{voters_good, differing_is}
use borrow.Author.Rules.{rules}
use Rattle.two_views.proofs.two_views.Goals as goal

pub returns-then-not-is_round : goal.returns-then-not-is_round
unfolding views
returns-then-not-is_round c = rw (sym c.is_round.ensures ∙ c.if-not-is_round.true)

pub returns-then-not-is_round-2 : goal.returns-then-not-is_round-2
unfolding views
returns-then-not-is_round-2 c = rw (sym c.is_round.ensures ∙ c.if-not-is_round.false, sym c.is_round-2.ensures ∙ c.if-not-is_round-2.true)

pub returns-then-not-agree : goal.returns-then-not-agree
unfolding views
returns-then-not-agree c = rw (sym c.is_round.ensures ∙ c.if-not-is_round.false, sym c.is_round-2.ensures ∙ c.if-not-is_round-2.false, sym c.agree.ensures ∙ c.if-not-agree.true)

pub differing-requires : goal.differing-requires
differing-requires c = (voters_good c.args.one (T_true (sym c.is_round.ensures ∙ c.if-not-is_round.false))).few

pub returns : goal.returns
unfolding views
returns c =
    let s = sym c.is_round.ensures ∙ c.if-not-is_round.false in
    let fits : c.args.one.context.voters.total ≤ most = search (rules, c.well_formed.0.1.1.1.0) in
    rw (s, sym c.is_round-2.ensures ∙ c.if-not-is_round-2.false, sym c.agree.ensures ∙ c.if-not-agree.false, differing_is c.args.one (T_true s) fits c.args.other _ c.differing.ensures)
