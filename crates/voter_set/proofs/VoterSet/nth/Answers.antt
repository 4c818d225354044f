use mathlib.Core.Path.{◌≡◌, sym, ◌∙◌}
use native.Mathlib.Omega.{arith}
use lib.ListN.{length}
use borrow.Author.Tests.{lt-ltb}
use Rattle.sizes.specs.Sizes.{VOTERS}
use Rattle.voter_set.specs.Lookup.{nth}
use Rattle.voter_set.proofs.Steps.{nth_beyond, nth_short}
use borrow.Author.Rules.{rules}
use Rattle.voter_set.proofs.VoterSet.nth.Goals as goal

pub returns-then-self-n : goal.returns-then-self-n
returns-then-self-n c = sym (nth_beyond c.args.self _ c.if-self-n.true)

pub returns-then-n-ge-VOTERS : goal.returns-then-n-ge-VOTERS
returns-then-n-ge-VOTERS c =
    let l : length c.args.self.weights ≡ VOTERS = search rules in
    sym (nth_short c.args.self _ (omega (arith, c.if-n-ge-VOTERS.true)))

pub returns-in_default : goal.returns-in_default
unfolding nth
returns-in_default c = rw (lt-ltb _ _ c.if-self-n.false, sym c.info.ensures ∙ c.in_default.is)

pub returns : goal.returns
unfolding nth
returns c = rw (lt-ltb _ _ c.if-self-n.false, sym c.info.ensures ∙ c.in-Some.is)
