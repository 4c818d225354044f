use mathlib.Core.Path.{sym}
use native.Mathlib.Omega.{arith}
use Rattle.voter_set.proofs.Steps.{nth_beyond}
use Rattle.voter_set.specs.Lookup.{nth_mod}
use borrow.Author.Rules.{rules}
use Rattle.voter_set.proofs.VoterSet.nth_mod.Goals as goal

pub returns-then-self-eq0 : goal.returns-then-self-eq0
unfolding nth_mod
returns-then-self-eq0 c = sym (nth_beyond c.args.self _ (omega (arith, c.if-self-eq0.true)))

pub returns : goal.returns
unfolding nth_mod
returns c = search rules
