use mathlib.Core.Path.{◌≡◌, ◌∙◌, sym}
use lib.ListN.{length}
use Rattle.sizes.specs.Sizes.{WORDS}
use Rattle.context.proofs.Votes.{voted_joined, weight_cong}
use borrow.Author.Rules.{rules}
use Rattle.context.proofs.weighing.merged_weight.Goals as goal

pub returns : goal.returns
returns c =
    let a : length c.args.bits ≡ WORDS = search rules in
    let b : length c.args.other ≡ WORDS = search rules in
    rw (c.weight.ensures, c.merge-both.ensures) (weight_cong _ _ _ (λ p h. voted_joined _ p _ _ (a ∙ sym b)))
