use mathlib.Core.Path.{refl, sym, ap, ◌∙◌}
use mathlib.Core.List.{List}
use Prim.Native.Nat.{ℕ}
use lib.ListN.{get_or, set}
use Rattle.loops.specs.Listing.{front, fold}
use Rattle.nodes.proofs.Lists.{front_end}
use Rattle.vote_insert.specs.Insert.{set_all}
use Rattle.vote_insert.proofs.Sets.{set_all_next}
use Rattle.vote_insert.proofs.set_all.Goals as goal

pub loop-member-init : goal.loop-member-init
loop-member-init c = unfold set_all front fold in refl

pub loop-member-preserved : goal.loop-member-preserved
loop-member-preserved c =
    ap (λ (x : ℕ). set c.loop-member.above x c.args.node) c.wide.ensures.0
    ∙ ap (λ (v : List ℕ). set v (get_or c.args.members.now c.loop-member.member-index 0) c.args.node) c.loop-member.invariant ∙ sym (set_all_next _ _ _ _)

pub returns : goal.returns
returns c =
    c.loop-member.invariant
    ∙ ap (λ (ms : List ℕ). set_all c.args.above.now ms c.args.node) (front_end _ _ c.loop-member.auto.member-index-end c.loop-member-test.false)
