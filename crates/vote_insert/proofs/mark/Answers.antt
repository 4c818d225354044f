use mathlib.Core.Path.{refl, sym, ap, ◌∙◌}
use mathlib.Core.List.{List}
use Prim.Native.Nat.{ℕ}
use native.Mathlib.Omega.{arith}
use lib.ListN.{get_or, set}
use Rattle.bitfield.specs.Bits.{put}
use Rattle.nodes.specs.Nodes.{row}
use Rattle.vote_insert.specs.Insert.{marked}
use Rattle.vote_insert.proofs.Marks.{marked_end, marked_next}
use borrow.Author.Rules.{rules}
use Rattle.vote_insert.proofs.mark.Goals as goal

pub loop-at-init : goal.loop-at-init
loop-at-init c = (search rules, refl)

pub offset_bounds-rows-k : goal.offset_bounds-rows-k
offset_bounds-rows-k c = omega (arith, c.wide-k.ensures.1)

pub bounds-rows-k : goal.bounds-rows-k
bounds-rows-k c = c.wide-k.ensures.1

pub offset_bounds-rows-k-in-loop-at : goal.offset_bounds-rows-k-in-loop-at
offset_bounds-rows-k-in-loop-at c = omega (arith, c.wide-k.ensures.1)

pub bounds-rows-k-in-loop-at : goal.bounds-rows-k-in-loop-at
bounds-rows-k-in-loop-at c = c.wide-k.ensures.1

pub returns-then-at-base : goal.returns-then-at-base
returns-then-at-base c =
    let at = c.loop-at.at in
    let rows = c.loop-at.rows in
    ap (λ (b : List ℕ). set rows c.wide-k.result b) c.set_bit-more.ensures
    ∙ ap (λ (k : ℕ). set rows k (put (row rows k) c.args.bit)) c.wide-k.ensures.0
    ∙ sym (c.loop-at.invariant.1 ∙ marked_end c.args.above.now c.requires _ _ at rows c.if-at-base.true)

pub bounds-above-k : goal.bounds-above-k
bounds-above-k c = c.wide-k.ensures.1

pub loop-at-smaller : goal.loop-at-smaller
loop-at-smaller c = omega (arith, c.requires c.wide-k.result, c.wide-k.ensures.0, c.if-at-base.false)

pub loop-at-preserved : goal.loop-at-preserved
loop-at-preserved c =
    let at = c.loop-at.at in
    let rows = c.loop-at.rows in
    let above = c.args.above.now in (
      omega (arith, c.requires c.wide-k.result, c.wide-k.ensures.1),
      c.loop-at.invariant.1 ∙ marked_next above c.requires _ _ at rows c.if-at-base.false
          ∙ sym (ap (λ (b : List ℕ). marked above c.args.base c.args.bit (get_or above c.wide-k.result 0) (set rows c.wide-k.result b)) c.set_bit-more.ensures
          ∙ ap (λ (k : ℕ). marked above c.args.base c.args.bit (get_or above k 0) (set rows k (put (row rows k) c.args.bit))) c.wide-k.ensures.0),
    )
