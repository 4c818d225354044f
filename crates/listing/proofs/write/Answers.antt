use mathlib.Core.List.{List, ◌++◌}
use mathlib.Core.Path.{ap, ◌∙◌}
use Prim.Native.Nat.{ℕ, ◌-◌, ◌<◌}
use native.Mathlib.Omega.{arith}
use lib.ListN.{length, take, drop}
use Rattle.std.proofs.lemmas.List.{length-take-le, get_or-take}
use Rattle.listing.specs.Written.{record_of}
use Rattle.listing.proofs.Rows.{filled_none, filled_next, filled_end, filled_not, record_size, record_is}
use Rattle.listing.proofs.write.Goals as goal

pub returns-then-out-count : goal.returns-then-out-count
returns-then-out-count c = filled_not _ _ _ _ c.if-out-count.true

pub loop-entry-init : goal.loop-entry-init
loop-entry-init c = filled_none _ _ _

pub loop-entry-preserved : goal.loop-entry-preserved
loop-entry-preserved c =
    let used = length-take-le c.args.count c.args.entries.now (omega (arith, c.requires.0)) in
    let h : c.loop-entry.entry-index < c.args.count = omega (arith, c.loop-entry-test.true, used) in
    let here = get_or-take c.args.count c.args.entries.now c.loop-entry.entry-index 0 h in
    filled_next _ (record_size _ _ _ _) _ _ _ _ _ c.loop-entry.invariant (omega (arith, c.loop-entry.invariant.used_is, h, c.if-out-count.false)) _ (c.put_vote.ensures ∙ ap (λ (l : List ℕ). l ++ drop 22 (take (length c.loop-entry.out - c.loop-entry.used) (drop c.loop-entry.used c.loop-entry.out))) (record_is _ _ _ _ _ _ _ _ _ c.entry_index-at.ensures.0 c.index_place-place.ensures.0 c.phase_at-phase.ensures c.pair_of-pair.ensures ∙ ap (record_of _ _ _ _) here))

pub returns : goal.returns
returns c = filled_end _ _ _ _ _ _ _ c.loop-entry.invariant (omega (arith, c.loop-entry.auto.entry-index-end, c.loop-entry-test.false)) c.if-out-count.false
