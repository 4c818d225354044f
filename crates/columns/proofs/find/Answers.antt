use mathlib.Core.Path.{◌≡◌, sym}
use mathlib.Core.Logic.{◌≢◌}
use mathlib.Core.List.{List}
use Prim.Native.Nat.{ℕ, ◌-◌, ◌≤◌, ◌<◌}
use native.Mathlib.Omega.{arith}
use borrow.Author.Rules.{rules}
use borrow.Author.Tests.{tests}
use lib.ListN.{length, take, drop}
use Rattle.std.proofs.Common.{Option, MatchOption}
use Rattle.std.specs.List.{HoldsAt, AllWithin}
use Rattle.std.proofs.lemmas.Iterator.{IsFirst-from_position, YieldsList-from_slice}
use Rattle.columns.specs.Find.{find}
use Rattle.columns.proofs.Finds.{length_part, part_found, part_nothing}
use Rattle.columns.proofs.find.Goals as goal
use Rattle.columns.proofs.find.Goals.{After-position}

-- a place is that of the first number that is x
abbrev IsFirst : ℕ → List ℕ → Option ℕ → Type 0
IsFirst x ws place =
    MatchOption place (AllWithin (λ w. w ≢ x) ws 0 (length ws)) (λ i. (i < length ws) × HoldsAt (λ w. w ≡ x) ws i × AllWithin (λ w. w ≢ x) ws 0 i)

place : (c : After-position)
    → IsFirst c.args.x (take (c.used-end.result - c.skip-from.result) (drop c.skip-from.result c.args.column.now)) c.position.result
place c =
    IsFirst-from_position _ _ _ (λ w. w ≡ c.args.x) (λ w. w ≢ c.args.x) c.position.ensures.ran (YieldsList-from_slice _ cc)
    (λ x q k. search (rules, tests))
    (λ x q k. search (rules, tests))

pub returns-in_err-at : goal.returns-in_err-at
unfolding find
returns-in_err-at c =
    let within : c.used-end.result ≤ length c.args.column.now = omega (arith, c.used-end.ensures) in
    let l = length_part c.args.column.now c.args.x _ _ c.skip-from.ensures.0 within in
    let f = rw c.in_err-at.was at (place (goal.at.returns-in_err-at c).After-position) in
    rw (c.from_residual.ensures, ← c.used-end.ensures, c.skip-from.ensures.1)
    (sym (part_nothing _ _ _ _ c.skip-from.ensures.0 within (λ j h. f j 0 (omega arith) (omega arith))))

pub returns : goal.returns
unfolding find
returns c =
    let within : c.used-end.result ≤ length c.args.column.now = omega (arith, c.used-end.ensures) in
    let l = length_part c.args.column.now c.args.x _ _ c.skip-from.ensures.0 within in
    let f = rw c.in_ok-at.was at (place (goal.at.returns c).After-position) in
    rw (← c.used-end.ensures, c.skip-from.ensures.1)
    (sym (part_found _ _ _ _ c.skip-from.ensures.0 within _ (omega (arith, f.0)) (f.1 0) (λ j h. f.2 j 0 (omega arith) h)))
