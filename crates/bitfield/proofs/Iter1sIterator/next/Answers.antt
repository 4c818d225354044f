use mathlib.Core.Path.{◌≡◌}
use mathlib.Core.Logic.{◌≢◌}
use Prim.Native.Nat.{ℕ, ◌+◌, ◌*◌, ◌<◌}
use native.Mathlib.Omega.{arith}
use borrow.Author.Rules.{rules}
use borrow.Author.Tests.{tests}
use Rattle.std.proofs.Common.{Option, List, MatchOption, Some}
use lib.ListN.{length, get_or, set}
use Rattle.std.specs.List.{HoldsAt, AllWithin}
use Rattle.std.proofs.lemmas.Iterator.{IsFirst-from_position, YieldsList-from_slice}
use mir.Syntax.{w64}
use mir.Val.{Fits}
use Rattle.bitfield.specs.Walk.{Steps}
use Rattle.bitfield.proofs.Steps.{step_at, step_none, step_fewer}
use Rattle.bitfield.proofs.Iter1sIterator.next.Goals as goal
use Rattle.bitfield.proofs.Iter1sIterator.next.Goals.{After-position, After-first_of-one}

-- a place is that of the first word that isn't 0
abbrev IsFirst : List ℕ → Option ℕ → Type 0
IsFirst ws place =
    MatchOption place (AllWithin (λ w. w ≡ 0) ws 0 (length ws)) (λ i. (i < length ws) × HoldsAt (λ w. w ≢ 0) ws i × AllWithin (λ w. w ≡ 0) ws 0 i)

first : (c : After-position) → IsFirst c.args.self.now.left c.position.result
first c =
    IsFirst-from_position _ _ _ (λ w. w ≢ 0) (λ w. w ≡ 0) c.position.ensures.ran (YieldsList-from_slice c.args.self.now.left cc)
    (λ x q k. search (rules, tests))
    (λ x q k. search (rules, tests))

pub returns-in_err-place-clause-steps : goal.returns-in_err-place-clause-steps
returns-in_err-place-clause-steps c =
    let f = rw c.in_err-place.was at (first (goal.at.returns-in_err-place-clause-steps c).After-position) in
    rw c.from_residual.ensures (step_none _ (λ k h. f k 0 (omega arith) h))

-- the step at the first word that isn't 0
stepped : (c : After-first_of-one) → IsFirst c.args.self.now.left c.position.result
    → Steps c.args.self.now.left (Some (record { position = 64 * c.in_ok-place.place + c.first_of-one.result.at })) (set c.args.self.now.left c.in_ok-place.place c.first_of-one.result.rest)
stepped c h =
    let f = rw c.in_ok-place.was at h in
    let w : ℕ = get_or c.args.self.now.left c.in_ok-place.place 0 in
    let fits : Fits w64 w = search rules in
    rw c.first_of-one.ensures.0 (step_at _ _ f.0 (λ k h. f.2 k 0 (omega arith) h) (omega (arith, f.1 0)) (omega (arith, fits.fits)))

pub returns-clause-steps : goal.returns-clause-steps
returns-clause-steps c = stepped (goal.at.returns-clause-steps c).After-first_of-one (first (goal.at.returns-clause-steps c).After-position)

pub returns-clause-goes : goal.returns-clause-goes
returns-clause-goes c =
    let fewer = step_fewer _ _ _ (stepped (goal.at.returns-clause-goes c).After-first_of-one (first (goal.at.returns-clause-goes c).After-position)) in
    search rules
