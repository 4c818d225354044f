-- The numbers that a journal's own refusal can have.
use mathlib.Core.List.{List}
use mathlib.Core.Logic.{◌≢◌}
use mathlib.Core.Path.{◌≡◌, sym, subst, ◌∙◌}
use Prim.Native.Nat.{ℕ, ◌≤◌}
use native.Mathlib.Omega.{arith}
use Rattle.marks.specs.declared.Mark.{Mark}
use Rattle.marks.specs.declared.Mark.TheVariants.{Vt, Rt, Bk, Op, Pv, Pc}
use Rattle.feeding.specs.declared.Replay.{Replay}
use Rattle.feeding.specs.Feeding.{replayed}
use Rattle.replay_laws.specs.Ends.{Ends, at_end, at_mark, at_record, taken}
use Rattle.replay_laws.specs.Turned.{Part, voters, blocks, votes, part_of, Own}
use Rattle.replay_laws.proofs.Ends.{replay_ends}
use Rattle.replay_laws.proofs.Numbers.{refused_number}
use Rattle.beamtassel_laws.specs.Results.{Listed}
use Rattle.refusals.specs.declared.Refusal.{Refusal}
use Rattle.refusals.specs.Number.{number}
use Rattle.std.specs.Prelude.{Result, Ok, Err, ⊤}

-- a call's own refusals, 14 to 16, are none of them
pub record OwnNumber (n : ℕ) : Type 0 where
  pub number : Listed n
  pub not_short : n ≢ 14

one : (n : ℕ) → ((1 ≤ n) × (n ≤ 8)) → OwnNumber n
one n h = record { number = record { listed = (h.0, omega (arith, h.1)); not_nine = λ e. omega (arith, h.1) }; not_short = λ e. omega (arith, h.1) }

ten : (n : ℕ) → ((10 ≤ n) × (n ≤ 13)) → OwnNumber n
ten n h =
    record {
      number = record { listed = (omega (arith, h.0), omega (arith, h.1)); not_nine = λ e. omega (arith, h.0) };
      not_short = λ e. omega (arith, h.1);
    }

late : (n : ℕ) → 17 ≤ n → n ≤ 18 → OwnNumber n
late n h k = record { number = record { listed = (omega (arith, h), k); not_nine = λ e. omega (arith, h) }; not_short = λ e. omega (arith, h) }

own_number : (p : Part) (m : Mark) (n : ℕ) → Own p m n → OwnNumber n
own_number voters Vt n h = one n (omega (arith, h), omega (arith, h))
own_number voters Rt n h = one n (omega (arith, h.0), omega (arith, h.1))
own_number voters Bk n h = late n (omega (arith, h)) (omega (arith, h))
own_number voters Op n h = late n (omega (arith, h)) (omega (arith, h))
own_number voters Pv n h = late n (omega (arith, h)) (omega (arith, h))
own_number voters Pc n h = late n (omega (arith, h)) (omega (arith, h))
own_number blocks Vt n h = late n (omega (arith, h)) (omega (arith, h))
own_number blocks Rt n h = late n (omega (arith, h)) (omega (arith, h))
own_number blocks Bk n h = one n (omega (arith, h.0), omega (arith, h.1))
own_number blocks Op n h = ten n (omega (arith, h), omega (arith, h))
own_number blocks Pv n h = late n (omega (arith, h)) (omega (arith, h))
own_number blocks Pc n h = late n (omega (arith, h)) (omega (arith, h))
own_number votes Vt n h = late n (omega (arith, h)) (omega (arith, h))
own_number votes Rt n h = late n (omega (arith, h)) (omega (arith, h))
own_number votes Bk n h = one n (omega (arith, h.0), omega (arith, h.1))
own_number votes Op n h = late n (omega (arith, h)) (omega (arith, h))
own_number votes Pv n h = ten n (omega (arith, h.0), omega (arith, h.1))
own_number votes Pc n h = ten n (omega (arith, h.0), omega (arith, h.1))

-- what a stop tells
abbrev Stops : Result ⊤ Refusal → Type 0
Stops (Ok tt) = Unit {0}
Stops (Err e) = OwnNumber (number e)

pub replay_stops : (bs : List ℕ) → Stops (replayed bs).stop
replay_stops bs = go (replayed bs) (replay_ends bs)
  where
    go : (r : Replay) → Ends bs r → Stops r.stop
    go _ (at_end c u) = tt
    go _ (at_mark c u) = late 17 (omega arith) (omega arith)
    go _ (at_record es e later n s c q) = own_number (part_of (taken es).state) e.mark (number n) (refused_number es e n q)

pub own_refusal : (bs : List ℕ) (e : Refusal) → (replayed bs).stop ≡ Err e → OwnNumber (number e)
own_refusal bs e q = subst Stops q (replay_stops bs)
