-- Document 01, "Weights and bits": `VoteWeight` adds and subtracts with saturation. "Porting order", 1: comparisons; no
-- zero voter weight.
use Rattle.std.specs.Prelude.{cond, ℕ, ◌+◌, ◌-◌, ◌^◌, min, eqb, ltb, Option, None, Some}
use Rattle.std.specs.declared.cmp.Ordering.{Ordering}
use Rattle.std.specs.declared.cmp.Ordering.TheVariants.{Less, Equal, Greater}
use Rattle.weights.specs.declared.VoterWeight.{VoterWeight}

-- the largest weight
abbrev pub most : ℕ
most = 2 ^ 64 - 1

abbrev pub plus : ℕ → ℕ → ℕ
plus a b = min (a + b) most

-- a difference of natural numbers stops at 0
abbrev pub minus : ℕ → ℕ → ℕ
minus a b = a - b

abbrev pub compared : ℕ → ℕ → Ordering
compared a b = cond (ltb a b) Less (cond (eqb a b) Equal Greater)

abbrev pub kept : ℕ → Option VoterWeight
kept a = cond (eqb a 0) None (Some (record { 0 = a }))
