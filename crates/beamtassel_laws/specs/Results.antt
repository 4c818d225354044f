-- What a call of the library can answer. Document 01, "Refusal numbers": a refusal returns only its number, and the buffer is untouched.
use Rattle.std.specs.Prelude.{List, ◌++◌, ◌≢◌, ◌≡◌, ℕ, ◌+◌, ◌≤◌, ◌<◌, length, drop}
use Rattle.refusals.specs.declared.Refusal.{Refusal}
use Rattle.refusals.specs.Number.{number}
use Rattle.beamtassel.specs.Calls.{Call, refused}

-- a number of document 01's list; 9 is never given, since no state is handed in
pub record Listed (n : ℕ) : Type 0 where
  pub listed : (1 ≤ n) × (n ≤ 18)
  pub not_nine : n ≢ 9

-- at most so many bytes are written, and the rest of the buffer stays; or nothing is, and 14 only says that there are fewer
pub data Results (most : ℕ) (out : List ℕ) : Call → Type 0 where
  wrote : (bytes : List ℕ) → length bytes ≤ most → length bytes ≤ length out
      → Results most out (record { number = length bytes; out = bytes ++ drop (length bytes) out })
  refuses : (e : Refusal) → Listed (number e) → (number e ≡ 14 → length out < most) → Results most out (refused e out)
