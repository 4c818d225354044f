-- What was printed, where it was not refused, begins with the lines.
use mathlib.Core.Bool.{Bool, true, false, cond}
use mathlib.Core.List.{List, ◌++◌}
use mathlib.Core.Path.{◌≡◌, ap}
use Prim.Native.Nat.{ℕ}
use native.Mathlib.Omega.{arith}
use lib.Dec.{ltb}
use lib.ListN.{length, take, drop}
use Rattle.std.proofs.Math.Seq.{take-append_seam}
use Rattle.std.specs.Prelude.{Result, Ok, Err}
use Rattle.listing.specs.Written.{Lent}
use Rattle.feeding.specs.declared.Replay.{Replay}
use Rattle.feeding.specs.Feeding.{stands}
use Rattle.report.specs.Report.{lines_of, refused, printed}
use Rattle.refusals.specs.declared.Refusal.{Refusal}
use Rattle.refusals.specs.declared.Refusal.TheVariants.{Misshapen, ShortBuffer}

pub begins : (r : Replay) (out : List ℕ) (n : ℕ) (bytes : List ℕ) → ◌≡◌ {A = Lent} (record { answer = Ok n; bytes = bytes }) (printed r out)
    → take n bytes ≡ lines_of r
unfolding printed
begins r out n bytes e = go (stands r) (ltb (length out) (length (lines_of r))) e
  where
    go : (s b : Bool)
        → ◌≡◌ {A = Lent} (record { answer = Ok n; bytes = bytes })
        (cond s
        (cond b (refused ShortBuffer out)
        (record { answer = Ok (length (lines_of r)); bytes = lines_of r ++ drop (length (lines_of r)) out }))
        (refused Misshapen out))
        → take n bytes ≡ lines_of r
    go false b h =
        let a : ◌≡◌ {A = Result ℕ Refusal} (Ok n) (Err Misshapen) = ap (λ (x : Lent). x.answer) h in
        absurd (let z : ◌≡◌ {A = ℕ} 0 1 = cc in omega arith)
    go true true h =
        let a : ◌≡◌ {A = Result ℕ Refusal} (Ok n) (Err ShortBuffer) = ap (λ (x : Lent). x.answer) h in
        absurd (let z : ◌≡◌ {A = ℕ} 0 1 = cc in omega arith)
    go true false h =
        let a : ◌≡◌ {A = Result ℕ Refusal} (Ok n) (Ok (length (lines_of r))) = ap (λ (x : Lent). x.answer) h in
        let size : n ≡ length (lines_of r) = cc in
        let text : bytes ≡ lines_of r ++ drop (length (lines_of r)) out = ap (λ (x : Lent). x.bytes) h in
        rw (size, text) (take-append_seam (lines_of r) (drop (length (lines_of r)) out))
