-- What a call of a read or a write did, and when another is due. It answers a count, or where it failed an error, which may have the system's number.
use Rattle.std.specs.Prelude.{Bool, false, cond, ℕ, ◌+◌, ◌-◌, ◌≤◌, ◌<◌, min, eqb, leb, ℤ, pos, negsuc, Option, Some, None, Result, Ok, Err}
use Rattle.std.specs.IoError.{raw_os_error}
use Rattle.std.specs.declared.io.Error.{Error}
use Rattle.std.specs.declared.ops.ControlFlow.{ControlFlow}
use Rattle.std.specs.declared.ops.ControlFlow.TheVariants.{Continue, Break}
use Rattle.streams.specs.declared.Moved.{Moved}
use Rattle.streams.specs.declared.Moved.TheVariants as moved

-- a signal interrupted the call (EINTR is 4)
abbrev pub interrupted : Option ℤ → Bool
interrupted (Some (pos n)) = eqb n 4
interrupted (Some (negsuc n)) = false
interrupted None = false

-- a call that failed: one that a signal interrupted is made again; any other reason is the answer, EAGAIN too
abbrev pub failing : Error → Result (Option ℕ) Error
failing e = cond (interrupted (raw_os_error e)) (Ok None) (Err e)

-- what a call that was lent so many bytes did, by its answer: how many it moved, or nothing, where it is made again
abbrev pub stepped : Result ℕ Error → ℕ → Result (Option ℕ) Error
stepped (Ok k) most = Ok (Some (min k most))
stepped (Err e) most = failing e

-- after so many more bytes, with so many of all moved before them: no more bytes are the end
abbrev pub moving : ℕ → ℕ → ℕ → ControlFlow (Result Moved Error) ℕ
moving n done all = cond (eqb n 0) (Break (Ok (moved.Part done))) (cond (leb (all - done) n) (Break (Ok moved.All)) (Continue (done + n)))

-- whether another call is due, after a step with so many of all bytes moved before it
abbrev pub gone : Result (Option ℕ) Error → ℕ → ℕ → ControlFlow (Result Moved Error) ℕ
gone (Ok (Some n)) done all = moving n done all
gone (Ok None) done all = Continue done
gone (Err e) done all = Break (Err e)

-- an input was read to its end
abbrev pub Ended : Result Moved Error → Type 0
Ended (Ok moved.All) = ⊥
Ended (Ok (moved.Part n)) = Unit {0}
Ended (Err e) = ⊥

-- how many bytes of a space hold what was read: none that count where a read failed
abbrev pub counted : Result Moved Error → ℕ → ℕ
counted (Ok moved.All) most = most
counted (Ok (moved.Part n)) most = min n most
counted (Err e) most = 0

-- where an input ended inside a space, it ended within it
abbrev pub Within : Result Moved Error → ℕ → Type 0
Within (Ok moved.All) most = Unit {0}
Within (Ok (moved.Part n)) most = n ≤ most
Within (Err e) most = Unit {0}

-- a call that is still due has bytes to move
abbrev pub Inside : ControlFlow (Result Moved Error) ℕ → ℕ → Type 0
Inside (Continue done) all = done < all
Inside (Break m) all = Within m all
