-- Document 01, "The journal": a journal cut at any byte gives the state of the whole records before the cut, if the uncut one is accepted.
use mathlib.Core.List.{List}
use mathlib.Core.Path.{◌≡◌, refl, ap}
use Prim.Native.Nat.{ℕ}
use native.Mathlib.Omega.{arith}
use lib.ListN.{take, drop}
use Rattle.marks.specs.declared.End.{End}
use Rattle.marks.specs.declared.End.TheVariants as end
use Rattle.marks.specs.declared.End.TheVariants.{Cut, Left}
use Rattle.runs.specs.Parsed.{parsed, tail, span, within}
use Rattle.runs.proofs.Cuts.{cut_anywhere}
use Rattle.turns.specs.Turns as turns
use Rattle.turns.specs.Turns.{pairing, took, no_pairs}
use Rattle.feeding.specs.declared.Replay.{Replay}
use Rattle.feeding.specs.Feeding.{after_run, replayed}
use Rattle.replay_laws.specs.Ends.{taken, open_after}
use Rattle.replay_laws.proofs.Holds.{replay_not_left}
use Rattle.replay_laws.proofs.Feeds.{replayed_refused}
use Rattle.replay_laws.proofs.Ends.{value_of, run_end, to_end, when_end}
use Rattle.std.specs.Prelude.{Ok, Err}

-- an accepted journal is one whose run comes to its end
open_run : (bs : List ℕ) → (replayed bs).stop ≡ Ok tt → (turns.replayed bs).end ≡ Cut
open_run bs o = go (turns.replayed bs).end refl
  where
    go : (x : End) → (turns.replayed bs).end ≡ x → (turns.replayed bs).end ≡ Cut
    go Cut e = e
    go (end.Refused k) e =
        let s : (replayed bs).stop ≡ Err k = ap (λ (r : Replay). r.stop) (replayed_refused bs k e) in
        absurd (let z : ◌≡◌ {A = ℕ} 0 1 = cc in omega arith)
    go Left e = absurd (replay_not_left bs e)

module _ (bs : List ℕ) (accepted : (replayed bs).stop ≡ Ok tt) where
  -- all whole records are taken, and the tail is what is left after the last
  pub open_means : ((taken (parsed bs)).end ≡ Cut) × (replayed bs ≡ open_after (parsed bs) (tail bs))
  open_means = let t = to_end bs (open_run bs accepted) in (t.0, when_end bs t.0 t.1)

  -- cut at byte k: the records that end at or before it are taken, all of them, and the bytes after them are left
  pub cut_open : (k : ℕ)
      → ((taken (within k (parsed bs))).end ≡ Cut)
      × (replayed (take k bs) ≡ open_after (within k (parsed bs)) (drop (span (within k (parsed bs))) (take k bs)))
  unfolding after_run
  cut_open k =
      let c = cut_anywhere took (pairing no_pairs) bs k (run_end bs Cut (open_run bs accepted)) in
      (c.0, value_of (take k bs) _ c.1)
