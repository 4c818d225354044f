-- Document 02, R-3, over bytes: the journals' rounds are reached by calls, and the eight bytes are their two-view sum.
use mathlib.Core.Bool.{Bool, true, false, cond}
use mathlib.Core.List.{List, ◌++◌}
use mathlib.Core.Path.{◌≡◌, refl, ap, ◌∙◌}
use Prim.Native.Nat.{ℕ, ◌^◌, ◌<◌}
use native.Mathlib.Omega.{arith}
use lib.Dec.{ltb}
use lib.ListN.{length, take, drop}
use Rattle.loops.proofs.Tests.{true_T}
use Rattle.grandpa.specs.Weight.{fault}
use Rattle.records.specs.Bytes.{little, number_of}
use Rattle.records.proofs.Bytes.{number_back}
use Rattle.round.specs.Shape.{shaped}
use Rattle.round.specs.Ask as ask
use Rattle.round_laws.specs.Later.{Reached}
use Rattle.round_laws.proofs.Lasting.{reached_fits}
use Rattle.two_views.specs.Views as two
use Rattle.journal.specs.declared.Turn.{Turn}
use Rattle.journal.specs.declared.Turn.TheVariants.{Voters, Blocks, Votes}
use Rattle.feeding.specs.Feeding.{replayed}
use Rattle.replay_laws.specs.Rounds.{HasRound, round_in}
use Rattle.replay_laws.proofs.Lasts.{round_reached}
use Rattle.summary.specs.Summary.{summed, of_round}
use Rattle.demands.proofs.Refusing.{demand_1}
use Rattle.demands.proofs.Meant.{keeps}
use Rattle.demands.proofs.Makers as rounds
use Rattle.beamtassel.specs.Calls.{Call, refused, unless_refused, has_round, views_in, weighed, two_views_call}
use Rattle.beamtassel.proofs.Called.{views_are}
use Rattle.beamtassel_laws.specs.Makers.{FinalsApart, Makers}
use Rattle.std.specs.Prelude.{Result, Ok, Err, ⊤}
use Rattle.refusals.specs.declared.Refusal.{Refusal}
use Rattle.refusals.specs.declared.Refusal.TheVariants.{ShortBuffer, UnlikeViews}

-- the call by its parts
abbrev call_of : Result ⊤ Refusal → Result ⊤ Refusal → Bool → Bool → Result ℕ Refusal → List ℕ → Call
call_of s t u v w out = unless_refused s out (unless_refused t out (cond u (cond v (weighed w out) (refused UnlikeViews out)) (refused UnlikeViews out)))

-- what an answer tells of them
pub record Answered (s t : Result ⊤ Refusal) (u v : Bool) (w : Result ℕ Refusal) (out : List ℕ) : Type 0 where
  pub first_open : s ≡ Ok tt
  pub second_open : t ≡ Ok tt
  pub first_has : u ≡ true
  pub second_has : v ≡ true
  pub sum : ℕ
  pub sums : w ≡ Ok sum
  pub bytes : take 8 (call_of s t u v w out).out ≡ little 8 sum

answered_by : (s t : Result ⊤ Refusal) (u v : Bool) (w : Result ℕ Refusal) (out : List ℕ) → (call_of s t u v w out).number < 4294967296 → Answered s t u v w out
answered_by (Err n) t u v w out h = absurd (omega (arith, h))
answered_by (Ok _) (Err n) u v w out h = absurd (omega (arith, h))
answered_by (Ok _) (Ok _) false v w out h = absurd (omega (arith, h))
answered_by (Ok _) (Ok _) true false w out h = absurd (omega (arith, h))
answered_by (Ok _) (Ok _) true true (Err n) out h = absurd (omega (arith, h))
answered_by (Ok _) (Ok _) true true (Ok n) out h =
    record { first_open = refl; second_open = refl; first_has = refl; second_has = refl; sum = n; sums = refl; bytes = go (ltb (length out) 8) h }
  where
    go : (b : Bool) → (cond b (refused ShortBuffer out) (record { number = 8; out = little 8 n ++ drop 8 out })).number < 4294967296
        → take 8 (cond b (refused ShortBuffer out) (record { number = 8; out = little 8 n ++ drop 8 out })).out ≡ little 8 n
    go true l = absurd (omega (arith, l))
    go false l = refl

turn_votes : (t : Turn) → has_round t ≡ true → t ≡ Votes
turn_votes Votes e = refl
turn_votes Blocks e = absurd (let z : ◌≡◌ {A = ℕ} 0 1 = cc in omega arith)
turn_votes Voters e = absurd (let z : ◌≡◌ {A = ℕ} 0 1 = cc in omega arith)

-- a journal with a round
module _ (bs : List ℕ) (going : (replayed bs).stop ≡ Ok tt) (has : HasRound bs) where
  final_told : ask.finalized (round_in bs) ≡ Ok (summed (replayed bs)).finalized
  unfolding summed of_round
  final_told = rw (going, has) ((demand_1 (round_in bs)).finalized.steps (keeps (round_in bs) (round_reached bs has)))

  total_told : (summed (replayed bs)).total ≡ (round_in bs).context.voters.total
  unfolding summed of_round
  total_told = rw (going, has) refl

two_finals : (first second out : List ℕ) → FinalsApart first second out
    → fault (summed (replayed first)).total < number_of (take 8 (two_views_call first second out).out)
unfolding two_views_call
two_finals first second out apart =
    omega (
      arith,
      total_told first x.first_open has,
      ap number_of x.bytes,
      number_back 8 x.sum fits,
      rounds.makers (round_in first) (round_in second)
          (record {
            reached = reached;
            reached_other = reached_other;
            sum = x.sum;
            sums = sums;
            id = apart.id;
            number = apart.number;
            final = here ∙ ap Ok apart.final;
            id_other = apart.id_other;
            number_other = apart.number_other;
            final_other = there ∙ ap Ok apart.final_other;
            not_below = λ l. apart.not_below (rw (← here, ← there) l);
            not_above = λ l. apart.not_above (rw (← here, ← there) l);
          }),
    )
  where
    x : Answered (replayed first).stop (replayed second).stop (has_round (replayed first).journal.turn) (has_round (replayed second).journal.turn)
        (views_in (round_in first) (round_in second)) out
    x = answered_by _ _ _ _ _ out apart.answered

    has : HasRound first
    has = turn_votes (replayed first).journal.turn x.first_has

    has_other : HasRound second
    has_other = turn_votes (replayed second).journal.turn x.second_has

    reached : Reached (round_in first)
    reached = round_reached first has

    reached_other : Reached (round_in second)
    reached_other = round_reached second has_other

    here : ask.finalized (round_in first) ≡ Ok (summed (replayed first)).finalized
    here = final_told first x.first_open has

    there : ask.finalized (round_in second) ≡ Ok (summed (replayed second)).finalized
    there = final_told second x.second_open has_other

    sums : two.views (round_in first) (round_in second) ≡ Ok x.sum
    sums =
        views_are (round_in first) (round_in second) (true_T (shaped (round_in first)) (keeps (round_in first) reached))
        (true_T (shaped (round_in second)) (keeps (round_in second) reached_other))
        ∙ x.sums

    fits : x.sum < 256 ^ 8
    fits = omega (arith, rounds.sum_le (round_in first) (round_in second) reached reached_other x.sum sums, reached_fits (round_in first) reached)

pub makers : Makers
makers = two_finals
