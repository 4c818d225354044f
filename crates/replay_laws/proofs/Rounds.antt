-- In the third turn a journal's round is one that calls reach: `new` at the Op, and a call for each record after it.
use mathlib.Core.List.{List}
use mathlib.Core.Path.{◌≡◌, refl, sym, ap, subst}
use Prim.Native.Nat.{ℕ}
use native.Mathlib.Omega.{arith}
use lib.Dec.{T}
use lib.ListN.{get_or}
use Rattle.loops.proofs.Tests.{true_T, left_of}
use Rattle.voter_laws.proofs.Goods.{means_good}
use Rattle.blocks.specs.Add.{step}
use Rattle.block_shape.specs.Shape.{tabled}
use Rattle.block_shape.proofs.Shapes.{shaped_tabled}
use Rattle.block_laws.proofs.Adds.{stands_found}
use Rattle.context.specs.declared.Phase.{Phase}
use Rattle.tracker.specs.declared.Pair.{Pair}
use Rattle.importing.specs.Import.{Frame, Held, import, opened_held, with_table}
use Rattle.held_laws.specs.Kept.{Kept}
use Rattle.held_laws.specs.Reached.{Opens}
use Rattle.held_laws.proofs.Keeps.{import_keeps}
use Rattle.held_laws.proofs.Adds.{adding_keeps}
use Rattle.round.specs.declared.Round.{Round}
use Rattle.round.specs.Shape.{shaped}
use Rattle.round.specs.Calls.{opened, new, grown, add_block, imported, import_vote}
use Rattle.round_laws.specs.Later.{Later, here, voted, added, Reached}
use Rattle.round_laws.proofs.Keeps.{on_true}
use Rattle.round_laws.proofs.Lasting.{reached_shaped, reached_later, later_on}
use Rattle.marks.specs.declared.Mark.{Mark}
use Rattle.runs.specs.Run.{Next, goes, stops, leaves, ran}
use Rattle.voting.specs.Voting as vote
use Rattle.voting.specs.Voting.{Voting}
use Rattle.turns.specs.Turns.{Journal, pairing, growing, voting, took, no_pairs, replayed}
use Rattle.turns.specs.Stands.{Stands}
use Rattle.turns.proofs.Keeps.{Then, took_stands, ran_has}
use Rattle.journal.specs.Journal as journal
use Rattle.journal.specs.Journal.{round_of}
use Rattle.journal.proofs.Laid.{held_of, laid_stands}
use Rattle.replay_laws.proofs.Holds.{voted_by, through_then}
use Rattle.std.specs.Prelude.{Ok, Result, ⊤}
use Rattle.refusals.specs.declared.Refusal.TheVariants.{OutOfTurn}
use Rattle.refusals.specs.declared.Refusal.{Refusal}
use Rattle.round.specs.declared.After.{After}
use Rattle.judging.specs.declared.ImportResult.{ImportResult}

abbrev at : Frame → Held → Voting
at f h = record { frame = f; held = h }

pub round_shaped : (v : Voting) → Kept v.frame v.held → T (shaped (round_of v))
unfolding journal.stands
round_shaped v k = left_of (shaped (round_of v)) _ (laid_stands (voting v) k)

-- a round by value: a vote, a block and opening do what is done to its parts
pub import_is : (v : Voting) → T (shaped (round_of v)) → (phase : Phase) (signer : ℕ) (p : Pair)
    → (import_vote phase signer p (round_of v)).round ≡ round_of (at v.frame (import v.frame phase signer p v.held).held)
unfolding import_vote imported round_of
import_is v t phase signer p =
    on_true (λ (x : After (Result ImportResult Refusal)). x.round ≡ round_of (at v.frame (import v.frame phase signer p v.held).held)) (shaped (round_of v))
    (imported phase signer p (round_of v)) _ t (ap (λ (h : Held). round_of (at v.frame (import v.frame phase signer p h).held)) (held_of v))

pub add_is : (v : Voting) → T (shaped (round_of v)) → (id parent : ℕ)
    → (add_block id parent (round_of v)).round ≡ round_of (at (with_table v.frame (step v.frame.table id parent).table) v.held)
unfolding add_block round_of
add_is v t id parent =
    on_true (λ (x : After (Result ℕ Refusal)). x.round ≡ round_of (at (with_table v.frame (step v.frame.table id parent).table) v.held)) (shaped (round_of v))
    (grown (round_of v) (step v.frame.table id parent)) _ t refl

pub new_is : (f : Frame) → Opens f
    → new f.number f.voters f.table (get_or f.table.ids f.base 0) ≡ record { answer = Ok tt; round = round_of (at f (opened_held f.base)) }
unfolding new opened round_of
new_is f o =
    rw (
      means_good f.voters o.good,
      true_T (tabled f.table) (shaped_tabled f.table o.table),
      stands_found f.table o.table (get_or f.table.ids f.base 0) f.base (record { inside = o.in_table; named = refl }),
    )

-- each record of the third turn is a call on the round before it
pub voted_later : (v : Voting) → Kept v.frame v.held → (m : Mark) (fs : List ℕ)
    → Then (λ (w : Voting). Later (round_of v) (round_of w) × Kept w.frame w.held) (vote.voted v m fs)
voted_later v k =
    voted_by (λ (w : Voting). Later (round_of v) (round_of w) × Kept w.frame w.held) v
    (λ phase signer p. (
      subst (Later (round_of v)) (import_is v (round_shaped v k) phase signer p) (voted (round_of v) here phase signer p),
      import_keeps v.frame v.held k phase signer p,
    ))
    (λ id parent. (
      subst (Later (round_of v)) (add_is v (round_shaped v k) id parent) (added (round_of v) here id parent),
      adding_keeps v.frame v.held k id parent,
    ))

-- so the state is reached
abbrev pub RoundReached : Frame → Held → Type 0
RoundReached f h = Reached (round_of (record { frame = f; held = h }))

opens_reached : (f : Frame) → Opens f → RoundReached f (opened_held f.base)
opens_reached f o =
    record {
      number = f.number;
      voters = f.voters;
      table = f.table;
      base = get_or f.table.ids f.base 0;
      fits = o.fits;
      opens = ap (λ (x : After (Result ⊤ Refusal)). x.answer) (new_is f o);
      calls = subst (λ (r : Round). Later r (round_of (at f (opened_held f.base)))) (sym (ap (λ (x : After (Result ⊤ Refusal)). x.round) (new_is f o))) here;
    }

import_reached : (f : Frame) (h : Held) → RoundReached f h → (phase : Phase) (signer : ℕ) (p : Pair) → RoundReached f (import f phase signer p h).held
import_reached f h r phase signer p =
    let v = at f h in
    subst Reached (import_is v (reached_shaped (round_of v) r) phase signer p) (reached_later (round_of v) r _ (voted (round_of v) here phase signer p))

add_reached : (f : Frame) (h : Held) → RoundReached f h → (id parent : ℕ) → RoundReached (with_table f (step f.table id parent).table) h
add_reached f h r id parent =
    let v = at f h in
    subst Reached (add_is v (reached_shaped (round_of v) r) id parent) (reached_later (round_of v) r _ (added (round_of v) here id parent))

pub replay_round : (bs : List ℕ) → Stands RoundReached (replayed bs).state
unfolding replayed
replay_round bs =
    ran_has took (Stands RoundReached) (took_stands RoundReached opens_reached import_reached add_reached) (pairing no_pairs) bs (omega arith)

-- records after the Op make a later round of it
abbrev pub Since : Voting → Journal → Type 0
Since v (pairing p) = ⊥
Since v (growing u t) = ⊥
Since v (voting w) = Later (round_of v) (round_of w) × Kept w.frame w.held

took_since : (v : Voting) (j : Journal) → Since v j → (m : Mark) (fs : List ℕ) → Then (Since v) (took j m fs)
unfolding took
took_since v (pairing p) s m fs = absurd s
took_since v (growing u t) s m fs = absurd s
took_since v (voting w) s m fs =
    through_then (Since v) voting (vote.voted w m fs) (stops OutOfTurn) (on_from (vote.voted w m fs) (voted_later w s.1 m fs)) tt
  where
    on_from : (n : Next Voting) → Then (λ (x : Voting). Later (round_of w) (round_of x) × Kept x.frame x.held) n → Then (λ (x : Voting). Since v (voting x)) n
    on_from (goes x) q = (later_on (round_of v) (round_of w) (round_of x) s.0 q.0, q.1)
    on_from (stops k) q = tt
    on_from leaves q = tt

pub votes_since : (v : Voting) → Kept v.frame v.held → (bs : List ℕ) → Since v (ran took (voting v) bs).state
votes_since v k bs = ran_has took (Since v) (took_since v) (voting v) bs (here, k)
