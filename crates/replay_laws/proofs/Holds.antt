-- What every record keeps is true of a replay's state; no record leaves the replay without an answer.
use mathlib.Core.Bool.{true}
use mathlib.Core.List.{List}
use mathlib.Core.Path.{◌≡◌, refl, subst}
use mathlib.Core.Logic.{◌≢◌}
use Prim.Native.Nat.{ℕ, ◌<◌}
use native.Mathlib.Omega.{arith}
use lib.ListN.{take}
use Rattle.voter_set.specs.declared.VoterSet.{VoterSet}
use Rattle.voter_set.specs.Voters.{new}
use Rattle.voter_laws.proofs.Made.{made_fit, made_total}
use Rattle.blocks.specs.declared.BlockTable.{BlockTable}
use Rattle.blocks.specs.Add.{place_of, on_place, step}
use Rattle.block_table.specs.Add.{opened}
use Rattle.importing.specs.Import.{import, with_table}
use Rattle.tracker.specs.declared.Pair.{Pair}
use Rattle.judging.specs.declared.ImportResult.{ImportResult}
use Rattle.judging.specs.declared.ImportResult.TheVariants as result
use Rattle.held_laws.specs.Kept.{Kept}
use Rattle.held_laws.specs.Reached.{Reached}
use Rattle.context.specs.declared.Phase.{Phase}
use Rattle.context.specs.declared.Phase.TheVariants.{Prevote, Precommit}
use Rattle.marks.specs.declared.Mark.{Mark}
use Rattle.marks.specs.declared.Mark.TheVariants.{Vt, Rt, Bk, Op, Pv, Pc}
use Rattle.marks.specs.declared.End.TheVariants.{Cut, Left}
use Rattle.marks.specs.declared.Record.TheVariants as is
use Rattle.marks.specs.Marks.{read, word, long}
use Rattle.runs.specs.Run.{Next, goes, stops, leaves, on_next, ran}
use Rattle.runs.proofs.Simulations.{run_simulates}
use Rattle.runs.proofs.Rests.{rest_cut}
use Rattle.runs.proofs.Lefts.{left_leaves}
use Rattle.pairing.specs.declared.Pairs.{Pairs}
use Rattle.pairing.specs.Pairing.{paired}
use Rattle.growing.specs.Growing.{added, grown}
use Rattle.growing.specs.Growing as blocks
use Rattle.voting.specs.Voting as vote
use Rattle.voting.specs.Voting.{Voting, pair_in, counted, with_blocks, voted}
use Rattle.turns.specs.Turns.{Journal, pairing, growing, voting, seated, rooted, opened_round, based, took, no_pairs, replayed}
use Rattle.turns.specs.Stands.{Stands}
use Rattle.turns.proofs.Keeps.{Then, took_kept, took_reached, ran_has}
use Rattle.replay_laws.specs.Weighs.{Weighs}
use Rattle.std.specs.Prelude.{Option, Some, None, Result, Ok, Err}
use Rattle.refusals.specs.declared.Refusal.{Refusal}
use Rattle.refusals.specs.declared.Refusal.TheVariants.{OutOfTurn, UnknownBase}

-- the shape rules, and in the third turn a round that calls reach
pub replay_kept : (bs : List ℕ) → Stands Kept (replayed bs).state
unfolding replayed
replay_kept bs = ran_has took (Stands Kept) took_kept (pairing no_pairs) bs (omega arith)

pub replay_reached : (bs : List ℕ) → Stands Reached (replayed bs).state
unfolding replayed
replay_reached bs = ran_has took (Stands Reached) took_reached (pairing no_pairs) bs (omega arith)

-- every record is taken or refused
abbrev Answers : {S : Type 0} → Next S → Type 0
Answers (goes s) = Unit {0}
Answers (stops n) = Unit {0}
Answers leaves = ⊥

through_answers : {S : Type 0} (e : S → Journal) (n : Next S) (left : Next Journal) → Answers left → Answers (on_next n (λ s. goes (e s)) stops left)
through_answers e (goes s) left l = tt
through_answers e (stops k) left l = tt
through_answers e leaves left l = l

rooted_answers : (p : Pairs) (fs : List ℕ) → Answers (rooted p fs)
unfolding rooted
rooted_answers p fs = go (new (take p.count p.ids) (take p.count p.weights))
  where
    go : (a : Result VoterSet Refusal) → Answers (seated (opened (word fs 0) (word fs 4)) a)
    go (Ok v) = tt
    go (Err n) = tt

based_answers : (v : VoterSet) (t : BlockTable) (fs : List ℕ) → Answers (based v t fs)
unfolding based
based_answers v t fs = go (place_of t.ids t.count (word fs 8))
  where
    go : (o : Option ℕ) → Answers (on_place o (λ b. goes (voting (opened_round (long fs 0) v t b))) (stops UnknownBase))
    go (Some b) = tt
    go None = tt

took_answers : (j : Journal) (m : Mark) (fs : List ℕ) → Answers (took j m fs)
unfolding took
took_answers (pairing p) m fs = through_answers pairing (paired p m fs) (rooted p fs) (rooted_answers p fs)
took_answers (growing v t) m fs = through_answers (growing v) (grown t m fs) (based v t fs) (based_answers v t fs)
took_answers (voting r) m fs = through_answers voting (voted r m fs) (stops OutOfTurn) tt

-- so a replay is never left
pub never_left : (j : Journal) (bs : List ℕ) → (ran took j bs).end ≢ Left
never_left j bs e = let l = left_leaves took j bs e in subst Answers l.is_left (took_answers _ l.mark _)

pub replay_not_left : (bs : List ℕ) → (replayed bs).end ≢ Left
unfolding replayed
replay_not_left = never_left (pairing no_pairs)

-- and what is left of accepted bytes is less than a record
pub left_cut : (bs : List ℕ) → (replayed bs).end ≡ Cut → read (replayed bs).rest ≡ is.Cut
unfolding replayed
left_cut bs e = rest_cut took (pairing no_pairs) bs e

-- a record of the third turn is a vote or a block
module _ (Q : Voting → Type 0) (r : Voting)
    (votes : (phase : Phase) (signer : ℕ) (p : Pair) → Q (record { frame = r.frame; held = (import r.frame phase signer p r.held).held }))
    (adds : (id parent : ℕ) → Q (record { frame = with_table r.frame (step r.frame.table id parent).table; held = r.held })) where
  answered_by : (s : Voting) → Q s → (a : Result ImportResult Refusal) → Then Q (vote.answered s a)
  answered_by s q (Err n) = tt
  answered_by s q (Ok result.Outside) = q
  answered_by s q (Ok result.Counted) = q
  answered_by s q (Ok result.Duplicated) = q
  answered_by s q (Ok (result.Equivocated e)) = q
  answered_by s q (Ok result.Ignored) = q

  pub voted_by : (m : Mark) (fs : List ℕ) → Then Q (voted r m fs)
  unfolding voted counted grown added
  voted_by Bk fs = go (step r.frame.table (word fs 0) (word fs 4)).answer
    where
      go : (a : Result ℕ Refusal) → Then Q (with_blocks r (blocks.answered (step r.frame.table (word fs 0) (word fs 4)).table a))
      go (Ok k) = adds (word fs 0) (word fs 4)
      go (Err n) = tt
  voted_by Pv fs = answered_by _ (votes Prevote (word fs 0) (pair_in fs)) (import r.frame Prevote (word fs 0) (pair_in fs) r.held).answer
  voted_by Pc fs = answered_by _ (votes Precommit (word fs 0) (pair_in fs)) (import r.frame Precommit (word fs 0) (pair_in fs) r.held).answer
  voted_by Vt fs = tt
  voted_by Rt fs = tt
  voted_by Op fs = tt

pub then_all : {S : Type 0} (Q : S → Type 0) → ((s : S) → Q s) → (n : Next S) → Then Q n
then_all Q q (goes s) = q s
then_all Q q (stops k) = tt
then_all Q q leaves = tt

pub through_then : {S : Type 0} (R : Journal → Type 0) (e : S → Journal) (n : Next S) (left : Next Journal) → Then (λ s. R (e s)) n → Then R left
    → Then R (on_next n (λ s. goes (e s)) stops left)
through_then R e (goes s) left q l = q
through_then R e (stops k) left q l = tt
through_then R e leaves left q l = l

-- refusal 3: a set that is made weighs something, and no record changes it
rooted_weighs : (p : Pairs) (fs : List ℕ) → Then Weighs (rooted p fs)
unfolding rooted
rooted_weighs p fs = go (new ids weights) refl
  where
    ids : List ℕ
    ids = take p.count p.ids

    weights : List ℕ
    weights = take p.count p.weights

    go : (a : Result VoterSet Refusal) → new ids weights ≡ a → Then Weighs (seated (opened (word fs 0) (word fs 4)) a)
    go (Ok v) m = let n = (made_fit ids weights m).some_weight in omega (arith, made_total ids weights m)
    go (Err n) m = tt

based_weighs : (v : VoterSet) (t : BlockTable) → 0 < v.total → (fs : List ℕ) → Then Weighs (based v t fs)
unfolding based
based_weighs v t h fs = go (place_of t.ids t.count (word fs 8))
  where
    go : (o : Option ℕ) → Then Weighs (on_place o (λ b. goes (voting (opened_round (long fs 0) v t b))) (stops UnknownBase))
    go (Some b) = h
    go None = tt

took_weighs : (j : Journal) → Weighs j → (m : Mark) (fs : List ℕ) → Then Weighs (took j m fs)
unfolding took
took_weighs (pairing p) h m fs = through_then Weighs pairing (paired p m fs) (rooted p fs) (then_all (λ q. Unit {0}) (λ q. tt) (paired p m fs)) (rooted_weighs p fs)
took_weighs (growing v t) h m fs = through_then Weighs (growing v) (grown t m fs) (based v t fs) (then_all (λ u. 0 < v.total) (λ u. h) (grown t m fs)) (based_weighs v t h fs)
took_weighs (voting r) h m fs =
    through_then Weighs voting (voted r m fs) (stops OutOfTurn) (voted_by (λ (s : Voting). 0 < s.frame.voters.total) r (λ phase signer p. h) (λ id parent. h) m fs) tt

pub replay_weighs : (bs : List ℕ) → Weighs (replayed bs).state
unfolding replayed
replay_weighs bs = ran_has took Weighs took_weighs (pairing no_pairs) bs tt
