-- Every record keeps what is known of a journal's state.
use mathlib.Core.Bool.{Bool, true, false, cond}
use mathlib.Core.List.{List}
use mathlib.Core.Path.{◌≡◌, refl, sym, ap, subst}
use Prim.Native.Nat.{ℕ, ◌+◌, ◌≤◌, ◌<◌}
use native.Mathlib.Omega.{arith}
use lib.Dec.{leb}
use lib.ListN.{take}
use borrow.Author.Tests.{leb-false}
use Rattle.sizes.specs.Sizes.{PAIRS}
use Rattle.weights.specs.Weights.{most}
use Rattle.voter_set.specs.declared.VoterSet.{VoterSet}
use Rattle.voter_set.specs.Good.{Good}
use Rattle.voter_set.specs.Voters.{new}
use Rattle.voter_laws.proofs.Made.{made_fit, made_total, new_good}
use Rattle.blocks.specs.declared.BlockTable.{BlockTable}
use Rattle.blocks.specs.Add.{place_of, on_place, step}
use Rattle.block_shape.specs.Shape.{Shaped}
use Rattle.block_table.specs.Add.{opened}
use Rattle.block_laws.proofs.Adds.{opened_shaped, found_stands, step_keeps}
use Rattle.context.specs.declared.Phase.{Phase}
use Rattle.context.specs.declared.Phase.TheVariants.{Prevote, Precommit}
use Rattle.tracker.specs.declared.Pair.{Pair}
use Rattle.importing.specs.Import.{Frame, framed, with_table, Held, opened_held, import}
use Rattle.held_laws.specs.Kept.{Kept}
use Rattle.held_laws.specs.Reached.{Opens, Reached}
use Rattle.held_laws.proofs.Opens.{opened_kept}
use Rattle.held_laws.proofs.Keeps.{import_keeps}
use Rattle.held_laws.proofs.Adds.{adding_keeps}
use Rattle.held_laws.proofs.Reaches.{reached_opened, reached_voted, reached_added}
use Rattle.marks.specs.declared.Mark.{Mark}
use Rattle.marks.specs.declared.Mark.TheVariants.{Vt, Rt, Bk, Op, Pv, Pc}
use Rattle.marks.specs.Marks.{word, long}
use Rattle.runs.specs.Run.{Next, goes, stops, leaves, on_next, ran}
use Rattle.runs.proofs.Simulations.{run_simulates}
use Rattle.pairing.specs.declared.Pairs.{Pairs}
use Rattle.pairing.specs.Pairing.{with_pair, paired}
use Rattle.growing.specs.Growing.{added, answered, grown}
use Rattle.judging.specs.declared.ImportResult.{ImportResult}
use Rattle.judging.specs.declared.ImportResult.TheVariants as result
use Rattle.voting.specs.Voting as vote
use Rattle.voting.specs.Voting.{Voting, pair_in, counted, with_blocks, voted}
use Rattle.turns.specs.Turns.{Journal, pairing, growing, voting, seated, rooted, opened_round, based, took}
use Rattle.turns.specs.Stands.{Stands}
use Rattle.std.specs.Prelude.{Option, Some, None, Result, Ok, Err}
use Rattle.refusals.specs.declared.Refusal.{Refusal}
use Rattle.refusals.specs.declared.Refusal.TheVariants.{OutOfTurn, UnknownBase, VoterList}

-- a state that goes on has a property; nothing is said of one that does not
abbrev pub Then : {S : Type 0} → (S → Type 0) → Next S → Type 0
Then Q (goes s) = Q s
Then Q (stops n) = Unit {0}
Then Q leaves = Unit {0}

on_then : {S : Type 0} (Q : S → Type 0) (R : Journal → Type 0) (e : S → Journal) (n : Next S) (left : Next Journal) → ((s : S) → Q s → R (e s)) → Then Q n
    → Then R left → Then R (on_next n (λ s. goes (e s)) stops left)
on_then Q R e (goes s) left f q l = f s q
on_then Q R e (stops k) left f q l = tt
on_then Q R e leaves left f q l = l

pub paired_few : (p : Pairs) → p.count ≤ PAIRS → (m : Mark) (fs : List ℕ) → Then (λ (q : Pairs). q.count ≤ PAIRS) (paired p m fs)
unfolding paired
paired_few p h Vt fs = go (leb PAIRS p.count) refl
  where
    go : (b : Bool) → leb PAIRS p.count ≡ b → Then (λ (q : Pairs). q.count ≤ PAIRS) (cond b (stops VoterList) (goes (with_pair p (word fs 0) (long fs 4))))
    go true e = tt
    go false e = omega (arith, leb-false PAIRS p.count e)
paired_few p h Rt fs = tt
paired_few p h Bk fs = tt
paired_few p h Op fs = tt
paired_few p h Pv fs = tt
paired_few p h Pc fs = tt

added_shaped : (t : BlockTable) → Shaped t → (fs : List ℕ) → Shaped (added t fs).table
unfolding added
added_shaped t s fs = step_keeps t s (word fs 0) (word fs 4)

pub grown_shaped : (t : BlockTable) → Shaped t → (m : Mark) (fs : List ℕ) → Then Shaped (grown t m fs)
unfolding grown
grown_shaped t s Bk fs = go (added t fs).answer
  where
    go : (a : Result ℕ Refusal) → Then Shaped (answered (added t fs).table a)
    go (Ok k) = added_shaped t s fs
    go (Err n) = tt
grown_shaped t s Vt fs = tt
grown_shaped t s Rt fs = tt
grown_shaped t s Op fs = tt
grown_shaped t s Pv fs = tt
grown_shaped t s Pc fs = tt

module _ (P : Frame → Held → Type 0)
    (opens : (f : Frame) → Opens f → P f (opened_held f.base))
    (votes : (f : Frame) (h : Held) → P f h → (phase : Phase) (signer : ℕ) (p : Pair) → P f (import f phase signer p h).held)
    (adds : (f : Frame) (h : Held) → P f h → (id parent : ℕ) → P (with_table f (step f.table id parent).table) h) where
  abbrev Q : Voting → Type 0
  Q r = P r.frame r.held

  answered_has : (r : Voting) (a : Result ImportResult Refusal) → Q r → Then Q (vote.answered r a)
  answered_has r (Err n) q = tt
  answered_has r (Ok result.Outside) q = q
  answered_has r (Ok result.Counted) q = q
  answered_has r (Ok result.Duplicated) q = q
  answered_has r (Ok (result.Equivocated e)) q = q
  answered_has r (Ok result.Ignored) q = q

  pub voted_has : (r : Voting) → Q r → (m : Mark) (fs : List ℕ) → Then Q (voted r m fs)
  unfolding voted counted grown added
  voted_has r q Bk fs = go (step r.frame.table (word fs 0) (word fs 4)).answer
    where
      go : (a : Result ℕ Refusal) → Then Q (with_blocks r (answered (step r.frame.table (word fs 0) (word fs 4)).table a))
      go (Ok k) = adds r.frame r.held q (word fs 0) (word fs 4)
      go (Err n) = tt
  voted_has r q Pv fs = answered_has _ (import r.frame Prevote (word fs 0) (pair_in fs) r.held).answer (votes r.frame r.held q Prevote (word fs 0) (pair_in fs))
  voted_has r q Pc fs = answered_has _ (import r.frame Precommit (word fs 0) (pair_in fs) r.held).answer (votes r.frame r.held q Precommit (word fs 0) (pair_in fs))
  voted_has r q Vt fs = tt
  voted_has r q Rt fs = tt
  voted_has r q Op fs = tt

  rooted_stands : (p : Pairs) (fs : List ℕ) → Then (Stands P) (rooted p fs)
  unfolding rooted
  rooted_stands p fs = go (new ids weights) refl
    where
      ids : List ℕ
      ids = take p.count p.ids

      weights : List ℕ
      weights = take p.count p.weights

      go : (a : Result VoterSet Refusal) → new ids weights ≡ a → Then (Stands P) (seated (opened (word fs 0) (word fs 4)) a)
      go (Ok v) m =
          let fits : v.total ≤ most = subst (λ (n : ℕ). n ≤ most) (sym (made_total ids weights m)) (made_fit ids weights m).fits in
          (new_good ids weights m, fits, opened_shaped (word fs 0) (word fs 4))
      go (Err n) m = tt

  based_stands : (v : VoterSet) (t : BlockTable) → Good v → v.total ≤ most → Shaped t → (fs : List ℕ) → Then (Stands P) (based v t fs)
  unfolding based
  based_stands v t g l s fs = go (place_of t.ids t.count (word fs 8)) refl
    where
      go : (o : Option ℕ) → place_of t.ids t.count (word fs 8) ≡ o
          → Then (Stands P) (on_place o (λ b. goes (voting (opened_round (long fs 0) v t b))) (stops UnknownBase))
      go (Some b) e =
          opens (framed (long fs 0) v t b)
          (record { good = g; fits = l; table = s; in_table = (found_stands t s (word fs 8) b e).inside })
      go None e = tt

  -- the next state stands
  pub took_stands : (j : Journal) → Stands P j → (m : Mark) (fs : List ℕ) → Then (Stands P) (took j m fs)
  unfolding took
  took_stands (pairing p) h m fs =
      on_then (λ (q : Pairs). q.count ≤ PAIRS) (Stands P) pairing (paired p m fs) (rooted p fs) (λ q l. l) (paired_few p h m fs) (rooted_stands p fs)
  took_stands (growing v t) h m fs =
      on_then Shaped (Stands P) (growing v) (grown t m fs) (based v t fs) (λ u s. (h.0, h.1, s)) (grown_shaped t h.2 m fs)
      (based_stands v t h.0 h.1 h.2 fs)
  took_stands (voting r) h m fs = on_then Q (Stands P) voting (voted r m fs) (stops OutOfTurn) (λ s q. q) (voted_has r h m fs) tt

-- the shape rules, and being reached by calls
pub took_kept : (j : Journal) → Stands Kept j → (m : Mark) (fs : List ℕ) → Then (Stands Kept) (took j m fs)
took_kept = took_stands Kept opened_kept import_keeps adding_keeps

pub took_reached : (j : Journal) → Stands Reached j → (m : Mark) (fs : List ℕ) → Then (Stands Reached) (took j m fs)
took_reached = took_stands Reached reached_opened reached_voted reached_added

-- a property that every record keeps, from a state on
pub ran_has : {S : Type 0} (step : S → Mark → List ℕ → Next S) (Q : S → Type 0) → ((s : S) → Q s → (m : Mark) (fs : List ℕ) → Then Q (step s m fs))
    → (s : S) (bs : List ℕ) → Q s → Q (ran step s bs).state
ran_has {S} step Q keeps s bs q =
    (run_simulates step step (λ (s : S). s) Q (λ s t m fs p e. (e, subst (Then Q) e (keeps s p m fs))) (λ s m fs k p e. e) s bs q).1
