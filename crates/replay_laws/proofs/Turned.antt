-- A record out of turn is refused with OutOfTurn whatever its fields are, and the records that a replay takes come in their turn.
use mathlib.Core.Bool.{Bool, true, false, cond}
use mathlib.Core.List.{List, [], ◌∷◌}
use mathlib.Core.Path.{◌≡◌, refl, sym, ap, subst, ◌∙◌}
use Prim.Native.Nat.{ℕ}
use native.Mathlib.Omega.{arith}
use lib.Dec.{T, leb}
use lib.ListN.{take}
use Rattle.sizes.specs.Sizes.{PAIRS}
use Rattle.loops.proofs.Tests.{T_true}
use Rattle.voter_set.specs.declared.VoterSet.{VoterSet}
use Rattle.voter_set.specs.Voters.{new}
use Rattle.blocks.specs.declared.BlockTable.{BlockTable}
use Rattle.blocks.specs.Add.{place_of, on_place}
use Rattle.block_table.specs.Add.{opened}
use Rattle.marks.specs.declared.Mark.{Mark}
use Rattle.marks.specs.declared.Mark.TheVariants.{Vt, Rt, Bk, Op, Pv, Pc}
use Rattle.marks.specs.declared.End.TheVariants as end
use Rattle.marks.specs.declared.End.TheVariants.{Cut, Left}
use Rattle.marks.specs.Marks.{word, long}
use Rattle.runs.specs.Run.{Next, goes, stops, leaves, on_next}
use Rattle.runs.specs.Parsed.{Entry, Folded, folded}
use Rattle.pairing.specs.declared.Pairs.{Pairs}
use Rattle.pairing.specs.Pairing.{with_pair, paired}
use Rattle.growing.specs.Growing.{added, answered, grown}
use Rattle.voting.specs.Voting.{Voting, voted}
use Rattle.turns.specs.Turns.{Journal, pairing, growing, voting, seated, rooted, opened_round, based, took, no_pairs}
use Rattle.turns.proofs.Keeps.{Then}
use Rattle.replay_laws.specs.Ends.{taken}
use Rattle.replay_laws.specs.Turned.{Part, voters, blocks, votes, part_of, may, next, InTurn}
use Rattle.replay_laws.proofs.Holds.{then_all, through_then}
use Rattle.replay_laws.proofs.Ends.{first_goes, first_stops, first_leaves}
use Rattle.std.specs.Prelude.{Option, Some, None, Result, Ok, Err}
use Rattle.refusals.specs.declared.Refusal.{Refusal}
use Rattle.refusals.specs.declared.Refusal.TheVariants.{OutOfTurn, UnknownBase, VoterList}

-- 18, before anything of the record's own
pub out_of_turn : (j : Journal) (m : Mark) (fs : List ℕ) → may (part_of j) m ≡ false → took j m fs ≡ stops OutOfTurn
unfolding took paired grown voted
out_of_turn (pairing p) Bk fs e = refl
out_of_turn (pairing p) Op fs e = refl
out_of_turn (pairing p) Pv fs e = refl
out_of_turn (pairing p) Pc fs e = refl
out_of_turn (growing v t) Vt fs e = refl
out_of_turn (growing v t) Rt fs e = refl
out_of_turn (growing v t) Pv fs e = refl
out_of_turn (growing v t) Pc fs e = refl
out_of_turn (voting r) Vt fs e = refl
out_of_turn (voting r) Rt fs e = refl
out_of_turn (voting r) Op fs e = refl
out_of_turn (pairing p) Vt fs e = absurd (subst T e tt)
out_of_turn (pairing p) Rt fs e = absurd (subst T e tt)
out_of_turn (growing v t) Bk fs e = absurd (subst T e tt)
out_of_turn (growing v t) Op fs e = absurd (subst T e tt)
out_of_turn (voting r) Bk fs e = absurd (subst T e tt)
out_of_turn (voting r) Pv fs e = absurd (subst T e tt)
out_of_turn (voting r) Pc fs e = absurd (subst T e tt)

-- the part after a record that is taken
abbrev GoesTo : Part → Journal → Type 0
GoesTo p j = part_of j ≡ p

rooted_part : (p : Pairs) (fs : List ℕ) → Then (GoesTo blocks) (rooted p fs)
unfolding rooted
rooted_part p fs = go (new (take p.count p.ids) (take p.count p.weights))
  where
    go : (a : Result VoterSet Refusal) → Then (GoesTo blocks) (seated (opened (word fs 0) (word fs 4)) a)
    go (Ok v) = refl
    go (Err n) = tt

based_part : (v : VoterSet) (t : BlockTable) (fs : List ℕ) → Then (GoesTo votes) (based v t fs)
unfolding based
based_part v t fs = go (place_of t.ids t.count (word fs 8))
  where
    go : (o : Option ℕ) → Then (GoesTo votes) (on_place o (λ b. goes (voting (opened_round (long fs 0) v t b))) (stops UnknownBase))
    go (Some b) = refl
    go None = tt

votes_part : (r : Voting) (m : Mark) (fs : List ℕ) → Then (GoesTo votes) (on_next (voted r m fs) (λ s. goes (voting s)) stops (stops OutOfTurn))
votes_part r m fs =
    through_then (GoesTo votes) voting (voted r m fs) (stops OutOfTurn) (then_all (λ (s : Voting). GoesTo votes (voting s)) (λ s. refl) (voted r m fs)) tt

took_next : (j : Journal) (m : Mark) (fs : List ℕ) → Then (GoesTo (next (part_of j) m)) (took j m fs)
unfolding took paired grown voted
took_next (pairing p) Vt fs = go (leb PAIRS p.count)
  where
    go : (b : Bool)
        → Then (GoesTo voters) (on_next (cond b (stops VoterList) (goes (with_pair p (word fs 0) (long fs 4)))) (λ q. goes (pairing q)) stops (rooted p fs))
    go true = tt
    go false = refl
took_next (pairing p) Rt fs = rooted_part p fs
took_next (pairing p) Bk fs = tt
took_next (pairing p) Op fs = tt
took_next (pairing p) Pv fs = tt
took_next (pairing p) Pc fs = tt
took_next (growing v t) Bk fs = go (added t fs).answer
  where
    go : (a : Result ℕ Refusal) → Then (GoesTo blocks) (on_next (answered (added t fs).table a) (λ u. goes (growing v u)) stops (based v t fs))
    go (Ok k) = refl
    go (Err n) = tt
took_next (growing v t) Op fs = based_part v t fs
took_next (growing v t) Vt fs = tt
took_next (growing v t) Rt fs = tt
took_next (growing v t) Pv fs = tt
took_next (growing v t) Pc fs = tt
took_next (voting r) Bk fs = votes_part r Bk fs
took_next (voting r) Pv fs = votes_part r Pv fs
took_next (voting r) Pc fs = votes_part r Pc fs
took_next (voting r) Vt fs = tt
took_next (voting r) Rt fs = tt
took_next (voting r) Op fs = tt

took_may : (j t : Journal) (m : Mark) (fs : List ℕ) → took j m fs ≡ goes t → T (may (part_of j) m)
took_may j t m fs q = go (may (part_of j) m) refl
  where
    go : (b : Bool) → may (part_of j) m ≡ b → T (may (part_of j) m)
    go true e = T_true e
    go false e = let o = out_of_turn j m fs e in absurd (let z : ◌≡◌ {A = ℕ} 0 1 = cc in omega arith)

-- records that are all taken
pub takes_in_turn : (j : Journal) (es : List Entry) → (folded took j es).end ≡ Cut → InTurn (part_of j) es
unfolding InTurn
takes_in_turn j [] c = tt
takes_in_turn j (e ∷ es) c = go (took j e.mark e.fields) refl (λ t. takes_in_turn t es)
  where
    go : (x : Next Journal) → took j e.mark e.fields ≡ x → ((t : Journal) → (folded took t es).end ≡ Cut → InTurn (part_of t) es)
        → T (may (part_of j) e.mark) × InTurn (next (part_of j) e.mark) es
    go (goes t) q ih =
        let i = ih t (sym (ap (λ (r : Folded Journal). r.end) (first_goes took j t e es q)) ∙ c) in
        let n : part_of t ≡ next (part_of j) e.mark = subst (Then (GoesTo (next (part_of j) e.mark))) q (took_next j e.mark e.fields) in
        (took_may j t e.mark e.fields q, subst (λ (p : Part). InTurn p es) n i)
    go (stops k) q ih =
        let w : (folded took j (e ∷ es)).end ≡ end.Refused k = ap (λ (r : Folded Journal). r.end) (first_stops took j e es k q) in
        absurd (let z : ◌≡◌ {A = ℕ} 0 1 = cc in omega arith)
    go leaves q ih =
        let w : (folded took j (e ∷ es)).end ≡ Left = ap (λ (r : Folded Journal). r.end) (first_leaves took j e es q) in
        absurd (let z : ◌≡◌ {A = ℕ} 0 1 = cc in omega arith)

-- a journal's records before the first refusal
pub taken_in_turn : (es : List Entry) → (taken es).end ≡ Cut → InTurn voters es
taken_in_turn = takes_in_turn (pairing no_pairs)
