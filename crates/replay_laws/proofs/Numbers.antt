-- The numbers that a journal's records are refused with. Document 01, "Refusal numbers": 18 exactly where a record is out of turn.
use mathlib.Core.Bool.{Bool, true, false, cond}
use mathlib.Core.List.{List, ◌∷◌, ◌++◌}
use mathlib.Core.Logic.{◌≢◌}
use mathlib.Core.Path.{◌≡◌, refl, ap, subst, ◌∙◌}
use Prim.Native.Nat.{ℕ, ◌≤◌}
use native.Mathlib.Omega.{arith}
use lib.Dec.{eqb, leb, ltb}
use lib.ListN.{length, get_or, take, set, length-take, length-set}
use borrow.Author.Tests.{eq-eqb, le-ltb, leb-false}
use Rattle.sizes.specs.Sizes.{VOTERS, PAIRS, BLOCKS}
use Rattle.grandpa.specs.Tree.{below}
use Rattle.columns.specs.Find.{contains}
use Rattle.weights.specs.Weights.{most}
use Rattle.totals.specs.Totals.{total_of}
use Rattle.voter_pairs.specs.Voters as pairs
use Rattle.voter_info.specs.declared.VoterInfo.{VoterInfo}
use Rattle.voter_info.specs.Info.{look_up}
use Rattle.voter_set.specs.declared.VoterSet.{VoterSet}
use Rattle.voter_set.specs.Voters.{new}
use Rattle.blocks.specs.declared.BlockTable.{BlockTable}
use Rattle.blocks.specs.declared.Added.{Added}
use Rattle.blocks.specs.Add.{place_of, on_place, refused, placed, append, step}
use Rattle.block_table.specs.Add.{opened}
use Rattle.context.specs.declared.Phase.{Phase}
use Rattle.context.specs.declared.Phase.TheVariants.{Prevote, Precommit}
use Rattle.context.specs.Votes.{bit}
use Rattle.nodes.specs.Nodes.{col}
use Rattle.tracker.specs.declared.Pair.{Pair}
use Rattle.tracker.specs.declared.AddVoteResult.{AddVoteResult}
use Rattle.tracker.specs.declared.AddVoteResult.TheVariants as added
use Rattle.tracker.specs.Recorded.{recorded, add_vote}
use Rattle.judging.specs.declared.ImportResult.{ImportResult}
use Rattle.judging.specs.declared.ImportResult.TheVariants as result
use Rattle.judging.specs.declared.Verdict.{Verdict}
use Rattle.judging.specs.declared.Verdict.TheVariants as verdict
use Rattle.judging.specs.Judge as judging
use Rattle.judging.specs.Judge.{judge_first, by_rule, on_voter, judge}
use Rattle.importing.specs.Import as importing
use Rattle.importing.specs.Import.{Frame, Held, import}
use Rattle.marks.specs.declared.Mark.{Mark}
use Rattle.marks.specs.declared.Mark.TheVariants.{Vt, Rt, Bk, Op, Pv, Pc}
use Rattle.marks.specs.declared.End.TheVariants.{Cut}
use Rattle.marks.specs.declared.Record.TheVariants as is
use Rattle.marks.specs.Marks.{read, word, long}
use Rattle.runs.specs.Run.{Next, goes, stops, leaves, on_next}
use Rattle.runs.specs.Parsed.{Entry, parsed, tail}
use Rattle.pairing.specs.declared.Pairs.{Pairs}
use Rattle.pairing.specs.Pairing.{with_pair, paired}
use Rattle.growing.specs.Growing as growing
use Rattle.growing.specs.Growing.{grown}
use Rattle.voting.specs.Voting as vote
use Rattle.voting.specs.Voting.{Voting, pair_in, counted, with_blocks, voted}
use Rattle.turns.specs.Turns.{Journal, pairing, growing, voting, seated, rooted, opened_round, based, took, no_pairs}
use Rattle.turns.proofs.Keeps.{Then}
use Rattle.feeding.specs.declared.Replay.{Replay}
use Rattle.feeding.specs.Feeding.{replayed}
use Rattle.replay_laws.specs.Ends.{taken, Ends, at_end, at_mark, at_record}
use Rattle.replay_laws.specs.Turned.{Part, voters, blocks, votes, part_of, may, Own, Paired}
use Rattle.replay_laws.proofs.Holds.{then_all, through_then}
use Rattle.replay_laws.proofs.Ends.{folded_has, replay_ends}
use Rattle.std.specs.Prelude.{Option, Some, None, Result, Ok, Err}
use Rattle.refusals.specs.declared.Refusal.{Refusal}
use Rattle.refusals.specs.Number.{number}
use Rattle.refusals.specs.declared.Refusal.TheVariants.{OutOfTurn, UnknownMark, KnownBlock, NoWeight, NumberOverflow, OffTheBase, TableFull, TooManyVoters, UnknownBase, UnknownParent, UnknownTarget, VoterList, WeightOverflow, WrongNumber}

-- either way of a test
either : {A : Type 0} (P : A → Type 0) (b : Bool) (x y : A) → P x → P y → P (cond b x y)
either P true x y p q = p
either P false x y p q = q

-- a refusal's number has a property; nothing is said of what is taken
abbrev pub Numbered : {S : Type 0} → (ℕ → Type 0) → Next S → Type 0
Numbered Q (stops n) = Q (number n)
Numbered Q (goes s) = Unit {0}
Numbered Q leaves = Unit {0}

-- a voter set: 2 to 4, where the lists are as long as each other and not too long
abbrev OfSet : Result VoterSet Refusal → Type 0
OfSet (Ok v) = Unit {0}
OfSet (Err n) = (2 ≤ number n) × (number n ≤ 4)

new_numbers : (ids weights : List ℕ) → length ids ≡ length weights → length ids ≤ PAIRS → OfSet (new ids weights)
unfolding new
new_numbers ids weights same few =
    rw (eq-eqb (length ids) (length weights) same, le-ltb PAIRS (length ids) few)
    (either OfSet (ltb most (total_of weights)) (Err WeightOverflow) _ (omega arith, omega arith)
    (either OfSet (eqb (total_of weights) 0) (Err NoWeight) _ (omega arith, omega arith)
    (either OfSet (ltb VOTERS (length (pairs.voters ids weights (length ids)))) (Err TooManyVoters) _ (omega arith, omega arith) tt)))

-- a block: 5 to 8
abbrev OfBlock : Result ℕ Refusal → Type 0
OfBlock (Ok k) = Unit {0}
OfBlock (Err n) = (5 ≤ number n) × (number n ≤ 8)

step_numbers : (t : BlockTable) (id parent : ℕ) → OfBlock (step t id parent).answer
unfolding step append
step_numbers t id parent =
    either P (contains t.ids t.count id) (refused t KnownBlock) _ (omega arith, omega arith) (under (place_of t.ids t.count parent))
  where
    P : Added → Type 0
    P x = OfBlock x.answer

    under : (o : Option ℕ) → P (on_place o (append t id) (refused t UnknownParent))
    under None = (omega arith, omega arith)
    under (Some k) =
        either P (eqb (get_or t.numbers k 0) 4294967295) (refused t NumberOverflow) _ (omega arith, omega arith)
        (either P (eqb t.count BLOCKS) (refused t TableFull) (placed t id k) (omega arith, omega arith) tt)

-- a vote: 11 to 13
abbrev OfVote : Result ImportResult Refusal → Type 0
OfVote (Err n) = (11 ≤ number n) × (number n ≤ 13)
OfVote (Ok result.Outside) = Unit {0}
OfVote (Ok result.Counted) = Unit {0}
OfVote (Ok result.Duplicated) = Unit {0}
OfVote (Ok (result.Equivocated e)) = Unit {0}
OfVote (Ok result.Ignored) = Unit {0}

abbrev OfVerdict : Verdict → Type 0
OfVerdict (verdict.Nothing a) = OfVote a
OfVerdict (verdict.First v b) = Unit {0}
OfVerdict (verdict.Second v a) = Unit {0}

first_numbers : (ids numbers parents : List ℕ) (count base : ℕ) (v : VoterInfo) (p : Pair) → OfVerdict (judge_first ids numbers parents count base v p)
unfolding judge_first
first_numbers ids numbers parents count base v p = at_place (place_of ids count p.target)
  where
    at_place : (o : Option ℕ)
        → OfVerdict (on_place o
        (λ b. cond (eqb (col numbers b) p.number) (cond (below (col parents) base b) (verdict.First v b) (judging.refused OffTheBase)) (judging.refused WrongNumber))
        (judging.refused UnknownTarget))
    at_place None = (omega arith, omega arith)
    at_place (Some b) =
        either OfVerdict (eqb (col numbers b) p.number) _ (judging.refused WrongNumber)
        (either OfVerdict (below (col parents) base b) (verdict.First v b) (judging.refused OffTheBase) tt (omega arith, omega arith)) (omega arith, omega arith)

rule_numbers : (a : AddVoteResult) (first : Verdict) (v : VoterInfo) → OfVerdict first → OfVerdict (by_rule a first v)
rule_numbers added.Single first v h = h
rule_numbers added.Duplicated first v h = tt
rule_numbers (added.Equivocated a) first v h = tt
rule_numbers added.Ignored first v h = tt

voter_numbers : (l : Option VoterInfo) (f : VoterInfo → Verdict) → ((v : VoterInfo) → OfVerdict (f v)) → OfVerdict (on_voter l f)
voter_numbers (Some v) f h = h v
voter_numbers None f h = tt

import_numbers : (f : Frame) (phase : Phase) (signer : ℕ) (p : Pair) (h : Held) → OfVote (import f phase signer p h).answer
unfolding import judge
import_numbers f phase signer p h =
    applied (importing.verdict f phase signer p h)
    (voter_numbers (look_up f.voters.ids f.voters.weights f.voters.count signer) _
    (λ v. rule_numbers (add_vote (recorded h.votes f.table.ids f.table.numbers (bit phase v.position)) p) _ v
    (first_numbers f.table.ids f.table.numbers f.table.parents f.table.count f.base v p)))
  where
    applied : (d : Verdict) → OfVerdict d → OfVote (importing.apply f phase signer p h d).answer
    applied (verdict.Nothing a) q = q
    applied (verdict.First v b) q = tt
    applied (verdict.Second v a) q = tt

-- the records of the turns
votes_numbers : (s : Voting) (a : Result ImportResult Refusal) → OfVote a
    → Numbered (λ n. (11 ≤ n) × (n ≤ 13)) (on_next (vote.answered s a) (λ t. goes (voting t)) stops (stops OutOfTurn))
votes_numbers s (Err n) q = q
votes_numbers s (Ok result.Outside) q = tt
votes_numbers s (Ok result.Counted) q = tt
votes_numbers s (Ok result.Duplicated) q = tt
votes_numbers s (Ok (result.Equivocated e)) q = tt
votes_numbers s (Ok result.Ignored) q = tt

rooted_numbers : (p : Pairs) → Paired (pairing p) → (fs : List ℕ) → Numbered (Own voters Rt) (rooted p fs)
unfolding rooted
rooted_numbers p h fs =
    go (new ids weights)
    (new_numbers ids weights (omega (arith, length-take p.count p.ids, length-take p.count p.weights, h.0, h.1))
    (omega (arith, length-take p.count p.ids, h.2)))
  where
    ids : List ℕ
    ids = take p.count p.ids

    weights : List ℕ
    weights = take p.count p.weights

    go : (a : Result VoterSet Refusal) → OfSet a → Numbered (Own voters Rt) (seated (opened (word fs 0) (word fs 4)) a)
    go (Ok v) q = tt
    go (Err n) q = q

based_numbers : (v : VoterSet) (t : BlockTable) (fs : List ℕ) → Numbered (Own blocks Op) (based v t fs)
unfolding based
based_numbers v t fs = go (place_of t.ids t.count (word fs 8))
  where
    go : (o : Option ℕ) → Numbered (Own blocks Op) (on_place o (λ b. goes (voting (opened_round (long fs 0) v t b))) (stops UnknownBase))
    go (Some b) = tt
    go None = refl

-- the number of a refused record is one of its own
pub took_numbers : (j : Journal) → Paired j → (m : Mark) (fs : List ℕ) → Numbered (Own (part_of j) m) (took j m fs)
unfolding took paired grown voted counted growing.added
took_numbers (pairing p) h Vt fs = go (leb PAIRS p.count)
  where
    go : (b : Bool)
        → Numbered (Own voters Vt) (on_next (cond b (stops VoterList) (goes (with_pair p (word fs 0) (long fs 4)))) (λ q. goes (pairing q)) stops (rooted p fs))
    go true = refl
    go false = tt
took_numbers (pairing p) h Rt fs = rooted_numbers p h fs
took_numbers (pairing p) h Bk fs = refl
took_numbers (pairing p) h Op fs = refl
took_numbers (pairing p) h Pv fs = refl
took_numbers (pairing p) h Pc fs = refl
took_numbers (growing v t) h Bk fs = go (step t (word fs 0) (word fs 4)).answer (step_numbers t (word fs 0) (word fs 4))
  where
    go : (a : Result ℕ Refusal) → OfBlock a
        → Numbered (Own blocks Bk) (on_next (growing.answered (step t (word fs 0) (word fs 4)).table a) (λ u. goes (growing v u)) stops (based v t fs))
    go (Ok k) q = tt
    go (Err n) q = q
took_numbers (growing v t) h Op fs = based_numbers v t fs
took_numbers (growing v t) h Vt fs = refl
took_numbers (growing v t) h Rt fs = refl
took_numbers (growing v t) h Pv fs = refl
took_numbers (growing v t) h Pc fs = refl
took_numbers (voting r) h Bk fs = go (step r.frame.table (word fs 0) (word fs 4)).answer (step_numbers r.frame.table (word fs 0) (word fs 4))
  where
    go : (a : Result ℕ Refusal) → OfBlock a
        → Numbered (Own votes Bk)
        (on_next (with_blocks r (growing.answered (step r.frame.table (word fs 0) (word fs 4)).table a)) (λ s. goes (voting s)) stops (stops OutOfTurn))
    go (Ok k) q = tt
    go (Err n) q = q
took_numbers (voting r) h Pv fs =
    votes_numbers _ (import r.frame Prevote (word fs 0) (pair_in fs) r.held).answer (import_numbers r.frame Prevote (word fs 0) (pair_in fs) r.held)
took_numbers (voting r) h Pc fs =
    votes_numbers _ (import r.frame Precommit (word fs 0) (pair_in fs) r.held).answer
    (import_numbers r.frame Precommit (word fs 0) (pair_in fs) r.held)
took_numbers (voting r) h Vt fs = refl
took_numbers (voting r) h Rt fs = refl
took_numbers (voting r) h Op fs = refl

-- 17 is none of them, and 18 is given of a record out of turn alone
pub own_means : (p : Part) (m : Mark) (n : ℕ) → Own p m n → (n ≢ 17) × (n ≡ 18 → may p m ≡ false)
own_means voters Vt n h = ((λ e. omega arith), λ e. absurd (omega arith))
own_means voters Rt n h = ((λ e. omega (arith, h.0, h.1)), λ e. absurd (omega (arith, h.0, h.1)))
own_means voters Bk n h = ((λ e. omega arith), λ e. refl)
own_means voters Op n h = ((λ e. omega arith), λ e. refl)
own_means voters Pv n h = ((λ e. omega arith), λ e. refl)
own_means voters Pc n h = ((λ e. omega arith), λ e. refl)
own_means blocks Vt n h = ((λ e. omega arith), λ e. refl)
own_means blocks Rt n h = ((λ e. omega arith), λ e. refl)
own_means blocks Bk n h = ((λ e. omega (arith, h.0, h.1)), λ e. absurd (omega (arith, h.0, h.1)))
own_means blocks Op n h = ((λ e. omega arith), λ e. absurd (omega arith))
own_means blocks Pv n h = ((λ e. omega arith), λ e. refl)
own_means blocks Pc n h = ((λ e. omega arith), λ e. refl)
own_means votes Vt n h = ((λ e. omega arith), λ e. refl)
own_means votes Rt n h = ((λ e. omega arith), λ e. refl)
own_means votes Bk n h = ((λ e. omega (arith, h.0, h.1)), λ e. absurd (omega (arith, h.0, h.1)))
own_means votes Op n h = ((λ e. omega arith), λ e. refl)
own_means votes Pv n h = ((λ e. omega (arith, h.0, h.1)), λ e. absurd (omega (arith, h.0, h.1)))
own_means votes Pc n h = ((λ e. omega (arith, h.0, h.1)), λ e. absurd (omega (arith, h.0, h.1)))

-- arrays keep their sizes
pairs_sized : (p : Pairs) → Paired (pairing p) → (m : Mark) (fs : List ℕ) → Then (λ (q : Pairs). Paired (pairing q)) (paired p m fs)
unfolding paired
pairs_sized p h Vt fs = go (leb PAIRS p.count) refl
  where
    go : (b : Bool) → leb PAIRS p.count ≡ b → Then (λ (q : Pairs). Paired (pairing q)) (cond b (stops VoterList) (goes (with_pair p (word fs 0) (long fs 4))))
    go true e = tt
    go false e =
        (length-set p.ids p.count (word fs 0) ∙ h.0, length-set p.weights p.count (long fs 4) ∙ h.1, omega (arith, leb-false PAIRS p.count e))
pairs_sized p h Rt fs = tt
pairs_sized p h Bk fs = tt
pairs_sized p h Op fs = tt
pairs_sized p h Pv fs = tt
pairs_sized p h Pc fs = tt

rooted_paired : (p : Pairs) (fs : List ℕ) → Then Paired (rooted p fs)
unfolding rooted
rooted_paired p fs = go (new (take p.count p.ids) (take p.count p.weights))
  where
    go : (a : Result VoterSet Refusal) → Then Paired (seated (opened (word fs 0) (word fs 4)) a)
    go (Ok v) = tt
    go (Err n) = tt

based_paired : (v : VoterSet) (t : BlockTable) (fs : List ℕ) → Then Paired (based v t fs)
unfolding based
based_paired v t fs = go (place_of t.ids t.count (word fs 8))
  where
    go : (o : Option ℕ) → Then Paired (on_place o (λ b. goes (voting (opened_round (long fs 0) v t b))) (stops UnknownBase))
    go (Some b) = tt
    go None = tt

took_paired : (j : Journal) → Paired j → (m : Mark) (fs : List ℕ) → Then Paired (took j m fs)
unfolding took
took_paired (pairing p) h m fs = through_then Paired pairing (paired p m fs) (rooted p fs) (pairs_sized p h m fs) (rooted_paired p fs)
took_paired (growing v t) h m fs =
    through_then Paired (growing v) (grown t m fs) (based v t fs) (then_all (λ (u : BlockTable). Unit {0}) (λ u. tt) (grown t m fs)) (based_paired v t fs)
took_paired (voting r) h m fs =
    through_then Paired voting (voted r m fs) (stops OutOfTurn) (then_all (λ (s : Voting). Unit {0}) (λ s. tt) (voted r m fs)) tt

-- a record that a replay refuses: its number is one of its own
pub refused_number : (es : List Entry) (e : Entry) (n : Refusal) → took (taken es).state e.mark e.fields ≡ stops n → Own (part_of (taken es).state) e.mark (number n)
refused_number es e n q =
    let h = folded_has took Paired took_paired (pairing no_pairs) es (refl, refl, omega arith) in
    subst (Numbered (Own (part_of (taken es).state) e.mark)) q (took_numbers (taken es).state h e.mark e.fields)

-- 17: every whole record is taken, and an unknown mark follows
pub only_unknown : (bs : List ℕ) → (replayed bs).stop ≡ Err UnknownMark → ((taken (parsed bs)).end ≡ Cut) × (read (tail bs) ≡ is.Unknown)
only_unknown bs = go (replayed bs) (replay_ends bs)
  where
    go : (r : Replay) → Ends bs r → r.stop ≡ Err UnknownMark → ((taken (parsed bs)).end ≡ Cut) × (read (tail bs) ≡ is.Unknown)
    go _ (at_end c e) s = absurd (let z : ◌≡◌ {A = ℕ} 0 1 = cc in omega arith)
    go _ (at_mark c e) s = (c, e)
    go _ (at_record es e later n p c q) s = let k : n ≡ UnknownMark = cc in absurd ((own_means (part_of (taken es).state) e.mark (number n) (refused_number es e n q)).0 (ap number k))

-- 18: the records before one that is out of turn are taken
pub only_out_of_turn : (bs : List ℕ) → (replayed bs).stop ≡ Err OutOfTurn
    → (es : List Entry) × (e : Entry) × (later : List Entry) × (parsed bs ≡ es ++ (e ∷ later)) × ((taken es).end ≡ Cut)
    × (may (part_of (taken es).state) e.mark ≡ false)
only_out_of_turn bs = go (replayed bs) (replay_ends bs)
  where
    go : (r : Replay) → Ends bs r → r.stop ≡ Err OutOfTurn
        → (es : List Entry) × (e : Entry) × (later : List Entry) × (parsed bs ≡ es ++ (e ∷ later)) × ((taken es).end ≡ Cut)
        × (may (part_of (taken es).state) e.mark ≡ false)
    go _ (at_end c e) s = absurd (let z : ◌≡◌ {A = ℕ} 0 1 = cc in omega arith)
    go _ (at_mark c e) s = absurd (let z : ◌≡◌ {A = ℕ} 0 1 = cc in omega arith)
    go _ (at_record es e later n p c q) s =
        let k : n ≡ OutOfTurn = cc in (es, e, later, p, c, (own_means (part_of (taken es).state) e.mark (number n) (refused_number es e n q)).1 (ap number k))
