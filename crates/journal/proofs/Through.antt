-- Each turn's loop is a run of the whole journal: up to its own end, or up to the record that ends the turn.
use mathlib.Core.Bool.{Bool, true, false, cond}
use mathlib.Core.List.{List}
use mathlib.Core.Path.{◌≡◌, refl, sym, ap, subst, ◌∙◌}
use Prim.Native.Nat.{ℕ, ◌≤◌}
use native.Mathlib.Omega.{arith}
use lib.Dec.{leb}
use Rattle.sizes.specs.Sizes.{PAIRS}
use Rattle.voter_set.specs.declared.VoterSet.{VoterSet}
use Rattle.blocks.specs.declared.BlockTable.{BlockTable}
use Rattle.block_shape.specs.Shape.{Shaped}
use Rattle.context.specs.declared.Phase.TheVariants.{Prevote, Precommit}
use Rattle.importing.specs.Import.{import}
use Rattle.held_laws.specs.Kept.{Kept}
use Rattle.held_laws.proofs.Opens.{opened_kept}
use Rattle.held_laws.proofs.Keeps.{import_keeps}
use Rattle.held_laws.proofs.Adds.{adding_keeps}
use Rattle.marks.specs.declared.Mark.{Mark}
use Rattle.marks.specs.declared.Mark.TheVariants.{Vt, Rt, Bk, Op, Pv, Pc}
use Rattle.marks.specs.declared.Record.TheVariants as is
use Rattle.marks.specs.declared.End.{End}
use Rattle.marks.specs.declared.End.TheVariants.{Cut, Refused, Left}
use Rattle.marks.specs.Marks.{read, word, long}
use Rattle.runs.specs.Run.{Next, goes, stops, leaves, on_next, Run, ended, ran, counted}
use Rattle.runs.specs.Follow.{carried}
use Rattle.runs.proofs.Simulations.{carried_cut, carried_refused, carried_left, run_simulates}
use Rattle.runs.proofs.Lefts.{left_leaves}
use Rattle.pairing.specs.declared.Pairs.{Pairs}
use Rattle.pairing.specs.Pairing.{with_pair, paired}
use Rattle.growing.specs.Growing.{added, answered, grown}
use Rattle.judging.specs.declared.ImportResult.{ImportResult}
use Rattle.judging.specs.declared.ImportResult.TheVariants as result
use Rattle.voting.specs.Voting as votes
use Rattle.voting.specs.Voting.{Voting, pair_in, with_blocks, voted}
use Rattle.turns.specs.Turns as turns
use Rattle.turns.specs.Turns.{pairing, growing, voting, rooted, based, took}
use Rattle.turns.proofs.Keeps.{Then, paired_few, grown_shaped, voted_has}
use Rattle.journal.specs.Journal.{laid, run_from}
use Rattle.journal.proofs.Turning.{from_ended, from_counted}
use Rattle.std.specs.Prelude.{Result, Ok, Err}
use Rattle.refusals.specs.declared.Refusal.{Refusal}
use Rattle.refusals.specs.declared.Refusal.TheVariants.{OutOfTurn, VoterList}

-- a step inside the whole one: what it does, the whole one does
module _ {S : Type 0} (step : S → Mark → List ℕ → Next S) (e : S → turns.Journal) (left : S → Mark → List ℕ → Next turns.Journal)
    (does : (s : S) (m : Mark) (fs : List ℕ) → took (e s) m fs ≡ on_next (step s m fs) (λ t. goes (e t)) stops (left s m fs))
    (P : S → Type 0) (keeps : (s : S) → P s → (m : Mark) (fs : List ℕ) → Then P (step s m fs)) where
  carries : (s : S) → P s → (bs : List ℕ) → (ran took (e s) bs ≡ carried took e (ran step s bs)) × P (ran step s bs).state
  carries s p bs = run_simulates step took e P goes_too stops_too s bs p
    where
      goes_too : (s t : S) (m : Mark) (fs : List ℕ) → P s → step s m fs ≡ goes t → (took (e s) m fs ≡ goes (e t)) × P t
      goes_too s t m fs p q =
          (does s m fs ∙ ap (λ (n : Next S). on_next n (λ t. goes (e t)) stops (left s m fs)) q, subst (Then P) q (keeps s p m fs))

      stops_too : (s : S) (m : Mark) (fs : List ℕ) (k : Refusal) → P s → step s m fs ≡ stops k → took (e s) m fs ≡ stops k
      stops_too s m fs k p q = does s m fs ∙ ap (λ (n : Next S). on_next n (λ t. goes (e t)) stops (left s m fs)) q

  module _ (s t : S) (p : P s) (n : ℕ) (bs rest : List ℕ) where
    pub through_cut : ended t n rest Cut ≡ ran step s bs → run_from (e s) bs ≡ ended (laid (e t)) n rest Cut
    through_cut q =
        from_ended (e s) (e t) n bs rest Cut
        ((carries s p bs).0 ∙ ap (carried took e) (sym q) ∙ carried_cut took e (ended t n rest Cut) refl)

    pub through_refused : (k : Refusal) → ended t n rest (Refused k) ≡ ran step s bs → run_from (e s) bs ≡ ended (laid (e t)) n rest (Refused k)
    through_refused k q =
        from_ended (e s) (e t) n bs rest (Refused k)
        ((carries s p bs).0 ∙ ap (carried took e) (sym q) ∙ carried_refused took e (ended t n rest (Refused k)) k refl)

    pub through_left : ended t n rest Left ≡ ran step s bs → run_from (e s) bs ≡ counted n (run_from (e t) rest)
    through_left q =
        from_counted (e s) (e t) n bs rest ((carries s p bs).0 ∙ ap (carried took e) (sym q) ∙ carried_left took e (ended t n rest Left) refl)

    pub through_has : (x : End) → ended t n rest x ≡ ran step s bs → P t
    through_has x q = subst P (sym (ap (λ (r : Run S). r.state) q)) (carries s p bs).1

-- which record ends a turn
apart : {A : Type 0} {S : Type 0} (k : Refusal) → ◌≡◌ {A = Next S} (stops k) leaves → A
apart k e = absurd (let z : ◌≡◌ {A = ℕ} 0 1 = cc in omega arith)

gone : {A : Type 0} {S : Type 0} (s : S) → ◌≡◌ {A = Next S} (goes s) leaves → A
gone s e = absurd (let z : ◌≡◌ {A = ℕ} 0 1 = cc in omega arith)

paired_left : (p : Pairs) (m : Mark) (fs : List ℕ) → paired p m fs ≡ leaves → m ≡ Rt
unfolding paired
paired_left p Rt fs e = refl
paired_left p Vt fs e = go (leb PAIRS p.count) e
  where
    go : (b : Bool) → cond b (stops VoterList) (goes (with_pair p (word fs 0) (long fs 4))) ≡ leaves → Vt ≡ Rt
    go true e = apart VoterList e
    go false e = gone _ e
paired_left p Bk fs e = apart OutOfTurn e
paired_left p Op fs e = apart OutOfTurn e
paired_left p Pv fs e = apart OutOfTurn e
paired_left p Pc fs e = apart OutOfTurn e

grown_left : (t : BlockTable) (m : Mark) (fs : List ℕ) → grown t m fs ≡ leaves → m ≡ Op
unfolding grown
grown_left t Op fs e = refl
grown_left t Bk fs e = go (added t fs).answer e
  where
    go : (a : Result ℕ Refusal) → answered (added t fs).table a ≡ leaves → Bk ≡ Op
    go (Ok k) e = gone _ e
    go (Err n) e = apart n e
grown_left t Vt fs e = apart OutOfTurn e
grown_left t Rt fs e = apart OutOfTurn e
grown_left t Pv fs e = apart OutOfTurn e
grown_left t Pc fs e = apart OutOfTurn e

answered_goes : (r : Voting) (a : Result ImportResult Refusal) → votes.answered r a ≡ leaves → ⊥
answered_goes r (Err n) e = apart n e
answered_goes r (Ok result.Outside) e = gone r e
answered_goes r (Ok result.Counted) e = gone r e
answered_goes r (Ok result.Duplicated) e = gone r e
answered_goes r (Ok (result.Equivocated x)) e = gone r e
answered_goes r (Ok result.Ignored) e = gone r e

voted_goes : (r : Voting) (m : Mark) (fs : List ℕ) → voted r m fs ≡ leaves → ⊥
unfolding voted votes.counted grown
voted_goes r Bk fs e = go (added r.frame.table fs).answer e
  where
    go : (a : Result ℕ Refusal) → with_blocks r (answered (added r.frame.table fs).table a) ≡ leaves → ⊥
    go (Ok k) e = gone _ e
    go (Err n) e = apart n e
voted_goes r Pv fs e = answered_goes _ (import r.frame Prevote (word fs 0) (pair_in fs) r.held).answer e
voted_goes r Pc fs e = answered_goes _ (import r.frame Precommit (word fs 0) (pair_in fs) r.held).answer e
voted_goes r Vt fs e = apart OutOfTurn e
voted_goes r Rt fs e = apart OutOfTurn e
voted_goes r Op fs e = apart OutOfTurn e

-- the first turn
module _ (p q : Pairs) (few : p.count ≤ PAIRS) (n : ℕ) (bs rest : List ℕ) where
  does_pair : (p : Pairs) (m : Mark) (fs : List ℕ) → took (pairing p) m fs ≡ on_next (paired p m fs) (λ q. goes (pairing q)) stops (rooted p fs)
  unfolding took
  does_pair p m fs = refl

  abbrev Few : Pairs → Type 0
  Few q = q.count ≤ PAIRS

  pub voters_cut : ended q n rest Cut ≡ ran paired p bs → run_from (pairing p) bs ≡ ended (laid (pairing q)) n rest Cut
  voters_cut = through_cut paired pairing (λ p m fs. rooted p fs) does_pair Few paired_few p q few n bs rest

  pub voters_refused : (k : Refusal) → ended q n rest (Refused k) ≡ ran paired p bs → run_from (pairing p) bs ≡ ended (laid (pairing q)) n rest (Refused k)
  voters_refused = through_refused paired pairing (λ p m fs. rooted p fs) does_pair Few paired_few p q few n bs rest

  pub voters_left : ended q n rest Left ≡ ran paired p bs → run_from (pairing p) bs ≡ counted n (run_from (pairing q) rest)
  voters_left = through_left paired pairing (λ p m fs. rooted p fs) does_pair Few paired_few p q few n bs rest

  -- the record at which it is left
  pub voters_rt : ended q n rest Left ≡ ran paired p bs → read rest ≡ is.Whole Rt
  voters_rt e =
      let l = left_leaves paired p bs (sym (ap (λ (r : Run Pairs). r.end) e)) in
      ap (λ (r : Run Pairs). read r.rest) e ∙ l.reads ∙ ap (λ (m : Mark). is.Whole m) (paired_left _ l.mark _ l.is_left)

-- the second turn
module _ (v : VoterSet) (t u : BlockTable) (shaped : Shaped t) (n : ℕ) (bs rest : List ℕ) where
  does_grow : (t : BlockTable) (m : Mark) (fs : List ℕ) → took (growing v t) m fs ≡ on_next (grown t m fs) (λ u. goes (growing v u)) stops (based v t fs)
  unfolding took
  does_grow t m fs = refl

  pub blocks_cut : ended u n rest Cut ≡ ran grown t bs → run_from (growing v t) bs ≡ ended (laid (growing v u)) n rest Cut
  blocks_cut = through_cut grown (growing v) (λ t m fs. based v t fs) does_grow Shaped grown_shaped t u shaped n bs rest

  pub blocks_refused : (k : Refusal) → ended u n rest (Refused k) ≡ ran grown t bs
      → run_from (growing v t) bs ≡ ended (laid (growing v u)) n rest (Refused k)
  blocks_refused = through_refused grown (growing v) (λ t m fs. based v t fs) does_grow Shaped grown_shaped t u shaped n bs rest

  pub blocks_left : ended u n rest Left ≡ ran grown t bs → run_from (growing v t) bs ≡ counted n (run_from (growing v u) rest)
  blocks_left = through_left grown (growing v) (λ t m fs. based v t fs) does_grow Shaped grown_shaped t u shaped n bs rest

  pub blocks_shaped : (x : End) → ended u n rest x ≡ ran grown t bs → Shaped u
  blocks_shaped = through_has grown (growing v) (λ t m fs. based v t fs) does_grow Shaped grown_shaped t u shaped n bs rest

  pub blocks_op : ended u n rest Left ≡ ran grown t bs → read rest ≡ is.Whole Op
  blocks_op e =
      let l = left_leaves grown t bs (sym (ap (λ (r : Run BlockTable). r.end) e)) in
      ap (λ (r : Run BlockTable). read r.rest) e ∙ l.reads ∙ ap (λ (m : Mark). is.Whole m) (grown_left _ l.mark _ l.is_left)

-- the third turn is never left
module _ (r s : Voting) (kept : Kept r.frame r.held) (n : ℕ) (bs rest : List ℕ) where
  does_vote : (r : Voting) (m : Mark) (fs : List ℕ) → took (voting r) m fs ≡ on_next (voted r m fs) (λ s. goes (voting s)) stops (stops OutOfTurn)
  unfolding took
  does_vote r m fs = refl

  abbrev Shapely : Voting → Type 0
  Shapely r = Kept r.frame r.held

  pub votes_through : (x : End) → ended s n rest x ≡ ran voted r bs → run_from (voting r) bs ≡ ended (laid (voting s)) n rest x
  votes_through Cut e = through_cut voted voting (λ r m fs. stops OutOfTurn) does_vote Shapely (voted_has Kept opened_kept import_keeps adding_keeps) r s kept n bs rest e
  votes_through (Refused k) e =
      through_refused voted voting (λ r m fs. stops OutOfTurn) does_vote Shapely (voted_has Kept opened_kept import_keeps adding_keeps) r s kept n bs rest k e
  votes_through Left e =
      let l = left_leaves voted r bs (sym (ap (λ (x : Run Voting). x.end) e)) in
      absurd (voted_goes _ l.mark _ l.is_left)
