-- Demand 3: nothing that the calls tell is taken back, whatever the voters weigh.
use mathlib.Core.Bool.{Bool, true, false, cond, not, ◌&&◌}
use mathlib.Core.List.{List}
use mathlib.Core.Path.{◌≡◌, refl, sym, ap, subst, ◌∙◌}
use mathlib.Core.Logic.{inl, inr}
use Prim.Native.Nat.{ℕ, ◌≤◌, ◌<◌}
use native.Mathlib.Decide.{ℕ_discrete}
use native.Mathlib.Omega.{arith}
use lib.Dec.{T, leb}
use lib.ListN.{get_or}
use Rattle.loops.specs.All.{all}
use Rattle.loops.proofs.Sums.{sum_at}
use Rattle.grandpa.specs.Weight.{fault, threshold}
use Rattle.grandpa.specs.Tree.{Blocks, child}
use Rattle.grandpa.specs.Vote.{Vote, Voters, total, heard, equivocators}
use Rattle.grandpa.specs.Possible.{possible_at}
use Rattle.grandpa.specs.Answers.{Told, told_from, first_of, settled_at, estimate_of, completable_of, with_node}
use Rattle.grandpa.specs.Time as time
use Rattle.grandpa.specs.Time.{Down, Ordered}
use Rattle.grandpa.proofs.Votes.{equivocators_grow}
use Rattle.grandpa.proofs.Kept.{told_ordered}
use Rattle.voter_info.specs.Info.{look_up}
use Rattle.voter_set.specs.declared.VoterSet.{VoterSet}
use Rattle.blocks.specs.declared.BlockTable.{BlockTable}
use Rattle.blocks.specs.Table.{Stands}
use Rattle.context.specs.declared.Phase.{Phase}
use Rattle.context.specs.declared.Phase.TheVariants.{Prevote, Precommit}
use Rattle.nodes.specs.Nodes.{col}
use Rattle.tracker.specs.declared.Pair.{Pair}
use Rattle.judging.specs.Judge.{judge}
use Rattle.judging.proofs.Voters.{position_inside}
use Rattle.answer_laws.specs.Faithful.{voters, table}
use Rattle.answer_laws.specs.Seats.{Seated}
use Rattle.answer_laws.proofs.Stays.{within_stored}
use Rattle.importing.specs.Import.{Frame, Held, opened_held, verdict, apply, import}
use Rattle.held_laws.specs.Kept.{setting, Kept}
use Rattle.held_laws.specs.Reached as state
use Rattle.held_laws.specs.Reached.{Comes}
use Rattle.held_laws.specs.Answered.{answered}
use Rattle.held_laws.proofs.Parts.{kept_faithful}
use Rattle.held_laws.proofs.Adds.{step_ids}
use Rattle.held_laws.proofs.Reaches.{comes_kept, comes_voters}
use Rattle.held_laws.proofs.Tells.{reached_tells}
use Rattle.held_laws.proofs.Onward.{comes_grown}
use Rattle.held_laws.proofs.Answered.{answered_stored}
use Rattle.round.specs.declared.Round.{Round}
use Rattle.round.specs.Shape.{frame, held}
use Rattle.round.specs.Ask as ask
use Rattle.round_laws.specs.Later.{Later, here, Reached, voters_of, blocks_of, votes_of, answers_of}
use Rattle.round_laws.proofs.Lasting.{later_arrived, later_frame, later_blocks, later_votes, reached_fits, reached_state, reached_later, answers_stay}
use Rattle.demands.specs.Second.{Weighs, Few, shown, meant}
use Rattle.demands.specs.Third.{Below, Stays, Third, Demand3}
use Rattle.demands.proofs.Asking.{no_number}
use Rattle.demands.proofs.Shown.{ghost_shown, finalized_shown, estimate_shown, completable_yes}
use Rattle.demands.proofs.Meant.{keeps, kept, whole, told_meant}
use Rattle.std.specs.Prelude.{Option, Some, None, Ok}
use Rattle.voter_info.specs.declared.VoterInfo.{VoterInfo}

-- A round whose voters weigh nothing has no voter, takes no vote and tells nothing.

abbrev pub nothing_told : Told
nothing_told = record { ghost = None; finalized = None; estimate = None; completable = false }

module _ (f : Frame) (nobody : f.voters.count ≡ 0) where
  no_vote : (i : Held) (phase : Phase) (signer : ℕ) (p : Pair) → (import f phase signer p i).held ≡ i
  unfolding import judge
  no_vote i phase signer p = go (look_up f.voters.ids f.voters.weights f.voters.count signer) refl
    where
      go : (l : Option VoterInfo) → look_up f.voters.ids f.voters.weights f.voters.count signer ≡ l
          → (apply f phase signer p i (verdict f phase signer p i)).held ≡ i
      go (Some v) e = absurd (omega (arith, nobody, position_inside f.voters.ids f.voters.weights f.voters.count signer v e))
      go None e = rw e

module _ (f : Frame) (nobody : f.voters.count ≡ 0) (h : Held) (e : answered h.answers ≡ nothing_told) where
  comes_silent : (g : Frame) (i : Held) → Comes f h g i → answered i.answers ≡ nothing_told
  comes_silent _ _ state.here = e
  comes_silent g _ (state.voted _ i c phase signer p) =
      ap (λ (x : Held). answered x.answers) (no_vote g (ap (λ (v : VoterSet). v.count) (comes_voters f h g i c) ∙ nobody) i phase signer p)
      ∙ comes_silent g i c
  comes_silent _ i (state.added g _ c id parent) = comes_silent g i c
  comes_silent g _ (state.asked _ i c) = comes_silent g i c

-- Ids stay.
comes_ids : (f : Frame) (h : Held) → Kept f h → (g : Frame) (i : Held) → Comes f h g i → (x : ℕ) → x < f.table.count
    → col f.table.ids x ≡ col g.table.ids x
comes_ids f h k _ _ state.here x l = refl
comes_ids f h k g _ (state.voted _ i c phase signer p) x l = comes_ids f h k g i c x l
comes_ids f h k _ i (state.added g _ c id parent) x l =
    comes_ids f h k g i c x l ∙ step_ids g i (comes_kept f h k g i c) id parent x (omega (arith, l, (comes_grown f h k g i c).more))
comes_ids f h k g _ (state.asked _ i c) x l = comes_ids f h k g i c x l

-- A completable round has an estimate.
settled_some : (b : Bool) (g : ℕ) (childless : Bool) (o : Option ℕ) → T (b && settled_at g childless o) → cond b o (Some g) ≡ None → ⊥
settled_some false g childless o c e = c
settled_some true g childless None c e = c
settled_some true g childless (Some x) c e = no_number (sym e)

estimated : (vs : Voters) (t : Blocks) (base : ℕ) (pv pc : ℕ → Vote) (o : Option ℕ)
    → T (told_from vs t base pv pc o).completable → (told_from vs t base pv pc o).estimate ≡ None → ⊥
unfolding told_from completable_of estimate_of
estimated vs t base pv pc None c e = c
estimated vs t base pv pc (Some g) c e =
    settled_some (leb (threshold (total vs)) (heard vs pc)) g
    (all t.count (λ k. not (child t.up g k && (with_node vs t pv pc k && possible_at vs t.up pc k))))
    (first_of t.up (possible_at vs t.up pc) base g) c e

-- a stored block is in the table
abbrev pub In : ℕ → Option ℕ → Type 0
In n None = Unit {0}
In n (Some a) = a < n

pub seat_in : (parents : List ℕ) (base n : ℕ) (o : Option ℕ) → Seated parents base n o → In n o
seat_in parents base n None s = tt
seat_in parents base n (Some b) s = s.0

module _ (r : Round) (reached : Reached r) where
  pub silent : r.context.voters.total ≡ 0 → answers_of r ≡ nothing_told
  silent e =
      let x = reached_state r reached in
      let start = opened_held x.start.base in
      comes_silent x.start
      (ap (λ (v : VoterSet). v.count) (sym (comes_voters x.start start (frame r) (held r) x.calls)) ∙ none_there (ℕ_discrete r.context.voters.count 0))
      start refl (frame r) (held r) x.calls
    where
      none_there : Dec (r.context.voters.count ≡ 0) → r.context.voters.count ≡ 0
      none_there (yes q) = q
      none_there (no n) =
          let Some : 0 < r.context.voters.count = omega arith in
          absurd (omega (
            arith,
            e,
            whole r reached,
            (kept r reached).good.weigh_some 0 Some,
            sum_at r.context.voters.count (λ p. get_or r.context.voters.weights p 0) 0 Some,
          ))

  module _ (weighs : Weighs r) where
    abbrev pub from : Option ℕ → Told
    from o = told_from (voters_of r) (blocks_of r) r.graph.base (votes_of r Prevote) (votes_of r Precommit) o

    pub told_by : (o : Option ℕ) × (answers_of r ≡ from o) × time.Stored (blocks_of r) r.graph.base o
    told_by =
        let x = reached_tells (frame r) (held r) (reached_state r reached) weighs in (
          x.0,
          ap answered x.1.told ∙ answered_stored r.answers.precommit (from x.0),
          within_stored (setting (frame r) (held r)) (kept_faithful (frame r) (held r) (kept r reached)) x.0 x.1.within,
        )

    estimate_some : T r.answers.completable → (answers_of r).estimate ≡ None → ⊥
    estimate_some c e =
        let x = told_by in
        estimated (voters_of r) (blocks_of r) r.graph.base (votes_of r Prevote) (votes_of r Precommit) x.0
        (subst (λ (z : Told). T z.completable) x.1 c) (sym (ap (λ (z : Told). z.estimate) x.1) ∙ e)

    answers_ordered : Ordered (col r.table.parents) (answers_of r)
    answers_ordered =
        let x = told_by in
        subst (λ (z : Told). Ordered (col r.table.parents) z) (sym x.1)
        (told_ordered (voters_of r) (blocks_of r) (kept r reached).table.tree.falls r.graph.base (votes_of r Prevote) (votes_of r Precommit) x.0 x.2)

-- What was told in r, seen in the table of a later s.
module _ (r s : Round) (more : r.table.count ≤ s.table.count)
    (ids : (x : ℕ) → x < r.table.count → col r.table.ids x ≡ col s.table.ids x) where
  stands_later : (a : ℕ) → a < r.table.count → Stands s.table (col r.table.ids a) a
  stands_later a h = record { inside = omega (arith, h, more); named = sym (ids a h) }

  stays_by : (o p : Option ℕ) → In r.table.count o → In s.table.count p → Down (col s.table.parents) o p
      → Stays s.table (shown r o) (shown s p)
  stays_by None p i j d = inl refl
  stays_by (Some a) None i j d = absurd d
  stays_by (Some a) (Some b) i j d =
      inr (record {
        id = _;
        number = _;
        is_upper = refl;
        id_below = _;
        number_below = _;
        is_lower = refl;
        place = a;
        place_below = b;
        stands = stands_later a i;
        stands_below = record { inside = j; named = refl };
        under = d;
      })

  rises_by : (o p : Option ℕ) → (o ≡ None → ⊥) → In s.table.count o → In r.table.count p → Down (col s.table.parents) o p
      → Below s.table (shown s o) (shown r p)
  rises_by None p n i j d = absurd (n refl)
  rises_by (Some a) None n i j d = absurd d
  rises_by (Some a) (Some b) n i j d =
      record {
        id = _;
        number = _;
        is_upper = refl;
        id_below = _;
        number_below = _;
        is_lower = refl;
        place = a;
        place_below = b;
        stands = record { inside = i; named = refl };
        stands_below = stands_later b j;
        under = d;
      }

abbrev BlocksStay : Round → Round → Type 0
BlocksStay r s = (id b : ℕ) → Stands r.table id b
    → Stands s.table id b × (col s.table.numbers b ≡ col r.table.numbers b) × (col s.table.parents b ≡ col r.table.parents b)

module _ (r : Round) (reached : Reached r) (s : Round) (later : Later r s) where
  reached_s : Reached s
  reached_s = reached_later r reached s later

  grown : time.Grown (blocks_of r) (blocks_of s)
  grown = later_blocks r (reached_fits r reached) (keeps r reached) s later

  same_ids : (x : ℕ) → x < r.table.count → col r.table.ids x ≡ col s.table.ids x
  same_ids =
      comes_ids (frame r) (held r) (kept r reached) (frame s) (held s)
      (later_arrived r (reached_fits r reached) (keeps r reached) s later).comes

  blocks_stay : BlocksStay r s
  blocks_stay id b w = (
    record { inside = omega (arith, w.inside, grown.more); named = sym (same_ids b w.inside) ∙ w.named },
    sym (grown.same_number b w.inside),
    sym (grown.same_up b w.inside),
  )

  same_voters : s.context.voters ≡ r.context.voters
  same_voters = ap (λ (f : Frame). f.voters) (later_frame r (reached_fits r reached) (keeps r reached) s later)

  -- by voters that weigh nothing
  module _ (e : r.context.voters.total ≡ 0) where
    silent_s : answers_of s ≡ nothing_told
    silent_s = silent s reached_s (ap (λ (v : VoterSet). v.total) same_voters ∙ e)

    not_completable : ask.completable r ≡ Ok true → ⊥
    not_completable q = subst T (ap (λ (x : Told). x.completable) (silent r reached e)) ((completable_yes r (keeps r reached)).0 q)

    third_silent : Third r s
    third_silent =
        record {
          ghost = inl (ghost_shown r (keeps r reached) ∙ ap (λ (x : Told). shown r x.ghost) (silent r reached e));
          finalized = inl (finalized_shown r (keeps r reached) ∙ ap (λ (x : Told). shown r x.finalized) (silent r reached e));
          completable = λ f q. absurd (not_completable q);
          estimate = λ f q. absurd (not_completable q);
          ordered = inl (finalized_shown s (keeps s reached_s) ∙ ap (λ (x : Told). shown s x.finalized) silent_s);
          definitions = λ weighs few. absurd (omega (arith, e, weighs));
          blocks = blocks_stay;
        }

  -- by voters that weigh something
  module _ (weighs : Weighs r) where
    weighs_s : Weighs s
    weighs_s = subst (λ (v : VoterSet). 0 < v.total) (sym same_voters) weighs

    stay : time.Kept (col s.table.parents) (equivocators (voters_of r) (votes_of s Precommit) ≤ fault r.context.voters.total) (answers_of r)
        (answers_of s)
    stay = answers_stay r reached weighs s later

    few_then : Few Precommit s → equivocators (voters_of r) (votes_of s Precommit) ≤ fault r.context.voters.total
    few_then =
        subst (λ (v : VoterSet).
        equivocators (record { size = v.count; weight = λ p. get_or v.weights p 0 }) (votes_of s Precommit) ≤ fault v.total) same_voters

    -- equivocators of the later round were as few before
    few_before : Few Prevote s → Few Prevote r
    few_before few =
        let then : equivocators (voters_of r) (votes_of s Prevote) ≤ fault r.context.voters.total =
        subst (λ (v : VoterSet).
        equivocators (record { size = v.count; weight = λ p. get_or v.weights p 0 }) (votes_of s Prevote) ≤ fault v.total) same_voters few in
        omega (
          arith,
          then,
          equivocators_grow (voters_of r) (votes_of r Prevote) (votes_of s Prevote)
              (λ p h. later_votes r (reached_fits r reached) (keeps r reached) s later Prevote p),
        )

    definitions_stay : Few Prevote s → time.Kept (col s.table.parents) (Few Precommit s) (meant r) (meant s)
    definitions_stay few =
        subst (λ (x : Told). time.Kept (col s.table.parents) (Few Precommit s) x (meant s)) (told_meant r reached weighs (few_before few))
        (subst (time.Kept (col s.table.parents) (Few Precommit s) (answers_of r)) (told_meant s reached_s weighs_s few)
        (record {
          ghost = stay.ghost;
          finalized = stay.finalized;
          completable = λ f. stay.completable (few_then f);
          estimate = λ f. stay.estimate (few_then f);
        }))

    completable_then : Few Precommit s → ask.completable r ≡ Ok true → T s.answers.completable
    completable_then few q = stay.completable (few_then few) ((completable_yes r (keeps r reached)).0 q)

    third_weighed : Third r s
    third_weighed =
        let k = (kept r reached).seated in
        let l = (kept s reached_s).seated in
        record {
          ghost =
              rw (ghost_shown r (keeps r reached), ghost_shown s (keeps s reached_s))
              (stays_by r s grown.more same_ids (answers_of r).ghost (answers_of s).ghost (seat_in _ _ _ r.answers.prevote k.prevote)
              (seat_in _ _ _ s.answers.prevote l.prevote) stay.ghost);
          finalized =
              rw (finalized_shown r (keeps r reached), finalized_shown s (keeps s reached_s))
              (stays_by r s grown.more same_ids (answers_of r).finalized (answers_of s).finalized (seat_in _ _ _ r.answers.finalized k.finalized)
              (seat_in _ _ _ s.answers.finalized l.finalized) stay.finalized);
          completable = λ few q. (completable_yes s (keeps s reached_s)).1 (completable_then few q);
          estimate = λ few q.
              rw (estimate_shown r (keeps r reached), estimate_shown s (keeps s reached_s))
              (rises_by r s grown.more same_ids (answers_of s).estimate (answers_of r).estimate
              (estimate_some s reached_s weighs_s (completable_then few q)) (seat_in _ _ _ s.answers.estimate l.estimate)
              (seat_in _ _ _ r.answers.estimate k.estimate)
              (stay.estimate (few_then few) ((completable_yes r (keeps r reached)).0 q)));
          ordered =
              rw (finalized_shown s (keeps s reached_s), estimate_shown s (keeps s reached_s))
              (stays_by s s (omega arith) (λ x h. refl) (answers_of s).finalized (answers_of s).estimate (seat_in _ _ _ s.answers.finalized l.finalized)
              (seat_in _ _ _ s.answers.estimate l.estimate) (answers_ordered s reached_s weighs_s));
          definitions = λ w few. definitions_stay few;
          blocks = blocks_stay;
        }

  lasts : Third r s
  lasts = go (ℕ_discrete r.context.voters.total 0)
    where
      go : Dec (r.context.voters.total ≡ 0) → Third r s
      go (yes e) = third_silent e
      go (no n) = third_weighed (omega arith)

pub demand_3 : Demand3
demand_3 = lasts
