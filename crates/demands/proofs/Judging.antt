-- The wrong rounds of document 01, "Judging a promise", break what is promised.
use mathlib.Core.List.{[], ◌∷◌}
use mathlib.Core.Path.{◌≡◌, refl, sym, ap, subst, ◌∙◌}
use Prim.Native.Nat.{ℕ, ◌≤◌, ◌<◌}
use native.Mathlib.Omega.{arith}
use Rattle.weights.specs.Weights.{most}
use Rattle.loops.specs.Loop.{first}
use Rattle.loops.specs.All.{all, any}
use Rattle.loops.specs.Sum.{sum}
use Rattle.columns.specs.Find as columns
use Rattle.columns.specs.Lists.{padded}
use Rattle.grandpa.specs.Tree.{within, below}
use Rattle.grandpa.specs.Weight.{fault}
use Rattle.grandpa.specs.Answers as meant
use Rattle.grandpa.specs.Answers.{Says}
use Rattle.voter_pairs.specs.Voters.{voters, enter}
use Rattle.voter_info.specs.Info.{look_up, info}
use Rattle.voter_set.specs.Voters as set
use Rattle.blocks.specs.Add.{place_of, append, step}
use Rattle.block_shape.specs.Shape.{sized, count_fits, is_child, is_tree, are_distinct, clear_at, is_clear, are_clear, tabled}
use Rattle.block_table.specs.Add as blocks
use Rattle.layouts.specs.Layout as layout
use Rattle.context.specs.declared.Phase.{Phase}
use Rattle.context.specs.declared.Phase.TheVariants.{Prevote}
use Rattle.context.specs.Votes.{bit}
use Rattle.tracker.specs.declared.Pair.{Pair}
use Rattle.tracker.specs.declared.VoteMultiplicity.TheVariants as recorded
use Rattle.tracker.specs.Recorded.{recorded, cast}
use Rattle.judging.specs.declared.ImportResult.{ImportResult}
use Rattle.judging.specs.declared.ImportResult.TheVariants as vote
use Rattle.judging.specs.Judge.{judge_first, judge}
use Rattle.importing.specs.Import.{Frame, Held, import, opened_held}
use Rattle.round.specs.declared.Round.{Round}
use Rattle.round.specs.Shape.{frame, held, shaped}
use Rattle.round.specs.Calls.{imported, import_vote}
use Rattle.round_laws.specs.Later.{here, Reached}
use Rattle.round_laws.proofs.Keeps.{on_true, opened_again}
use Rattle.demands.specs.First.{Keeps, Rule, Promised}
use Rattle.demands.specs.Second.{Weighs, Few, shown, Tells, IsGhost, IsFinalized, IsEstimate, Second}
use Rattle.demands.specs.Wrong.{DueAfter, Wrong}
use Rattle.demands.proofs.Voting.{answer_rule}
use Rattle.demands.proofs.Recording.{counted_by}
use Rattle.demands.proofs.Meant.{keeps, demand_2}
use Rattle.demands.proofs.Ballots.{Ballot, after, taken, after_later, Became, after_becomes, twice_weight}
use Rattle.demands.proofs.Shown.{ghost_shown, finalized_shown, estimate_shown}
use Rattle.demands.proofs.Beyond.{four, tree, stage, computed, totals, opens, start, earlier, fits, reached, framed, was, told_then}
use Rattle.std.specs.Prelude.{Option, Some, None, Result, Ok}
use Rattle.refusals.specs.declared.Refusal.{Refusal}
use Rattle.round.specs.declared.After.{After}

idle : (r : Round) (phase : Phase) (signer : ℕ) (p : Pair) → Rule r phase signer p (Ok vote.Counted) → (a : Result ImportResult Refusal)
    → Promised r phase signer p (record { answer = a; round = r }) → ⊥
idle r phase signer p due a promised =
    let c = counted_by r phase signer p (Ok vote.Counted) due refl in
    let q = promised.records.first ((promised.rule (Ok vote.Counted)).1 due) c.0.place c.0.voter in
    silent_not (sym c.0.silent ∙ q)
  where
    silent_not : recorded.Silent ≡ recorded.Single p → ⊥
    silent_not e = let z : ◌≡◌ {A = ℕ} 0 1 = cc in omega arith

not_none : (r : Round) (P : ℕ → Type 0) (b : ℕ) → P b → Tells r (Ok None) P → ⊥
not_none r P b p t = go t.block t.tells t.says
  where
    go : (o : Option ℕ) → (Ok None) ≡ shown r o → Says P o → ⊥
    go None e s = s b p
    go (Some x) e s = let z : ◌≡◌ {A = ℕ} 0 1 = cc in omega arith

-- what is told is of a block
told_some : (r : Round) (answer : Result (Option (ℕ × ℕ)) Refusal) (P : ℕ → Type 0) → Tells r answer P → (b : ℕ) → answer ≡ shown r (Some b) → (x : ℕ) × P x
told_some r answer P t b q = go t.block (sym t.tells ∙ q) t.says
  where
    go : (o : Option ℕ) → shown r o ≡ shown r (Some b) → Says P o → (x : ℕ) × P x
    go None e s = absurd (let z : ◌≡◌ {A = ℕ} 0 1 = cc in omega arith)
    go (Some x) e s = (x, s)

-- the answer to a vote, by what is held
answer_at : (r : Round) → Keeps r → (f : Frame) (h : Held) → frame r ≡ f → held r ≡ h → (v : Ballot)
    → (import_vote v.phase v.signer v.pair r).answer ≡ (import f v.phase v.signer v.pair h).answer
unfolding import_vote imported
answer_at r t f h e q v =
    on_true (λ (x : After (Result ImportResult Refusal)). x.answer ≡ (import f v.phase v.signer v.pair h).answer) (shaped r) (imported v.phase v.signer v.pair r) _ t
    (ap (λ (x : Frame). (import x v.phase v.signer v.pair (held r)).answer) e ∙ ap (λ (x : Held). (import f v.phase v.signer v.pair x).answer) q)

-- the first two votes of the worked round
abbrev one : Ballot
one = record { phase = Prevote; signer = 1; pair = record { target = 12; number = 2; signature = 0 } }

abbrev two : Ballot
two = record { phase = Prevote; signer = 2; pair = record { target = 12; number = 2; signature = 0 } }

abbrev once : Held
once = taken (one ∷ []) stage (opened_held 0)

counted : ((import stage Prevote 1 one.pair (opened_held 0)).answer ≡ Ok vote.Counted) × ((import stage Prevote 2 two.pair once).answer ≡ Ok vote.Counted)
    × (once.count ≡ 1)
unfolding
    below within sum all any taken layout.RUN layout.bit layout.index bit import judge judge_first look_up info recorded cast place_of columns.find columns.contains first set.new voters
    enter padded sized count_fits is_child is_tree are_distinct clear_at is_clear are_clear tabled blocks.opened append step blocks.add
counted = (refl, refl, refl)

reached_start : Reached start
reached_start = record { number = 7; voters = four; table = tree; base = 10; fits = fits; opens = opens.0; calls = here }

held_start : held start ≡ opened_held 0
held_start = ap held opens.1 ∙ opened_again 7 four tree 0

abbrev voted : Round
voted = after (one ∷ []) start

reached_voted : Reached voted
reached_voted =
    record { number = 7; voters = four; table = tree; base = 10; fits = fits; opens = opens.0; calls = after_later start (one ∷ []) start here }

became : Became (one ∷ []) stage (opened_held 0) voted
became =
    after_becomes (one ∷ []) start stage (opened_held 0) (subst (λ (x : Frame). x.voters.total ≤ most) (sym framed) fits)
    (keeps start reached_start) framed held_start

due_first : DueAfter 0
due_first =
    record {
      round = start;
      reached = reached_start;
      so_many = ap (λ (h : Held). h.count) held_start;
      signer = 1;
      pair = one.pair;
      due = subst (Rule start Prevote 1 one.pair) (answer_at start (keeps start reached_start) stage (opened_held 0) framed held_start one ∙ counted.0)
          (answer_rule start Prevote 1 one.pair);
    }

due_next : DueAfter 1
due_next =
    record {
      round = voted;
      reached = reached_voted;
      so_many = ap (λ (h : Held). h.count) became.1 ∙ counted.2;
      signer = 2;
      pair = two.pair;
      due = subst (Rule voted Prevote 2 two.pair) (answer_at voted (keeps voted reached_voted) stage once became.0 became.1 two ∙ counted.1)
          (answer_rule voted Prevote 2 two.pair);
    }

-- the worked round tells three blocks
weighs : Weighs earlier
weighs = subst (λ (f : Frame). 0 < f.voters.total) (sym was.0) (omega (arith, totals))

few : Few Prevote earlier
few =
    subst (λ (f : Frame). twice_weight Prevote f (held earlier) ≤ fault f.voters.total) (sym was.0)
    (subst (λ (h : Held). twice_weight Prevote stage h ≤ fault four.total) (sym was.1) (omega (arith, computed.2)))

told : Second earlier
told = demand_2 earlier reached weighs few

blocks_told : (g : ℕ) × (f : ℕ) × (e : ℕ) × IsGhost earlier g × IsFinalized earlier f × IsEstimate earlier e
blocks_told =
    let t = keeps earlier reached in
    let g = told_some earlier _ (IsGhost earlier) told.ghost 2 (ghost_shown earlier t ∙ ap (λ (x : meant.Told). shown earlier x.ghost) told_then) in
    let f = told_some earlier _ (IsFinalized earlier) told.finalized 1 (finalized_shown earlier t ∙ ap (λ (x : meant.Told). shown earlier x.finalized) told_then) in
    let e = told_some earlier _ (IsEstimate earlier) told.estimate 1 (estimate_shown earlier t ∙ ap (λ (x : meant.Told). shown earlier x.estimate) told_then) in
    (g.0, f.0, e.0, g.1, f.1, e.1)

pub wrong_turned_down : Wrong
wrong_turned_down =
    record {
      idle = idle;
      first_vote = due_first;
      next_vote = due_next;
      no_ghost = λ r. not_none r (IsGhost r);
      no_finalized = λ r. not_none r (IsFinalized r);
      no_estimate = λ r. not_none r (IsEstimate r);
      told_round = earlier;
      told_reached = reached;
      told_blocks = blocks_told;
    }
