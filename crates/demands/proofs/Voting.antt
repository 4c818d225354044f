-- The answer to a vote is the one whose rule holds, on every round; so 9, 11, 12 and 13 are given exactly when they are due.
use mathlib.Core.Bool.{Bool, true, false, cond}
use mathlib.Core.Path.{◌≡◌, refl, sym, ap, subst, ◌∙◌}
use mathlib.Core.Logic.{◌≢◌, ◌⊎◌, inl, inr, ◌↔◌}
use Prim.Native.Nat.{ℕ}
use native.Mathlib.Decide.{ℕ_discrete}
use lib.Dec.{T}
use borrow.Author.Tests.{eq-eqb, ne_eqb}
use Rattle.loops.proofs.Tests.{true_T, false_not, dec_T}
use Rattle.grandpa.specs.Tree.{below}
use Rattle.voter_set.specs.Lookup.{get}
use Rattle.voter_laws.proofs.Lookups.{voter_at, Known, Unknown, get_voter, get_outside, get_cases}
use Rattle.blocks.specs.Table.{Stands, Absent}
use Rattle.blocks.specs.Add.{place_of}
use Rattle.block_laws.proofs.Adds.{found_stands, stands_found, nothing_stands, stands_nothing}
use Rattle.context.specs.declared.Phase.{Phase}
use Rattle.nodes.specs.Nodes.{col}
use Rattle.tracker.specs.declared.Pair.{Pair}
use Rattle.tracker.specs.declared.VoteMultiplicity.{VoteMultiplicity}
use Rattle.tracker.specs.declared.VoteMultiplicity.TheVariants as recorded
use Rattle.tracker.specs.Recorded.{same, add_vote}
use Rattle.judging.specs.declared.ImportResult.{ImportResult}
use Rattle.judging.specs.declared.ImportResult.TheVariants as vote
use Rattle.judging.specs.declared.Verdict.{Verdict}
use Rattle.judging.specs.declared.Verdict.TheVariants as verdicts
use Rattle.judging.specs.Judge.{judge_first, by_rule, judge}
use Rattle.importing.specs.Import.{apply, verdict, import}
use Rattle.round.specs.declared.Round.{Round}
use Rattle.round.specs.Shape.{frame, held, shaped}
use Rattle.round.specs.Calls.{imported, import_vote}
use Rattle.round.proofs.Steps.{graph_kept}
use Rattle.two_views.proofs.Rounds.{voters_good}
use Rattle.demands.specs.First.{Keeps, Exactly, VoterAt, recorded_of, FirstVote, VoteDue, misshaped, unknown, wrong_number, off_the_base, Rule, refused, stranger, first, again, first_again, second_again, second, third}
use Rattle.demands.proofs.Asking.{not_err, err_is}
use Rattle.std.specs.Prelude.{Option, Some, None, Result, Ok, Err}
use Rattle.refusals.specs.declared.Refusal.{Refusal}
use Rattle.refusals.specs.declared.Refusal.TheVariants.{OffTheBase, UnknownTarget, WrongNumber, Misshapen}

module _ (r : Round) (phase : Phase) (signer : ℕ) (p : Pair) where
  abbrev pub judged : Verdict
  judged = verdict (frame r) phase signer p (held r)

  abbrev answer_by : Verdict → Result ImportResult Refusal
  answer_by d = (apply (frame r) phase signer p (held r) d).answer

  -- what is due to a first vote of the voter at place k
  abbrev pub aimed : ℕ → Verdict
  aimed k =
      judge_first r.table.ids r.table.numbers r.table.parents r.table.count r.graph.base (voter_at r.context.voters k) p

  module _ (t : Keeps r) where
    answered : (d : Verdict) → judged ≡ d → (import_vote phase signer p r).answer ≡ answer_by d
    unfolding import_vote imported import
    answered d e = rw (true_T (shaped r) t) (ap answer_by e)

    judged_outside : ((k : ℕ) → VoterAt r signer k → ⊥) → judged ≡ verdicts.Nothing (Ok vote.Outside)
    unfolding judge
    judged_outside f =
        let q : get r.context.voters signer ≡ None =
        get_outside r.context.voters (voters_good r t) signer (λ k h e. f k (record { inside = h; named = e })) in
        rw q

    judged_voter : (k : ℕ) → VoterAt r signer k → judged ≡ by_rule (add_vote (recorded_of r phase k) p) (aimed k) (voter_at r.context.voters k)
    unfolding judge
    judged_voter k v =
        let q : get r.context.voters signer ≡ Some (voter_at r.context.voters k) =
        subst (λ (x : ℕ). get r.context.voters x ≡ Some (voter_at r.context.voters k)) v.named
        (get_voter r.context.voters (voters_good r t) k v.inside) in
        rw q

    pub judged_by : (k : ℕ) → VoterAt r signer k → (m : VoteMultiplicity) → recorded_of r phase k ≡ m
        → judged ≡ by_rule (add_vote m p) (aimed k) (voter_at r.context.voters k)
    judged_by k v m e =
        judged_voter k v ∙ ap (λ (x : VoteMultiplicity). by_rule (add_vote x p) (aimed k) (voter_at r.context.voters k)) e

    -- a first vote's target
    aimed_unknown : (k : ℕ) → Absent r.table p.target → aimed k ≡ verdicts.Nothing (Err UnknownTarget)
    unfolding judge_first
    aimed_unknown k f = rw (stands_nothing r.table (graph_kept r t).table p.target f)

    aimed_number : (k b : ℕ) → Stands r.table p.target b → col r.table.numbers b ≢ p.number
        → aimed k ≡ verdicts.Nothing (Err WrongNumber)
    unfolding judge_first
    aimed_number k b s n = rw (stands_found r.table (graph_kept r t).table p.target b s, ne_eqb _ _ n)

    aimed_off : (k b : ℕ) → Stands r.table p.target b → col r.table.numbers b ≡ p.number
        → (T (below (col r.table.parents) r.graph.base b) → ⊥) → aimed k ≡ verdicts.Nothing (Err OffTheBase)
    unfolding judge_first
    aimed_off k b s e f =
        rw (
          stands_found r.table (graph_kept r t).table p.target b s,
          eq-eqb _ _ e,
          false_not (below (col r.table.parents) r.graph.base b) f,
        )

    pub aimed_first : (k b : ℕ) → Stands r.table p.target b → col r.table.numbers b ≡ p.number
        → T (below (col r.table.parents) r.graph.base b) → aimed k ≡ verdicts.First (voter_at r.context.voters k) b
    unfolding judge_first
    aimed_first k b s e h =
        rw (
          stands_found r.table (graph_kept r t).table p.target b s,
          eq-eqb _ _ e,
          true_T (below (col r.table.parents) r.graph.base b) h,
        )

    module _ (k : ℕ) (v : VoterAt r signer k) where
      first_answer : recorded_of r phase k ≡ recorded.Silent → (d : Verdict) → aimed k ≡ d → (import_vote phase signer p r).answer ≡ answer_by d
      first_answer e d q = answered d (judged_by k v recorded.Silent e ∙ q)

      once_answer : (a : Pair) → recorded_of r phase k ≡ recorded.Single a → (b : Bool) → same a p ≡ b
          → (import_vote phase signer p r).answer
          ≡ answer_by (cond b (verdicts.Nothing (Ok vote.Duplicated)) (verdicts.Second (voter_at r.context.voters k) a))
      once_answer a e true q = answered (verdicts.Nothing (Ok vote.Duplicated)) (judged_by k v (recorded.Single a) e ∙ rw q)
      once_answer a e false q = answered (verdicts.Second (voter_at r.context.voters k) a) (judged_by k v (recorded.Single a) e ∙ rw q)

      twice_answer : (a b : Pair) → recorded_of r phase k ≡ recorded.Equivocated a b → (x y : Bool) → same a p ≡ x → same b p ≡ y
          → (import_vote phase signer p r).answer ≡ cond x (Ok vote.Duplicated) (cond y (Ok vote.Duplicated) (Ok vote.Ignored))
      twice_answer a b e true y q s = answered (verdicts.Nothing (Ok vote.Duplicated)) (judged_by k v (recorded.Equivocated a b) e ∙ rw q)
      twice_answer a b e false true q s = answered (verdicts.Nothing (Ok vote.Duplicated)) (judged_by k v (recorded.Equivocated a b) e ∙ rw (q, s))
      twice_answer a b e false false q s = answered (verdicts.Nothing (Ok vote.Ignored)) (judged_by k v (recorded.Equivocated a b) e ∙ rw (q, s))

  -- the rule that holds gives the answer
  due_refusal : (n : Refusal) → VoteDue r phase signer p n → (import_vote phase signer p r).answer ≡ Err n
  unfolding import_vote
  due_refusal _ (misshaped e) = rw e
  due_refusal _ (unknown f a) = first_answer f.keeps f.place f.voter f.silent _ (aimed_unknown f.keeps f.place a)
  due_refusal _ (wrong_number f b s n) =
      first_answer f.keeps f.place f.voter f.silent _ (aimed_number f.keeps f.place b s n)
  due_refusal _ (off_the_base f b s e o) =
      first_answer f.keeps f.place f.voter f.silent _ (aimed_off f.keeps f.place b s e o)

  pub rule_answer : (a : Result ImportResult Refusal) → Rule r phase signer p a → (import_vote phase signer p r).answer ≡ a
  rule_answer _ (refused n d) = due_refusal n d
  rule_answer _ (stranger t f) = answered t _ (judged_outside t f)
  rule_answer _ (first f b s e h) =
      first_answer f.keeps f.place f.voter f.silent _ (aimed_first f.keeps f.place b s e h)
  rule_answer _ (again t k v a e q) = once_answer t k v a e true q
  rule_answer _ (first_again t k v a b e q) = twice_answer t k v a b e true (same b p) q refl
  rule_answer _ (second_again t k v a b e q s) = twice_answer t k v a b e false true q s
  rule_answer _ (second t k v a e q) = once_answer t k v a e false q
  rule_answer _ (third t k v a b e q s) = twice_answer t k v a b e false false q s

  -- and one holds
  pub answer_rule : Rule r phase signer p (import_vote phase signer p r).answer
  answer_rule = shape (dec_T (shaped r))
    where
      Held : Type 0
      Held = Rule r phase signer p (import_vote phase signer p r).answer

      holds : {a : Result ImportResult Refusal} → Rule r phase signer p a → Held
      holds {a} d = subst (Rule r phase signer p) (sym (rule_answer a d)) d

      inside : (f : FirstVote r phase signer) (b : ℕ) → Stands r.table p.target b → col r.table.numbers b ≡ p.number
          → Dec (T (below (col r.table.parents) r.graph.base b)) → Held
      inside f b s e (yes h) = holds (first f b s e h)
      inside f b s e (no h) = holds (refused OffTheBase (off_the_base f b s e h))

      numbered : (f : FirstVote r phase signer) (b : ℕ) → Stands r.table p.target b → Dec (col r.table.numbers b ≡ p.number) → Held
      numbered f b s (yes e) = inside f b s e (dec_T (below (col r.table.parents) r.graph.base b))
      numbered f b s (no e) = holds (refused WrongNumber (wrong_number f b s e))

      target : (f : FirstVote r phase signer) (o : Option ℕ) → place_of r.table.ids r.table.count p.target ≡ o → Held
      target f (Some b) e =
          numbered f b (found_stands r.table (graph_kept r f.keeps).table p.target b e) (ℕ_discrete (col r.table.numbers b) p.number)
      target f None e = holds (refused UnknownTarget (unknown f (nothing_stands r.table (graph_kept r f.keeps).table p.target e)))

      twice : (t : Keeps r) (k : ℕ) (v : VoterAt r signer k) (a b : Pair) → recorded_of r phase k ≡ recorded.Equivocated a b
          → (x : Bool) → same a p ≡ x → (y : Bool) → same b p ≡ y → Held
      twice t k v a b e true q y s = holds (first_again t k v a b e q)
      twice t k v a b e false q true s = holds (second_again t k v a b e q s)
      twice t k v a b e false q false s = holds (third t k v a b e q s)

      once : (t : Keeps r) (k : ℕ) (v : VoterAt r signer k) (a : Pair) → recorded_of r phase k ≡ recorded.Single a
          → (x : Bool) → same a p ≡ x → Held
      once t k v a e true q = holds (again t k v a e q)
      once t k v a e false q = holds (second t k v a e q)

      known : (t : Keeps r) (k : ℕ) (v : VoterAt r signer k) (m : VoteMultiplicity) → recorded_of r phase k ≡ m → Held
      known t k v recorded.Silent e =
          target (record { keeps = t; place = k; voter = v; silent = e }) (place_of r.table.ids r.table.count p.target) refl
      known t k v (recorded.Single a) e = once t k v a e (same a p) refl
      known t k v (recorded.Equivocated a b) e = twice t k v a b e (same a p) refl (same b p) refl

      voter : (t : Keeps r) → ((k : ℕ) × Known r.context.voters signer k) ⊎ Unknown r.context.voters signer → Held
      voter t (inl (k, w)) = known t k (record { inside = w.inside; named = w.is_id }) (recorded_of r phase k) refl
      voter t (inr w) = holds (stranger t (λ k v. w.nowhere k v.inside v.named))

      shape : Dec (T (shaped r)) → Held
      shape (yes t) = voter t (get_cases r.context.voters (voters_good r t) signer)
      shape (no n) = holds (refused Misshapen (misshaped (false_not (shaped r) n)))

  pub rules : (a : Result ImportResult Refusal) → ((import_vote phase signer p r).answer ≡ a) ↔ Rule r phase signer p a
  rules a = ((λ e. subst (Rule r phase signer p) e answer_rule), rule_answer a)

  refusal_due : (a : Result ImportResult Refusal) → Rule r phase signer p a → (n : Refusal) → a ≡ Err n → VoteDue r phase signer p n
  refusal_due _ (refused m d) n e = subst (VoteDue r phase signer p) (err_is e) d
  refusal_due _ (stranger t f) n e = absurd (not_err e)
  refusal_due _ (first f b s q h) n e = absurd (not_err e)
  refusal_due _ (again t k v a q s) n e = absurd (not_err e)
  refusal_due _ (first_again t k v a b q s) n e = absurd (not_err e)
  refusal_due _ (second_again t k v a b q s u) n e = absurd (not_err e)
  refusal_due _ (second t k v a q s) n e = absurd (not_err e)
  refusal_due _ (third t k v a b q s u) n e = absurd (not_err e)

  pub vote_exactly : Exactly (import_vote phase signer p r).answer (VoteDue r phase signer p)
  vote_exactly n = (refusal_due _ answer_rule n, due_refusal n)
