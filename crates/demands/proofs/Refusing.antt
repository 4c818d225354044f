-- Demand 1, for every public call and every round.
use mathlib.Core.Bool.{Bool, true, false, cond}
use mathlib.Core.Path.{◌≡◌, refl, sym, ap, subst, ◌∙◌}
use mathlib.Core.Logic.{◌↔◌}
use Prim.Native.Nat.{ℕ}
use native.Mathlib.Omega.{arith}
use Rattle.loops.proofs.Tests.{T_true, true_T, false_not}
use Rattle.voter_set.specs.declared.VoterSet.{VoterSet}
use Rattle.voter_set.specs.Good.{good}
use Rattle.voter_set.specs.Lookup.{nth_mod}
use Rattle.voter_laws.proofs.Goods.{good_means, means_good}
use Rattle.blocks.specs.declared.BlockTable.{BlockTable}
use Rattle.blocks.specs.declared.Added.{Added}
use Rattle.blocks.specs.Add.{place_of, on_place, step}
use Rattle.block_shape.specs.Shape.{tabled}
use Rattle.block_shape.proofs.Shapes.{tabled_shaped, shaped_tabled}
use Rattle.block_table.specs.Add.{Due, add}
use Rattle.block_laws.proofs.Adds.{due_answer, answer_due, stands_found, nothing_stands, stands_nothing}
use Rattle.context.specs.declared.Phase.{Phase}
use Rattle.context.specs.declared.Phase.TheVariants.{Prevote, Precommit}
use Rattle.tracker.specs.declared.Pair.{Pair}
use Rattle.judging.specs.declared.ImportResult.{ImportResult}
use Rattle.judging.specs.declared.ImportResult.TheVariants as vote
use Rattle.held_laws.specs.Kept.{Kept, Untaken}
use Rattle.round.specs.declared.Round.{Round}
use Rattle.round.specs.Shape.{frame, held, shaped}
use Rattle.round.specs.Calls.{opened, not_opened, new, block_of, grown, add_block, imported, import_vote, sought, with_sought, precommit_ghost, marked, with_history, set_index}
use Rattle.round.specs.Ask as ask
use Rattle.round.proofs.Steps.{graph_kept}
use Rattle.round_laws.specs.Fits.{Fits, Marked}
use Rattle.round_laws.proofs.Shaped.{shaped_kept, kept_shaped, shaped_marked}
use Rattle.round_laws.proofs.Keeps.{on_true, new_shaped, import_shaped, add_shaped, ghost_shaped, index_shaped}
use Rattle.round_laws.proofs.Lasting.{reached_shaped}
use Rattle.round_laws.proofs.Refusals.{on_test, import_equal, add_equal, ghost_equal, index_equal}
use Rattle.demands.specs.First.{Keeps, Breaks, Nine, NewDue, voters_misshaped, table_misshaped, no_base, BlockDue, misshaped, by_table, Changes, Takes, Opens, First, ReachedKeeps, Demand1}
use Rattle.two_views.proofs.Called.{views_told}
use Rattle.demands.proofs.Asking.{not_err, err_is, nine_exactly, reads, votes_lists, history_lists, final_lists, views_exactly}
use Rattle.demands.proofs.Voting.{rules, vote_exactly}
use Rattle.demands.proofs.Recording.{vote_records}
use Rattle.demands.proofs.Heard.{prevotes_counted, precommits_counted}
use Rattle.std.specs.Prelude.{Option, Some, None, Result, Ok, Err, ⊤}
use Rattle.refusals.specs.declared.Refusal.{Refusal}
use Rattle.refusals.specs.declared.Refusal.TheVariants.{Misshapen, UnknownBase}
use Rattle.round.specs.declared.After.{After}

untaken : (x : Result ImportResult Refusal) (e : Refusal) → x ≡ Err e → Untaken x
untaken x e q = subst Untaken (sym q) tt

-- beside a refused `new` stands a round that every call refuses
not_opened_breaks : (n : Refusal) → Breaks (not_opened n).round
unfolding opened
not_opened_breaks n = false_not (shaped (not_opened n).round) (λ t. omega (arith, (graph_kept (not_opened n).round t).table.rooted))

module _ (number : ℕ) (voters : VoterSet) (table : BlockTable) (base : ℕ) where
  abbrev outcome : Bool → Bool → Option ℕ → (After (Result ⊤ Refusal))
  outcome a b p =
      cond a (cond b (on_place p (λ k. record { answer = Ok tt; round = opened number voters table k }) (not_opened UnknownBase)) (not_opened Misshapen)) (not_opened Misshapen)

  -- a refusal that is due, and what stands beside it
  abbrev Refused : After (Result ⊤ Refusal) → Type 0
  Refused x = (n : Refusal) → x.answer ≡ Err n → NewDue voters table base n × Breaks x.round

  new_refusal : Refused (new number voters table base)
  unfolding new
  new_refusal = go (good voters) refl (tabled table) refl (place_of table.ids table.count base) refl
    where
      go : (a : Bool) → good voters ≡ a → (b : Bool) → tabled table ≡ b → (p : Option ℕ) → place_of table.ids table.count base ≡ p
          → Refused (outcome a b p)
      go true s true t (Some k) e n q = absurd (not_err q)
      go true s true t None e n q = (
        subst (NewDue voters table base) (err_is q) (no_base s (T_true t) (nothing_stands table (tabled_shaped table (T_true t)) base e)),
        not_opened_breaks UnknownBase,
      )
      go true s false t p e n q = (subst (NewDue voters table base) (err_is q) (table_misshaped t), not_opened_breaks Misshapen)
      go false s b t p e n q = (subst (NewDue voters table base) (err_is q) (voters_misshaped s), not_opened_breaks Misshapen)

  refusal_new : (n : Refusal) → NewDue voters table base n → (new number voters table base).answer ≡ Err n
  unfolding new
  refusal_new _ (voters_misshaped e) = rw e
  refusal_new _ (table_misshaped e) = go (good voters)
    where
      go : (a : Bool) → (outcome a (tabled table) (place_of table.ids table.count base)).answer ≡ Err Misshapen
      go true = rw e
      go false = refl
  refusal_new _ (no_base s t f) = rw (s, true_T (tabled table) t, stands_nothing table (tabled_shaped table t) base f)

  pub new_opens : Opens number voters table base
  unfolding new
  new_opens =
      record {
        refuses = λ n. ((λ q. (new_refusal n q).0), refusal_new n);
        beside = λ n q. (new_refusal n q).1;
        steps = λ s t b w. rw (s, true_T (tabled table) t, stands_found table (tabled_shaped table t) base b w);
        keeps = λ fits q. new_shaped number voters table base fits q;
        voters_rules = (good_means voters, means_good voters);
        table_rules = (tabled_shaped table, shaped_tabled table);
      }

module _ (r : Round) where
  pub is_round_means : Fits r → Keeps r ↔ (Kept (frame r) (held r) × Marked r)
  is_round_means fits = ((λ t. (shaped_kept r fits t, shaped_marked r t)), λ k. kept_shaped r k.0 k.1)

  -- a block more
  add_step : Keeps r → (id parent : ℕ) → add r.table id parent ≡ step r.table id parent
  unfolding add
  add_step t id parent = rw (true_T (tabled r.table) (shaped_tabled r.table (graph_kept r t).table))

  pub add_changes : (id parent : ℕ)
      → Changes r (BlockDue r id parent) (add_block id parent r) (grown r (step r.table id parent))
  unfolding add_block
  add_changes id parent =
      record {
        refuses = λ n. (to n, fro n);
        equal = add_equal r id parent;
        steps = λ t. on_true (λ (x : After (Result ℕ Refusal)). x ≡ grown r (step r.table id parent)) (shaped r) _ _ t refl;
        keeps = λ fits t. add_shaped r fits t id parent;
      }
    where
      to : (n : Refusal) → (add_block id parent r).answer ≡ Err n → BlockDue r id parent n
      to n =
          on_test (λ (x : After (Result ℕ Refusal)). x.answer ≡ Err n → BlockDue r id parent n) (shaped r) (grown r (step r.table id parent)) _
          (λ e q. by_table n (T_true e)
          (subst (Due r.table id parent) (ap (λ (x : Added). x.answer) (add_step (T_true e) id parent) ∙ q)
          (answer_due r.table id parent)))
          (λ e q. subst (BlockDue r id parent) (err_is q) (misshaped e))

      fro : (n : Refusal) → BlockDue r id parent n → (add_block id parent r).answer ≡ Err n
      fro _ (misshaped e) = rw e
      fro _ (by_table n t d) =
          on_true (λ (x : After (Result ℕ Refusal)). x.answer ≡ Err n) (shaped r) (grown r (step r.table id parent)) _ t
          (ap (λ (x : Added). x.answer) (sym (add_step t id parent)) ∙ due_answer r.table id parent (Err n) d)

  -- a vote
  pub vote_takes : (phase : Phase) (signer : ℕ) (p : Pair) → Takes r phase signer p
  unfolding import_vote
  vote_takes phase signer p =
      record {
        changes = record {
          refuses = vote_exactly r phase signer p;
          equal = λ n q. import_equal r phase signer p (untaken (import_vote phase signer p r).answer n q);
          steps = λ t. on_true (λ (x : After (Result ImportResult Refusal)). x ≡ imported phase signer p r) (shaped r) _ _ t refl;
          keeps = λ fits t. import_shaped r fits t phase signer p;
        };
        promised = record { rule = rules r phase signer p; records = vote_records r phase signer p; equal = import_equal r phase signer p };
      }

  pub ghost_changes : Changes r (Nine r) (precommit_ghost r) (with_sought r (sought r))
  unfolding precommit_ghost
  ghost_changes =
      record {
        refuses = nine_exactly r (λ (x : After (Result (Option (ℕ × ℕ)) Refusal)). x.answer) (block_of r.table.ids r.table.numbers (sought r)) (with_sought r (sought r)) _ refl refl;
        equal = ghost_equal r;
        steps = λ t. on_true (λ (x : After (Result (Option (ℕ × ℕ)) Refusal)). x ≡ with_sought r (sought r)) (shaped r) _ _ t refl;
        keeps = λ fits t. ghost_shaped r fits t;
      }

  pub index_changes : (phase : Phase)
      → Changes r (Nine r) (set_index phase r) (record { answer = Ok tt; round = with_history r (marked phase r.history) })
  unfolding set_index
  index_changes phase =
      record {
        refuses = nine_exactly r (λ (x : After (Result ⊤ Refusal)). x.answer) tt _ _ refl refl;
        equal = index_equal r phase;
        steps = λ t. on_true (λ (x : After (Result ⊤ Refusal)). x ≡ record { answer = Ok tt; round = with_history r (marked phase r.history) }) (shaped r) _ _ t refl;
        keeps = λ fits t. index_shaped r fits t phase;
      }

  calls : First r
  unfolding ask.number ask.threshold ask.prevoted_index ask.precommitted_index ask.completable ask.estimate ask.finalized ask.base ask.prevote_participation ask.precommit_participation ask.primary_voter ask.state ask.voters
  calls =
      record {
        new = new_opens;
        is_round = is_round_means;
        add_block = add_changes;
        import_prevote = vote_takes Prevote;
        import_precommit = vote_takes Precommit;
        precommit_ghost = ghost_changes;
        set_index = index_changes;
        number = reads r _;
        threshold = reads r _;
        prevoted_index = reads r _;
        precommitted_index = reads r _;
        completable = reads r _;
        estimate = reads r _;
        finalized = reads r _;
        base = reads r _;
        prevote_participation = reads r _;
        precommit_participation = reads r _;
        prevotes_heard = prevotes_counted r;
        precommits_heard = precommits_counted r;
        primary_voter = reads r _;
        state = reads r _;
        voters = reads r _;
        votes = λ phase out. votes_lists r out phase;
        historical_votes = history_lists r;
        finalizing_precommits = final_lists r;
        two_views_refuses = views_exactly r;
        views_differ = views_told r;
      }

pub demand_1 : Demand1
demand_1 = calls

pub reached_keeps : ReachedKeeps
reached_keeps = reached_shaped
