-- Calls that only read a round, calls that list into a lent buffer, and two views: when each refuses.
use mathlib.Core.Bool.{cond}
use mathlib.Core.List.{List, [], ◌∷◌, ◌++◌}
use mathlib.Core.Path.{◌≡◌, refl, sym, ap, subst, ◌∙◌}
use Prim.Native.Nat.{ℕ, ◌+◌, ◌*◌, ◌<◌}
use native.Mathlib.Omega.{arith}
use lib.Dec.{T, ltb, ltb→lt}
use lib.ListN.{length, drop, length-append}
use lib.Seq.{drop-append-add}
use borrow.Author.Tests.{lt-ltb}
use Rattle.loops.specs.Listing.{front}
use Rattle.loops.proofs.Tests.{T_true, true_T, true_false, false_not, dec_T}
use Rattle.context.specs.declared.Phase.{Phase}
use Rattle.listing.specs.declared.Wanted.TheVariants as wanted
use Rattle.listing.specs.Written.{phase_of, voter_of, pair_of, Lent, in_a_row, record_of, written}
use Rattle.nodes.specs.Nodes.{col}
use Rattle.records.proofs.Bytes.{length_vote}
use Rattle.round.specs.declared.Round.{Round}
use Rattle.round.specs.Shape.{shaped}
use Rattle.round.specs.Ask.{told, refused, entries_of, records, listed, votes_of, historical_votes, finalizing, finalizing_precommits}
use Rattle.round_laws.proofs.Keeps.{on_true}
use Rattle.round_laws.proofs.Refusals.{on_test}
use Rattle.two_views.specs.Views.{agree, views}
use Rattle.two_views.proofs.Agreements.{agree_means, means_agree}
use Rattle.two_views.proofs.Called.{views_told, views_unlike, views_misshaped}
use Rattle.demands.specs.First.{Keeps, Exactly, Nine, misshaped, ListDue, too_short, FinalizingDue, none_final, ViewsDue, one_misshaped, other_misshaped, unlike, Reads, Lists}
use Rattle.std.specs.Prelude.{Option, Some, None, Result, Ok, Err}
use Rattle.refusals.specs.declared.Refusal.{Refusal}
use Rattle.refusals.specs.declared.Refusal.TheVariants.{ShortBuffer, Misshapen}

pub no_number : {n : ℕ} → None ≡ Some n → ⊥
no_number e = let z : ◌≡◌ {A = ℕ} 0 1 = cc in omega arith

pub not_err : {A : Type 0} {x : A} {e : Refusal} → ◌≡◌ {A = Result A Refusal} (Ok x) (Err e) → ⊥
not_err q = let z : ◌≡◌ {A = ℕ} 0 1 = cc in omega arith

pub err_is : {A : Type 0} {d e : Refusal} → ◌≡◌ {A = Result A Refusal} (Err d) (Err e) → d ≡ e
err_is q = cc

module _ (r : Round) {A B : Type 0} (answer : B → Result A Refusal) (a : A) (x y : B) (told : answer x ≡ Ok a) (nine : answer y ≡ Err Misshapen) where
  pub nine_exactly : Exactly (answer (cond (shaped r) x y)) (Nine r)
  nine_exactly n = (to, fro n)
    where
      to : answer (cond (shaped r) x y) ≡ Err n → Nine r n
      to =
          on_test (λ (z : B). answer z ≡ Err n → Nine r n) (shaped r) x y (λ e q. absurd (not_err (sym told ∙ q)))
          (λ e q. subst (Nine r) (err_is (sym nine ∙ q)) (misshaped e))

      fro : (n : Refusal) → Nine r n → answer (cond (shaped r) x y) ≡ Err n
      fro _ (misshaped e) = rw e nine

-- a call that reads tells what it tells, or 9
pub reads : (r : Round) {A : Type 0} (x : A) → Reads r (told r x) x
reads r {A} x =
    record {
      refuses = nine_exactly r (λ (z : Result A Refusal). z) x (Ok x) (Err Misshapen) refl refl;
      steps = λ t. on_true (λ (z : Result A Refusal). z ≡ Ok x) (shaped r) (Ok x) (Err Misshapen) t refl;
    }

-- what stands after the last record stays
abbrev Rest : List ℕ → Lent → Type 0
Rest out x = (n : ℕ) → x.answer ≡ Ok n → drop n x.bytes ≡ drop n out

-- a list of entries, on a round that keeps the shape rules
module _ (f : ℕ → List ℕ) (entries out : List ℕ) where
  written_short : length out < 22 * length entries → written f entries out ≡ record { answer = Err ShortBuffer; bytes = out }
  unfolding written
  written_short h = rw (lt-ltb (length out) (22 * length entries) h)

  abbrev ToldShort : Lent → Type 0
  ToldShort x = (n : Refusal) → x.answer ≡ Err n → (n ≡ ShortBuffer) × (length out < 22 * length entries) × (x.bytes ≡ out)

  module _ (long : (e : ℕ) → length (f e) ≡ 22) where
    row_length : (es : List ℕ) → length (in_a_row f es) ≡ 22 * length es
    unfolding in_a_row
    row_length [] = refl
    row_length (e ∷ es) = length-append (f e) (in_a_row f es) ∙ omega (arith, long e, row_length es)

    written_rest : Rest out (written f entries out)
    unfolding written
    written_rest =
        on_test (Rest out) (ltb (length out) (22 * length entries)) _ _ (λ e n q. absurd (let z : ◌≡◌ {A = ℕ} 0 1 = cc in omega arith))
        (λ e n q. let m : 22 * length entries ≡ n = cc in subst (λ (k : ℕ). drop k (in_a_row f entries ++ drop (22 * length entries) out) ≡ drop k out) m after)
      where
        after : drop (22 * length entries) (in_a_row f entries ++ drop (22 * length entries) out) ≡ drop (22 * length entries) out
        after =
            let e : 22 * length entries ≡ length (in_a_row f entries) + 0 = omega (arith, row_length entries) in
            ap (λ (k : ℕ). drop k (in_a_row f entries ++ drop (22 * length entries) out)) e
            ∙ drop-append-add (in_a_row f entries) (drop (22 * length entries) out) 0

  written_told : ToldShort (written f entries out)
  unfolding written
  written_told =
      on_test ToldShort (ltb (length out) (22 * length entries)) _ _ (λ e n q. (sym (err_is q), ltb→lt _ _ (T_true e), refl))
      (λ e n q. absurd (not_err q))

module _ (r : Round) (out : List ℕ) where
  abbrev listing : (ℕ → List ℕ) → List ℕ → Lent
  listing f entries = cond (shaped r) (written f entries out) (refused Misshapen out)

  lists : (f : ℕ → List ℕ) → ((e : ℕ) → length (f e) ≡ 22) → (entries : List ℕ) → Lists r (ListDue r entries out) out (listing f entries) (written f entries out)
  lists f long entries =
      record {
        refuses = λ n. (to n, fro n);
        untouched = λ n. on_test (λ (z : Lent). z.answer ≡ Err n → z.bytes ≡ out) (shaped r) _ _ (λ e q. (written_told f entries out n q).2) (λ e q. refl);
        rest = on_test (Rest out) (shaped r) _ _ (λ e. written_rest f entries out long)
            (λ e n q. absurd (let z : ◌≡◌ {A = ℕ} 0 1 = cc in omega arith));
        steps = λ t. on_true (λ (z : Lent). z ≡ written f entries out) (shaped r) _ _ t refl;
      }
    where
      to : (n : Refusal) → (listing f entries).answer ≡ Err n → ListDue r entries out n
      to n =
          on_test (λ (z : Lent). z.answer ≡ Err n → ListDue r entries out n) (shaped r) _ _
          (λ e q. let w = written_told f entries out n q in subst (ListDue r entries out) (sym w.0) (too_short (T_true e) w.1))
          (λ e q. subst (ListDue r entries out) (err_is q) (misshaped e))

      fro : (n : Refusal) → ListDue r entries out n → (listing f entries).answer ≡ Err n
      fro _ (misshaped e) = rw e
      fro _ (too_short t h) = rw (true_T (shaped r) t, written_short f entries out h)

  abbrev records_are : ℕ → List ℕ
  records_are = record_of r.votes r.context.voters.ids r.table.ids r.table.numbers

  records_long : (e : ℕ) → length (records_are e) ≡ 22
  unfolding record_of
  records_long e = length_vote (phase_of e) (col r.context.voters.ids (voter_of e)) (pair_of r.votes r.table.ids r.table.numbers e)

  pub votes_lists : (phase : Phase) → Lists r (ListDue r (entries_of (wanted.Of phase) r) out) out (votes_of phase r out) (listed (wanted.Of phase) r out)
  unfolding votes_of listed records
  votes_lists phase = lists records_are records_long (entries_of (wanted.Of phase) r)

  pub history_lists :
      Lists r (ListDue r (front r.history.count r.history.entries) out) out (historical_votes r out)
      (records (front r.history.count r.history.entries) r.context.voters r.table r.votes out)
  unfolding historical_votes records
  history_lists = lists records_are records_long (front r.history.count r.history.entries)

  -- what a finalizing list refuses and leaves
  abbrev FinalDue : Lent → Type 0
  FinalDue x = (n : Refusal) → x.answer ≡ Err n → FinalizingDue r out n × (x.bytes ≡ out)

  final_told : Keeps r → (o : Option ℕ) → r.answers.finalized ≡ o → FinalDue (finalizing r out o)
  unfolding listed records
  final_told t (Some b) e n q =
      let w = written_told records_are (entries_of (wanted.Finalizing b) r) out n q in
      (subst (FinalizingDue r out) (sym w.0) (too_short t b e w.1), w.2)
  final_told t None e n q = (subst (FinalizingDue r out) (err_is q) (none_final t e), refl)

  final_rest : (o : Option ℕ) → Rest out (finalizing r out o)
  unfolding listed records
  final_rest (Some b) = written_rest records_are (entries_of (wanted.Finalizing b) r) out records_long
  final_rest None = λ n q. absurd (let z : ◌≡◌ {A = ℕ} 0 1 = cc in omega arith)

  pub final_lists :
      Lists r (FinalizingDue r out) out (finalizing_precommits r out) (finalizing r out r.answers.finalized)
  unfolding finalizing_precommits listed records written entries_of
  final_lists =
      record {
        refuses = λ n. ((λ q. (all n q).0), fro n);
        untouched = λ n q. (all n q).1;
        rest = on_test (Rest out) (shaped r) _ _ (λ e. final_rest r.answers.finalized) (λ e n q. absurd (let z : ◌≡◌ {A = ℕ} 0 1 = cc in omega arith));
        steps = λ t. on_true (λ (z : Lent). z ≡ finalizing r out r.answers.finalized) (shaped r) _ _ t refl;
      }
    where
      all : FinalDue (cond (shaped r) (finalizing r out r.answers.finalized) (refused Misshapen out))
      all =
          on_test FinalDue (shaped r) _ _ (λ e. final_told (T_true e) r.answers.finalized refl)
          (λ e n q. (subst (FinalizingDue r out) (err_is q) (misshaped e), refl))

      fro : (n : Refusal) → FinalizingDue r out n → (cond (shaped r) (finalizing r out r.answers.finalized) (refused Misshapen out)).answer ≡ Err n
      fro _ (misshaped e) = rw e
      fro _ (none_final t e) = rw (true_T (shaped r) t, e)
      fro _ (too_short t b e h) =
          rw (
            true_T (shaped r) t,
            e,
            written_short records_are (entries_of (wanted.Finalizing b) r) out h,
          )

-- two views
module _ (a b : Round) where
  pub views_exactly : Exactly (views a b) (ViewsDue a b)
  views_exactly n = (to (dec_T (shaped a)) (dec_T (shaped b)) (dec_T (agree a b)), fro n)
    where
      to : Dec (T (shaped a)) → Dec (T (shaped b)) → Dec (T (agree a b)) → views a b ≡ Err n → ViewsDue a b n
      to (no s) d w q =
          let e = views_misshaped a b (λ x y. s x) in
          subst (ViewsDue a b) (err_is (sym e ∙ q)) (one_misshaped (false_not (shaped a) s))
      to (yes s) (no t) w q =
          let e = views_misshaped a b (λ x y. t y) in
          subst (ViewsDue a b) (err_is (sym e ∙ q)) (other_misshaped (false_not (shaped b) t))
      to (yes s) (yes t) (yes w) q = absurd (not_err (sym (views_told a b s t (agree_means a b w)) ∙ q))
      to (yes s) (yes t) (no w) q =
          let e = views_unlike a b s t (λ o. w (means_agree a b o)) in
          subst (ViewsDue a b) (err_is (sym e ∙ q)) (unlike s t (λ o. w (means_agree a b o)))

      fro : (n : Refusal) → ViewsDue a b n → views a b ≡ Err n
      fro _ (one_misshaped e) = views_misshaped a b (λ x y. true_false (true_T _ x) e)
      fro _ (other_misshaped e) = views_misshaped a b (λ x y. true_false (true_T _ y) e)
      fro _ (unlike s t f) = views_unlike a b s t f
