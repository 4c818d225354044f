-- The one way in which a replay of some bytes ends: the records before a refusal are taken, and there is no other replay of these bytes.
use mathlib.Core.List.{List, [], ◌∷◌, ◌++◌}
use mathlib.Core.Path.{◌≡◌, refl, sym, ap, subst, ◌∙◌}
use Prim.Native.Nat.{ℕ, suc, ◌+◌}
use native.Mathlib.Omega.{arith}
use lib.ListN.{length}
use Rattle.weights.specs.Weights.{plus}
use Rattle.marks.specs.declared.Mark.{Mark}
use Rattle.marks.specs.declared.Record.{Record}
use Rattle.marks.specs.declared.Record.TheVariants as is
use Rattle.marks.specs.declared.End.{End}
use Rattle.marks.specs.declared.End.TheVariants as end
use Rattle.marks.specs.declared.End.TheVariants.{Cut, Left}
use Rattle.marks.specs.Marks.{read}
use Rattle.runs.specs.Run.{Next, goes, stops, leaves, Run, ran}
use Rattle.runs.specs.Parsed.{Entry, parsed, tail, Folded, folded_on, folded, tail_end, after_fold}
use Rattle.runs.proofs.Folds.{ran_folds, folds_all, folds_refused, ran_to_end}
use Rattle.turns.specs.Turns as turns
use Rattle.turns.specs.Turns.{pairing, took, no_pairs}
use Rattle.turns.proofs.Keeps.{Then}
use Rattle.journal.specs.Journal.{laid, by_value, run_from}
use Rattle.feeding.specs.declared.Replay.{Replay}
use Rattle.feeding.specs.Feeding.{kept_rest, after_run, replayed}
use Rattle.replay_laws.specs.Ends.{taken, open_after, stopped_after, Ends, at_end, at_mark, at_record}
use Rattle.replay_laws.proofs.Holds.{replay_not_left, left_cut}
use Rattle.std.specs.Prelude.{Err}
use Rattle.refusals.specs.declared.Refusal.TheVariants.{UnknownMark}
use Rattle.refusals.specs.declared.Refusal.{Refusal}

module _ {S : Type 0} (step : S → Mark → List ℕ → Next S) where
  pub first_goes : (s t : S) (e : Entry) (es : List Entry) → step s e.mark e.fields ≡ goes t → folded step s (e ∷ es) ≡ folded_on (folded step t es)
  unfolding folded
  first_goes s t e es q = rw q

  pub first_stops : (s : S) (e : Entry) (es : List Entry) (k : Refusal) → step s e.mark e.fields ≡ stops k
      → folded step s (e ∷ es) ≡ record { state = s; count = 0; end = end.Refused k }
  unfolding folded
  first_stops s e es k q = rw q

  pub first_leaves : (s : S) (e : Entry) (es : List Entry) → step s e.mark e.fields ≡ leaves
      → folded step s (e ∷ es) ≡ record { state = s; count = 0; end = Left }
  unfolding folded
  first_leaves s e es q = rw q

  none_taken : (s : S) → folded step s [] ≡ record { state = s; count = 0; end = Cut }
  unfolding folded
  none_taken s = refl

  -- what every record keeps
  pub folded_has : (Q : S → Type 0) → ((s : S) → Q s → (m : Mark) (fs : List ℕ) → Then Q (step s m fs)) → (s : S) (es : List Entry) → Q s
      → Q (folded step s es).state
  folded_has Q keeps s [] q = subst (λ (r : Folded S). Q r.state) (sym (none_taken s)) q
  folded_has Q keeps s (e ∷ es) q = go (step s e.mark e.fields) refl (λ t. folded_has Q keeps t es)
    where
      go : (x : Next S) → step s e.mark e.fields ≡ x → ((t : S) → Q t → Q (folded step t es).state) → Q (folded step s (e ∷ es)).state
      go (goes t) p ih =
          subst (λ (r : Folded S). Q r.state) (sym (first_goes s t e es p)) (ih t (subst (Then Q) p (keeps s q e.mark e.fields)))
      go (stops k) p ih = subst (λ (r : Folded S). Q r.state) (sym (first_stops s e es k p)) q
      go leaves p ih = subst (λ (r : Folded S). Q r.state) (sym (first_leaves s e es p)) q

  -- where records are refused: the ones before are taken, and the next is refused
  pub record Split (s : S) (es : List Entry) (k : Refusal) : Type 0 where
    pub before : List Entry
    pub entry : Entry
    pub later : List Entry
    pub splits : es ≡ before ++ (entry ∷ later)
    pub takes : (folded step s before).end ≡ Cut
    pub refuses : step (folded step s before).state entry.mark entry.fields ≡ stops k

  pub refused_splits : (s : S) (es : List Entry) (k : Refusal) → (folded step s es).end ≡ end.Refused k → Split s es k
  refused_splits s [] k c =
      let n : (folded step s []).end ≡ Cut = ap (λ (r : Folded S). r.end) (none_taken s) in
      absurd (let z : ◌≡◌ {A = ℕ} 0 1 = cc in omega arith)
  refused_splits s (e ∷ es) k c = go (step s e.mark e.fields) refl (λ t. refused_splits t es k)
    where
      go : (x : Next S) → step s e.mark e.fields ≡ x → ((t : S) → (folded step t es).end ≡ end.Refused k → Split t es k) → Split s (e ∷ es) k
      go (goes t) q ih =
          let i = ih t (ap (λ (r : Folded S). r.end) (sym (first_goes s t e es q)) ∙ c) in
          let w = first_goes s t e i.before q in
          record {
            before = e ∷ i.before;
            entry = i.entry;
            later = i.later;
            splits = ap (λ (l : List Entry). e ∷ l) i.splits;
            takes = ap (λ (r : Folded S). r.end) w ∙ i.takes;
            refuses = ap (λ (r : Folded S). step r.state i.entry.mark i.entry.fields) w ∙ i.refuses;
          }
      go (stops j) q ih =
          let f : (folded step s (e ∷ es)).end ≡ end.Refused j = ap (λ (r : Folded S). r.end) (first_stops s e es j q) in
          let j_k : j ≡ k = cc in
          let n = none_taken s in
          record {
            before = [];
            entry = e;
            later = es;
            splits = refl;
            takes = ap (λ (r : Folded S). r.end) n;
            refuses = ap (λ (r : Folded S). step r.state e.mark e.fields) n ∙ q ∙ ap (λ (i : Refusal). stops i) j_k;
          }
      go leaves q ih =
          let f : (folded step s (e ∷ es)).end ≡ Left = ap (λ (r : Folded S). r.end) (first_leaves s e es q) in
          absurd (let z : ◌≡◌ {A = ℕ} 0 1 = cc in omega arith)

  -- and back
  pub split_refused : (s : S) (before : List Entry) (e : Entry) (later : List Entry) (k : Refusal) → (folded step s before).end ≡ Cut
      → step (folded step s before).state e.mark e.fields ≡ stops k
      → folded step s (before ++ (e ∷ later)) ≡ record { state = (folded step s before).state; count = length before; end = end.Refused k }
  split_refused s [] e later k c q =
      let n = none_taken s in
      first_stops s e later k (sym (ap (λ (r : Folded S). step r.state e.mark e.fields) n) ∙ q)
      ∙ ap (λ (r : Folded S). record { state = r.state; count = 0; end = end.Refused k }) (sym n)
  split_refused s (f ∷ before) e later k c q = go (step s f.mark f.fields) refl (λ t. split_refused t before e later k)
    where
      one_more : 1 + length before ≡ suc (length before)
      one_more = omega arith

      go : (x : Next S) → step s f.mark f.fields ≡ x
          → ((t : S) → (folded step t before).end ≡ Cut → step (folded step t before).state e.mark e.fields ≡ stops k
          → folded step t (before ++ (e ∷ later)) ≡ record { state = (folded step t before).state; count = length before; end = end.Refused k })
          → folded step s (f ∷ (before ++ (e ∷ later))) ≡ record { state = (folded step s (f ∷ before)).state; count = suc (length before); end = end.Refused k }
      go (goes t) p ih =
          let w = first_goes s t f before p in
          let i = ih t (sym (ap (λ (r : Folded S). r.end) w) ∙ c) (sym (ap (λ (r : Folded S). step r.state e.mark e.fields) w) ∙ q) in
          first_goes s t f (before ++ (e ∷ later)) p ∙ ap folded_on i
          ∙ ap (λ (r : Folded S). record { state = r.state; count = 1 + length before; end = end.Refused k }) (sym w)
          ∙ ap (λ (n : ℕ). record { state = (folded step s (f ∷ before)).state; count = n; end = end.Refused k }) one_more
      go (stops j) p ih =
          let w : (folded step s (f ∷ before)).end ≡ end.Refused j = ap (λ (r : Folded S). r.end) (first_stops s f before j p) in
          absurd (let z : ◌≡◌ {A = ℕ} 0 1 = cc in omega arith)
      go leaves p ih =
          let w : (folded step s (f ∷ before)).end ≡ Left = ap (λ (r : Folded S). r.end) (first_leaves s f before p) in
          absurd (let z : ◌≡◌ {A = ℕ} 0 1 = cc in omega arith)

-- the replay by value, of what its run is
pub value_of : (bs : List ℕ) (r : Run turns.Journal) → ran took (pairing no_pairs) bs ≡ r → replayed bs ≡ after_run 0 (by_value r)
unfolding replayed run_from
value_of bs r e = ap (λ (x : Run turns.Journal). after_run 0 (by_value x)) e

tail_refused : (bs : List ℕ) (k : Refusal) → tail_end bs ≡ end.Refused k → (read bs ≡ is.Unknown) × (k ≡ UnknownMark)
unfolding tail_end
tail_refused bs k c = go (read bs) refl
  where
    go : (x : Record) → read bs ≡ x → (read bs ≡ is.Unknown) × (k ≡ UnknownMark)
    go is.Unknown e = let q : end.Refused UnknownMark ≡ end.Refused k = (rw e at c) in (e, cc)
    go is.Cut e = absurd (let q = rw e at c in let z : ◌≡◌ {A = ℕ} 0 1 = cc in omega arith)
    go (is.Whole m) e = absurd (let q = rw e at c in let z : ◌≡◌ {A = ℕ} 0 1 = cc in omega arith)

pub run_end : (bs : List ℕ) (x : End) → (turns.replayed bs).end ≡ x → (ran took (pairing no_pairs) bs).end ≡ x
unfolding turns.replayed
run_end bs x e = e

left_not : (bs : List ℕ) (k : Refusal) → (taken (parsed bs)).end ≡ Left → (ran took (pairing no_pairs) bs).end ≡ end.Refused k → ⊥
unfolding after_fold
left_not bs k c r =
    let l : (ran took (pairing no_pairs) bs).end ≡ Left = ap (λ (x : Run turns.Journal). x.end) (ran_folds took (pairing no_pairs) bs) ∙ rw c in
    let z : ◌≡◌ {A = ℕ} 0 1 = cc in omega arith

pub to_end : (bs : List ℕ) → (turns.replayed bs).end ≡ Cut → ((taken (parsed bs)).end ≡ Cut) × (read (tail bs) ≡ is.Cut)
unfolding turns.replayed
to_end bs e =
    let t = ran_to_end took (pairing no_pairs) bs e in
    (t.0, sym (ap (λ (x : Run turns.Journal). read x.rest) t.1) ∙ left_cut bs e)

module _ (bs : List ℕ) where
  -- each way to end is that of the replay
  pub when_end : (taken (parsed bs)).end ≡ Cut → read (tail bs) ≡ is.Cut → replayed bs ≡ open_after (parsed bs) (tail bs)
  unfolding after_run tail_end
  when_end c e = value_of bs _ (folds_all took (pairing no_pairs) bs c) ∙ rw e

  when_mark : (taken (parsed bs)).end ≡ Cut → read (tail bs) ≡ is.Unknown → replayed bs ≡ stopped_after (parsed bs) UnknownMark
  unfolding after_run tail_end
  when_mark c e = value_of bs _ (folds_all took (pairing no_pairs) bs c) ∙ rw e

  when_record : (es : List Entry) (e : Entry) (later : List Entry) (n : Refusal) → parsed bs ≡ es ++ (e ∷ later) → (taken es).end ≡ Cut
      → took (taken es).state e.mark e.fields ≡ stops n → replayed bs ≡ stopped_after es n
  unfolding after_run
  when_record es e later n s c q =
      let f : taken (parsed bs) ≡ record { state = (taken es).state; count = length es; end = end.Refused n } =
      ap taken s ∙ split_refused took (pairing no_pairs) es e later n c q in
      value_of bs _ (folds_refused took (pairing no_pairs) bs n (ap (λ (r : Folded turns.Journal). r.end) f))
      ∙ ap (λ (r : Folded turns.Journal). record { journal = laid r.state; rest = kept_rest []; records = plus 0 r.count; stop = Err n }) f

  pub ends_once : (r : Replay) → Ends bs r → replayed bs ≡ r
  ends_once _ (at_end c e) = when_end c e
  ends_once _ (at_mark c e) = when_mark c e
  ends_once _ (at_record es e later n s c q) = when_record es e later n s c q

  -- and one of them it is
  pub replay_ends : Ends bs (replayed bs)
  replay_ends = by_run (turns.replayed bs).end refl
    where
      in_mark : (k : Refusal) → (taken (parsed bs)).end ≡ Cut → tail_end (tail bs) ≡ end.Refused k → Ends bs (replayed bs)
      in_mark k c t = let u = (tail_refused (tail bs) k t).0 in subst (Ends bs) (sym (when_mark c u)) (at_mark c u)

      in_record : (k : Refusal) → (taken (parsed bs)).end ≡ end.Refused k → Ends bs (replayed bs)
      in_record k c =
          let s = refused_splits took (pairing no_pairs) (parsed bs) k c in
          subst (Ends bs) (sym (when_record s.before s.entry s.later k s.splits s.takes s.refuses))
          (at_record s.before s.entry s.later k s.splits s.takes s.refuses)

      by_fold : (k : Refusal) → (ran took (pairing no_pairs) bs).end ≡ end.Refused k → (x : End) → (taken (parsed bs)).end ≡ x → Ends bs (replayed bs)
      by_fold k r Cut c = in_mark k c (sym (ap (λ (x : Run turns.Journal). x.end) (folds_all took (pairing no_pairs) bs c)) ∙ r)
      by_fold k r (end.Refused j) c = in_record j c
      by_fold k r Left c = absurd (left_not bs k c r)

      by_run : (x : End) → (turns.replayed bs).end ≡ x → Ends bs (replayed bs)
      by_run Cut e =
          let t = to_end bs e in
          subst (Ends bs) (sym (when_end t.0 t.1)) (at_end t.0 t.1)
      by_run (end.Refused k) e = by_fold k (run_end bs (end.Refused k) e) (taken (parsed bs)).end refl
      by_run Left e = absurd (replay_not_left bs e)
