-- Demands 2 and 3 of reached states: what is stored is what the definitions tell while prevote equivocators are at most F, and no call
-- takes back what was told.
use mathlib.Core.Path.{◌≡◌, refl, sym, ap, subst, ◌∙◌}
use Prim.Native.Nat.{ℕ, ◌≤◌, ◌<◌}
use native.Mathlib.Omega.{arith}
use Rattle.grandpa.specs.Weight.{fault}
use Rattle.grandpa.specs.Vote.{total, equivocators}
use Rattle.grandpa.specs.Answers.{Told, told_from, told}
use Rattle.grandpa.specs.Time as time
use Rattle.grandpa.proofs.Kept.{told_kept}
use Rattle.voter_laws.proofs.Goods.{total_used}
use Rattle.context.specs.declared.Phase.TheVariants.{Prevote, Precommit}
use Rattle.context.specs.Votes.{bit}
use Rattle.nodes.specs.Nodes.{col}
use Rattle.answers.specs.declared.Answers.{Answers}
use Rattle.answer_laws.specs.Faithful.{Setting, table, voters, votes, stored}
use Rattle.answer_laws.specs.Tells.{Tells}
use Rattle.answer_laws.proofs.Ghosted.{votes_placed}
use Rattle.answer_laws.proofs.Stays.{tells_meant, within_stored}
use Rattle.importing.specs.Import.{Frame, with_table, Held}
use Rattle.held_laws.specs.Kept.{setting, Kept}
use Rattle.held_laws.specs.Reached.{Comes, Reached}
use Rattle.held_laws.specs.Answered.{answered}
use Rattle.held_laws.proofs.Parts.{kept_faithful}
use Rattle.held_laws.proofs.Reaches.{comes_kept, comes_framed, reached_kept}
use Rattle.held_laws.proofs.Tells.{Telling, comes_tells, reached_tells}
use Rattle.held_laws.proofs.Onward.{comes_grown, comes_later}
use Rattle.std.specs.Prelude.{Option, Some, None}

pub answered_stored : (p : Option ℕ) (x : Told) → answered (stored p x) ≡ x
answered_stored p x = refl

tells_answered : (k : Setting) (o : Option ℕ) (a : Answers) → Tells k o a
    → answered a ≡ told_from (voters k) (table k) k.base (votes k Prevote) (votes k Precommit) o
tells_answered k o a t = ap answered t.told ∙ answered_stored a.precommit _

module _ (f : Frame) (h : Held) (r : Reached f h) (some_weight : 0 < f.voters.total) where
  kept : Kept f h
  kept = reached_kept f h r

  whole : f.voters.total ≡ total (voters (setting f h))
  whole = total_used f.voters kept.good

  -- demand 2
  pub reached_meant : equivocators (voters (setting f h)) (votes (setting f h) Prevote) ≤ fault f.voters.total
      → answered h.answers ≡ told (voters (setting f h)) (table (setting f h)) f.base (votes (setting f h) Prevote) (votes (setting f h) Precommit)
  reached_meant few =
      let x = reached_tells f h r some_weight in
      ap answered (tells_meant (setting f h) x.0 h.answers x.1 (omega (arith, whole)) (subst (λ (n : ℕ). equivocators (voters (setting f h)) (votes (setting f h) Prevote) ≤ fault n) whole few))
      ∙ answered_stored h.answers.precommit _

  -- demand 3, whoever equivocates among the prevotes
  pub reached_stays : (later : Frame) (i : Held) → Comes f h later i
      → time.Kept (col later.table.parents) (equivocators (voters (setting f i)) (votes (setting f i) Precommit) ≤ fault f.voters.total) (answered h.answers)
      (answered i.answers)
  reached_stays later i c =
      let g = with_table f later.table in
      let framed = comes_framed f h later i c in
      let x = reached_tells f h r some_weight in
      let y = subst (λ (z : Frame). Telling z i x.0) framed (comes_tells f h kept x.0 x.1 later i c) in
      let after : Kept g i = subst (λ (z : Frame). Kept z i) framed (comes_kept f h kept later i c) in
      let was = kept_faithful f h kept in
      let is = kept_faithful g i after in
      let n = total (voters (setting f h)) in
      subst (λ (m : ℕ). Stay m (answered h.answers) (answered i.answers)) (sym whole)
      (subst (λ (z : Told). Stay n z (answered i.answers)) (sym (tells_answered (setting f h) x.0 h.answers x.1))
      (subst (Stay n (told_from (voters (setting f h)) (table (setting f h)) f.base (votes (setting f h) Prevote) (votes (setting f h) Precommit) x.0))
      (sym (tells_answered (setting g i) y.0 i.answers y.2))
      (told_kept (voters (setting f h)) (omega (arith, whole)) f.base (table (setting f h)) (table (setting g i)) kept.table.tree after.table.tree
      (comes_grown f h kept later i c) (votes (setting f h) Prevote) (votes (setting g i) Prevote) (votes (setting f h) Precommit) (votes (setting g i) Precommit)
      (votes_placed (setting f h) was Prevote) (votes_placed (setting f h) was Precommit) (votes_placed (setting g i) is Precommit)
      (λ p l. comes_later f h kept later i c (bit Precommit p)) x.0 y.0 (within_stored (setting f h) was x.0 x.1.within) y.1)))
    where
      Stay : ℕ → Told → Told → Type 0
      Stay m a b = time.Kept (col later.table.parents) (equivocators (voters (setting f i)) (votes (setting f i) Precommit) ≤ fault m) a b
