-- Votes in a row: what calls make of a round is what the step makes of what it holds.
use mathlib.Core.List.{List, [], ◌∷◌}
use mathlib.Core.Path.{◌≡◌, refl, sym, ap, subst, ◌∙◌}
use Prim.Native.Nat.{ℕ, ◌≤◌, ◌<◌}
use Rattle.weights.specs.Weights.{most}
use Rattle.grandpa.specs.Weight.{fault}
use Rattle.grandpa.specs.Vote.{equivocators}
use Rattle.grandpa.specs.Answers.{Told, told}
use Rattle.context.specs.declared.Phase.{Phase}
use Rattle.context.specs.declared.Phase.TheVariants.{Prevote, Precommit}
use Rattle.tracker.specs.declared.Pair.{Pair}
use Rattle.answer_laws.specs.Faithful.{voters, table, votes}
use Rattle.importing.specs.Import.{Frame, Held, import}
use Rattle.held_laws.specs.Kept.{setting}
use Rattle.round.specs.declared.Round.{Round}
use Rattle.round.specs.Shape.{frame, held, shaped}
use Rattle.round.specs.Calls.{imported, import_vote}
use Rattle.round_laws.specs.Fits.{Fits}
use Rattle.round_laws.specs.Later.{Later, voted, Reached, answers_of}
use Rattle.round_laws.proofs.Keeps.{on_true, held_again, import_shaped}
use Rattle.round_laws.proofs.Lasting.{answers_meant}
use Rattle.demands.specs.First.{Keeps}
use Rattle.demands.specs.Second.{Few}
use Rattle.std.specs.Prelude.{Result}
use Rattle.refusals.specs.declared.Refusal.{Refusal}
use Rattle.round.specs.declared.After.{After}
use Rattle.judging.specs.declared.ImportResult.{ImportResult}

pub record Ballot : Type 0 where
  pub phase : Phase
  pub signer : ℕ
  pub pair : Pair

-- the calls, and the steps
unfoldable pub after : List Ballot → Round → Round
after [] r = r
after (v ∷ vs) r = after vs (import_vote v.phase v.signer v.pair r).round

unfoldable pub taken : List Ballot → Frame → Held → Held
taken [] f h = h
taken (v ∷ vs) f h = taken vs f (import f v.phase v.signer v.pair h).held

pub after_later : (r : Round) (vs : List Ballot) (s : Round) → Later r s → Later r (after vs s)
unfolding after
after_later r [] s c = c
after_later r (v ∷ vs) s c = after_later r vs (import_vote v.phase v.signer v.pair s).round (voted s c v.phase v.signer v.pair)

-- what r has become of what it was
abbrev pub Became : List Ballot → Frame → Held → Round → Type 0
Became vs f h r = (frame r ≡ f) × (held r ≡ taken vs f h)

voted_becomes : (r : Round) → Keeps r → (v : Ballot)
    → (frame (import_vote v.phase v.signer v.pair r).round ≡ frame r)
    × (held (import_vote v.phase v.signer v.pair r).round ≡ (import (frame r) v.phase v.signer v.pair (held r)).held)
unfolding import_vote imported
voted_becomes r t v =
    on_true (λ (x : After (Result ImportResult Refusal)). (frame x.round ≡ frame r) × (held x.round ≡ (import (frame r) v.phase v.signer v.pair (held r)).held))
    (shaped r) (imported v.phase v.signer v.pair r) _ t
    (refl, held_again r (import (frame r) v.phase v.signer v.pair (held r)).held)

pub after_becomes : (vs : List Ballot) (r : Round) (f : Frame) (h : Held) → Fits r → Keeps r → frame r ≡ f → held r ≡ h → Became vs f h (after vs r)
unfolding after taken
after_becomes [] r f h fits t e q = (e, q)
after_becomes (v ∷ vs) r f h fits t e q =
    let b = voted_becomes r t v in
    after_becomes vs (import_vote v.phase v.signer v.pair r).round f (import f v.phase v.signer v.pair h).held
    (subst (λ (x : Frame). x.voters.total ≤ most) (sym b.0) fits) (import_shaped r fits t v.phase v.signer v.pair) (b.0 ∙ e)
    (b.1 ∙ ap (λ (x : Frame). (import x v.phase v.signer v.pair (held r)).held) e ∙ ap (λ (x : Held). (import f v.phase v.signer v.pair x).held) q)

-- the definitions' answers, and the equivocators' weight, of what is held
abbrev pub told_of : Frame → Held → Told
told_of f h = told (voters (setting f h)) (table (setting f h)) f.base (votes (setting f h) Prevote) (votes (setting f h) Precommit)

abbrev pub twice_weight : Phase → Frame → Held → ℕ
twice_weight phase f h = equivocators (voters (setting f h)) (votes (setting f h) phase)

module _ (r : Round) (f : Frame) (h : Held) (e : frame r ≡ f) (q : held r ≡ h) where
  pub became_told : Reached r → 0 < f.voters.total → twice_weight Prevote f h ≤ fault f.voters.total → answers_of r ≡ told_of f h
  became_told reached =
      subst (λ (x : Frame). 0 < x.voters.total → twice_weight Prevote x h ≤ fault x.voters.total → answers_of r ≡ told_of x h) e
      (subst (λ (x : Held). 0 < r.context.voters.total → twice_weight Prevote (frame r) x ≤ fault r.context.voters.total → answers_of r ≡ told_of (frame r) x) q
      (answers_meant r reached))

  pub became_few : (phase : Phase) → Few phase r → twice_weight phase f h ≤ fault f.voters.total
  became_few phase few =
      subst (λ (x : Frame). twice_weight phase x h ≤ fault x.voters.total) e
      (subst (λ (x : Held). twice_weight phase (frame r) x ≤ fault r.context.voters.total) q few)
