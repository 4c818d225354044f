-- Document 01, "The journal": non-voters, duplicates and third pairs are not refusals; they leave the state as it was.
use mathlib.Core.List.{List}
use mathlib.Core.Path.{◌≡◌, refl, ap, ◌∙◌}
use Prim.Native.Nat.{ℕ}
use Rattle.context.specs.declared.Phase.{Phase}
use Rattle.judging.specs.declared.ImportResult.{ImportResult}
use Rattle.judging.specs.declared.ImportResult.TheVariants.{Outside, Counted, Duplicated, Equivocated, Ignored}
use Rattle.importing.specs.Import.{Held, import}
use Rattle.held_laws.specs.Kept.{Untaken}
use Rattle.held_laws.proofs.Keeps.{import_refused}
use Rattle.marks.specs.Marks.{word}
use Rattle.runs.specs.Run.{Next, goes}
use Rattle.voting.specs.Voting.{Voting, pair_in, answered, counted, voted}
use Rattle.replay_laws.specs.Marked.{mark_of}
use Rattle.turns.specs.Turns.{voting, took}
use Rattle.replay_laws.specs.Passed.{Passed}
use Rattle.replay_laws.proofs.Votes.{vote_counted}
use Rattle.std.specs.Prelude.{Result, Ok, Err}
use Rattle.refusals.specs.declared.Refusal.{Refusal}

passed_untaken : (a : Result ImportResult Refusal) → Passed a → Untaken a
passed_untaken (Ok Outside) q = tt
passed_untaken (Ok Duplicated) q = tt
passed_untaken (Ok Ignored) q = tt
passed_untaken (Ok Counted) q = absurd q
passed_untaken (Ok (Equivocated e)) q = absurd q
passed_untaken (Err n) q = absurd q

passed_goes : (s : Voting) (a : Result ImportResult Refusal) → Passed a → answered s a ≡ goes s
passed_goes s (Ok Outside) q = refl
passed_goes s (Ok Duplicated) q = refl
passed_goes s (Ok Ignored) q = refl
passed_goes s (Ok Counted) q = absurd q
passed_goes s (Ok (Equivocated e)) q = absurd q
passed_goes s (Err n) q = absurd q

pub not_a_refusal : (phase : Phase) (r : Voting) (fs : List ℕ) → Passed (import r.frame phase (word fs 0) (pair_in fs) r.held).answer
    → took (voting r) (mark_of phase) fs ≡ goes (voting r)
unfolding took counted
not_a_refusal phase r fs q =
    let t = import r.frame phase (word fs 0) (pair_in fs) r.held in
    let same : t.held ≡ r.held = import_refused r.frame phase (word fs 0) (pair_in fs) r.held (passed_untaken t.answer q) in
    let s : voted r (mark_of phase) fs ≡ goes r =
    vote_counted r phase fs ∙ passed_goes (record { frame = r.frame; held = t.held }) t.answer q
    ∙ ap (λ (h : Held). goes (record { frame = r.frame; held = h })) same in
    rw s
