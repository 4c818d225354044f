-- The ways of looking a voter up.
use mathlib.Core.List.{List}
use mathlib.Core.Path.{◌≡◌, ◌∙◌}
use Prim.Native.Nat.{ℕ, ◌≤◌, ◌<◌}
use native.Mathlib.Decide.{ℕ_discrete}
use native.Mathlib.Omega.{arith}
use lib.ListN.{length, get_or, get_or-eq_default}
use borrow.Author.Tests.{eq-eqb, ne_eqb}
use Rattle.columns.specs.Find.{find}
use Rattle.voter_info.specs.declared.VoterInfo.{VoterInfo}
use Rattle.voter_info.specs.Info.{info, look_up}
use Rattle.std.specs.Prelude.{Some, None}

pub info_voter : (k w : ℕ) → 0 < w → info k w ≡ Some (record { position = k; weight = record { 0 = w } })
unfolding info
info_voter k w h = rw (ne_eqb w 0 (λ e. omega arith))

pub info_zero : (k w : ℕ) → w ≡ 0 → info k w ≡ None
unfolding info
info_zero k w e = rw (eq-eqb w 0 e)

pub info_says : (k w : ℕ) (v : VoterInfo) → info k w ≡ Some v → (0 < w) × (v ≡ record { position = k; weight = record { 0 = w } })
info_says k w v e = go (ℕ_discrete w 0)
  where
    go : Dec (w ≡ 0) → (0 < w) × (v ≡ record { position = k; weight = record { 0 = w } })
    go (yes q) = let i = info_zero k w q in absurd (let z : ◌≡◌ {A = ℕ} 0 1 = cc in omega arith)
    go (no q) = let i = info_voter k w (omega arith) in (omega arith, cc)

pub look_up_at : (ids weights : List ℕ) (n x k : ℕ) → find ids n x ≡ Some k → look_up ids weights n x ≡ info k (get_or weights k 0)
unfolding look_up
look_up_at ids weights n x k e = rw e

pub look_up_short : (ids weights : List ℕ) (n x k : ℕ) → find ids n x ≡ Some k → length weights ≤ k → look_up ids weights n x ≡ None
look_up_short ids weights n x k e h =
    look_up_at ids weights n x k e ∙ info_zero k (get_or weights k 0) (get_or-eq_default weights 0 h)

pub look_up_nothing : (ids weights : List ℕ) (n x : ℕ) → find ids n x ≡ None → look_up ids weights n x ≡ None
unfolding look_up
look_up_nothing ids weights n x e = rw e
