-- A voter that is found stands in the set.
use mathlib.Core.List.{List}
use mathlib.Core.Path.{◌≡◌, refl, sym, ap, ◌∙◌}
use Prim.Native.Nat.{ℕ, ◌<◌}
use native.Mathlib.Omega.{arith}
use Rattle.columns.specs.Find.{find}
use Rattle.columns.proofs.Finds.{find_at}
use Rattle.voter_info.specs.declared.VoterInfo.{VoterInfo}
use Rattle.voter_info.specs.Info.{look_up}
use Rattle.voter_info.proofs.Infos.{look_up_at, look_up_nothing, info_says}
use Rattle.std.specs.Prelude.{Option, Some, None}

pub position_inside : (ids weights : List ℕ) (n x : ℕ) (v : VoterInfo) → look_up ids weights n x ≡ Some v → v.position < n
position_inside ids weights n x v e = go (find ids n x) refl
  where
    go : (f : Option ℕ) → find ids n x ≡ f → v.position < n
    go (Some k) q =
        let i = info_says k _ v (sym (look_up_at ids weights n x k q) ∙ e) in
        let p : v.position ≡ k = ap (λ (z : VoterInfo). z.position) i.1 in
        omega (arith, (find_at ids n x k q).inside)
    go None q = let o = look_up_nothing ids weights n x q in absurd (let z : ◌≡◌ {A = ℕ} 0 1 = cc in omega arith)
