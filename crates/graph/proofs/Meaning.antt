-- With equivocators at most F, where `find_ghost` ends is the definition's GHOST.
use mathlib.Core.Bool.{Bool, not}
use mathlib.Core.Path.{◌≡◌, refl, sym, ap, subst}
use mathlib.Core.Logic.{◌⊎◌, inl, inr}
use Prim.Native.Nat.{ℕ, ◌≤◌, ◌<◌}
use native.Mathlib.Omega.{arith}
use lib.Dec.{T, leb, leb→le, le→leb}
use Rattle.loops.specs.All.{any}
use Rattle.loops.proofs.Tests.{dec_T}
use Rattle.loops.proofs.Alls.{any_at, any_intro}
use Rattle.grandpa.specs.Weight.{fault, threshold}
use Rattle.grandpa.specs.Tree.{Blocks, Tabled, below, child}
use Rattle.grandpa.specs.Vote.{Vote, silent, once, twice, Voters, total, heard, equivocators, lands, weighty}
use Rattle.grandpa.specs.Answers.{Ghost}
use Rattle.grandpa.proofs.Votes.{bare_weight}
use Rattle.grandpa.proofs.Answers.{ghost_found}
use Rattle.graph.specs.Shape.{Targets}
use Rattle.graph.proofs.Tallies.{lands_target}

-- nodes stand at the targets of first votes; no child with a node at or below it passes
pub ghost_meant : (vs : Voters) (t : Blocks) → Tabled t → 0 < total vs → (pv : ℕ → Vote) → equivocators vs pv ≤ fault (total vs)
    → (used : ℕ → Bool) → ((i x : ℕ) → i < vs.size → Targets (pv i) x → T (used x))
    → (r : ℕ) → threshold (total vs) ≤ heard vs pv → r < t.count → T (weighty vs t.up pv r)
    → ((c y : ℕ) → T (child t.up r c) → T (used y) → T (below t.up c y) → T (weighty vs t.up pv c) → ⊥)
    → Ghost vs t pv r
ghost_meant vs t tabled some_weight pv few used targets r reached h w childless =
    ghost_found vs t tabled some_weight pv few r reached h w (λ k l p q. go k p q (dec_T (any vs.size (λ i. lands t.up k (pv i)))))
  where
    go : (k : ℕ) → T (child t.up r k) → T (weighty vs t.up pv k) → Dec (T (any vs.size (λ i. lands t.up k (pv i)))) → ⊥
    go k p q (yes a) =
        let i = any_at (λ i. lands t.up k (pv i)) vs.size a in
        let x = lands_target t.up k (pv i.0) i.2 in
        childless k x.0 p (targets i.0 x.0 i.1 x.1) x.2 q
    go k p q (no a) =
        omega (arith, leb→le, bare_weight vs t.up pv k (λ i m l. a (any_intro (λ i. lands t.up k (pv i)) vs.size i m l)))
