-- The climb to a number: its turns, and what it meets.
use mathlib.Core.List.{List}
use mathlib.Core.Path.{◌≡◌, refl, sym, ◌∙◌}
use Prim.Native.Nat.{ℕ, zero, suc, ◌+◌, ◌-◌, ◌≤◌, ◌<◌}
use native.Mathlib.Omega.{arith}
use lib.Dec.{T, eqb→eq}
use lib.ListN.{get_or}
use Rattle.loops.proofs.Tests.{T_true, true_T}
use Rattle.grandpa.specs.Tree.{Tabled, climb, below}
use Rattle.grandpa.proofs.Trees.{steps_below, climb_reaches, below_at}
use Rattle.blocks.specs.Table.{up, view, climbed}

module _ (parents numbers : List ℕ) where
  pub climbed_here : (b wanted : ℕ) → get_or numbers b 0 ≤ wanted → climbed parents numbers b wanted ≡ b
  unfolding climbed climb
  climbed_here b wanted h = let e : get_or numbers b 0 - wanted ≡ 0 = omega arith in rw e

  module _ (n : ℕ) (t : Tabled (view parents numbers n)) where
    -- a block above the wanted number is not the root, and its parent is one number nearer
    pub number_falls : (b wanted : ℕ) → b < n → get_or numbers 0 0 ≤ wanted → wanted < get_or numbers b 0
        → get_or numbers b 0 ≡ get_or numbers (up parents b) 0 + 1
    number_falls zero wanted h r l = absurd (omega arith)
    number_falls (suc b) wanted h r l = t.numbered (suc b) (omega arith) h

    pub climbed_up : (b wanted : ℕ) → b < n → get_or numbers 0 0 ≤ wanted → wanted < get_or numbers b 0
        → climbed parents numbers b wanted ≡ climbed parents numbers (up parents b) wanted
    unfolding climbed climb
    climbed_up b wanted h r l =
        let q = number_falls b wanted h r l in
        let e : get_or numbers b 0 - wanted ≡ suc (get_or numbers (up parents b) 0 - wanted) = omega arith in
        rw e

    -- the climb meets the block of that number on the way up, and no other is there
    pub climbed_below : (b wanted : ℕ) → T (below (up parents) (climbed parents numbers b wanted) b)
    unfolding climbed
    climbed_below b wanted = steps_below (up parents) t.falls _ b (get_or numbers b 0 - wanted) refl

    pub climbed_number : (b wanted : ℕ) → b < n → get_or numbers 0 0 ≤ wanted → wanted ≤ get_or numbers b 0
        → get_or numbers (climbed parents numbers b wanted) 0 ≡ wanted
    unfolding climbed
    climbed_number b wanted h r l =
        omega (arith, climb_reaches (view parents numbers n) t (get_or numbers b 0 - wanted) b h (omega arith))

    pub climbed_meets : (a b : ℕ) → b < n → T (below (up parents) a b) → climbed parents numbers b (get_or numbers a 0) ≡ a
    unfolding climbed
    climbed_meets a b h s = eqb→eq _ a (T_true (sym (below_at (view parents numbers n) t a b h) ∙ true_T _ s))
