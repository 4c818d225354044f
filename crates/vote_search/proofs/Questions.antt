-- More bits pass where fewer do: all that the theorems on the searches ask of a question.
use mathlib.Core.Bool.{Bool}
use mathlib.Core.List.{List}
use mathlib.Core.Path.{◌≡◌}
use mathlib.Core.Logic.{⊎_elim}
use Prim.Native.Nat.{ℕ, ◌+◌, ◌-◌, ◌≤◌, min}
use native.Mathlib.Omega.{arith}
use lib.Dec.{T, leb→le, le→leb}
use lib.ListN.{length, get_or}
use Rattle.sizes.specs.Sizes.{WORDS, VOTERS}
use Rattle.loops.proofs.Tests.{in_left, in_right, either}
use Rattle.loops.proofs.Sums.{weigh_mono}
use Rattle.bitfield.specs.Bits.{has}
use Rattle.context.specs.Votes.{bit, voted, weight_of}
use Rattle.nodes.specs.Nodes.{Condition, AtLeast, Possible, answered, Question, passes}

-- either question, of the larger weight
pub answered_mono : (q : Condition) (m n : ℕ) → m ≤ n → T (answered q m) → T (answered q n)
answered_mono (AtLeast t) m n h a = le→leb t n (omega (arith, leb→le t m a))
answered_mono (Possible p) m n h a =
    let before : p.threshold ≤ m + p.remaining + min (p.current - m) p.additional = leb→le p.threshold _ a in
    let after : p.threshold ≤ n + p.remaining + min (p.current - n) p.additional = omega arith in
    le→leb p.threshold _ after

pub weight_mono : (weights : List ℕ) (s t : ℕ → Bool) → ((p : ℕ) → T (s p) → T (t p)) → weight_of weights s ≤ weight_of weights t
unfolding weight_of
weight_mono weights s t h = omega (arith, weigh_mono VOTERS (λ p. get_or weights p 0) s t (λ p l i. h p i))

pub passes_mono : (weights : List ℕ) (q : Question) (v w : List ℕ) → length v ≡ WORDS → length w ≡ WORDS
    → ((j : ℕ) → T (has v j) → T (has w j)) → T (passes weights q v) → T (passes weights q w)
unfolding passes voted
passes_mono weights q v w d e h =
    answered_mono q.condition _ _
    (weight_mono weights _ _ (λ p t.
    ⊎_elim (λ i. in_left (has w (bit q.phase p)) (has q.equivocations (bit q.phase p)) (h (bit q.phase p) i))
    (λ i. in_right (has w (bit q.phase p)) (has q.equivocations (bit q.phase p)) i) (either (has v (bit q.phase p)) _ t)))
