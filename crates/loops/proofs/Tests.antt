-- A test as a type, through `not`, `&&` and `||`; the two ways to say that a test passes.
use mathlib.Core.Bool.{Bool, true, false, cond, not, ◌&&◌, ◌||◌}
use mathlib.Core.Path.{◌≡◌, refl, sym, subst}
use mathlib.Core.Logic.{◌⊎◌, inl, inr}
use Prim.Native.Nat.{ℕ, ◌≤◌, ◌<◌}
use native.Mathlib.Decide.{dec_le}
use native.Mathlib.Omega.{arith}
use lib.Dec.{T}

pub T_true : {b : Bool} → b ≡ true → T b
T_true e = subst T (sym e) tt

pub true_T : (b : Bool) → T b → b ≡ true
true_T true t = refl
true_T false t = absurd t

pub T_false : {b : Bool} → b ≡ false → T (not b)
T_false e = subst (λ (b : Bool). T (not b)) (sym e) tt

pub false_T : (b : Bool) → T (not b) → b ≡ false
false_T true t = absurd t
false_T false t = refl

pub false_not : (b : Bool) → (T b → ⊥) → b ≡ false
false_not true h = absurd (h tt)
false_not false h = refl

pub true_false : {b : Bool} → b ≡ true → b ≡ false → ⊥
true_false s t = subst T t (T_true s)

pub and_true : (b : Bool) → (b && true) ≡ b
and_true true = refl
and_true false = refl

pub and_false : (b : Bool) → (b && false) ≡ false
and_false true = refl
and_false false = refl

pub or_false : (b : Bool) → (b || false) ≡ b
or_false true = refl
or_false false = refl

pub both : (a b : Bool) → T a → T b → T (a && b)
both true b s t = t
both false b s t = s

pub left_of : (a b : Bool) → T (a && b) → T a
left_of true b t = tt
left_of false b t = t

pub right_of : (a b : Bool) → T (a && b) → T b
right_of true b t = t
right_of false b t = absurd t

pub in_left : (a b : Bool) → T a → T (a || b)
in_left true b t = tt
in_left false b t = absurd t

pub in_right : (a b : Bool) → T b → T (a || b)
in_right true b t = tt
in_right false b t = t

pub either : (a b : Bool) → T (a || b) → T a ⊎ T b
either true b t = inl tt
either false b t = inr t

pub dec_T : (b : Bool) → Dec (T b)
dec_T true = yes tt
dec_T false = no (λ t. t)

-- two tests that pass together are one
pub same_test : (a b : Bool) → (T a → T b) → (T b → T a) → a ≡ b
same_test true true f g = refl
same_test true false f g = absurd (f tt)
same_test false true f g = absurd (g tt)
same_test false false f g = refl

-- what holds of both outcomes holds of the one that a test picks
pub by_test : {A : Type 0} (P : A → Type 0) (z : Bool) (a b : A) → (T z → P a) → (T (not z) → P b) → P (cond z a b)
by_test P true a b f g = f tt
by_test P false a b f g = g tt

pub le_or_lt : (m n : ℕ) → (m ≤ n) ⊎ (n < m)
le_or_lt m n = go (dec_le m n)
  where
    go : Dec (m ≤ n) → (m ≤ n) ⊎ (n < m)
    go (yes h) = inl h
    go (no h) = inr (omega arith)
