-- The facts on sets of bits, gathered over the number of words. The code has two words; one and three are two more uses.
use mathlib.Core.Bool.{false, ◌&&◌, ◌||◌}
use mathlib.Core.List.{List}
use mathlib.Core.Path.{◌≡◌, sym, ◌∙◌}
use Prim.Native.Nat.{ℕ, ◌*◌, ◌%◌, ◌≤◌, ◌<◌}
use native.Mathlib.Omega.{arith}
use lib.Dec.{eqb}
use lib.ListN.{length, replicate}
use Rattle.bitfield.specs.Bits.{has, put, joined, every}
use Rattle.bitfield.specs.Walk.{walk, passing}
use Rattle.bitfield.proofs.Sets.{Fits, length_put, length_joined, has_past, has_put, put_past, has_joined, has_none, set_ext}
use Rattle.bitfield.proofs.Walks.{walk_every, walk_merged}

pub record SetsOf (n : ℕ) : Type 0 where
  pub past : (ws : List ℕ) → length ws ≡ n → (c : ℕ) → 64 * n ≤ c → has ws c ≡ false
  pub none : (c : ℕ) → has (replicate n 0) c ≡ false
  pub put_has : (ws : List ℕ) → length ws ≡ n → (b c : ℕ) → b < 64 * n → has (put ws b) c ≡ (has ws c || eqb c b)
  pub put_out : (ws : List ℕ) → length ws ≡ n → (b : ℕ) → 64 * n ≤ b → put ws b ≡ ws
  pub put_length : (ws : List ℕ) → length ws ≡ n → (b : ℕ) → length (put ws b) ≡ n
  pub joined_has : (a b : List ℕ) → length a ≡ n → length b ≡ n → (c : ℕ) → has (joined a b) c ≡ (has a c || has b c)
  pub joined_length : (a b : List ℕ) → length a ≡ n → length (joined a b) ≡ n
  pub walked : (ws : List ℕ) → length ws ≡ n → (d : ℕ) → d < 2
      → walk (64 * n) (every d ws) ≡ passing (λ c. has ws c && eqb (c % 2) d) (64 * n) 0
  pub merged : (a b : List ℕ) → length a ≡ n → length b ≡ n → (d : ℕ) → d < 2
      → walk (64 * n) (every d (joined a b)) ≡ passing (λ c. (has a c || has b c) && eqb (c % 2) d) (64 * n) 0
  pub same : (a b : List ℕ) → length a ≡ n → length b ≡ n → Fits a → Fits b → ((c : ℕ) → c < 64 * n → has a c ≡ has b c) → a ≡ b

pub sets_of : (n : ℕ) → SetsOf n
sets_of n =
    record {
      past = λ ws e c h. has_past ws c (omega arith);
      none = λ c. has_none n c;
      put_has = λ ws e b c h. has_put ws b c (omega arith);
      put_out = λ ws e b h. put_past ws b (omega arith);
      put_length = λ ws e b. length_put ws b ∙ e;
      joined_has = λ a b e f c. has_joined a b (e ∙ sym f) c;
      joined_length = λ a b e. length_joined a b ∙ e;
      walked = λ ws e d h. rw e at (walk_every d h ws);
      merged = λ a b e f d h. rw e at (walk_merged d h a b (e ∙ sym f));
      same = λ a b e f g h i. set_ext a b (e ∙ sym f) g h (λ c l. i c (omega arith));
    }

pub one_word : SetsOf 1
one_word = sets_of 1

pub two_words : SetsOf 2
two_words = sets_of 2

pub three_words : SetsOf 3
three_words = sets_of 3
