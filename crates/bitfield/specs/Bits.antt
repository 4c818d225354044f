-- Document 01, "Weights and bits": bit b lies in word b / 64 at value 2^(63 - b mod 64). A set of bits is a list of any
-- number of words.
use Rattle.std.specs.Prelude.{Bool, List, [], ◌∷◌, ℕ, zero, suc, ◌+◌, ◌-◌, ◌*◌, ◌/◌, ◌%◌, ◌^◌, eqb, length, get_or, set}
use Rattle.std.specs.Int.Bits.{bit_and, bit_or}
use Rattle.loops.specs.All.{all}
use Rattle.loops.specs.Sum.{sum}

-- whether the word w has the bit of value 2^(63 - b)
unfoldable pub in_word : ℕ → ℕ → Bool
in_word w b = eqb (w / 2 ^ (63 - b) % 2) 1

-- whether bit b is set; past the last word none is
unfoldable pub has : List ℕ → ℕ → Bool
has ws b = in_word (get_or ws (b / 64) 0) (b % 64)

-- bit b set; past the last word nothing changes
unfoldable pub put : List ℕ → ℕ → List ℕ
put ws b = set ws (b / 64) (bit_or (get_or ws (b / 64) 0) (2 ^ (63 - b % 64)))

-- n words, the i-th of them f i
unfoldable pub words : ℕ → (ℕ → ℕ) → List ℕ
words zero f = []
words (suc n) f = f 0 ∷ words n (λ i. f (suc i))

-- the bits of either of two sets of as many words
unfoldable pub joined : List ℕ → List ℕ → List ℕ
joined a b = words (length a) (λ i. bit_or (get_or a i 0) (get_or b i 0))

-- no bit at all. "Porting order", 3: empty and all-zero weigh alike; here the words are always there, and blank is all-zero
unfoldable pub blank : List ℕ → Bool
blank ws = all (length ws) (λ i. eqb (get_or ws i 0) 0)

-- the word of the bits 2j + d, that is, the even ones for d = 0 and the odd ones for d = 1
unfoldable pub mask : ℕ → ℕ
mask d = sum 32 (λ j. 2 ^ (63 - (2 * j + d)))

-- the bits 2j + d of a set
unfoldable pub every : ℕ → List ℕ → List ℕ
every d ws = words (length ws) (λ i. bit_and (get_or ws i 0) (mask d))
