-- A text that goes from an array into a lent buffer.
use mathlib.Core.List.{List, ◌++◌}
use mathlib.Core.Path.{◌≡◌, refl, sym, ap, subst, ◌∙◌}
use Prim.Native.Nat.{ℕ, ◌≤◌, ◌<◌}
use native.Mathlib.Omega.{arith}
use borrow.Author.Tests.{lt-ltb, le-ltb}
use lib.ListN.{length, take, drop}
use lib.Seq.{take_at, take-length}
use Rattle.listing.specs.Written.{Lent}
use Rattle.summary.specs.declared.Outcome.{Outcome}
use Rattle.summary.specs.declared.Summary.{Summary}
use Rattle.summary_lines.specs.Text.{text_by, text_of, printed}
use Rattle.std.specs.Prelude.{Ok, Err}
use Rattle.refusals.specs.declared.Refusal.TheVariants.{ShortBuffer}

module _ (s : Summary) (out : List ℕ) (n : ℕ) (f : n ≡ length (text_of s)) where
  pub print_short : length out < n → record { answer = Err ShortBuffer; bytes = out } ≡ printed s out
  unfolding printed
  print_short h = rw (lt-ltb (length out) (length (text_of s)) (omega arith))

  pub print_done : n ≤ length out → (old new : List ℕ) → new ≡ text_of s ++ drop (length (text_of s)) old → (after : List ℕ)
      → after ≡ take n new ++ drop (length (take n new)) out → record { answer = Ok n; bytes = after } ≡ printed s out
  unfolding printed
  print_done h old new e after g =
      rw (le-ltb (length out) (length (text_of s)) (omega arith)) (λ i. record { answer = Ok (f i); bytes = bytes_are i })
    where
      is_text : take n new ≡ text_of s
      is_text = ap (take n) e ∙ take_at (text_of s) (drop (length (text_of s)) old) n (sym f)

      bytes_are : after ≡ text_of s ++ drop (length (text_of s)) out
      bytes_are =
          g ∙ ap (λ (x : List ℕ). x ++ drop (length x) out) is_text

-- the text that is due
pub text_when : (s : Summary) (o : Outcome) → s.outcome ≡ o → text_of s ≡ text_by o s
unfolding text_of
text_when s o e = ap (λ (x : Outcome). text_by x s) e
