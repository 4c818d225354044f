-- Texts put one after the other are one text.
use mathlib.Core.List.{List, ◌++◌, append_assoc, append-nil}
use mathlib.Core.Path.{◌≡◌, refl, sym, ap, ◌∙◌}
use Prim.Native.Nat.{ℕ, ◌+◌, ◌-◌, ◌≤◌}
use native.Mathlib.Omega.{arith}
use lib.ListN.{length, take, drop, length-append, length-take, length-drop, drop_of_length-le}
use lib.Seq.{take_all, take_at, drop-drop, drop-append-add, length-take-le}
use Rattle.lines.specs.Put.{Put}

pub length_put : {old text new : List ℕ} {at next : ℕ} → Put old at text new next → length new ≡ length old
length_put {old} {text} {new} {at} {next} p =
    ap length p.bytes_are
    ∙ omega (
      arith,
      length-append (take at old) (text ++ drop next old),
      length-append text (drop next old),
      length-drop next old,
      length-take at old,
      p.next_is,
      p.fits,
    )

-- a text copied into the part of a buffer that remains
pub put_part : (old s part : List ℕ) (at : ℕ) → at + length s ≤ length old
    → part ≡ s ++ drop (length s) (take (length old - at) (drop at old))
    → Put old at s (take at old ++ (part ++ drop (length old - at) (drop at old))) (at + length s)
put_part old s part at room e =
    let n : length (drop at old) ≤ length old - at = omega (arith, length-drop at old) in
    record {
      bytes_are =
          rw (
            e,
            take_all (length old - at) (drop at old) n,
            drop_of_length-le (drop at old) n,
            drop-drop (length s) at old,
            append-nil (s ++ drop (at + length s) old),
          );
      next_is = refl;
      fits = room;
    }

infixl 60 ◌then◌
pub ◌then◌ : {a b c s t : List ℕ} {i m n : ℕ} → Put a i s b m → Put b m t c n → Put a i (s ++ t) c n
◌then◌ {a} {b} {c} {s} {t} {i} {m} {n} p q =
    record {
      bytes_are = q.bytes_are ∙ middle;
      next_is = omega (arith, p.next_is, q.next_is, length-append s t);
      fits = omega (arith, q.fits, length_put p);
    }
  where
    start : List ℕ
    start = take i a ++ s

    long : length start ≡ m
    long = omega (arith, length-append (take i a) s, length-take-le i a (omega (arith, p.next_is, p.fits)), p.next_is)

    whole : b ≡ start ++ drop m a
    whole = p.bytes_are ∙ sym (append_assoc (take i a) s (drop m a))

    before : take m b ≡ start
    before = ap (take m) whole ∙ take_at start (drop m a) m long

    there : n ≡ length start + length t
    there = omega (arith, q.next_is, long)

    after : drop n b ≡ drop n a
    after =
        ap (drop n) whole
        ∙ ap (λ (k : ℕ). drop k (start ++ drop m a)) there
        ∙ drop-append-add start (drop m a) (length t)
        ∙ drop-drop (length t) m a
        ∙ ap (λ (k : ℕ). drop k a) (sym q.next_is)

    middle : take m b ++ (t ++ drop n b) ≡ take i a ++ ((s ++ t) ++ drop n a)
    middle =
        rw (before, after)
        (append_assoc (take i a) s (t ++ drop n a) ∙ ap (λ (l : List ℕ). take i a ++ l) (sym (append_assoc s t (drop n a))))

-- from the start of a buffer
pub put_whole : {old text new : List ℕ} {next : ℕ} → Put old 0 text new next
    → (new ≡ text ++ drop (length text) old) × (next ≡ length text)
put_whole {old} {text} {new} {next} p =
    let e : next ≡ length text = omega (arith, p.next_is) in
    (rw e at p.bytes_are, e)
