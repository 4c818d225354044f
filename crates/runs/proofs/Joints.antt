-- A rest that is less than one record, and a piece that comes behind it. The code first runs over the joint, which is the rest with
-- the first 22 bytes of the piece; no record is longer. Once a record was taken there, it goes on in the piece itself.
use mathlib.Core.List.{List, ◌++◌, append_assoc}
use mathlib.Core.Path.{◌≡◌, refl, sym, ap, ◌∙◌}
use Prim.Native.Nat.{ℕ, ◌+◌, ◌-◌, ◌≤◌, ◌<◌}
use native.Mathlib.Decide.{dec_le}
use native.Mathlib.Omega.{arith}
use lib.ListN.{length, take, drop, length-append, length-take, length-drop, take-append-drop}
use lib.Seq.{take_all, drop-append-le, drop-append-add}
use Rattle.marks.specs.declared.Mark.{Mark}
use Rattle.marks.specs.declared.Record.{Record}
use Rattle.marks.specs.declared.Record.TheVariants as is
use Rattle.marks.specs.declared.End.{End}
use Rattle.marks.specs.declared.End.TheVariants.{Cut, Refused, Left}
use Rattle.marks.specs.Marks.{read, size}
use Rattle.marks.proofs.Readings.{cut_short}
use Rattle.marks.proofs.Parts.{whole_more, whole_less, unknown_more}
use Rattle.runs.specs.Run.{Next, Run, ended, ran, counted}
use Rattle.runs.specs.Follow.{continued}
use Rattle.runs.proofs.Appends.{run_append, continued_cut, continued_refused, continued_left}
use Rattle.runs.proofs.Rests.{rest_cut, none_taken, some_taken}
use Rattle.refusals.specs.declared.Refusal.{Refusal}

abbrev pub joint : List ℕ → List ℕ → List ℕ
joint rest piece = rest ++ take 22 piece

pub joint_whole : (rest piece : List ℕ) → joint rest piece ++ drop 22 piece ≡ rest ++ piece
joint_whole rest piece =
    append_assoc rest (take 22 piece) (drop 22 piece) ∙ ap (λ (l : List ℕ). rest ++ l) (take-append-drop 22 piece)

-- a joint that is cut has the whole piece in it
pub joint_short : (rest piece : List ℕ) → read (joint rest piece) ≡ is.Cut → (length piece < 22) × (joint rest piece ≡ rest ++ piece)
joint_short rest piece e =
    let l : length piece < 22 = omega (arith, cut_short (joint rest piece) e, length-append rest (take 22 piece), length-take 22 piece) in
    (l, ap (λ (t : List ℕ). rest ++ t) (take_all 22 piece (omega arith)))

-- what stands at the start is told by the joint
pub first_22 : (rest piece : List ℕ) → read (joint rest piece) ≡ read (rest ++ piece)
first_22 rest piece = go (read (joint rest piece)) refl
  where
    there : (x : Record) → read (joint rest piece ++ drop 22 piece) ≡ x → read (rest ++ piece) ≡ x
    there x e = rw (joint_whole rest piece) at e

    go : (x : Record) → read (joint rest piece) ≡ x → read (joint rest piece) ≡ read (rest ++ piece)
    go (is.Whole m) e = e ∙ sym (there (is.Whole m) (whole_more (joint rest piece) (drop 22 piece) m e))
    go is.Unknown e = e ∙ sym (there is.Unknown (unknown_more (joint rest piece) (drop 22 piece) e))
    go is.Cut e = ap read (joint_short rest piece e).1

module _ {S : Type 0} (step : S → Mark → List ℕ → Next S) (rest piece : List ℕ) where
  joint_run : (s : S) (r : Run S) → ran step s (joint rest piece) ≡ r → ran step s (rest ++ piece) ≡ continued step (drop 22 piece) r
  joint_run s r e =
      ap (ran step s) (sym (joint_whole rest piece))
      ∙ run_append step (drop 22 piece) s (joint rest piece)
      ∙ ap (continued step (drop 22 piece)) e

  -- what is left of the joint at a place, and what is left of all
  left_over : (at : ℕ) → at ≤ length (joint rest piece) → drop at (joint rest piece) ++ drop 22 piece ≡ drop at (rest ++ piece)
  left_over at h = sym (drop-append-le at (joint rest piece) (drop 22 piece) h) ∙ ap (drop at) (joint_whole rest piece)

  module _ (cut : read rest ≡ is.Cut) (s t : S) (n at : ℕ) (fits : at ≤ length (joint rest piece)) where
    -- a record was taken in the joint: its bytes reach past the rest
    past : (e : End) → ran step s (joint rest piece) ≡ ended t n (drop at (joint rest piece)) e → 0 < n → length rest ≤ at
    past e q h = go (some_taken step s (joint rest piece) (omega (arith, ap (λ (r : Run S). r.count) q)))
      where
        go : (m : Mark) × (read (joint rest piece) ≡ is.Whole m) × (length (ran step s (joint rest piece)).rest + (2 + size m) ≤ length (joint rest piece))
            → length rest ≤ at
        go (m, w, l) = decide (dec_le (length rest) at)
          where
            decide : Dec (length rest ≤ at) → length rest ≤ at
            decide (yes y) = y
            decide (no f) =
                let reach : 2 + size m ≤ length rest =
                omega (arith, l, ap (λ (r : Run S). length r.rest) q, length-drop at (joint rest piece)) in
                let whole : read rest ≡ is.Whole m = whole_less rest (take 22 piece) m w reach in
                absurd (let z : ◌≡◌ {A = ℕ} 0 1 = cc in omega arith)

    -- so what is left of all is an end of the piece
    pub joint_past : (e : End) → ran step s (joint rest piece) ≡ ended t n (drop at (joint rest piece)) e → 0 < n
        → (length rest ≤ at) × (drop at (rest ++ piece) ≡ drop (at - length rest) piece)
    joint_past e q h =
        let p = past e q h in
        let k : at ≡ length rest + (at - length rest) = omega arith in
        (p, ap (λ (i : ℕ). drop i (rest ++ piece)) k ∙ drop-append-add rest piece (at - length rest))

    pub joint_goes_on : ran step s (joint rest piece) ≡ ended t n (drop at (joint rest piece)) Cut → 0 < n
        → (length rest ≤ at) × (ran step s (rest ++ piece) ≡ counted n (ran step t (drop (at - length rest) piece)))
    joint_goes_on q h =
        let p = joint_past Cut q h in (
          p.0,
          joint_run s (ended t n (drop at (joint rest piece)) Cut) q
              ∙ continued_cut step (drop 22 piece) (ended t n (drop at (joint rest piece)) Cut) refl
              ∙ ap (λ (l : List ℕ). counted n (ran step t l)) (left_over at fits ∙ p.1),
        )

  module _ (s t : S) (n at : ℕ) (fits : at ≤ length (joint rest piece)) where
    -- a run that ended in the joint for another reason than its end
    pub joint_refused : (k : Refusal) → ran step s (joint rest piece) ≡ ended t n (drop at (joint rest piece)) (Refused k)
        → ran step s (rest ++ piece) ≡ ended t n (drop at (rest ++ piece)) (Refused k)
    joint_refused k q =
        joint_run s (ended t n (drop at (joint rest piece)) (Refused k)) q
        ∙ continued_refused step (drop 22 piece) (ended t n (drop at (joint rest piece)) (Refused k)) k refl
        ∙ ap (λ (l : List ℕ). ended t n l (Refused k)) (left_over at fits)

    pub joint_left : ran step s (joint rest piece) ≡ ended t n (drop at (joint rest piece)) Left
        → ran step s (rest ++ piece) ≡ ended t n (drop at (rest ++ piece)) Left
    joint_left q =
        joint_run s (ended t n (drop at (joint rest piece)) Left) q
        ∙ continued_left step (drop 22 piece) (ended t n (drop at (joint rest piece)) Left) refl
        ∙ ap (λ (l : List ℕ). ended t n l Left) (left_over at fits)

  -- no record was taken and none is refused: the piece is short, and all of it is in the joint
  pub joint_none : (s t : S) (bs : List ℕ) → ran step s (joint rest piece) ≡ ended t 0 bs Cut
      → (length piece < 22) × (joint rest piece ≡ rest ++ piece)
  joint_none s t bs q =
      let n = none_taken step s (joint rest piece) (ap (λ (r : Run S). r.count) q) in
      let c = rest_cut step s (joint rest piece) (ap (λ (r : Run S). r.end) q) in
      joint_short rest piece (ap (λ (r : Run S). read r.rest) (sym n) ∙ c)
