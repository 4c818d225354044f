-- A piece behind the bytes that were left: it is run with them, by way of the joint.
use mathlib.Core.Bool.{Bool, true, false, not}
use mathlib.Core.List.{List, [], ◌++◌, append-nil, append_assoc}
use mathlib.Core.Logic.{◌⊎◌, inl, inr}
use mathlib.Core.Path.{◌≡◌, refl, sym, ap, subst, ◌∙◌}
use Prim.Native.Nat.{ℕ, ◌+◌, ◌-◌, ◌≤◌, ◌<◌}
use native.Mathlib.Omega.{arith}
use borrow.Author.Tests.{ltb-false}
use lib.Dec.{T, ltb}
use lib.ListN.{length, take, drop, length-append, length-drop, length-take, drop_of_length-le, replicate}
use lib.Seq.{take_at, take_all, length-take-le, drop_at, drop-drop}
use borrow.Rule.Slice.PartMut.{mid_of, post_of, put_mid}
use Rattle.loops.proofs.Tests.{T_true, left_of, right_of}
use Rattle.weights.specs.Weights.{most, plus}
use Rattle.held_laws.specs.Kept.{Kept}
use Rattle.marks.specs.declared.Record.{Record}
use Rattle.marks.specs.declared.Record.TheVariants as is
use Rattle.marks.specs.declared.End.{End}
use Rattle.marks.specs.declared.End.TheVariants.{Cut, Refused, Left}
use Rattle.marks.specs.Marks.{read}
use Rattle.runs.specs.Run.{Run, ended, ran, counted}
use Rattle.runs.proofs.Turns.{part_drop}
use Rattle.runs.proofs.Rests.{rest_short}
use Rattle.runs.proofs.Joints.{joint, joint_goes_on, joint_refused, joint_left, joint_none}
use Rattle.turns.specs.Turns as turns
use Rattle.turns.specs.Turns.{pairing, no_pairs, took}
use Rattle.turns.specs.Stands.{Stands}
use Rattle.turns.proofs.Keeps.{took_kept, ran_has}
use Rattle.journal.specs.declared.Journal.{Journal}
use Rattle.journal.specs.declared.Progress.{Progress}
use Rattle.journal.specs.Journal.{laid, told, by_value, run_of, run_from}
use Rattle.journal.proofs.Laid.{told_laid, stands_told}
use Rattle.journal.specs.Journal as journal
use Rattle.pairing.specs.declared.Pairs.{Pairs}
use Rattle.journal.proofs.Turning.{from_ended, from_counted}
use Rattle.feeding.specs.declared.Rest.{Rest}
use Rattle.feeding.specs.declared.Replay.{Replay}
use Rattle.feeding.specs.declared.Joint.{Joint}
use Rattle.feeding.specs.Feeding.{bytes_of, is_cut, rest_stands, kept_rest, ended_by, after_run, went}
use Rattle.feeding.specs.Feeding as joint
use Rattle.std.specs.Prelude.{Ok, Err}
use Rattle.refusals.specs.declared.Refusal.TheVariants.{OutOfTurn}
use Rattle.refusals.specs.declared.Refusal.{Refusal}

-- what the test of a rest says
pub rest_means : (r : Rest) → T (rest_stands r) → (r.count ≤ 22) × (read (bytes_of r) ≡ is.Cut)
unfolding rest_stands
rest_means r h = (
  few (ltb 22 r.count) refl (left_of (not (ltb 22 r.count)) (is_cut (read (bytes_of r))) h),
  cut (read (bytes_of r)) (right_of (not (ltb 22 r.count)) (is_cut (read (bytes_of r))) h),
)
  where
    few : (b : Bool) → ltb 22 r.count ≡ b → T (not b) → r.count ≤ 22
    few false e t = ltb-false 22 r.count e
    few true e t = absurd t

    cut : (x : Record) → T (is_cut x) → x ≡ is.Cut
    cut is.Cut t = refl
    cut (is.Whole m) t = absurd t
    cut is.Unknown t = absurd t

pub not_cut : (x : Record) → (x ≡ is.Cut → ⊥) → is_cut x ≡ false
not_cut is.Cut h = absurd (h refl)
not_cut (is.Whole m) h = refl
not_cut is.Unknown h = refl

-- sums that stop at 2^64 - 1
plus_again : (a b c : ℕ) → plus a (b + c) ≡ plus (plus a b) c
plus_again a b c = omega arith

-- records that were counted before
ended_counted : (e : End) (n k : ℕ) (s : Journal) (m : ℕ) (rest : List ℕ) → ended_by e n (ended s (k + m) rest e) ≡ ended_by e (plus n k) (ended s m rest e)
ended_counted Cut n k s m rest = ap (λ i. record { journal = s; rest = kept_rest rest; records = i; stop = Ok tt }) (plus_again n k m)
ended_counted (Refused x) n k s m rest = ap (λ i. record { journal = s; rest = kept_rest []; records = i; stop = Err x }) (plus_again n k m)
ended_counted Left n k s m rest = ap (λ i. record { journal = s; rest = kept_rest []; records = i; stop = Err OutOfTurn }) (plus_again n k m)

pub after_counted : (n k : ℕ) (r : Run Journal) → after_run n (counted k r) ≡ after_run (plus n k) r
unfolding after_run counted
after_counted n k r = ended_counted r.end n k r.state r.count r.rest

-- a refusal drops what is left
after_refused : (n : ℕ) (k : Refusal) (m : ℕ) (s : Journal) (a b : List ℕ) → after_run n (ended s m a (Refused k)) ≡ after_run n (ended s m b (Refused k))
unfolding after_run
after_refused n k m s a b = refl

after_left : (n m : ℕ) (s : Journal) (a b : List ℕ) → after_run n (ended s m a Left) ≡ after_run n (ended s m b Left)
unfolding after_run
after_left n m s a b = refl

-- a run by value is one of the definitions
module _ (j : turns.Journal) (bs : List ℕ) (p : Progress) (e : run_of p bs ≡ run_from j bs) where
  told_run : ran took j bs ≡ ended (ran took j bs).state p.count (drop p.at bs) p.end
  unfolding run_from
  told_run =
      sym (λ i. record { state = (ran took j bs).state; count = (e i).count; rest = (e i).rest; end = (e i).end })

  told_state : p.journal ≡ laid (ran took j bs).state
  unfolding run_from
  told_state = ap (λ (r : Run Journal). r.state) e

  pub run_short : p.end ≡ Cut → length (drop p.at bs) ≤ 22
  run_short c =
      let q = ap (λ (r : Run turns.Journal). r.end) told_run ∙ c in
      omega (arith, rest_short took j bs q, ap (λ (r : Run turns.Journal). length r.rest) told_run)

  -- what is told after it stands
  pub run_stands : Stands Kept j → Stands Kept (told p.journal)
  run_stands s =
      subst (λ (x : Journal). Stands Kept (told x)) (sym told_state)
      (subst (Stands Kept) (sym (told_laid (ran took j bs).state)) (ran_has took (Stands Kept) took_kept j bs s))

-- the joint as code lays it
pub joint_bytes : (bs : List ℕ) (both : Joint) → both ≡ joint.laid bs → take both.count both.bytes ≡ bs
unfolding joint.laid
joint_bytes bs both e = ap (λ (x : Joint). take x.count x.bytes) e ∙ take_at bs (drop (length bs) (replicate 44 0)) (length bs) refl

-- nothing was left
pub went_none : (j : Journal) (rest : Rest) (n : ℕ) (piece : List ℕ) → rest.count ≡ 0 → (r : Run Journal) → r ≡ run_from (told j) piece
    → after_run n r ≡ went j rest n piece
unfolding went
went_none j rest n piece none r e = ap (after_run n) (e ∙ sym (ap (λ k. run_from (told j) (take k rest.bytes ++ piece)) none))

-- a run over the joint
module _ (j : Journal) (rest : Rest) (stands : T (rest_stands rest)) (n : ℕ) (piece bs : List ℕ) (is_joint : bs ≡ joint (bytes_of rest) piece)
    (p : Progress) (e : run_of p bs ≡ run_from (told j) bs) (fits : p.at ≤ length bs) where
  abbrev left : List ℕ
  left = bytes_of rest

  run_joint : run_of p (joint left piece) ≡ run_from (told j) (joint left piece)
  run_joint = subst (λ l. run_of p l ≡ run_from (told j) l) is_joint e

  abbrev state : turns.Journal
  state = (ran took (told j) (joint left piece)).state

  over_joint : (x : End) → p.end ≡ x → ran took (told j) (joint left piece) ≡ ended state p.count (drop p.at (joint left piece)) x
  over_joint x q = told_run (told j) (joint left piece) p run_joint ∙ ap (ended state p.count (drop p.at (joint left piece))) q

  fits_joint : p.at ≤ length (joint left piece)
  fits_joint = subst (λ l. p.at ≤ length l) is_joint fits

  -- a record is refused in it
  went_refused : (k : Refusal) → p.end ≡ Refused k → after_run n (run_of p bs) ≡ went j rest n piece
  unfolding went
  went_refused k q =
      ap (λ (r : Run Journal). after_run n r) (e ∙ ap (run_from (told j)) is_joint ∙ from_ended (told j) state p.count (joint left piece) _ (Refused k) (over_joint (Refused k) q))
      ∙ after_refused n k p.count (laid state) _ _
      ∙ sym (ap (after_run n) (from_ended (told j) state p.count (left ++ piece) _ (Refused k)
      (joint_refused took left piece (told j) state p.count p.at fits_joint k (over_joint (Refused k) q))))

  went_left : p.end ≡ Left → after_run n (run_of p bs) ≡ went j rest n piece
  unfolding went
  went_left q =
      ap (λ (r : Run Journal). after_run n r) (e ∙ ap (run_from (told j)) is_joint ∙ from_ended (told j) state p.count (joint left piece) _ Left (over_joint Left q))
      ∙ after_left n p.count (laid state) _ _
      ∙ sym (ap (after_run n) (from_ended (told j) state p.count (left ++ piece) _ Left
      (joint_left took left piece (told j) state p.count p.at fits_joint (over_joint Left q))))

  pub went_over : ((k : Refusal) × (p.end ≡ Refused k)) ⊎ (p.end ≡ Left) → after_run n (run_of p bs) ≡ went j rest n piece
  went_over (inl (k, q)) = went_refused k q
  went_over (inr q) = went_left q

  -- it is cut, and no record was taken
  pub went_short : p.end ≡ Cut → p.count ≡ 0 → after_run n (run_of p bs) ≡ went j rest n piece
  unfolding went
  went_short q none =
      let r = over_joint Cut q ∙ ap (λ k. ended state k (drop p.at (joint left piece)) Cut) none in
      ap (after_run n) (e ∙ ap (run_from (told j)) (is_joint ∙ (joint_none took left piece (told j) state _ r).1))

  -- a record was taken, and its bytes reach into the piece
  module _ (q : p.end ≡ Cut) (some : 0 < p.count) where
    goes : (length left ≤ p.at) × (ran took (told j) (left ++ piece) ≡ counted p.count (ran took state (drop (p.at - length left) piece)))
    goes = joint_goes_on took left piece (rest_means rest stands).1 (told j) state p.count p.at fits_joint (over_joint Cut q) some

    left_length : length left ≤ rest.count
    left_length = omega (arith, length-take rest.count rest.bytes)

    pub went_past : length (bytes_of rest) ≤ p.at
    went_past = goes.0

    pub went_inside : p.at ≤ length (bytes_of rest) + length piece
    went_inside = omega (arith, fits_joint, length-append left (take 22 piece), length-take 22 piece)

    pub went_on : (a : ℕ) → a ≡ p.at - length (bytes_of rest) → (part : List ℕ) → part ≡ drop a piece → (r : Progress) → run_of r part ≡ run_from (told p.journal) part
        → after_run (plus n p.count) (run_of r part) ≡ went j rest n piece
    unfolding went
    went_on a is_a part is_part r f =
        ap (after_run (plus n p.count))
        (f ∙ ap (run_from (told p.journal)) (is_part ∙ ap (λ k. drop k piece) is_a)
        ∙ ap (λ (s : turns.Journal). run_from s (drop (p.at - length left) piece)) (ap told (told_state (told j) (joint left piece) p run_joint) ∙ told_laid state))
        ∙ sym (after_counted n p.count (run_from state (drop (p.at - length left) piece)))
        ∙ sym (ap (after_run n) (from_counted (told j) state p.count (left ++ piece) (drop (p.at - length left) piece) goes.1))

-- the joint lies within its array
pub joint_inside : (bs : List ℕ) (both : Joint) → both ≡ joint.laid bs → both.count ≤ length both.bytes
unfolding joint.laid
joint_inside bs both e =
    omega (
      arith,
      ap (λ (x : Joint). x.count) e,
      ap (λ (x : Joint). length x.bytes) e,
      length-append bs (drop (length bs) (replicate 44 0)),
    )

-- the rest of the piece, as code makes it
abbrev part : ℕ → List ℕ → List ℕ
part a piece = take (length piece - a) (drop a piece)

module _ (j : Journal) (rest : Rest) (sized : length rest.bytes ≡ 22) (stands : T (rest_stands rest)) (n : ℕ) (piece bs : List ℕ)
    (is_joint : bs ≡ joint (bytes_of rest) piece) (p : Progress) (e : run_of p bs ≡ run_from (told j) bs) (fits : p.at ≤ length bs) (q : p.end ≡ Cut)
    (some : 0 < p.count) where
  counts : length (bytes_of rest) ≡ rest.count
  counts = length-take-le rest.count rest.bytes (omega (arith, (rest_means rest stands).0))

  pub across_fits : (rest.count ≤ p.at) × (p.at - rest.count ≤ length piece)
  across_fits = (
    omega (arith, counts, went_past j rest stands n piece bs is_joint p e fits q some),
    omega (arith, counts, went_inside j rest stands n piece bs is_joint p e fits q some),
  )

  pub across_done : (m : ℕ) → m ≡ plus n p.count → (r : Progress)
      → run_of r (part (p.at - rest.count) piece) ≡ run_from (told p.journal) (part (p.at - rest.count) piece)
      → after_run m (run_of r (part (p.at - rest.count) piece)) ≡ went j rest n piece
  across_done m is_m r f =
      ap (λ (k : ℕ). after_run k (run_of r (part (p.at - rest.count) piece))) is_m
      ∙ went_on j rest stands n piece bs is_joint p e fits q some (p.at - rest.count) (ap (λ (k : ℕ). p.at - k) (sym counts))
      (part (p.at - rest.count) piece) (part_drop (p.at - rest.count) piece) r f

-- what code makes of a run
pub after_open : (n : ℕ) (p : Progress) (bs : List ℕ) → p.end ≡ Cut → (rest : Rest) → rest ≡ kept_rest (part p.at bs) → (m : ℕ) → m ≡ plus n p.count
    → record { journal = p.journal; rest = rest; records = m; stop = Ok tt } ≡ after_run n (run_of p bs)
unfolding after_run
after_open n p bs q rest is_rest m is_m =
    (λ i. record { journal = p.journal; rest = (is_rest ∙ ap kept_rest (part_drop p.at bs)) i; records = is_m i; stop = Ok tt })
    ∙ sym (ap (λ (x : End). ended_by x n (run_of p bs)) q)

abbrev stopped_by : Journal → ℕ → Refusal → Replay
stopped_by j m k = record { journal = j; rest = kept_rest []; records = m; stop = Err k }

pub after_stopped : (n : ℕ) (p : Progress) (bs : List ℕ) (k : Refusal) → p.end ≡ Refused k → (m : ℕ) → m ≡ plus n p.count → (r : Replay)
    → r ≡ stopped_by p.journal m k → r ≡ after_run n (run_of p bs)
unfolding after_run
after_stopped n p bs k q m is_m r e =
    e ∙ ap (λ (i : ℕ). stopped_by p.journal i k) is_m ∙ sym (ap (λ (x : End). ended_by x n (run_of p bs)) q)

pub after_over : (n : ℕ) (p : Progress) (bs : List ℕ) → p.end ≡ Left → (m : ℕ) → m ≡ plus n p.count → (r : Replay)
    → r ≡ stopped_by p.journal m OutOfTurn → r ≡ after_run n (run_of p bs)
unfolding after_run
after_over n p bs q m is_m r e =
    e ∙ ap (λ (i : ℕ). stopped_by p.journal i OutOfTurn) is_m ∙ sym (ap (λ (x : End). ended_by x n (run_of p bs)) q)

pub rest_done : (bs kept : List ℕ) → kept ≡ bs ++ drop (length bs) (replicate 22 0) → record { bytes = kept; count = length bs } ≡ kept_rest bs
unfolding kept_rest
rest_done bs kept e = ap (λ (l : List ℕ). record { bytes = l; count = length bs }) e

-- a state that passes the test is ready
pub feed_ready : (r : Replay) → r.journal.round.context.voters.total ≤ most → joint.stands r ≡ true
    → (Stands Kept (told r.journal)) × (T (rest_stands r.rest))
unfolding joint.stands
feed_ready r fits e =
    let t = T_true e in (
      stands_told r.journal fits (left_of (journal.stands r.journal) (rest_stands r.rest) t),
      right_of (journal.stands r.journal) (rest_stands r.rest) t,
    )

pub replay_done : (p : Pairs) → p ≡ no_pairs → (bs : List ℕ) (r : Run Journal) → r ≡ run_from (pairing p) bs → after_run 0 r ≡ joint.replayed bs
unfolding joint.replayed
replay_done p e bs r q = ap (after_run 0) (q ∙ ap (λ (x : Pairs). run_from (pairing x) bs) e)

abbrev blank : List ℕ
blank = replicate 44 0

-- two copies into an array of zeros, the second behind the first
pub lay_done : (s t one two : List ℕ) (count : ℕ) → length s ≡ count → count + length t ≤ 44
    → one ≡ s ++ drop (length s) blank
    → two ≡ t ++ drop (length t) (mid_of count (44 - count) one)
    → record { bytes = put_mid count (44 - count) one two; count = count + length t } ≡ joint.laid (s ++ t)
unfolding joint.laid
lay_done s t one two count l room e f = λ i. record { bytes = bytes_are i; count = sizes i }
  where
    sizes : count + length t ≡ length (s ++ t)
    sizes = omega (arith, length-append s t)

    first : one ≡ s ++ drop count blank
    first =
        e ∙ (λ i. s ++ drop (l i) blank)

    later : drop count one ≡ drop count blank
    later = ap (drop count) first ∙ drop_at s (drop count blank) count l

    zeros : length (drop count blank) ≡ 44 - count
    zeros = length-drop count blank

    middle : mid_of count (44 - count) one ≡ drop count blank
    middle = ap (take (44 - count)) later ∙ take_all (44 - count) (drop count blank) (omega (arith, zeros))

    none : post_of count (44 - count) one ≡ []
    none =
        let h : length (drop count blank) ≤ 44 - count = omega (arith, zeros) in
        ap (drop (44 - count)) later ∙ drop_of_length-le (drop count blank) h

    second : two ≡ t ++ drop (count + length t) blank
    second =
        f ∙ (λ i. t ++ drop (length t) (middle i)) ∙ ap (λ (x : List ℕ). t ++ x) (drop-drop (length t) count blank)

    bytes_are : put_mid count (44 - count) one two ≡ (s ++ t) ++ drop (length (s ++ t)) blank
    bytes_are =
        (λ i. (ap (take count) first ∙ take_at s (drop count blank) count l) i ++ (second i ++ none i))
        ∙ ap (λ (x : List ℕ). s ++ x) (append-nil (t ++ drop (count + length t) blank))
        ∙ sym (append_assoc s t (drop (count + length t) blank))
        ∙ ap (λ (n : ℕ). (s ++ t) ++ drop n blank) sizes
