-- A loop over records in code: what holds before each record, and one law for each way through the body.
use mathlib.Core.List.{List}
use mathlib.Core.Path.{◌≡◌, refl, sym, ap, ◌∙◌}
use Prim.Native.Nat.{ℕ, ◌+◌, ◌-◌, ◌^◌, ◌≤◌, ◌<◌}
use native.Mathlib.Omega.{arith}
use mir.Syntax.{w64}
use mir.Val.{Fits}
use lib.ListN.{length, take, drop}
use Rattle.marks.specs.declared.Mark.{Mark}
use Rattle.marks.specs.declared.Record.{Record}
use Rattle.marks.specs.declared.Record.TheVariants as is
use Rattle.marks.specs.declared.End.{End}
use Rattle.marks.specs.declared.End.TheVariants.{Cut}
use Rattle.marks.specs.Marks.{read, size, fields, ends, ending}
use Rattle.runs.specs.Run.{Next, goes, stops, leaves, ended, ran, counted}
use Rattle.runs.specs.Tried.{Tried, taken_or_not, tried}
use Rattle.runs.proofs.Turns.{part_drop, whole_fits, whole_fields, run_start, run_goes, run_stops, run_leaves, run_cut, run_unknown}
use Rattle.std.specs.Prelude.{⊤}
use Rattle.std.specs.declared.ops.ControlFlow.{ControlFlow}
use Rattle.std.specs.declared.ops.ControlFlow.TheVariants.{Continue, Break}

-- the bytes from a place on, as code makes them
abbrev pub part : ℕ → List ℕ → List ℕ
part at bs = take (length bs - at) (drop at bs)

-- what code knows past `let Record::Whole(mark) = .. else`
abbrev pub NotWhole : Record → Type 0
NotWhole r = (m : Mark) → r ≡ is.Whole m → ⊥

-- what code knows past `if let ControlFlow::Break(end) = ..`
abbrev pub NotBreak : ControlFlow End ⊤ → Type 0
NotBreak u = (e : End) → u ≡ Break e → ⊥

-- why a loop is over
abbrev over : ControlFlow End ⊤ → End
over (Continue tt) = Cut
over (Break e) = e

-- a record that was read whole ends within the bytes
next_fits : (at : ℕ) (bs : List ℕ) (m : Mark) (fs : List ℕ) → at ≤ length bs → read (part at bs) ≡ is.Whole m → fs ≡ fields m (part at bs)
    → at + (2 + length fs) ≤ length bs
next_fits at bs m fs h e f =
    omega (arith, whole_fits at bs m h (ap read (sym (part_drop at bs)) ∙ e), ap length f ∙ whole_fields (part at bs) m e)

-- the numbers of the next turn fit, and less is left to read
pub record Fitting (bs fs : List ℕ) (n at : ℕ) : Type 0 where
  pub count : Fits w64 (n + 1)
  pub taken : Fits w64 (2 + length fs)
  pub place : Fits w64 (at + (2 + length fs))
  pub less : length bs - (at + (2 + length fs)) < length bs - at

module _ {S : Type 0} (step : S → Mark → List ℕ → Next S) where
  -- before a record: the place lies within the bytes, each record taken had a byte, and the whole run is what is left to run
  pub record Going (first : S) (bs : List ℕ) (s : S) (n at : ℕ) : Type 0 where
    pub within : at ≤ length bs
    pub fewer : n ≤ at
    pub left : ran step first bs ≡ counted n (ran step s (drop at bs))

  pub going_start : (s : S) (bs : List ℕ) → Going s bs s 0 0
  going_start s bs = record { within = omega arith; fewer = omega arith; left = run_start step s bs }

  pub going_fits : (first s : S) (n at : ℕ) (bs : List ℕ) (m : Mark) (fs : List ℕ) → Going first bs s n at → read (part at bs) ≡ is.Whole m
      → fs ≡ fields m (part at bs) → length bs < 2 ^ 64 → Fitting bs fs n at
  going_fits first s n at bs m fs g e f room =
      let few = g.fewer in
      let fit = next_fits at bs m fs g.within e f in
      record {
        count = record { fits = omega arith };
        taken = record { fits = omega arith };
        place = record { fits = omega arith };
        less = omega arith;
      }

  -- what a record that was tried says of the step
  next_goes : (s t : S) (x : Next S) → record { state = t; turn = Continue tt } ≡ taken_or_not s x → x ≡ goes t
  next_goes s t (goes u) e = ap goes (sym (ap (λ (r : Tried S). r.state) e))
  next_goes s t (stops n) e = absurd (let f = ap (λ (r : Tried S). r.turn) e in let z : ◌≡◌ {A = ℕ} 0 1 = cc in omega arith)
  next_goes s t leaves e = absurd (let f = ap (λ (r : Tried S). r.turn) e in let z : ◌≡◌ {A = ℕ} 0 1 = cc in omega arith)

  pub tried_goes : (s t : S) (m : Mark) (fs : List ℕ) (u : ControlFlow End ⊤) → record { state = t; turn = u } ≡ tried step s m fs → NotBreak u
      → step s m fs ≡ goes t
  unfolding tried
  tried_goes s t m fs (Continue tt) h e = next_goes s t (step s m fs) h
  tried_goes s t m fs (Break x) h e = absurd (e x refl)

  -- a record was taken
  pub going_on : (first s t : S) (n at : ℕ) (bs : List ℕ) (m : Mark) (fs : List ℕ) → Going first bs s n at → read (part at bs) ≡ is.Whole m
      → fs ≡ fields m (part at bs) → step s m fs ≡ goes t → Going first bs t (n + 1) (at + (2 + length fs))
  going_on first s t n at bs m fs g e f q =
      let d = part_drop at bs in
      let r = ap read (sym d) ∙ e in
      let w = g.within in
      let l = g.fewer in
      let z : at + (2 + length fs) ≡ at + (2 + size m) = omega (arith, ap length f ∙ whole_fields (part at bs) m e) in
      record {
        within = omega (arith, whole_fits at bs m w r);
        fewer = omega arith;
        left =
            g.left
            ∙ run_goes step at bs s t n m r (ap (step s m) (ap (fields m) (sym d) ∙ sym f) ∙ q)
            ∙ ap (λ k. counted (n + 1) (ran step t (drop k bs))) (sym z);
      }

  -- the loop is over at a record: the state is the one before it
  next_over : (s t : S) (n : ℕ) (bs : List ℕ) (m : Mark) (x : Next S) (e : End) → read bs ≡ is.Whole m → step s m (fields m bs) ≡ x
      → record { state = t; turn = Break e } ≡ taken_or_not s x → ended t n bs e ≡ counted n (ran step s bs)
  next_over s t n bs m (goes u) e w q h = absurd (let f = ap (λ (r : Tried S). r.turn) h in let z : ◌≡◌ {A = ℕ} 0 1 = cc in omega arith)
  next_over s t n bs m (stops k) e w q h =
      ap (λ (r : Tried S). ended r.state n bs (over r.turn)) h ∙ sym (run_stops step s n bs m k w q)
  next_over s t n bs m leaves e w q h =
      ap (λ (r : Tried S). ended r.state n bs (over r.turn)) h ∙ sym (run_leaves step s n bs m w q)

  pub going_over : (first s t : S) (n at : ℕ) (bs : List ℕ) (m : Mark) (fs : List ℕ) (u : ControlFlow End ⊤) (e : End) → Going first bs s n at
      → read (part at bs) ≡ is.Whole m → fs ≡ fields m (part at bs) → record { state = t; turn = u } ≡ tried step s m fs → u ≡ Break e
      → ended t n (drop at bs) e ≡ ran step first bs
  unfolding tried
  going_over first s t n at bs m fs u e g w f h o =
      let d = part_drop at bs in
      ap (λ p. ended t n p e) (sym d)
      ∙ next_over s t n (part at bs) m (step s m (fields m (part at bs))) e w refl
      (ap (λ x. record { state = t; turn = x }) (sym o) ∙ h ∙ ap (λ x. taken_or_not s (step s m x)) f)
      ∙ ap (λ p. counted n (ran step s p)) d
      ∙ sym g.left

  -- no record is whole
  none_whole : (s : S) (n : ℕ) (bs : List ℕ) (x : Record) → read bs ≡ x → NotWhole x → ended s n bs (ends x) ≡ counted n (ran step s bs)
  none_whole s n bs (is.Whole m) w h = absurd (h m refl)
  none_whole s n bs is.Cut w h = sym (run_cut step s n bs w)
  none_whole s n bs is.Unknown w h = sym (run_unknown step s n bs w)

  pub going_ends : (first s : S) (n at : ℕ) (bs : List ℕ) (x : Record) (e : End) → Going first bs s n at → x ≡ read (part at bs) → NotWhole x
      → e ≡ ending (part at bs) → ended s n (drop at bs) e ≡ ran step first bs
  unfolding ending
  going_ends first s n at bs x e g w h o =
      let d = part_drop at bs in
      ap (λ p. ended s n p e) (sym d)
      ∙ ap (ended s n (part at bs)) (o ∙ ap ends (sym w))
      ∙ none_whole s n (part at bs) x (sym w) h
      ∙ ap (λ p. counted n (ran step s p)) d
      ∙ sym g.left
