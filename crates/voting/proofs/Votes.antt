-- A record in the third turn, as the code tries it: a vote, a block, a record out of turn. Each keeps the shape.
use mathlib.Core.List.{List}
use mathlib.Core.Path.{◌≡◌, refl, sym, ap, subst, ◌∙◌}
use Prim.Native.Nat.{ℕ, ◌+◌, ◌≤◌}
use native.Mathlib.Omega.{arith}
use lib.ListN.{length}
use Rattle.sizes.specs.Sizes.{BLOCKS}
use Rattle.blocks.specs.declared.BlockTable.{BlockTable}
use Rattle.context.specs.declared.Phase.{Phase}
use Rattle.context.specs.declared.Phase.TheVariants.{Prevote, Precommit}
use Rattle.tracker.specs.declared.Pair.{Pair}
use Rattle.judging.specs.declared.ImportResult.{ImportResult}
use Rattle.judging.specs.declared.ImportResult.TheVariants.{Outside, Counted, Duplicated, Equivocated, Ignored}
use Rattle.importing.specs.Import.{Frame, Held, Taken, Ready, import, with_table}
use Rattle.held_laws.specs.Kept.{Kept, Untaken}
use Rattle.held_laws.proofs.Parts.{kept_ready}
use Rattle.held_laws.proofs.Keeps.{import_keeps, import_refused}
use Rattle.held_laws.proofs.Adds.{adding_keeps}
use Rattle.marks.specs.declared.Mark.{Mark}
use Rattle.marks.specs.declared.Mark.TheVariants.{Vt, Rt, Bk, Op, Pv, Pc}
use Rattle.marks.specs.declared.End.TheVariants as end
use Rattle.marks.specs.Marks.{size, word}
use Rattle.runs.specs.Run.{Next, goes, stops, leaves}
use Rattle.runs.specs.Tried.{Tried, taken_or_not, tried}
use Rattle.runs.proofs.Loops.{Going}
use Rattle.growing.specs.Growing.{grown, added}
use Rattle.growing.proofs.Adds.{added_tried}
use Rattle.voting.specs.declared.Kind.TheVariants as kind
use Rattle.voting.specs.Voting.{Voting, both, pair_in, answered, turn_of, kind_of, counted, with_blocks, voted}
use Rattle.std.specs.Prelude.{Result, Ok, Err, ⊤}
use Rattle.refusals.specs.declared.Refusal.{Refusal}
use Rattle.refusals.specs.declared.Refusal.TheVariants.{OutOfTurn}
use Rattle.std.specs.declared.ops.ControlFlow.{ControlFlow}
use Rattle.std.specs.declared.ops.ControlFlow.TheVariants.{Continue, Break}
use Rattle.marks.specs.declared.End.{End}
use Rattle.std.specs.declared.ops.ControlFlow.{ControlFlow}
use Rattle.std.specs.declared.ops.ControlFlow.TheVariants.{Continue, Break}

-- marks by what they are in this turn, and the bytes of their fields
pub is_block : (m : Mark) → kind.Block ≡ kind_of m → m ≡ Bk
is_block Bk e = refl
is_block Pv e = absurd (let z : ◌≡◌ {A = ℕ} 0 1 = cc in omega arith)
is_block Pc e = absurd (let z : ◌≡◌ {A = ℕ} 0 1 = cc in omega arith)
is_block Vt e = absurd (let z : ◌≡◌ {A = ℕ} 0 1 = cc in omega arith)
is_block Rt e = absurd (let z : ◌≡◌ {A = ℕ} 0 1 = cc in omega arith)
is_block Op e = absurd (let z : ◌≡◌ {A = ℕ} 0 1 = cc in omega arith)

pub vote_size : (m : Mark) (phase : Phase) → kind.Vote phase ≡ kind_of m → size m ≡ 20
vote_size Pv phase e = refl
vote_size Pc phase e = refl
vote_size Bk phase e = absurd (let z : ◌≡◌ {A = ℕ} 0 1 = cc in omega arith)
vote_size Vt phase e = absurd (let z : ◌≡◌ {A = ℕ} 0 1 = cc in omega arith)
vote_size Rt phase e = absurd (let z : ◌≡◌ {A = ℕ} 0 1 = cc in omega arith)
vote_size Op phase e = absurd (let z : ◌≡◌ {A = ℕ} 0 1 = cc in omega arith)

-- the voter is the first of four words or more
pub vote_room : (m : Mark) (phase : Phase) (fs : List ℕ) → length fs ≡ size m → kind.Vote phase ≡ kind_of m → 0 + 4 ≤ length fs
vote_room m phase fs l e = omega (arith, l ∙ vote_size m phase e)

module _ (f : Frame) (h : Held) where
  -- a Pv or Pc record
  abbrev cast : Phase → ℕ → Pair → Taken
  cast phase signer p = import f phase signer p h

  -- what a vote leaves
  answered_tried : (i : Held) (a : Result ImportResult Refusal) → ((n : Refusal) → a ≡ Err n → i ≡ h)
      → record { state = both f i; turn = turn_of a } ≡ taken_or_not (both f h) (answered (both f i) a)
  answered_tried i (Err n) same = ap (λ j. record { state = both f j; turn = Break (end.Refused n) }) (same n refl)
  answered_tried i (Ok Outside) same = refl
  answered_tried i (Ok Counted) same = refl
  answered_tried i (Ok Duplicated) same = refl
  answered_tried i (Ok (Equivocated e)) same = refl
  answered_tried i (Ok Ignored) same = refl

  unmoved : (phase : Phase) (signer : ℕ) (p : Pair) (n : Refusal) → (cast phase signer p).answer ≡ Err n → (cast phase signer p).held ≡ h
  unmoved phase signer p n e = import_refused f phase signer p h (subst Untaken (sym e) tt)

  counted_tried : (phase : Phase) (fs : List ℕ)
      → record { state = both f (cast phase (word fs 0) (pair_in fs)).held; turn = turn_of (cast phase (word fs 0) (pair_in fs)).answer }
      ≡ taken_or_not (both f h) (counted phase (both f h) fs)
  unfolding counted
  counted_tried phase fs =
      let t = cast phase (word fs 0) (pair_in fs) in answered_tried t.held t.answer (unmoved phase (word fs 0) (pair_in fs))

  by_kind : (m : Mark) (phase : Phase) (fs : List ℕ) → kind.Vote phase ≡ kind_of m
      → taken_or_not (both f h) (counted phase (both f h) fs) ≡ tried voted (both f h) m fs
  unfolding tried voted
  by_kind Pv phase fs e = ap (λ p. taken_or_not (both f h) (counted p (both f h) fs)) (let s : phase ≡ Prevote = cc in s)
  by_kind Pc phase fs e = ap (λ p. taken_or_not (both f h) (counted p (both f h) fs)) (let s : phase ≡ Precommit = cc in s)
  by_kind Bk phase fs e = absurd (let z : ◌≡◌ {A = ℕ} 0 1 = cc in omega arith)
  by_kind Vt phase fs e = absurd (let z : ◌≡◌ {A = ℕ} 0 1 = cc in omega arith)
  by_kind Rt phase fs e = absurd (let z : ◌≡◌ {A = ℕ} 0 1 = cc in omega arith)
  by_kind Op phase fs e = absurd (let z : ◌≡◌ {A = ℕ} 0 1 = cc in omega arith)

  -- what a block leaves
  abbrev among : Tried BlockTable → Tried Voting
  among r = record { state = both (with_table f r.state) h; turn = r.turn }

  blocks_tried : (x : Next BlockTable) → among (taken_or_not f.table x) ≡ taken_or_not (both f h) (with_blocks (both f h) x)
  blocks_tried (goes t) = refl
  blocks_tried (stops n) = refl
  blocks_tried leaves = refl

  bk_tried : (fs : List ℕ) → among (tried grown f.table Bk fs) ≡ tried voted (both f h) Bk fs
  unfolding tried voted
  bk_tried fs = blocks_tried (grown f.table Bk fs)

  -- records keep the shape
  module _ (k : Kept f h) where
    pub vote_ready : Ready f h
    vote_ready = kept_ready f h k

    pub vote_done : (m : Mark) (phase : Phase) (fs : List ℕ) (signer : ℕ) (p : Pair) → kind.Vote phase ≡ kind_of m → signer ≡ word fs 0 → p ≡ pair_in fs
        → (a : Result ImportResult Refusal) (i : Held) → record { answer = a; held = i } ≡ import f phase signer p h → (x : ControlFlow End ⊤) → x ≡ turn_of a
        → record { state = both f i; turn = x } ≡ tried voted (both f h) m fs
    vote_done m phase fs signer p b s q a i e x v =
        ap (λ y. record { state = both f i; turn = y }) v
        ∙ ap (λ (t : Taken). record { state = both f t.held; turn = turn_of t.answer })
        (e ∙ ap (λ n. import f phase n p h) s ∙ ap (λ y. import f phase (word fs 0) y h) q)
        ∙ counted_tried phase fs
        ∙ by_kind m phase fs b

    pub block_room : f.table.count ≤ BLOCKS
    block_room = k.table.few

    pub block_done : (m : Mark) (fs : List ℕ) → kind.Block ≡ kind_of m → (t : BlockTable) (x : ControlFlow End ⊤)
        → record { state = t; turn = x } ≡ tried grown f.table Bk fs
        → record { state = both (with_table f t) h; turn = x } ≡ tried voted (both f h) m fs
    block_done m fs b t x e = ap among e ∙ bk_tried fs ∙ ap (λ y. tried voted (both f h) y fs) (sym (is_block m b))

    pub other_done : (m : Mark) (fs : List ℕ) → kind.Other ≡ kind_of m
        → record { state = both f h; turn = Break (end.Refused OutOfTurn) } ≡ tried voted (both f h) m fs
    unfolding tried voted
    other_done Vt fs e = refl
    other_done Rt fs e = refl
    other_done Op fs e = refl
    other_done Bk fs e = absurd (let z : ◌≡◌ {A = ℕ} 0 1 = cc in omega arith)
    other_done Pv fs e = absurd (let z : ◌≡◌ {A = ℕ} 0 1 = cc in omega arith)
    other_done Pc fs e = absurd (let z : ◌≡◌ {A = ℕ} 0 1 = cc in omega arith)

    counted_keeps : (phase : Phase) (fs : List ℕ) → let s = (taken_or_not (both f h) (counted phase (both f h) fs)).state in Kept s.frame s.held
    counted_keeps phase fs =
        subst (λ (r : Tried Voting). Kept r.state.frame r.state.held) (counted_tried phase fs)
        (import_keeps f h k phase (word fs 0) (pair_in fs))

    block_keeps : (fs : List ℕ) → let s = (tried voted (both f h) Bk fs).state in Kept s.frame s.held
    unfolding added
    block_keeps fs =
        subst (λ (r : Tried Voting). Kept r.state.frame r.state.held) (ap among (added_tried f.table fs) ∙ bk_tried fs)
        (adding_keeps f h k (word fs 0) (word fs 4))

    tried_keeps : (m : Mark) (fs : List ℕ) → let s = (tried voted (both f h) m fs).state in Kept s.frame s.held
    unfolding tried voted
    tried_keeps Bk fs = block_keeps fs
    tried_keeps Pv fs = counted_keeps Prevote fs
    tried_keeps Pc fs = counted_keeps Precommit fs
    tried_keeps Vt fs = k
    tried_keeps Rt fs = k
    tried_keeps Op fs = k

    -- whatever a record leaves keeps the shape
    pub record_keeps : (m : Mark) (fs : List ℕ) (g : Frame) (i : Held) (x : ControlFlow End ⊤)
        → record { state = both g i; turn = x } ≡ tried voted (both f h) m fs → Kept g i
    record_keeps m fs g i x e = subst (λ (r : Tried Voting). Kept r.state.frame r.state.held) (sym e) (tried_keeps m fs)

    -- the same of the step
    pub voted_kept : (m : Mark) (fs : List ℕ) (v : Voting) → voted (both f h) m fs ≡ goes v → Kept v.frame v.held
    unfolding tried
    voted_kept m fs v e = record_keeps m fs v.frame v.held (Continue tt) (ap (taken_or_not (both f h)) (sym e))

-- what holds before each record of the loop
abbrev pub VotedSoFar : Frame → Held → List ℕ → Frame → Held → ℕ → ℕ → Type 0
VotedSoFar f₀ h₀ bs f h n at = Going voted (both f₀ h₀) bs (both f h) n at × Kept f h
