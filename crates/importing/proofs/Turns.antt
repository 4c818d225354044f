-- The ways through `import`: what each verdict lets the code do, and that what is done is the step.
use mathlib.Core.List.{List}
use mathlib.Core.Path.{◌≡◌, refl}
use mathlib.Core.Logic.{◌≢◌}
use Prim.Native.Nat.{ℕ, ◌<◌}
use native.Mathlib.Omega.{arith}
use lib.Dec.{T}
use Rattle.sizes.specs.Sizes.{VOTERS, HISTORY}
use Rattle.layouts.specs.Layout.{entry}
use Rattle.columns.specs.Find.{find}
use Rattle.columns.proofs.Finds.{find_at}
use Rattle.voter_info.specs.declared.VoterInfo.{VoterInfo}
use Rattle.voter_info.specs.Info.{look_up}
use Rattle.blocks.specs.Add.{place_of}
use Rattle.bitfield.specs.Bits.{put}
use Rattle.context.specs.declared.Phase.{Phase}
use Rattle.context.specs.Votes.{bit}
use Rattle.context.proofs.Places.{bit_few}
use Rattle.nodes.specs.Nodes.{col, flag}
use Rattle.nodes.specs.Columns.{Columns}
use Rattle.vote_insert.specs.Insert.{Insertable, inserted}
use Rattle.vote_insert.proofs.Keeps.{insertable, sound_inserted}
use Rattle.tracker.specs.declared.Pair.{Pair}
use Rattle.tracker.specs.Recorded.{first_pair}
use Rattle.tracker.specs.Votes.{with_first, with_second}
use Rattle.judging.specs.declared.ImportResult.TheVariants.{Counted, Equivocated}
use Rattle.judging.specs.declared.Verdict.TheVariants.{First, Second}
use Rattle.judging.proofs.Voters.{position_inside}
use Rattle.judging.proofs.Judged.{Aimed, judged_first, judged_second}
use Rattle.answers.specs.declared.Answers.{Answers}
use Rattle.answers.specs.declared.Heard.{Heard}
use Rattle.answers.specs.Update.{scene, told_after, Grounded}
use Rattle.importing.specs.Import.{Frame, Held, Taken, Ready, with_answers, with_pair, with_heard, verdict, import}
use Rattle.std.specs.Prelude.{Option, Some, None, Ok}

-- a block that is found is in the table
pub placed_in : (ids : List ℕ) (count id b : ℕ) → place_of ids count id ≡ Some b → b < count
unfolding place_of
placed_in ids count id b e = go (find ids count id) refl e
  where
    go : (o : Option ℕ) → find ids count id ≡ o → o ≡ Some b → b < count
    go (Some k) q r = let i : k ≡ b = cc in omega (arith, (find_at ids count id k q).inside)
    go None q r = absurd (let z : ◌≡◌ {A = ℕ} 0 1 = cc in omega arith)

module _ (f : Frame) (h : Held) (ready : Ready f h) (phase : Phase) (signer : ℕ) (p : Pair) where
  module _ (v : VoterInfo) (b : ℕ) (e : verdict f phase signer p h ≡ First v b) where
    said : (look_up f.voters.ids f.voters.weights f.voters.count signer ≡ Some v) × (col h.votes.counts (bit phase v.position) ≡ 0)
        × Aimed f.table.ids f.table.numbers f.table.parents f.table.count f.base p b
    said =
        judged_first f.voters.ids f.voters.weights f.voters.count f.table.ids f.table.numbers f.table.parents f.table.count
        f.base h.votes phase signer p v b e

    pub first_place : v.position < VOTERS
    first_place = omega (arith, position_inside f.voters.ids f.voters.weights f.voters.count signer v said.0, ready.voters_few)

    pub first_room : h.count < HISTORY
    first_room = ready.room (bit phase v.position) (bit_few phase v.position first_place) (omega (arith, said.1))

    in_table : b < f.table.count
    in_table = placed_in f.table.ids f.table.count p.target b said.2.placed

    apart : (y : ℕ) → T (flag h.graph.used y) → y ≢ b → col f.table.ids y ≢ col f.table.ids b
    apart y u d = ready.apart y b (ready.sound.nodes.tabled y u) in_table d

    pub first_insertable : Insertable f.table.parents f.table.ids b h.graph
    first_insertable =
        insertable f.table.parents f.table.ids f.base f.table.count b said.2.inside in_table h.graph ready.sound apart

    pub first_grounded : (j : ℕ) (g : Columns) → g ≡ inserted f.table.parents f.table.ids f.base b j h.graph
        → Grounded f.table.parents f.base g
    first_grounded j g q =
        rw q (record {
          ids = f.table.ids;
          count = f.table.count;
          sound = sound_inserted f.table.parents f.table.ids f.base f.table.count b said.2.inside in_table h.graph ready.sound apart j;
        })

  module _ (v : VoterInfo) (a : Pair) (e : verdict f phase signer p h ≡ Second v a) where
    spoken : (look_up f.voters.ids f.voters.weights f.voters.count signer ≡ Some v) × (col h.votes.counts (bit phase v.position) ≡ 1)
        × (a ≡ first_pair h.votes.first_block h.votes.first_signature f.table.ids f.table.numbers (bit phase v.position))
    spoken =
        judged_second f.voters.ids f.voters.weights f.voters.count f.table.ids f.table.numbers f.table.parents f.table.count
        f.base h.votes phase signer p v a e

    pub second_place : v.position < VOTERS
    second_place = omega (arith, position_inside f.voters.ids f.voters.weights f.voters.count signer v spoken.0, ready.voters_few)

    pub second_room : h.count < HISTORY
    second_room = ready.room (bit phase v.position) (bit_few phase v.position second_place) (omega (arith, spoken.1))

    pub second_grounded : Grounded f.table.parents f.base h.graph
    second_grounded = record { ids = f.table.ids; count = f.table.count; sound = ready.sound }

-- what is done is the step
module _ (f : Frame) (h : Held) (ready : Ready f h) (phase : Phase) (signer : ℕ) (p : Pair) where
  pub first_done : (v : VoterInfo) (b : ℕ) → verdict f phase signer p h ≡ First v b → (j : ℕ) → j ≡ bit phase v.position
      → (x : ℕ) → x ≡ entry j 0
      → (g : Columns) → g ≡ inserted f.table.parents f.table.ids f.base b j h.graph
      → (w : Heard) → w ≡ with_heard phase v.weight.0 h.heard
      → (a : Answers)
      → a ≡ told_after (scene f.table.parents f.base f.voters.weights f.voters.threshold g h.equivocations) f.voters.total w phase h.answers
      → ◌≡◌ {A = Taken}
      (record {
        answer = Ok Counted;
        held = with_answers (with_pair h g (with_first h.votes j b p.signature) x h.equivocations w) a;
      })
      (import f phase signer p h)
  unfolding import
  first_done v b e j i x y g q w r a s = rw (e, s, r, q, y, i)

  pub second_done : (v : VoterInfo) (c : Pair) → verdict f phase signer p h ≡ Second v c → (j : ℕ) → j ≡ bit phase v.position
      → (x : ℕ) → x ≡ entry j 1
      → (z : List ℕ) → z ≡ put h.equivocations j
      → (a : Answers)
      → a ≡ told_after (scene f.table.parents f.base f.voters.weights f.voters.threshold h.graph z) f.voters.total h.heard phase h.answers
      → ◌≡◌ {A = Taken}
      (record {
        answer = Ok (Equivocated (record { number = f.number; identity = signer; first = c; second = p }));
        held =
            with_answers
            (with_pair h h.graph (with_second h.votes j p.target p.number p.signature) x z h.heard) a;
      })
      (import f phase signer p h)
  unfolding import
  second_done v c e j i x y z q a s = rw (e, s, q, y, i)
