-- What a first vote and a second do to a round that keeps the shape, as steps of the setting.
use mathlib.Core.Path.{◌≡◌, sym, ap, subst, fun_ext, ◌∙◌}
use mathlib.Core.Logic.{◌≢◌}
use Prim.Native.Nat.{ℕ, ◌≤◌, ◌<◌}
use native.Mathlib.Omega.{arith}
use lib.Dec.{T}
use lib.ListN.{get_or}
use Rattle.sizes.specs.Sizes.{VOTES}
use Rattle.weights.specs.Weights.{most}
use Rattle.loops.proofs.Sums.{weigh_le}
use Rattle.grandpa.specs.Tree.{below}
use Rattle.grandpa.specs.Vote.{Vote, silent, once, spoke}
use Rattle.voter_info.specs.declared.VoterInfo.{VoterInfo}
use Rattle.voter_info.specs.Info.{look_up}
use Rattle.voter_laws.proofs.Goods.{total_used}
use Rattle.context.specs.declared.Phase.{Phase}
use Rattle.context.specs.declared.Phase.TheVariants.{Prevote, Precommit}
use Rattle.context.specs.Votes.{bit}
use Rattle.context.proofs.Places.{bit_few}
use Rattle.nodes.specs.Nodes.{col, flag}
use Rattle.tracker.specs.declared.Pair.{Pair}
use Rattle.tracker.specs.Recorded.{first_pair, cast}
use Rattle.tracker.specs.Votes as column
use Rattle.vote_shape_laws.proofs.Recordings.{cast_first}
use Rattle.judging.specs.declared.Verdict.TheVariants.{First, Second}
use Rattle.judging.proofs.Voters.{position_inside}
use Rattle.judging.proofs.Judged.{Aimed, judged_first, judged_second}
use Rattle.answers.specs.declared.Heard.{Heard}
use Rattle.answer_laws.specs.Faithful.{Setting, voters, votes, heard_in, Faithful}
use Rattle.answer_laws.specs.Tells.{after, first_vote, second_vote}
use Rattle.answer_laws.proofs.Recorded.{first_faithful, second_faithful}
use Rattle.importing.specs.Import.{Frame, Held, with_first, with_second, verdict}
use Rattle.importing.proofs.Turns.{placed_in}
use Rattle.held_laws.specs.Kept.{setting, Kept}
use Rattle.held_laws.proofs.Parts.{cast_silent, kept_faithful, kept_apart}
use Rattle.held_laws.proofs.Votes.{weight_there, cast_second, cast_once, heard_louder}
use Rattle.std.specs.Prelude.{Some}

-- heard weights fit
heard_fits : (k : Setting) → Faithful k → (phase : Phase) → heard_in phase k.heard ≤ most
heard_fits k f Prevote =
    omega (arith, f.prevotes_heard, weigh_le k.set.count (voters k).weight (λ p. spoke (votes k Prevote p)), total_used k.set f.good, f.fits)
heard_fits k f Precommit =
    omega (arith, f.precommits_heard, weigh_le k.set.count (voters k).weight (λ p. spoke (votes k Precommit p)), total_used k.set f.good, f.fits)

module _ (f : Frame) (h : Held) (k : Kept f h) (phase : Phase) (signer : ℕ) (p : Pair) where
  -- a first vote
  module _ (v : VoterInfo) (b : ℕ) (e : verdict f phase signer p h ≡ First v b) where
    said : (look_up f.voters.ids f.voters.weights f.voters.count signer ≡ Some v) × (col h.votes.counts (bit phase v.position) ≡ 0)
        × Aimed f.table.ids f.table.numbers f.table.parents f.table.count f.base p b
    said =
        judged_first f.voters.ids f.voters.weights f.voters.count f.table.ids f.table.numbers f.table.parents f.table.count
        f.base h.votes phase signer p v b e

    pub first_silent : col h.votes.counts (bit phase v.position) ≡ 0
    first_silent = said.1

    pub first_quiet : votes (setting f h) phase v.position ≡ silent
    first_quiet = cast_silent h.votes (bit phase v.position) first_silent

    pub first_in_set : v.position < f.voters.count
    first_in_set = position_inside f.voters.ids f.voters.weights f.voters.count signer v said.0

    pub first_in_base : T (below (col f.table.parents) f.base b)
    first_in_base = said.2.inside

    pub first_in_table : b < f.table.count
    first_in_table = placed_in f.table.ids f.table.count p.target b said.2.placed

    pub first_apart : (y : ℕ) → T (flag h.graph.used y) → y ≢ b → col f.table.ids y ≢ col f.table.ids b
    first_apart y u d = kept_apart f h k y b (k.sound.nodes.tabled y u) first_in_table d

    pub first_few : bit phase v.position < VOTES
    first_few = bit_few phase v.position (omega (arith, first_in_set, k.good.few))

    faithful_first : Faithful (first_vote (setting f h) phase v.position b)
    faithful_first =
        first_faithful (setting f h) (kept_faithful f h k) phase v.position first_in_set b first_quiet k.sound first_in_base first_in_table first_apart

    pub setting_first : setting f (with_first f phase v b p h) ≡ first_vote (setting f h) phase v.position b
    setting_first =
        let n = first_vote (setting f h) phase v.position b in
        ap (λ (w : Heard). after (setting f h) n.graph h.equivocations w (cast (column.with_first h.votes (bit phase v.position) b p.signature)))
        (heard_louder phase v.weight.0 (get_or f.voters.weights v.position 0) h.heard
        (weight_there f.voters.ids f.voters.weights f.voters.count signer v said.0) (heard_fits n faithful_first phase))
        ∙ ap (λ (c : ℕ → Vote). after (setting f h) n.graph h.equivocations n.heard c)
        (fun_ext (cast_first h.votes k.wide (bit phase v.position) first_few b p.signature))

    pub first_kept_faithful : Faithful (setting f (with_first f phase v b p h))
    first_kept_faithful = subst Faithful (sym setting_first) faithful_first

  -- a second
  module _ (v : VoterInfo) (a : Pair) (e : verdict f phase signer p h ≡ Second v a) where
    spoken : (look_up f.voters.ids f.voters.weights f.voters.count signer ≡ Some v) × (col h.votes.counts (bit phase v.position) ≡ 1)
        × (a ≡ first_pair h.votes.first_block h.votes.first_signature f.table.ids f.table.numbers (bit phase v.position))
    spoken =
        judged_second f.voters.ids f.voters.weights f.voters.count f.table.ids f.table.numbers f.table.parents f.table.count
        f.base h.votes phase signer p v a e

    pub second_once : col h.votes.counts (bit phase v.position) ≡ 1
    second_once = spoken.1

    pub second_in_set : v.position < f.voters.count
    second_in_set = position_inside f.voters.ids f.voters.weights f.voters.count signer v spoken.0

    pub second_few : bit phase v.position < VOTES
    second_few = bit_few phase v.position (omega (arith, second_in_set, k.good.few))

    pub second_spoken : votes (setting f h) phase v.position ≡ once (col h.votes.first_block (bit phase v.position))
    second_spoken = cast_once h.votes k.wide (bit phase v.position) second_few second_once

    pub setting_second : setting f (with_second phase v p h)
        ≡ second_vote (setting f h) phase v.position (col h.votes.first_block (bit phase v.position))
    setting_second =
        let n = second_vote (setting f h) phase v.position (col h.votes.first_block (bit phase v.position)) in
        ap (λ (c : ℕ → Vote). after (setting f h) h.graph n.equivocations h.heard c)
        (fun_ext (cast_second h.votes k.wide (bit phase v.position) second_few p.target p.number p.signature))

    pub second_kept_faithful : Faithful (setting f (with_second phase v p h))
    second_kept_faithful =
        subst Faithful (sym setting_second) (second_faithful (setting f h) (kept_faithful f h k) phase v.position second_in_set _ second_spoken)
