-- A vote that is counted, and one that makes an equivocation, is recorded, and nothing else is.
use mathlib.Core.Bool.{false}
use mathlib.Core.List.{List}
use mathlib.Core.Path.{◌≡◌, refl, sym, ap, subst, ◌∙◌}
use mathlib.Core.Logic.{◌≢◌}
use Prim.Native.Nat.{ℕ, ◌<◌}
use native.Mathlib.Omega.{arith}
use lib.Dec.{T}
use lib.ListN.{get_or}
use lib.Seq.{get_or-set_same, get_or-set_other}
use Rattle.sizes.specs.Sizes.{VOTES}
use Rattle.loops.proofs.Tests.{true_T, false_not, dec_T, left_of, right_of}
use Rattle.voter_info.specs.declared.VoterInfo.{VoterInfo}
use Rattle.voter_info.specs.Info.{look_up}
use Rattle.voter_laws.proofs.Goods.{one_place}
use Rattle.voter_laws.proofs.Lookups.{voter_at, get_says}
use Rattle.voter_set.specs.Good.{good}
use Rattle.blocks.specs.Table.{Stands}
use Rattle.grandpa.specs.Tree.{below}
use Rattle.vote_graph.specs.Shape.{is_graph}
use Rattle.context.specs.declared.Phase.{Phase}
use Rattle.context.specs.Votes.{bit}
use Rattle.context.proofs.Places.{bit_one, bit_few}
use Rattle.nodes.specs.Nodes.{col}
use Rattle.tracker.specs.declared.Votes.{Votes}
use Rattle.tracker.specs.declared.Pair.{Pair}
use Rattle.tracker.specs.declared.VoteMultiplicity.{VoteMultiplicity}
use Rattle.tracker.specs.declared.VoteMultiplicity.TheVariants as recorded
use Rattle.tracker.specs.Recorded.{same, first_pair, recorded}
use Rattle.tracker.specs.Votes.{Wide, with_first, with_second}
use Rattle.judging.specs.declared.Equivocation.{Equivocation}
use Rattle.judging.specs.declared.ImportResult.{ImportResult}
use Rattle.judging.specs.declared.ImportResult.TheVariants as vote
use Rattle.judging.specs.declared.Verdict.{Verdict}
use Rattle.judging.specs.declared.Verdict.TheVariants as verdicts
use Rattle.judging.proofs.Judged.{spoke_once, judged_first, judged_second}
use Rattle.importing.specs.Import.{apply, import}
use Rattle.round.specs.declared.Round.{Round}
use Rattle.round.specs.Shape.{frame, held, sized, shaped}
use Rattle.round.specs.Calls.{imported, import_vote}
use Rattle.round.proofs.Steps.{sized_says}
use Rattle.round_laws.proofs.Refusals.{import_nine}
use Rattle.two_views.proofs.Rounds.{voters_good}
use Rattle.demands.specs.First.{Keeps, VoterAt, recorded_of, FirstVote, Rule, refused, stranger, first, again, first_again, second_again, second, third, Records}
use Rattle.demands.proofs.Voting.{judged, judged_by, aimed_first, answer_rule}
use Rattle.std.specs.Prelude.{Some, Result, Ok}
use Rattle.refusals.specs.declared.Refusal.{Refusal}
use Rattle.round.specs.declared.After.{After}

module _ (v : Votes) (ids numbers : List ℕ) (j : ℕ) where
  abbrev after_second : Pair → Votes
  after_second p = with_second v j p.target p.number p.signature

  module _ (w : Wide v) (few : j < VOTES) where
    first_here : (b signature : ℕ)
        → recorded (with_first v j b signature) ids numbers j ≡ recorded.Single (record { target = col ids b; number = col numbers b; signature = signature })
    unfolding recorded
    first_here b signature =
        rw (
          get_or-set_same v.counts j 1 0 (omega (arith, w.counts_size)),
          get_or-set_same v.first_block j b 0 (omega (arith, w.first_block_size)),
          get_or-set_same v.first_signature j signature 0 (omega (arith, w.first_signature_size)),
        )

    second_here : (p : Pair)
        → recorded (after_second p) ids numbers j ≡ recorded.Equivocated (first_pair v.first_block v.first_signature ids numbers j) p
    unfolding recorded
    second_here p =
        rw (
          get_or-set_same v.counts j 2 0 (omega (arith, w.counts_size)),
          get_or-set_same v.second_target j p.target 0 (omega (arith, w.second_target_size)),
          get_or-set_same v.second_number j p.number 0 (omega (arith, w.second_number_size)),
          get_or-set_same v.second_signature j p.signature 0 (omega (arith, w.second_signature_size)),
        )

  module _ (i : ℕ) (n : i ≢ j) where
    first_there : (b signature : ℕ) → recorded (with_first v j b signature) ids numbers i ≡ recorded v ids numbers i
    unfolding recorded
    first_there b signature =
        rw (get_or-set_other v.counts j i 1 0 n, get_or-set_other v.first_block j i b 0 n, get_or-set_other v.first_signature j i signature 0 n)

    second_there : (p : Pair) → recorded (after_second p) ids numbers i ≡ recorded v ids numbers i
    unfolding recorded
    second_there p =
        rw (
          get_or-set_other v.counts j i 2 0 n,
          get_or-set_other v.second_target j i p.target 0 n,
          get_or-set_other v.second_number j i p.number 0 n,
          get_or-set_other v.second_signature j i p.signature 0 n,
        )

module _ (r : Round) (phase : Phase) (signer : ℕ) (p : Pair) where
  abbrev recorded_in : Votes → Phase → ℕ → VoteMultiplicity
  recorded_in v i k = recorded v r.table.ids r.table.numbers (bit i k)

  abbrev next : Verdict → Votes
  next d = (apply (frame r) phase signer p (held r) d).held.votes

  -- by which rule a vote is counted
  abbrev pub CountedBy : Type 0
  CountedBy = (f : FirstVote r phase signer) × (b : ℕ) × Stands r.table p.target b × (col r.table.numbers b ≡ p.number)
      × T (below (col r.table.parents) r.graph.base b)

  pub counted_by : (a : Result ImportResult Refusal) → Rule r phase signer p a → a ≡ Ok vote.Counted → CountedBy
  counted_by _ (refused n d) q = absurd (let z : ◌≡◌ {A = ℕ} 0 1 = cc in omega arith)
  counted_by _ (stranger t f) q = absurd (let z : ◌≡◌ {A = ℕ} 0 1 = cc in omega arith)
  counted_by _ (first f b s e h) q = (f, b, s, e, h)
  counted_by _ (again t k v a e s) q = absurd (let z : ◌≡◌ {A = ℕ} 0 1 = cc in omega arith)
  counted_by _ (first_again t k v a b e s) q = absurd (let z : ◌≡◌ {A = ℕ} 0 1 = cc in omega arith)
  counted_by _ (second_again t k v a b e s u) q = absurd (let z : ◌≡◌ {A = ℕ} 0 1 = cc in omega arith)
  counted_by _ (second t k v a e s) q = absurd (let z : ◌≡◌ {A = ℕ} 0 1 = cc in omega arith)
  counted_by _ (third t k v a b e s u) q = absurd (let z : ◌≡◌ {A = ℕ} 0 1 = cc in omega arith)

  -- and by which it is an equivocation
  abbrev DoubledBy : Equivocation → Type 0
  DoubledBy x = (t : Keeps r) × (k : ℕ) × VoterAt r signer k × (recorded_of r phase k ≡ recorded.Single x.first) × (same x.first p ≡ false)

  doubled_by : (x : Equivocation) (a : Result ImportResult Refusal) → Rule r phase signer p a → a ≡ Ok (vote.Equivocated x) → DoubledBy x
  doubled_by x _ (refused n d) q = absurd (let z : ◌≡◌ {A = ℕ} 0 1 = cc in omega arith)
  doubled_by x _ (stranger t f) q = absurd (let z : ◌≡◌ {A = ℕ} 0 1 = cc in omega arith)
  doubled_by x _ (first f b s e h) q = absurd (let z : ◌≡◌ {A = ℕ} 0 1 = cc in omega arith)
  doubled_by x _ (again t k v a e s) q = absurd (let z : ◌≡◌ {A = ℕ} 0 1 = cc in omega arith)
  doubled_by x _ (first_again t k v a b e s) q = absurd (let z : ◌≡◌ {A = ℕ} 0 1 = cc in omega arith)
  doubled_by x _ (second_again t k v a b e s u) q = absurd (let z : ◌≡◌ {A = ℕ} 0 1 = cc in omega arith)
  doubled_by x _ (second t k v a e s) q =
      let same_pair : a ≡ x.first = ap (λ (y : Equivocation). y.first) (let i : ◌≡◌ {A = Equivocation} (record { number = r.number; identity = signer; first = a; second = p }) x = cc in i) in
      (t, k, v, e ∙ ap recorded.Single same_pair, ap (λ (y : Pair). same y p) (sym same_pair) ∙ s)
  doubled_by x _ (third t k v a b e s u) q = absurd (let z : ◌≡◌ {A = ℕ} 0 1 = cc in omega arith)

  module _ (t : Keeps r) where
    wide : Wide r.votes
    unfolding shaped
    wide =
        let a = right_of (is_graph r.graph r.table) _ t in
        let b = right_of (good r.context.voters) _ a in
        (sized_says r (left_of (sized (held r)) _ b)).wide

    recorded_next : (d : Verdict) → judged r phase signer p ≡ d → (i : Phase) (k : ℕ)
        → recorded_of (import_vote phase signer p r).round i k ≡ recorded_in (next d) i k
    unfolding import_vote imported import
    recorded_next d e i k = rw (true_T (shaped r) t) (ap (λ (x : Verdict). recorded_in (next x) i k) e)

    few : (k : ℕ) → VoterAt r signer k → bit phase k < VOTES
    few k a = bit_few phase k (omega (arith, a.inside, (voters_good r t).few))

    the_place : (j k : ℕ) → VoterAt r signer j → VoterAt r signer k → j ≡ k
    the_place j k a b = one_place r.context.voters (voters_good r t) j k a.inside b.inside (a.named ∙ sym b.named)

    apart : (v : VoterInfo) → look_up r.context.voters.ids r.context.voters.weights r.context.voters.count signer ≡ Some v
        → (other : Phase) (k : ℕ) → (other ≡ phase → VoterAt r signer k → ⊥) → bit other k ≢ bit phase v.position
    apart v e other k f q =
        let known = (get_says r.context.voters (voters_good r t) signer v e).0 in
        let b = bit_one other phase k v.position q in
        f b.0 (subst (λ (m : ℕ). VoterAt r signer m) (sym b.1) (record { inside = known.inside; named = known.is_id }))

    others_by : (d : Verdict) → judged r phase signer p ≡ d → (other : Phase) (k : ℕ) → (other ≡ phase → VoterAt r signer k → ⊥)
        → recorded_in (next d) other k ≡ recorded_of r other k
    others_by (verdicts.Nothing a) e other k f = refl
    others_by (verdicts.First v b) e other k f =
        first_there r.votes r.table.ids r.table.numbers (bit phase v.position) (bit other k)
        (apart v (judged_first r.context.voters.ids r.context.voters.weights r.context.voters.count r.table.ids r.table.numbers r.table.parents r.table.count r.graph.base r.votes phase signer p v b e).0 other k f)
        b p.signature
    others_by (verdicts.Second v a) e other k f =
        second_there r.votes r.table.ids r.table.numbers (bit phase v.position) (bit other k)
        (apart v (judged_second r.context.voters.ids r.context.voters.weights r.context.voters.count r.table.ids r.table.numbers r.table.parents r.table.count r.graph.base r.votes phase signer p v a e).0 other k f) p

  first_recorded : (import_vote phase signer p r).answer ≡ Ok vote.Counted → (k : ℕ) → VoterAt r signer k
      → recorded_of (import_vote phase signer p r).round phase k ≡ recorded.Single p
  first_recorded q k a =
      let c = counted_by (import_vote phase signer p r).answer (answer_rule r phase signer p) q in
      let t = c.0.keeps in
      let e = judged_by r phase signer p t c.0.place c.0.voter recorded.Silent c.0.silent ∙ aimed_first r phase signer p t c.0.place c.1 c.2 c.3 c.4 in
      subst (λ (m : ℕ). recorded_of (import_vote phase signer p r).round phase m ≡ recorded.Single p) (the_place t c.0.place k c.0.voter a)
      (recorded_next t (verdicts.First (voter_at r.context.voters c.0.place) c.1) e phase c.0.place
      ∙ first_here r.votes r.table.ids r.table.numbers (bit phase c.0.place) (wide t) (few t c.0.place c.0.voter) c.1 p.signature
      ∙ pair_is c.1 c.2.named c.3)
    where
      pair_is : (b : ℕ) → get_or r.table.ids b 0 ≡ p.target → col r.table.numbers b ≡ p.number
          → recorded.Single (record { target = col r.table.ids b; number = col r.table.numbers b; signature = p.signature }) ≡ recorded.Single p
      pair_is b i n = rw (i, n)

  second_recorded : (x : Equivocation) → (import_vote phase signer p r).answer ≡ Ok (vote.Equivocated x) → (k : ℕ) → VoterAt r signer k
      → recorded_of (import_vote phase signer p r).round phase k ≡ recorded.Equivocated x.first p
  second_recorded x q k a =
      let c = doubled_by x (import_vote phase signer p r).answer (answer_rule r phase signer p) q in
      let t = c.0 in
      let m = c.1 in
      let e : judged r phase signer p ≡ verdicts.Second (voter_at r.context.voters m) x.first =
      judged_by r phase signer p t m c.2 (recorded.Single x.first) c.3 ∙ rw c.4 in
      let once = spoke_once r.votes r.table.ids r.table.numbers (bit phase m) x.first c.3 in
      subst (λ (m : ℕ). recorded_of (import_vote phase signer p r).round phase m ≡ recorded.Equivocated x.first p) (the_place t m k c.2 a)
      (recorded_next t (verdicts.Second (voter_at r.context.voters m) x.first) e phase m
      ∙ second_here r.votes r.table.ids r.table.numbers (bit phase m) (wide t) (few t m c.2) p
      ∙ ap (λ (y : Pair). recorded.Equivocated y p) (sym once.1))

  others_stay : (other : Phase) (k : ℕ) → (other ≡ phase → VoterAt r signer k → ⊥)
      → recorded_of (import_vote phase signer p r).round other k ≡ recorded_of r other k
  others_stay other k f = go (dec_T (shaped r))
    where
      go : Dec (T (shaped r)) → recorded_of (import_vote phase signer p r).round other k ≡ recorded_of r other k
      go (yes t) = recorded_next t (judged r phase signer p) refl other k ∙ others_by t (judged r phase signer p) refl other k f
      go (no n) = ap (λ (x : After (Result ImportResult Refusal)). recorded_of x.round other k) (import_nine r (false_not (shaped r) n) phase signer p)

  pub vote_records : Records r phase signer p (import_vote phase signer p r)
  vote_records = record { first = first_recorded; second = second_recorded; others = others_stay }
