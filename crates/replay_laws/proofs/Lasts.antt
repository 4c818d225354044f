-- What a journal's round answers, and that no byte that comes behind takes it back.
use mathlib.Core.List.{List, ◌++◌}
use mathlib.Core.Path.{◌≡◌, refl, sym, ap, subst, ◌∙◌}
use Prim.Native.Nat.{ℕ, ◌≤◌, ◌<◌}
use native.Mathlib.Omega.{arith}
use Rattle.grandpa.specs.Weight.{fault}
use Rattle.grandpa.specs.Vote.{equivocators}
use Rattle.grandpa.specs.Answers as definitions
use Rattle.grandpa.specs.Time as time
use Rattle.context.specs.declared.Phase.TheVariants.{Prevote, Precommit}
use Rattle.nodes.specs.Nodes.{col}
use Rattle.held_laws.specs.Kept.{Kept}
use Rattle.round.specs.declared.Round.{Round}
use Rattle.round_laws.specs.Later.{Later, here, Reached, voters_of, blocks_of, votes_of, answers_of}
use Rattle.round_laws.proofs.Lasting.{answers_meant, answers_stay}
use Rattle.marks.specs.declared.End.{End}
use Rattle.marks.specs.declared.End.TheVariants.{Cut, Refused, Left}
use Rattle.runs.specs.Run.{Run, ran, counted}
use Rattle.runs.proofs.Appends.{append_cut}
use Rattle.voting.specs.Voting.{Voting}
use Rattle.turns.specs.Turns as turns
use Rattle.turns.specs.Turns.{pairing, growing, voting, took, no_pairs}
use Rattle.turns.specs.Stands.{Stands}
use Rattle.journal.specs.declared.Turn.TheVariants.{Votes}
use Rattle.journal.specs.declared.Journal.{Journal}
use Rattle.journal.specs.Journal.{round_of, laid}
use Rattle.feeding.specs.declared.Replay.{Replay}
use Rattle.feeding.specs.Feeding.{replayed}
use Rattle.replay_laws.specs.Weighs.{Weighs}
use Rattle.replay_laws.specs.Rounds.{HasRound, round_in}
use Rattle.replay_laws.proofs.Holds.{replay_kept, replay_weighs, replay_not_left}
use Rattle.replay_laws.proofs.Feeds.{by_end, refused_stays}
use Rattle.replay_laws.proofs.Rounds.{RoundReached, replay_round, Since, votes_since}

-- the state of a replay, by value, is that of its run
pub journal_is : (bs : List ℕ) → (replayed bs).journal ≡ laid (turns.replayed bs).state
journal_is bs = by_end bs (λ (r : Replay). r.journal ≡ laid (turns.replayed bs).state) (λ e. refl) (λ k e. refl)

abbrev VotesIn : turns.Journal → Type 0
VotesIn j = (v : Voting) × (j ≡ voting v)

in_votes : (j : turns.Journal) → (laid j).turn ≡ Votes → VotesIn j
in_votes (pairing p) e = absurd (let z : ◌≡◌ {A = ℕ} 0 1 = cc in omega arith)
in_votes (growing v t) e = absurd (let z : ◌≡◌ {A = ℕ} 0 1 = cc in omega arith)
in_votes (voting v) e = (v, refl)

module _ (bs : List ℕ) (has : HasRound bs) where
  votes_in : VotesIn (turns.replayed bs).state
  votes_in = in_votes (turns.replayed bs).state (sym (ap (λ (j : Journal). j.turn) (journal_is bs)) ∙ has)

  -- what is known of the state in the third turn is known of the round
  of_round : (P : Round → Type 0) → ((v : Voting) → (turns.replayed bs).state ≡ voting v → P (round_of v)) → P (round_in bs)
  of_round P f =
      let v = votes_in in
      subst (λ (j : Journal). P j.round) (sym (journal_is bs ∙ ap laid v.1)) (f v.0 v.1)

  -- the round is one that calls reach from the one that the Op opened, and its voters weigh something
  pub round_reached : Reached (round_in bs)
  round_reached = of_round Reached (λ v e. subst (Stands RoundReached) e (replay_round bs))

  pub round_weighs : 0 < (round_in bs).context.voters.total
  unfolding round_of
  round_weighs = of_round (λ (r : Round). 0 < r.context.voters.total) (λ v e. subst Weighs e (replay_weighs bs))

  -- demand 2
  pub replay_meant : equivocators (voters_of (round_in bs)) (votes_of (round_in bs) Prevote) ≤ fault (round_in bs).context.voters.total
      → answers_of (round_in bs)
      ≡ definitions.told (voters_of (round_in bs)) (blocks_of (round_in bs)) (round_in bs).graph.base (votes_of (round_in bs) Prevote)
      (votes_of (round_in bs) Precommit)
  replay_meant = answers_meant (round_in bs) round_reached round_weighs

-- bytes that come behind: the round becomes a later one; a refused record leaves it
since_value : (v : Voting) (j : turns.Journal) → Since v j → ((laid j).turn ≡ Votes) × Later (round_of v) (laid j).round
since_value v (pairing p) s = absurd s
since_value v (growing u t) s = absurd s
since_value v (voting w) s = (refl, s.0)

module _ (a b : List ℕ) (has : HasRound a) where
  abbrev Follows : Journal → Journal → Type 0
  Follows i j = (j.turn ≡ Votes) × Later i.round j.round

  went_on : (turns.replayed a).end ≡ Cut → Follows (replayed a).journal (replayed (a ++ b)).journal
  unfolding turns.replayed counted
  went_on e =
      let v = votes_in a has in
      let r = turns.replayed a in
      let next : (turns.replayed (a ++ b)).state ≡ (ran took (voting v.0) (r.rest ++ b)).state =
      ap (λ (x : Run turns.Journal). x.state) (append_cut took b (pairing no_pairs) a e) ∙ ap (λ (j : turns.Journal). (ran took j (r.rest ++ b)).state) v.1 in
      subst (λ (i : Journal). Follows i (replayed (a ++ b)).journal) (sym (journal_is a ∙ ap laid v.1))
      (subst (Follows (laid (voting v.0))) (sym (journal_is (a ++ b) ∙ ap laid next))
      (since_value v.0 (ran took (voting v.0) (r.rest ++ b)).state (votes_since v.0 (subst (Stands Kept) v.1 (replay_kept a)) (r.rest ++ b))))

  follows : Follows (replayed a).journal (replayed (a ++ b)).journal
  follows = go (turns.replayed a).end refl
    where
      go : (x : End) → (turns.replayed a).end ≡ x → Follows (replayed a).journal (replayed (a ++ b)).journal
      go Cut e = went_on e
      go (Refused k) e = subst (λ (r : Replay). Follows (replayed a).journal r.journal) (sym (refused_stays a b k e)) (has, here)
      go Left e = absurd (replay_not_left a e)

  pub round_stays : HasRound (a ++ b)
  round_stays = follows.0

  pub round_later : Later (round_in a) (round_in (a ++ b))
  round_later = follows.1

  -- demand 3, whoever equivocates among the prevotes
  pub replay_stays :
      time.Kept (col (round_in (a ++ b)).table.parents)
      (equivocators (voters_of (round_in a)) (votes_of (round_in (a ++ b)) Precommit) ≤ fault (round_in a).context.voters.total) (answers_of (round_in a))
      (answers_of (round_in (a ++ b)))
  replay_stays = answers_stay (round_in a) (round_reached a has) (round_weighs a has) (round_in (a ++ b)) round_later
