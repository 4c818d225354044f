-- Every reached round keeps the shape; demands 2 and 3 of reached rounds: what is stored is what the definitions tell while prevote
-- equivocators are at most F, and no call takes back what was told.
use mathlib.Core.Path.{◌≡◌, refl, sym, ap, subst, ◌∙◌}
use Prim.Native.Nat.{ℕ, ◌≤◌, ◌<◌}
use lib.Dec.{T}
use Rattle.weights.specs.Weights.{most}
use Rattle.grandpa.specs.Weight.{fault}
use Rattle.grandpa.specs.Vote.{equivocators}
use Rattle.grandpa.specs.Answers.{told}
use Rattle.grandpa.specs.Time as time
use Rattle.voter_set.specs.declared.VoterSet.{VoterSet}
use Rattle.blocks.specs.Add.{step}
use Rattle.context.specs.declared.Phase.{Phase}
use Rattle.context.specs.declared.Phase.TheVariants.{Prevote, Precommit}
use Rattle.context.specs.Votes.{bit}
use Rattle.nodes.specs.Nodes.{col}
use Rattle.tracker.specs.declared.Pair.{Pair}
use Rattle.importing.specs.Import.{Frame, framed, with_table, Held, opened_held, import}
use Rattle.held_laws.specs.Reached as state
use Rattle.held_laws.specs.Reached.{Comes}
use Rattle.held_laws.proofs.Reaches.{comes_voters, comes_framed}
use Rattle.held_laws.proofs.Onward.{comes_grown, comes_later}
use Rattle.held_laws.proofs.Answered.{reached_meant, reached_stays}
use Rattle.round.specs.declared.Round.{Round}
use Rattle.round.specs.Shape.{frame, held, shaped}
use Rattle.round.specs.Calls as call
use Rattle.round.specs.Calls.{opened, add_block, imported, import_vote, sought, precommit_ghost, set_index}
use Rattle.round_laws.specs.Fits.{Fits}
use Rattle.round_laws.specs.Later.{Later, here, voted, added, asked, marked, Reached, voters_of, blocks_of, votes_of, answers_of}
use Rattle.round_laws.proofs.Shaped.{shaped_kept}
use Rattle.round_laws.proofs.Keeps.{on_true, held_again, opened_again, opened_shaped, new_opened, new_opens, import_shaped, add_shaped, ghost_shaped, index_shaped}
use Rattle.std.specs.Prelude.{Option, Result, ⊤}
use Rattle.refusals.specs.declared.Refusal.{Refusal}
use Rattle.round.specs.declared.After.{After}
use Rattle.judging.specs.declared.ImportResult.{ImportResult}

-- a round that calls made of r: it keeps the shape, and its frame and what is held come from those of r
pub record Arrived (r s : Round) : Type 0 where
  pub keeps : T (shaped s)
  pub comes : Comes (frame r) (held r) (frame s) (held s)

module _ (r : Round) (fits : Fits r) where
  fits_on : (s : Round) → Arrived r s → Fits s
  fits_on s a = subst (λ (v : VoterSet). v.total ≤ most) (sym (comes_voters (frame r) (held r) (frame s) (held s) a.comes)) fits

  module _ (s : Round) (a : Arrived r s) where
    abbrev Moved : Round → Type 0
    Moved q = Comes (frame r) (held r) (frame q) (held q)

    moved_voted : (phase : Phase) (signer : ℕ) (p : Pair) → Moved (import_vote phase signer p s).round
    unfolding import_vote imported
    moved_voted phase signer p =
        on_true (λ (x : After (Result ImportResult Refusal)). Moved x.round) (shaped s) (imported phase signer p s) _ a.keeps
        (subst (Comes (frame r) (held r) (frame s)) (sym (held_again s (import (frame s) phase signer p (held s)).held))
        (state.voted (frame s) (held s) a.comes phase signer p))

    moved_added : (id parent : ℕ) → Moved (add_block id parent s).round
    unfolding add_block
    moved_added id parent =
        on_true (λ (x : After (Result ℕ Refusal)). Moved x.round) (shaped s) (call.grown s (step s.table id parent)) _ a.keeps
        (state.added (frame s) (held s) a.comes id parent)

    moved_asked : Moved (precommit_ghost s).round
    unfolding precommit_ghost sought
    moved_asked =
        on_true (λ (x : After (Result (Option (ℕ × ℕ)) Refusal)). Moved x.round) (shaped s) (call.with_sought s (sought s)) _ a.keeps (state.asked (frame s) (held s) a.comes)

    moved_marked : (phase : Phase) → Moved (set_index phase s).round
    unfolding set_index
    moved_marked phase = on_true (λ (x : After (Result ⊤ Refusal)). Moved x.round) (shaped s) _ _ a.keeps (go phase)
      where
        go : (phase : Phase) → Moved (call.with_history s (call.marked phase s.history))
        go Prevote = a.comes
        go Precommit = a.comes

    arrived_voted : (phase : Phase) (signer : ℕ) (p : Pair) → Arrived r (import_vote phase signer p s).round
    arrived_voted phase signer p = record { keeps = import_shaped s (fits_on s a) a.keeps phase signer p; comes = moved_voted phase signer p }

    arrived_added : (id parent : ℕ) → Arrived r (add_block id parent s).round
    arrived_added id parent = record { keeps = add_shaped s (fits_on s a) a.keeps id parent; comes = moved_added id parent }

    arrived_asked : Arrived r (precommit_ghost s).round
    arrived_asked = record { keeps = ghost_shaped s (fits_on s a) a.keeps; comes = moved_asked }

    arrived_marked : (phase : Phase) → Arrived r (set_index phase s).round
    arrived_marked phase = record { keeps = index_shaped s (fits_on s a) a.keeps phase; comes = moved_marked phase }

  pub later_arrived : T (shaped r) → (s : Round) → Later r s → Arrived r s
  later_arrived t _ here = record { keeps = t; comes = state.here }
  later_arrived t _ (voted s c phase signer p) = arrived_voted s (later_arrived t s c) phase signer p
  later_arrived t _ (added s c id parent) = arrived_added s (later_arrived t s c) id parent
  later_arrived t _ (asked s c) = arrived_asked s (later_arrived t s c)
  later_arrived t _ (marked s c phase) = arrived_marked s (later_arrived t s c) phase

  pub later_shaped : T (shaped r) → (s : Round) → Later r s → T (shaped s)
  later_shaped t s c = (later_arrived t s c).keeps

  module _ (t : T (shaped r)) (s : Round) (c : Later r s) where
    -- number, voters and base stay
    pub later_frame : frame s ≡ with_table (frame r) s.table
    later_frame = comes_framed (frame r) (held r) (frame s) (held s) (later_arrived t s c).comes

    -- blocks are added and none changes
    pub later_blocks : time.Grown (blocks_of r) (blocks_of s)
    later_blocks = comes_grown (frame r) (held r) (shaped_kept r fits t) (frame s) (held s) (later_arrived t s c).comes

    -- votes are recorded, a first and a second, and none is taken back
    pub later_votes : (phase : Phase) (p : ℕ) → time.Later (votes_of r phase p) (votes_of s phase p)
    later_votes phase p = comes_later (frame r) (held r) (shaped_kept r fits t) (frame s) (held s) (later_arrived t s c).comes (bit phase p)

-- calls after calls
pub later_on : (r s q : Round) → Later r s → Later s q → Later r q
later_on r s _ c here = c
later_on r s _ c (voted q d phase signer p) = voted q (later_on r s q c d) phase signer p
later_on r s _ c (added q d id parent) = added q (later_on r s q c d) id parent
later_on r s _ c (asked q d) = asked q (later_on r s q c d)
later_on r s _ c (marked q d phase) = marked q (later_on r s q c d) phase

module _ (r : Round) (reached : Reached r) where
  abbrev place : ℕ
  place = (new_opened reached.number reached.voters reached.table reached.base reached.opens).0

  abbrev start : Frame
  start = framed reached.number reached.voters reached.table place

  opens : state.Opens start
  opens = new_opens reached.number reached.voters reached.table reached.base reached.fits reached.opens

  abbrev first : Round
  first = opened reached.number reached.voters reached.table place

  first_framed : frame first ≡ start
  unfolding opened
  first_framed = refl

  arrived : Arrived first r
  arrived =
      later_arrived first (subst (λ (f : Frame). f.voters.total ≤ most) (sym first_framed) reached.fits)
      (opened_shaped reached.number reached.voters reached.table place opens) r
      (subst (λ (s : Round). Later s r) (new_opened reached.number reached.voters reached.table reached.base reached.opens).4 reached.calls)

  -- a reached round keeps the shape
  pub reached_shaped : T (shaped r)
  reached_shaped = arrived.keeps

  pub reached_state : state.Reached (frame r) (held r)
  reached_state = record { start = start; opens = opens; calls = came }
    where
      came : Comes start (opened_held place) (frame r) (held r)
      came =
          subst (λ (h : Held). Comes start h (frame r) (held r)) (opened_again reached.number reached.voters reached.table place)
          (subst (λ (f : Frame). Comes f (held first) (frame r) (held r)) first_framed arrived.comes)

  pub reached_fits : Fits r
  reached_fits =
      subst (λ (v : VoterSet). v.total ≤ most)
      (sym (comes_voters (frame first) (held first) (frame r) (held r) arrived.comes ∙ ap (λ (f : Frame). f.voters) first_framed)) reached.fits

  pub reached_later : (s : Round) → Later r s → Reached s
  reached_later s c =
      record {
        number = reached.number;
        voters = reached.voters;
        table = reached.table;
        base = reached.base;
        fits = reached.fits;
        opens = reached.opens;
        calls = later_on _ r s reached.calls c;
      }

  module _ (some_weight : 0 < r.context.voters.total) where
    -- demand 2
    pub answers_meant : equivocators (voters_of r) (votes_of r Prevote) ≤ fault r.context.voters.total
        → answers_of r ≡ told (voters_of r) (blocks_of r) r.graph.base (votes_of r Prevote) (votes_of r Precommit)
    answers_meant = reached_meant (frame r) (held r) reached_state some_weight

    -- demand 3, whoever equivocates among the prevotes
    pub answers_stay : (s : Round) → Later r s
        → time.Kept (col s.table.parents) (equivocators (voters_of r) (votes_of s Precommit) ≤ fault r.context.voters.total) (answers_of r)
        (answers_of s)
    answers_stay s c =
        reached_stays (frame r) (held r) reached_state some_weight (frame s) (held s) (later_arrived r reached_fits reached_shaped s c).comes
