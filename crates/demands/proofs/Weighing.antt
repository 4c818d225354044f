-- A set that `VoterSet::new` made weighs something; an empty one of anyone's making is why demand 2 says so.
use mathlib.Core.Path.{◌≡◌, refl, sym, ap, subst, ◌∙◌}
use Prim.Native.Nat.{◌≤◌, ◌<◌}
use native.Mathlib.Omega.{arith}
use Rattle.loops.specs.Loop.{first}
use Rattle.loops.specs.All.{all, any}
use Rattle.loops.specs.Sum.{sum}
use Rattle.columns.specs.Find as columns
use Rattle.columns.specs.Blank.{blank}
use Rattle.weights.specs.Weights.{most}
use Rattle.grandpa.specs.Answers.{told, told_from, ghost_of, highest_of}
use Rattle.voter_shape.specs.Sound.{rising, non_zero, placed, sound}
use Rattle.voter_set.specs.declared.VoterSet.{VoterSet}
use Rattle.voter_laws.proofs.Made.{made_fit, made_total}
use Rattle.blocks.specs.declared.BlockTable.{BlockTable}
use Rattle.blocks.specs.Add.{place_of}
use Rattle.block_shape.specs.Shape.{sized, count_fits, is_child, is_tree, are_distinct, clear_at, is_clear, are_clear, tabled}
use Rattle.block_table.specs.Add as blocks
use Rattle.context.specs.declared.Phase.{Phase}
use Rattle.importing.specs.Import.{Frame}
use Rattle.round.specs.declared.Round.{Round}
use Rattle.round.specs.Calls.{opened, nobody, new}
use Rattle.round_laws.specs.Later.{here, Reached, answers_of}
use Rattle.round_laws.proofs.Keeps.{new_opened, new_shaped}
use Rattle.round_laws.proofs.Lasting.{later_frame}
use Rattle.demands.specs.Second.{Few, shown, meant, MadeWeighs, Empty}
use Rattle.demands.proofs.Shown.{ghost_shown}
use Rattle.demands.proofs.Meant.{keeps}
use Rattle.std.specs.Prelude.{Some, None, Ok}

module _ (r : Round) (reached : Reached r) where
  abbrev start : Round
  start = (new reached.number reached.voters reached.table reached.base).round

  start_voters : start.context.voters ≡ reached.voters
  unfolding opened
  start_voters =
      ap (λ (s : Round). s.context.voters)
      (new_opened reached.number reached.voters reached.table reached.base reached.opens).4

  -- the voters are those that the round was opened on
  reached_voters : r.context.voters ≡ reached.voters
  reached_voters =
      ap (λ (f : Frame). f.voters)
      (later_frame start (subst (λ (v : VoterSet). v.total ≤ most) (sym start_voters) reached.fits)
      (new_shaped reached.number reached.voters reached.table reached.base reached.fits reached.opens) r reached.calls)
      ∙ start_voters

pub made_weighs : MadeWeighs
made_weighs r reached ids weights m =
    subst (λ (v : VoterSet). 0 < v.total) (sym (reached_voters r reached))
    (let f = (made_fit ids weights m).some_weight in omega (arith, made_total ids weights m))

-- no voter, and one block
abbrev root : BlockTable
root = blocks.opened 10 0

abbrev bare : Round
bare = (new 7 nobody root 10).round

opens : ((new 7 nobody root 10).answer ≡ Ok tt) × (bare ≡ opened 7 nobody root 0)
unfolding
    new sound placed rising non_zero blank sum all any place_of columns.find columns.contains first sized count_fits is_child is_tree are_distinct clear_at
    is_clear are_clear tabled blocks.opened
opens = (refl, refl)

reached : Reached bare
reached = record { number = 7; voters = nobody; table = root; base = 10; fits = omega arith; opens = opens.0; calls = here }

few : (phase : Phase) → Few phase (opened 7 nobody root 0)
unfolding opened sum
few phase = omega arith

told_then : (answers_of (opened 7 nobody root 0)).ghost ≡ None
unfolding opened
told_then = refl

meant_then : (meant (opened 7 nobody root 0)).ghost ≡ Some 0
unfolding opened told told_from ghost_of highest_of sum blocks.opened
meant_then = refl

pub weight_needed : Empty
weight_needed =
    record {
      round = bare;
      reached = reached;
      few = λ phase. subst (Few phase) (sym opens.1) (few phase);
      meant_ghost = ap (λ (r : Round). (meant r).ghost) opens.1 ∙ meant_then;
      told_ghost =
          ghost_shown bare (keeps bare reached) ∙ ap (λ (r : Round). shown r (answers_of r).ghost) opens.1
          ∙ ap (shown (opened 7 nobody root 0)) told_then;
    }
