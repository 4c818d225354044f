use mathlib.Core.Path.{refl, sym, ◌∙◌}
use Rattle.blocks.specs.Add.{step}
use Rattle.block_index.proofs.Slots.{place_there, place_not_there, append_indexed}
use Rattle.block_index.proofs.add.Goals as goal

pub returns-in_default : goal.returns-in_default
unfolding step
returns-in_default c =
    record { fact = rw (place_there _ _ _ _ (sym c.place.ensures ∙ c.in_default.is)); slots_after = refl; indexed = c.requires }

pub returns-in_default-place : goal.returns-in_default-place
unfolding step
returns-in_default-place c =
    record {
      fact = rw (place_not_there _ _ _ (sym c.place.ensures ∙ c.in-None.is), sym c.place-2.ensures ∙ c.in_default-place.is);
      slots_after = refl;
      indexed = c.requires;
    }

pub returns : goal.returns
unfolding step
returns c =
    let new = sym c.place.ensures ∙ c.in-None.is in
    record {
      fact = rw (place_not_there _ _ _ new, sym c.place-2.ensures ∙ c.in-Some.is) c.append-answer.ensures;
      slots_after = c.mark.ensures;
      indexed = append_indexed _ _ _ _ new c.requires _ _ c.append-answer.ensures _ c.mark.ensures;
    }
