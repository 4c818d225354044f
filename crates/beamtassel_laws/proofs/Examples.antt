-- Document 01's case J as a report in numbers; the same with an unknown mark behind it; and a journal that ends before its Op.
use mathlib.Core.Bool.{true, false}
use mathlib.Core.List.{List, [], ◌∷◌}
use mathlib.Core.Path.{◌≡◌, refl}
use Prim.Native.Nat.{ℕ}
use Rattle.summary.specs.declared.Outcome.TheVariants.{Voting, Early, Refused}
use Rattle.summary.specs.declared.Summary.{Summary}
use Rattle.summary.specs.Summary.{bare}
use Rattle.figures.specs.Figures.{figures}
use Rattle.std.specs.Prelude.{Some}
use Rattle.refusals.specs.declared.Refusal.TheVariants.{UnknownMark}

abbrev case_j : Summary
case_j =
    record {
      outcome = Voting;
      records = 16;
      tail = 0;
      number = 7;
      total = 4;
      threshold = 3;
      heard = record { prevote = 4; precommit = 3 };
      prevoters = 4;
      precommitters = 3;
      prevote = Some (12, 2);
      estimate = Some (12, 2);
      finalized = Some (11, 1);
      completable = true;
    }

pub figures_j : figures case_j
    ≡ 0 ∷ 0 ∷ 0 ∷ 16 ∷ 0 ∷ 7 ∷ 4 ∷ 3 ∷ 4 ∷ 3 ∷ 4 ∷ 3 ∷ 1 ∷ 12 ∷ 2 ∷ 1 ∷ 12 ∷ 2 ∷ 1 ∷ 11 ∷ 1 ∷ 1 ∷ []
unfolding figures
figures_j = refl

-- refused 17 at 17
pub figures_refused : figures (bare (Refused UnknownMark) 16 0)
    ≡ 2 ∷ 17 ∷ 17 ∷ 16 ∷ 0 ∷ 0 ∷ 0 ∷ 0 ∷ 0 ∷ 0 ∷ 0 ∷ 0 ∷ 0 ∷ 0 ∷ 0 ∷ 0 ∷ 0 ∷ 0 ∷ 0 ∷ 0 ∷ 0 ∷ 0 ∷ []
unfolding figures bare
figures_refused = refl

-- eight records, and 13 bytes of the Op
pub figures_early : figures (bare Early 8 13)
    ≡ 1 ∷ 0 ∷ 0 ∷ 8 ∷ 13 ∷ 0 ∷ 0 ∷ 0 ∷ 0 ∷ 0 ∷ 0 ∷ 0 ∷ 0 ∷ 0 ∷ 0 ∷ 0 ∷ 0 ∷ 0 ∷ 0 ∷ 0 ∷ 0 ∷ 0 ∷ []
unfolding figures bare
figures_early = refl
