-- The four answers that a state stores, as the definitions name them. Document 01, "The four answers".
use Rattle.grandpa.specs.Answers.{Told}
use Rattle.answers.specs.declared.Answers.{Answers}

-- the stored precommit-GHOST is none of them
abbrev pub answered : Answers → Told
answered a =
    record {
      ghost = a.prevote;
      finalized = a.finalized;
      estimate = a.estimate;
      completable = a.completable;
    }
