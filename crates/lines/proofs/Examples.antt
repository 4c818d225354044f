-- Document 01, "The journal": case J's lines, from its numbers; before anything is heard; a refusal; no round. And numbers of 1 to 20
-- digits.
use mathlib.Core.Bool.{true, false}
use mathlib.Core.List.{[], ◌∷◌, ◌++◌}
use mathlib.Core.Path.{◌≡◌, refl}
use Rattle.context.specs.declared.Phase.TheVariants.{Prevote, Precommit}
use Rattle.answers.specs.declared.Answers.{Answers}
use Rattle.answers.specs.declared.Heard.{Heard}
use Rattle.round.specs.declared.Round.{Round}
use Rattle.round.specs.Ask.{heard_in}
use Rattle.lines.specs.Lines.{text, digits, decimal, named, line, heard_line, block_line, completable_line, answer_lines, refused, no_round, round_lines}
use Rattle.std.specs.Prelude.{Some, None}

-- round 7, voters 1 to 4 of weight 1, blocks 10 to 13 at places 0 to 3; what was heard and is answered may vary, and the voters heard
-- are counted in the graph that is given
four : Round → Heard → Answers → Round
four r heard answers =
    record {
      number = 7;
      context =
          record {
            voters = record { ids = 1 ∷ 2 ∷ 3 ∷ 4 ∷ []; weights = 1 ∷ 1 ∷ 1 ∷ 1 ∷ []; count = 4; threshold = 3; total = 4 };
            equivocations = 0 ∷ 0 ∷ [];
          };
      table = record { ids = 10 ∷ 11 ∷ 12 ∷ 13 ∷ []; numbers = 0 ∷ 1 ∷ 2 ∷ 2 ∷ []; parents = 0 ∷ 0 ∷ 1 ∷ 1 ∷ []; count = 4 };
      graph = r.graph;
      votes = r.votes;
      history = r.history;
      heard = heard;
      answers = answers;
    }

j : Round → Round
j r =
    four r (record { prevote = 4; precommit = 3 })
    (record { prevote = Some 2; precommit = None; finalized = Some 1; estimate = Some 2; completable = true })

case_j : (r : Round) → heard_in r.graph Prevote ≡ 4 → heard_in r.graph Precommit ≡ 3
    → round_lines (j r) 0
    ≡ text "round 7\n"
    ++ text "prevote 4 of 4 need 3 voters 4\n"
    ++ text "precommit 3 of 4 need 3 voters 3\n"
    ++ text "ghost 12 2\n"
    ++ text "estimate 12 2\n"
    ++ text "final 11 1\n"
    ++ text "completable yes\n"
    ++ text "tail 0\n"
unfolding four j round_lines answer_lines completable_line block_line heard_line line named decimal digits
case_j r prevoters precommitters = rw (prevoters, precommitters)

opened : (r : Round) → heard_in r.graph Prevote ≡ 0 → heard_in r.graph Precommit ≡ 0
    → round_lines
    (four r (record { prevote = 0; precommit = 0 })
    (record { prevote = None; precommit = None; finalized = None; estimate = None; completable = false }))
    21
    ≡ text "round 7\n"
    ++ text "prevote 0 of 4 need 3 voters 0\n"
    ++ text "precommit 0 of 4 need 3 voters 0\n"
    ++ text "ghost none\n"
    ++ text "estimate none\n"
    ++ text "final none\n"
    ++ text "completable no\n"
    ++ text "tail 21\n"
unfolding four round_lines answer_lines completable_line block_line heard_line line named decimal digits
opened r prevoters precommitters = rw (prevoters, precommitters)

stopped : (refused 17 3 ≡ text "refused 17 at 3\n") × (no_round 13 ≡ text "no round\n" ++ text "tail 13\n")
unfolding refused no_round line named decimal digits
stopped = (refl, refl)

numbers : (decimal 0 ≡ text "0")
    × (decimal 9 ≡ text "9")
    × (decimal 10 ≡ text "10")
    × (decimal 4294967295 ≡ text "4294967295")
    × (decimal 18446744073709551615 ≡ text "18446744073709551615")
unfolding decimal digits
numbers = (refl, refl, refl, refl, refl)

-- the codes of a text are ASCII's: a line end, a space, digits, letters
ascii : text "az 09\n" ≡ 97 ∷ 122 ∷ 32 ∷ 48 ∷ 57 ∷ 10 ∷ []
ascii = refl
