-- The journal's first turn. Document 01, "The journal": zero or more Vt, one Rt; "Refusal numbers" 1, the 257th Vt, and 18, out of turn.
use Rattle.std.specs.Prelude.{cond, List, ℕ, ◌+◌, leb, set}
use Rattle.sizes.specs.Sizes.{PAIRS}
use Rattle.marks.specs.declared.Mark.{Mark}
use Rattle.marks.specs.declared.Mark.TheVariants.{Vt, Rt, Bk, Op, Pv, Pc}
use Rattle.marks.specs.Marks.{word, long}
use Rattle.runs.specs.Run.{Next, goes, stops, leaves}
use Rattle.pairing.specs.declared.Pairs.{Pairs}
use Rattle.refusals.specs.declared.Refusal.TheVariants.{OutOfTurn, VoterList}

-- one more pair, after those before
abbrev pub with_pair : Pairs → ℕ → ℕ → Pairs
with_pair p voter weight =
    record { ids = set p.ids p.count voter; weights = set p.weights p.count weight; count = p.count + 1 }

-- a record in the first turn; the Rt ends it
unfoldable pub paired : Pairs → Mark → List ℕ → Next Pairs
paired p Vt fs = cond (leb PAIRS p.count) (stops VoterList) (goes (with_pair p (word fs 0) (long fs 4)))
paired p Rt fs = leaves
paired p Bk fs = stops OutOfTurn
paired p Op fs = stops OutOfTurn
paired p Pv fs = stops OutOfTurn
paired p Pc fs = stops OutOfTurn
