-- How a run goes on: over bytes that come behind, and in a larger step.
use Rattle.std.specs.Prelude.{List, ◌++◌, ℕ}
use Rattle.marks.specs.declared.Mark.{Mark}
use Rattle.marks.specs.declared.End.{End}
use Rattle.marks.specs.declared.End.TheVariants.{Cut, Refused, Left}
use Rattle.runs.specs.Run.{Next, Run, ended, ran, counted}

-- the one where a run came to the end of the bytes, else the other
abbrev pub on_cut : {A : Type 0} → End → A → A → A
on_cut Cut a d = a
on_cut (Refused k) a d = d
on_cut Left a d = d

-- the one where a record of another turn ended a run, else the other
abbrev pub on_left : {A : Type 0} → End → A → A → A
on_left Left a d = a
on_left Cut a d = d
on_left (Refused k) a d = d

-- a run over some bytes once b comes behind them: it goes on where it came to their end, else b is left too
unfoldable pub continued : {S : Type 0} → (S → Mark → List ℕ → Next S) → List ℕ → Run S → Run S
continued step b r =
    on_cut r.end (counted r.count (ran step r.state (r.rest ++ b))) (ended r.state r.count (r.rest ++ b) r.end)

-- a run of one turn in a step that takes the other turns too: it goes on where a record of another turn ended it
unfoldable pub carried : {S J : Type 0} → (J → Mark → List ℕ → Next J) → (S → J) → Run S → Run J
carried took e r =
    on_left r.end (counted r.count (ran took (e r.state) r.rest)) (ended (e r.state) r.count r.rest r.end)
