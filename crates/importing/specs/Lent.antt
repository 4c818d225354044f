-- A round on lent columns: the frame, and what is held, with a `Standing` beside its columns. Arguments are in the order of the code's
-- parameters. Contracts and proofs say these names and no literal.
use Rattle.std.specs.Prelude.{Bool, List, ℕ}
use Rattle.lent.specs.Moment.{Moment}
use Rattle.voter_set.specs.declared.VoterSet.{VoterSet}
use Rattle.blocks.specs.declared.BlockTable.{BlockTable}
use Rattle.nodes.specs.Columns.{graph_at}
use Rattle.tracker.specs.Votes.{votes_at}
use Rattle.importing.specs.declared.Standing.{Standing}
use Rattle.importing.specs.Import.{Frame, framed, Held, held_with}

abbrev pub voters_at : (m : Moment) → m.Column (List ℕ) → m.Column (List ℕ) → ℕ → ℕ → ℕ → VoterSet
voters_at m ids weights size total threshold =
    record { ids = m.list (List ℕ) ids; weights = m.list (List ℕ) weights; count = size; threshold = threshold; total = total }

abbrev pub table_at : (m : Moment) → m.Column (List ℕ) → m.Column (List ℕ) → m.Column (List ℕ) → ℕ → BlockTable
table_at m ids numbers parents blocks =
    record { ids = m.list (List ℕ) ids; numbers = m.list (List ℕ) numbers; parents = m.list (List ℕ) parents; count = blocks }

abbrev pub frame_at : (m : Moment) → m.Column (List ℕ) → m.Column (List ℕ) → ℕ → ℕ → ℕ → ℕ → m.Column (List ℕ) → m.Column (List ℕ)
    → m.Column (List ℕ) → ℕ → ℕ → Frame
frame_at m voters weights size total threshold number ids numbers parents blocks base =
    framed number (voters_at m voters weights size total threshold) (table_at m ids numbers parents blocks) base

abbrev pub held_at : (m : Moment) → m.Column (List Bool) → m.Column (List ℕ) → m.Column (List (List ℕ)) → m.Column (List ℕ)
    → m.Column (List ℕ) → m.Column (List ℕ) → m.Column (List ℕ) → m.Column (List ℕ) → m.Column (List ℕ) → m.Column (List ℕ)
    → m.Column (List ℕ) → m.Column (List ℕ) → Standing → Held
held_at m used above rows order heads counts first_block first_signature second_target second_number second_signature entries standing =
    held_with (graph_at m used above rows order standing.listed heads standing.tips)
    (votes_at m counts first_block first_signature second_target second_number second_signature) (m.list (List ℕ) entries) standing
