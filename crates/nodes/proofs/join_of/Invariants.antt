use mathlib.Core.Path.{◌≡◌}
use Rattle.loops.specs.Listing.{front}
use Rattle.graph.specs.Graph.{join_of}
use Rattle.nodes.specs.Nodes.{row}
use Rattle.nodes.proofs.join_of.Given as goal

abbrev pub invariant-loop-place : goal.invariant-loop-place
invariant-loop-place l = l.bits ≡ join_of (row l.rows) (front l.place-index l.places)
