-- A journal that comes in pieces. Document 01, "The journal": a journal cut at any byte.
use Rattle.std.specs.Prelude.{List, [], ◌∷◌, ℕ}
use Rattle.feeding.specs.declared.Replay.{Replay}
use Rattle.feeding.specs.Feeding.{fed}

-- one piece fed after another, whatever is answered
unfoldable pub fed_all : Replay → List (List ℕ) → Replay
fed_all r [] = r
fed_all r (p ∷ ps) = fed_all (fed r p).replay ps
