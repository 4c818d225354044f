-- Asking a voter set. Document 01, "Porting order" 2: `get`, `nth`, `nth_mod`.
use Rattle.std.specs.Prelude.{Bool, cond, ℕ, ◌%◌, ltb, get_or, Option, Some, None}
use Rattle.columns.specs.Find.{contains}
use Rattle.voter_info.specs.Info.{info, look_up}
use Rattle.voter_set.specs.declared.VoterSet.{VoterSet}
use Rattle.voter_info.specs.declared.VoterInfo.{VoterInfo}

abbrev pub get : VoterSet → ℕ → Option VoterInfo
get s id = look_up s.ids s.weights s.count id

abbrev pub has : VoterSet → ℕ → Bool
has s id = contains s.ids s.count id

abbrev pub named : ℕ → Option VoterInfo → Option (ℕ × VoterInfo)
named id (Some v) = Some (id, v)
named id None = None

-- the voter at place n, with its id
unfoldable pub nth : VoterSet → ℕ → Option (ℕ × VoterInfo)
nth s n = cond (ltb n s.count) (named (get_or s.ids n 0) (info n (get_or s.weights n 0))) None

-- n wraps around the count. An empty set has no voter at any place.
unfoldable pub nth_mod : VoterSet → ℕ → Option (ℕ × VoterInfo)
nth_mod s n = nth s (n % s.count)
