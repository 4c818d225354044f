-- A voter's place and weight. Document 01, "Porting order" 2: `get`.
use Rattle.std.specs.Prelude.{List, ℕ, get_or, Option, Some, None}
use Rattle.columns.specs.Find.{find}
use Rattle.weights.specs.declared.VoterWeight.{VoterWeight}
use Rattle.weights.specs.Weights.{kept}
use Rattle.voter_info.specs.declared.VoterInfo.{VoterInfo}

-- the voter at a place with a weight, which is not zero
abbrev pub weighed : ℕ → Option VoterWeight → Option VoterInfo
weighed k None = None
weighed k (Some w) = Some (record { position = k; weight = w })

unfoldable pub info : ℕ → ℕ → Option VoterInfo
info k w = weighed k (kept w)

abbrev pub on_found : Option ℕ → (ℕ → Option VoterInfo) → Option VoterInfo → Option VoterInfo
on_found (Some k) f d = f k
on_found None f d = d

-- the voter of an id, in columns of ids and weights
unfoldable pub look_up : List ℕ → List ℕ → ℕ → ℕ → Option VoterInfo
look_up ids weights count id = on_found (find ids count id) (λ k. info k (get_or weights k 0)) None

-- the weight that an answer tells, none for an id outside the set
abbrev pub told : Option VoterInfo → ℕ
told (Some v) = v.weight.0
told None = 0
