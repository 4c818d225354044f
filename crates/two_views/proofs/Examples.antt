-- Five voters of weights 5, 6, 7, 8 and 9 at places 0 to 4: voter 0 precommitted for block 2 in both views, voter 1 for 2 in one and for 3
-- in the other, voter 2 is silent in the other, voter 3 equivocated in one view, first for 1, and precommitted for 1 in the other, voter 4
-- is silent in one view and equivocated in the other. Prevotes differ or are equivocations and add nothing.
use mathlib.Core.Bool.{false}
use mathlib.Core.List.{List, [], ◌∷◌}
use mathlib.Core.Path.{◌≡◌, refl}
use Prim.Native.Nat.{ℕ, suc}
use lib.ListN.{replicate, set}
use Rattle.sizes.specs.Sizes.{VOTES}
use Rattle.layouts.specs.Layout.{RUN, index}
use Rattle.layouts.specs.Layout as layout
use Rattle.loops.specs.All.{all}
use Rattle.loops.specs.Sum.{sum}
use Rattle.context.specs.declared.Phase.{Phase}
use Rattle.context.specs.declared.Phase.TheVariants.{Prevote, Precommit}
use Rattle.context.specs.Votes.{bit}
use Rattle.two_views.specs.Views.{apart, differing, same}

-- a column with numbers of the voters of a phase, from place p on
voted : Phase → ℕ → List ℕ → List ℕ → List ℕ
voted phase p [] column = column
voted phase p (x ∷ xs) column = voted phase (suc p) xs (set column (bit phase p) x)

-- by their prevotes and their precommits
column : List ℕ → List ℕ → List ℕ
column prevotes precommits = voted Prevote 0 prevotes (voted Precommit 0 precommits (replicate VOTES 0))

counts : List ℕ
counts = column (1 ∷ 2 ∷ 1 ∷ 1 ∷ 0 ∷ []) (1 ∷ 1 ∷ 1 ∷ 2 ∷ 0 ∷ [])

first_block : List ℕ
first_block = column (2 ∷ 2 ∷ 2 ∷ 2 ∷ 0 ∷ []) (2 ∷ 2 ∷ 2 ∷ 1 ∷ 0 ∷ [])

others : List ℕ
others = column (1 ∷ 1 ∷ 1 ∷ 2 ∷ 2 ∷ []) (1 ∷ 1 ∷ 0 ∷ 1 ∷ 2 ∷ [])

theirs : List ℕ
theirs = column (3 ∷ 3 ∷ 3 ∷ 3 ∷ 2 ∷ []) (2 ∷ 3 ∷ 0 ∷ 1 ∷ 2 ∷ [])

abbrev weights : List ℕ
weights = 5 ∷ 6 ∷ 7 ∷ 8 ∷ 9 ∷ []

three_differ : differing counts first_block others theirs weights 5 ≡ 23
unfolding differing apart sum voted column counts first_block others theirs bit index layout.bit RUN
three_differ = refl

either_way : differing others theirs counts first_block weights 5 ≡ 23
unfolding differing apart sum voted column counts first_block others theirs bit index layout.bit RUN
either_way = refl

-- a view and itself: its equivocator
one_view : differing counts first_block counts first_block weights 5 ≡ 8
unfolding differing apart sum voted column counts first_block others theirs bit index layout.bit RUN
one_view = refl

columns_differ : same first_block theirs ≡ false
unfolding same all voted column first_block theirs bit index layout.bit RUN
columns_differ = refl
