-- The turns of a climb that answers two questions.
use mathlib.Core.Bool.{Bool, true, false, cond, ◌||◌}
use mathlib.Core.List.{List}
use mathlib.Core.Path.{◌≡◌, refl, sym, ap, ◌∙◌}
use mathlib.Core.Logic.{◌≢◌}
use Prim.Native.Nat.{ℕ, ◌≤◌, ◌<◌}
use native.Mathlib.Omega.{arith}
use lib.Dec.{T, leb}
use borrow.Author.Tests.{le-leb, lt-leb}
use Rattle.grandpa.specs.Tree.{below}
use Rattle.grandpa.specs.Possible.{enough}
use Rattle.grandpa.specs.declared.PossibleToPrecommit.{PossibleToPrecommit}
use Rattle.grandpa.proofs.Trees.{below_step}
use Rattle.context.specs.declared.Phase.TheVariants.{Precommit}
use Rattle.context.specs.Votes.{voted, weight_of}
use Rattle.graph.specs.Graph.{Graph}
use Rattle.graph.specs.Ghost.{find_ancestor}
use Rattle.nodes.specs.Nodes.{col, AtLeast, Possible, passes}
use Rattle.nodes.specs.Columns.{Columns, Sound}
use Rattle.vote_search.specs.Searches.{tallied, unlisted, of_precommits, both, or_else, this}
use Rattle.vote_search.proofs.Ancestors.{ancestor_none, ancestor_here, ancestor_base, ancestor_up}
use Rattle.std.specs.Prelude.{Option, Some, None}

or_nothing : (o : Option ℕ) → or_else o None ≡ o
or_nothing (Some x) = refl
or_nothing None = refl

or_or : (o p q : Option ℕ) → or_else o (or_else p q) ≡ or_else (or_else o p) q
or_or (Some x) p q = refl
or_or None p q = refl

-- a climb from b that stands at k, with the possible block met so far
pub record On (up : ℕ → ℕ) (g : Graph) (base : ℕ) (weights equivocations : List ℕ) (p : PossibleToPrecommit) (b k : ℕ) (o : Option ℕ) : Type 0 where
  pub inside : T (below up base k)
  pub weighs :
      (let q = passes weights (of_precommits equivocations (AtLeast p.threshold)) in
      find_ancestor up g base q b ≡ find_ancestor up g base q k)
  pub met :
      (let q = passes weights (of_precommits equivocations (Possible p)) in
      (find_ancestor up g base q b) ≡ or_else o ((find_ancestor up g base q k)))

pub on_start : (up : ℕ → ℕ) (g : Graph) (base : ℕ) (weights equivocations : List ℕ) (p : PossibleToPrecommit) (b : ℕ) → T (below up base b)
    → On up g base weights equivocations p b b None
on_start up g base weights equivocations p b l = record { inside = l; weighs = refl; met = refl }

module _ (parents ids : List ℕ) (base count : ℕ) (g : Columns) (sound : Sound parents ids base count g) (weights equivocations : List ℕ)
    (p : PossibleToPrecommit) where
  abbrev up : ℕ → ℕ
  up = col parents

  abbrev graph : Graph
  graph = unlisted g.used g.rows g.heads g.tips

  abbrev weighty : List ℕ → Bool
  weighty = passes weights (of_precommits equivocations (AtLeast p.threshold))

  abbrev possible : List ℕ → Bool
  possible = passes weights (of_precommits equivocations (Possible p))

  abbrev answer : (List ℕ → Bool) → ℕ → Option ℕ
  answer ok b = find_ancestor up graph base ok b

  module _ (b k : ℕ) (o : Option ℕ) (on : On up graph base weights equivocations p b k o) (v : Option (List ℕ)) (told : v ≡ tallied parents g.used g.above g.rows g.heads g.tips k) where
    pub on_outside : v ≡ None → record { weighty = None; possible = o } ≡ both up graph base weights equivocations p b
    unfolding both
    on_outside e =
        rw (
          on.weighs ∙ ancestor_none parents ids base count g sound weighty k on.inside v told e,
          on.met ∙ ap (λ (x : Option ℕ). or_else o x) (ancestor_none parents ids base count g sound possible k on.inside v told e) ∙ or_nothing o,
        )

    -- a block weighed, and what is met with it
    module _ (bits : List ℕ) (in_graph : v ≡ Some bits) (w : ℕ) (weighed : w ≡ weight_of weights (λ i. voted bits Precommit i || voted equivocations Precommit i))
        (o' : Option ℕ) (noted : o' ≡ or_else o (this p w k)) where
      weighty_by : (z : Bool) → leb p.threshold w ≡ z → weighty bits ≡ z
      unfolding passes
      weighty_by z e = ap (leb p.threshold) (sym weighed) ∙ e

      possible_by : (z : Bool) → enough p w ≡ z → possible bits ≡ z
      unfolding passes
      possible_by z e = ap (enough p) (sym weighed) ∙ e

      possible_here : enough p w ≡ true → answer possible k ≡ Some k
      possible_here e = ancestor_here parents ids base count g sound possible k on.inside v told bits in_graph (possible_by true e)

      met_now : (answer possible k) ≡ this p w k → (answer possible b) ≡ o'
      met_now e = on.met ∙ ap (or_else o) e ∙ sym noted

      pub on_weighty : p.threshold ≤ w → record { weighty = Some k; possible = o' } ≡ both up graph base weights equivocations p b
      unfolding both
      on_weighty h =
          let t : enough p w ≡ true = le-leb p.threshold _ (omega arith) in
          rw (
            on.weighs ∙ ancestor_here parents ids base count g sound weighty k on.inside v told bits in_graph (weighty_by true (le-leb p.threshold w h)),
            met_now (rw (possible_here t, t)),
          )

      module _ (light : w < p.threshold) where
        pub on_base : k ≡ base → record { weighty = None; possible = o' } ≡ both up graph base weights equivocations p b
        unfolding both
        on_base q =
            rw (
              on.weighs ∙ ancestor_base parents ids base count g sound weighty k on.inside v told bits in_graph (weighty_by false (lt-leb p.threshold w light)) q,
              met_now (here (enough p w) refl),
            )
          where
            here : (z : Bool) → enough p w ≡ z → (answer possible k) ≡ cond z (Some k) None
            here true e = (possible_here e)
            here false e = (ancestor_base parents ids base count g sound possible k on.inside v told bits in_graph (possible_by false e) q)

        pub on_up : k ≢ base → (j : ℕ) → j ≡ k → On up graph base weights equivocations p b (up j) o'
        on_up d j i =
            rw i record {
              inside = below_step up sound.parents_fall base k on.inside (λ q. d (sym q));
              weighs = on.weighs ∙ ancestor_up parents ids base count g sound weighty k on.inside v told bits in_graph (weighty_by false (lt-leb p.threshold w light)) d;
              met =
                  on.met ∙ ap (or_else o) (here (enough p w) refl) ∙ or_or o (this p w k) ((answer possible (up k)))
                  ∙ ap (λ (x : Option ℕ). or_else x ((answer possible (up k)))) (sym noted);
            }
          where
            here : (z : Bool) → enough p w ≡ z → (answer possible k) ≡ or_else (cond z (Some k) None) ((answer possible (up k)))
            here true e = (possible_here e)
            here false e = (ancestor_up parents ids base count g sound possible k on.inside v told bits in_graph (possible_by false e) d)
