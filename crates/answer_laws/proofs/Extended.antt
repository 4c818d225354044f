-- Blocks that are added keep a round faithful and its columns sound.
use mathlib.Core.Bool.{Bool, cond}
use mathlib.Core.List.{List, [], ◌∷◌}
use mathlib.Core.Path.{◌≡◌, refl, sym, ap, subst, ◌∙◌}
use Prim.Native.Nat.{ℕ, zero, suc, pred, ◌≤◌, ◌<◌}
use native.Mathlib.Omega.{arith}
use lib.Dec.{T}
use Rattle.sizes.specs.Sizes.{BLOCKS}
use Rattle.loops.specs.Listing.{times}
use Rattle.loops.proofs.Listings.{times_here, times_more}
use Rattle.grandpa.specs.Tree.{Tabled, below}
use Rattle.grandpa.specs.Vote.{Vote, silent, once, twice, lands}
use Rattle.grandpa.specs.Time.{Grown}
use Rattle.grandpa.proofs.Trees.{below_same}
use Rattle.graph.specs.Search.{until, nearest}
use Rattle.graph.specs.Graph.{Graph}
use Rattle.graph.specs.Shape.{Rising, Nodes, Targets, Shape}
use Rattle.nodes.specs.Nodes.{col, flag, Falls}
use Rattle.nodes.specs.Columns.{Columns, Sound}
use Rattle.answer_laws.specs.Faithful.{Setting, table, Faithful}
use Rattle.answer_laws.specs.Tells.{extended}

-- two tables that agree on the blocks of the first
module _ (up up' ids ids' : ℕ → ℕ) (falls : (k : ℕ) → up k ≤ pred k) (base count count' : ℕ) (more : count ≤ count')
    (same_up : (k : ℕ) → k < count → up k ≡ up' k) (same_ids : (k : ℕ) → k < count → ids k ≡ ids' k) where
  abbrev same : (a b : ℕ) → b < count → below up a b ≡ below up' a b
  same = below_same count up up' falls same_up

  rising_more : (l : List ℕ) → ((x : ℕ) → 0 < times x l → x < count) → Rising ids l → Rising ids' l
  rising_more [] early r = tt
  rising_more (x ∷ l) early r = (
    λ y h. omega (arith, r.0 y h, same_ids x (early x (omega (arith, times_here x l))), same_ids y (early y (times_more y x l h))),
    rising_more l (λ y h. early y (times_more y x l h)) r.1,
  )

  nodes_more : (used : ℕ → Bool) (order heads : List ℕ) → Nodes up ids base count used order heads → Nodes up' ids' base count' used order heads
  nodes_more used order heads n =
      record {
        base_used = n.base_used;
        inside = λ x u. subst T (same base x (n.tabled x u)) (n.inside x u);
        tabled = λ x u. omega (arith, n.tabled x u);
        listed = n.listed;
        list_only = n.list_only;
        headed = λ x u tip. n.headed x u (λ y v l. tip y v (subst T (same x y (n.tabled y v)) l));
        head_only = λ x h. let r = n.head_only x h in (r.0, λ y v l. r.1 y v (subst T (sym (same x y (n.tabled y v))) l));
        rising = rising_more heads (λ x h. n.tabled x (n.head_only x h).0) n.rising;
      }

  lands_more : (b : ℕ) (v : Vote) → ((x : ℕ) → Targets v x → x < count) → lands up b v ≡ lands up' b v
  lands_more b silent early = refl
  lands_more b (once t) early = same b t (early t refl)
  lands_more b (twice t) early = same b t (early t refl)

  pub shape_more : (cast : ℕ → Vote) (g : Graph) → Shape up ids base count cast g → Shape up' ids' base count' cast g
  shape_more cast g s =
      record {
        nodes = nodes_more g.used g.order g.heads s.nodes;
        rows =
            record {
              words = s.rows.words;
              told = λ x u j. s.rows.told x u j ∙ lands_more x (cast j) (λ y t. s.nodes.tabled y (s.voted.target_used j y t));
            };
        voted = s.voted;
      }

  until_more : (stop : ℕ → Bool) (f at : ℕ) → at < count → until up stop f at ≡ until up' stop f at
  unfolding until
  until_more stop zero at h = refl
  until_more stop (suc f) at h =
      ap (λ (r : ℕ). cond (stop at) at r) (until_more stop f (up at) (omega (arith, falls at)) ∙ ap (until up' stop f) (same_up at h))

  nearest_more : (used : ℕ → Bool) (x : ℕ) → x < count → nearest up used (up x) ≡ nearest up' used (up' x)
  unfolding nearest
  nearest_more used x h = until_more used (up x) (up x) (omega (arith, falls x)) ∙ ap (λ (y : ℕ). until up' used y y) (same_up x h)

module _ (parents ids parents' ids' : List ℕ) (base count count' : ℕ) (more : count ≤ count') (small : count' ≤ BLOCKS)
    (same_up : (k : ℕ) → k < count → col parents k ≡ col parents' k) (same_ids : (k : ℕ) → k < count → col ids k ≡ col ids' k)
    (falls : Falls parents') where
  pub sound_more : (g : Columns) → Sound parents ids base count g → Sound parents' ids' base count' g
  sound_more g s =
      record {
        parents_fall = falls;
        above_falls = s.above_falls;
        nodes =
            nodes_more (col parents) (col parents') (col ids) (col ids') s.parents_fall base count count' more same_up same_ids (flag g.used) _ _ s.nodes;
        small = small;
        tied = λ x u n.
            s.tied x u n
            ∙ nearest_more (col parents) (col parents') (col ids) (col ids') s.parents_fall base count count' more same_up same_ids (flag g.used) x
            (s.nodes.tabled x u);
        listed_fits = s.listed_fits;
        tips_fit = s.tips_fit;
        sized = s.sized;
        order_clear = s.order_clear;
        heads_clear = s.heads_clear;
      }

pub extended_faithful : (k : Setting) → Faithful k → (parents ids numbers : List ℕ) (count : ℕ)
    → Tabled (table (extended k parents ids numbers count)) → count ≤ BLOCKS
    → Grown (table k) (table (extended k parents ids numbers count)) → ((x : ℕ) → x < k.count → col k.ids x ≡ col ids x)
    → Faithful (extended k parents ids numbers count)
extended_faithful k f parents ids numbers count tabled small grown same_ids =
    record {
      good = f.good;
      fits = f.fits;
      tabled = tabled;
      small = small;
      shape =
          shape_more (col k.parents) (col parents) (col k.ids) (col ids) f.tabled.falls k.base k.count count grown.more grown.same_up same_ids
          k.cast _ f.shape;
      only = f.only;
      no_voter = f.no_voter;
      two_words = f.two_words;
      doubled = f.doubled;
      prevotes_heard = f.prevotes_heard;
      precommits_heard = f.precommits_heard;
    }
