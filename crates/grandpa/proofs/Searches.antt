-- Each answer's relation fixes it, and its function computes what the relation fixes.
use mathlib.Core.Bool.{Bool, true, false, cond, not, ◌&&◌, ◌||◌}
use mathlib.Core.Path.{◌≡◌, refl, sym, ap, subst, ◌∙◌}
use mathlib.Core.Logic.{◌≢◌, ◌⊎◌, inl, inr, ⊎_elim}
use Prim.Native.Nat.{ℕ, zero, suc, pred, ◌+◌, ◌≤◌, ◌<◌}
use native.Mathlib.Decide.{ℕ_discrete}
use native.Mathlib.Omega.{arith}
use lib.Dec.{T, leb, ltb, eqb, leb→le, le→leb, nleb→lt, ltb→lt, lt→ltb, nltb→le, eqb→eq, eqb_refl, T_not, not_T}
use Rattle.loops.specs.All.{all}
use Rattle.loops.proofs.Tests.{both, left_of, right_of, in_left, in_right, either, dec_T, by_test, true_T, false_T}
use Rattle.loops.proofs.Alls.{all_at, all_intro, any_at, any_intro}
use Rattle.grandpa.specs.Weight.{fault, threshold}
use Rattle.grandpa.specs.Tree.{Blocks, Tabled, below, child}
use Rattle.grandpa.specs.Vote.{Vote, silent, once, twice, Voters, total, heard, equivocators, phase_weight, lands, weighty, noded}
use Rattle.grandpa.specs.Possible.{possible, possible_at}
use Rattle.grandpa.specs.Answers.{Says, Highest, higher, highest_of, Ghost, ghost_of, First, search_up, first_of, Finalized, finalized_of, Estimate, estimate_of, Completable, every_child, with_node, completable_of}
use Rattle.grandpa.specs.Time.{Placed, VotesPlaced}
use Rattle.grandpa.proofs.Trees.{below_refl, below_up, below_trans, below_le, below_antisym, below_line, below_step, child_below, child_towards, number_below, number_strictly}
use Rattle.grandpa.proofs.Votes.{base_weight, weight_up, bare_weight, bare_impossible, possible_up, weight_heard, heard_le}
use Rattle.std.specs.Prelude.{Option, Some, None}

-- what a computation ends with: a place of which P holds, or none, and then N
abbrev pub Ends : (ℕ → Type 0) → Type 0 → Option ℕ → Type 0
Ends P N None = N
Ends P N (Some x) = P x

ends_says : (P : ℕ → Type 0) (N : Type 0) (o : Option ℕ) → Ends P N o → (N → (x : ℕ) → P x → ⊥) → Says P o
ends_says P N None n f = f n
ends_says P N (Some x) p f = p

-- the first block from g towards the base
module _ (up : ℕ → ℕ) (falls : (k : ℕ) → up k ≤ pred k) (base : ℕ) where
  -- two questions, the second passed wherever the first is, asked from g and from g or below: the second answer is the first or below
  pub first_down : (ok ok' : ℕ → Bool) → ((x : ℕ) → T (ok x) → T (ok' x)) → (g g' b b' : ℕ) → T (below up g g')
      → First up ok base g b → First up ok' base g' b' → T (below up b b')
  first_down ok ok' more g g' b b' h p q =
      q.nearest b p.inside (below_trans up falls b g g' p.above h) (more b p.passes)

  pub first_unique : (ok : ℕ → Bool) (g b b' : ℕ) → First up ok base g b → First up ok base g b' → b ≡ b'
  first_unique ok g b b' p q =
      below_antisym up falls b b'
      (first_down ok ok (λ x t. t) g g b b' (below_refl up falls g) p q)
      (first_down ok ok (λ x t. t) g g b' b (below_refl up falls g) q p)

  module _ (ok : ℕ → Bool) (g : ℕ) where
    -- a search that came to b, with all that passes at or above b
    found : (f b : ℕ) → b < f → T (below up base b) → T (below up b g)
        → ((x : ℕ) → T (below up base x) → T (below up x g) → T (ok x) → T (below up x b))
        → Ends (First up ok base g) ((x : ℕ) → T (below up base x) → T (below up x g) → T (ok x) → ⊥) (search_up up ok base f b)
    unfolding search_up
    found zero b h inside above near = absurd (omega arith)
    found (suc f) b h inside above near =
        by_test (Ends (First up ok base g) _) (ok b) (Some b) _
        (λ t. record { inside = inside; above = above; passes = t; nearest = near })
        (λ t. by_test (Ends (First up ok base g) _) (eqb b base) None _
        (λ e x l m p. other t x p (omega (arith, below_le up falls x b (near x l m p), below_le up falls base x l, eqb→eq b base e)))
        (λ e.
        let n : base ≢ b = λ q. T_not (eqb b base) e (subst (λ (y : ℕ). T (eqb b y)) (sym q) (eqb_refl b)) in
        found f (up b) (omega (arith, falls b, below_le up falls base b inside))
        (below_step up falls base b inside n)
        (below_trans up falls (up b) b g (below_up up falls b) above)
        (λ x l m p. below_step up falls x b (near x l m p) (other t x p))))
      where
        other : T (not (ok b)) → (x : ℕ) → T (ok x) → x ≢ b
        other t x p q = T_not (ok b) t (subst (λ (y : ℕ). T (ok y)) q p)

    first_ends : T (below up base g)
        → Ends (First up ok base g) ((x : ℕ) → T (below up base x) → T (below up x g) → T (ok x) → ⊥) (first_of up ok base g)
    unfolding first_of
    first_ends h = found (suc g) g (omega arith) h (below_refl up falls g) (λ x l m p. m)

    pub first_says : T (below up base g) → Says (First up ok base g) (first_of up ok base g)
    first_says h = ends_says _ _ (first_of up ok base g) (first_ends h) (λ None x p. None x p.inside p.above p.passes)

    -- there is a first where some block on the way passes
    pub first_some : (x : ℕ) → T (below up base x) → T (below up x g) → T (ok x) → (e : ℕ) × First up ok base g e
    first_some x l m p = go (first_of up ok base g) (first_ends (below_trans up falls base x g l m))
      where
        go : (o : Option ℕ) → Ends (First up ok base g) ((x : ℕ) → T (below up base x) → T (below up x g) → T (ok x) → ⊥) o
            → (e : ℕ) × First up ok base g e
        go None n = absurd (n x l m p)
        go (Some e) r = (e, r)

-- the highest-numbered of the first n blocks that pass
module _ (number : ℕ → ℕ) (ok : ℕ → Bool) where
  -- the first n and one more
  split : (n : ℕ) (b : ℕ) (P : Type 0) → b < suc n → (b ≡ n → P) → (b < n → P) → P
  split n b P h f g = go (ℕ_discrete b n)
    where
      go : Dec (b ≡ n) → P
      go (yes e) = f e
      go (no e) = g (omega arith)

  moved : {a b : ℕ} → a ≡ b → T (ok a) → T (ok b)
  moved e t = subst (λ (x : ℕ). T (ok x)) e t

  abbrev Best : ℕ → Option ℕ → Type 0
  Best n o = Ends (Highest number ok n) ((x : ℕ) → x < n → T (ok x) → ⊥) o

  best_kept : (n : ℕ) (o : Option ℕ) → T (not (ok n)) → Best n o → Best (suc n) o
  best_kept n None t r = λ x h p. split n x ⊥ h (λ e. T_not (ok n) t (moved e p)) (λ l. r x l p)
  best_kept n (Some a) t r =
      record {
        tabled = omega (arith, r.tabled);
        passes = r.passes;
        highest = λ b h p. split n b _ h (λ e. absurd (T_not (ok n) t (moved e p))) (λ l. r.highest b l p);
      }

  best_more : (n : ℕ) (o : Option ℕ) → T (ok n) → Best n o → Best (suc n) (higher number n o)
  best_more n None t r =
      record {
        tabled = omega arith;
        passes = t;
        highest = λ b h p. split n b _ h (λ e. omega (arith, ap number e)) (λ l. absurd (r b l p));
      }
  best_more n (Some a) t r =
      by_test (Best (suc n)) (ltb (number a) (number n)) (Some n) (Some a)
      (λ l. record {
        tabled = omega arith;
        passes = t;
        highest = λ b h p. split n b _ h (λ e. omega (arith, ap number e)) (λ m. omega (arith, ltb→lt (number a) (number n) l, r.highest b m p));
      })
      (λ l. record {
        tabled = omega (arith, r.tabled);
        passes = r.passes;
        highest = λ b h p. split n b _ h (λ e. omega (arith, ap number e, nltb→le (number a) (number n) l)) (λ m. r.highest b m p);
      })

  highest_ends : (n : ℕ) → Best n (highest_of number ok n)
  unfolding highest_of
  highest_ends zero = λ x h p. omega arith
  highest_ends (suc n) =
      by_test (Best (suc n)) (ok n) (higher number n (highest_of number ok n)) (highest_of number ok n)
      (λ t. best_more n (highest_of number ok n) t (highest_ends n))
      (λ t. best_kept n (highest_of number ok n) t (highest_ends n))

  pub highest_says : (n : ℕ) → Says (Highest number ok n) (highest_of number ok n)
  highest_says n = ends_says _ _ (highest_of number ok n) (highest_ends n) (λ None x p. None x p.tabled p.passes)

  -- there is a highest where some block passes
  pub highest_some : (n x : ℕ) → x < n → T (ok x) → (g : ℕ) × Highest number ok n g
  highest_some n x h p = go (highest_of number ok n) (highest_ends n)
    where
      go : (o : Option ℕ) → Best n o → (g : ℕ) × Highest number ok n g
      go None r = absurd (r x h p)
      go (Some g) r = (g, r)
