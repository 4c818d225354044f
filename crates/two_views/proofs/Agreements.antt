-- The comparison passes exactly where number, base, voters and table are one.
use mathlib.Core.List.{List}
use mathlib.Core.Bool.{Bool, true, false, ◌&&◌}
use mathlib.Core.Path.{◌≡◌, refl, sym, subst}
use Prim.Native.Nat.{ℕ}
use lib.Dec.{T, eqb, eqb→eq}
use lib.ListN.{length, get_or}
use lib.Seq.{ext_get_or}
use lib.Pointwise.{pointwise}
use borrow.Author.Tests.{eq-eqb}
use Rattle.std.specs.Cmp.Lexicographic.{same_text}
use Rattle.std.proofs.lemmas.Cmp.{nat_list_eq_equiv}
use Rattle.loops.proofs.Tests.{T_true, true_T, both, left_of, right_of, same_test, and_true, and_false}
use Rattle.loops.proofs.Alls.{all_at, all_intro}
use Rattle.voter_set.specs.declared.VoterSet.{VoterSet}
use Rattle.blocks.specs.declared.BlockTable.{BlockTable}
use Rattle.round.specs.declared.Round.{Round}
use Rattle.two_views.specs.Views.{same, same_voters, same_table, agree}
use Rattle.two_views.specs.One.{One}

pub same_means : (xs ys : List ℕ) → T (same xs ys) → xs ≡ ys
unfolding same
same_means xs ys t =
    ext_get_or 0 xs ys (eqb→eq _ _ (left_of (eqb (length xs) (length ys)) _ t))
    (λ k h. eqb→eq _ _ (all_at (λ i. eqb (get_or xs i 0) (get_or ys i 0)) (length xs) (right_of (eqb (length xs) (length ys)) _ t) k h))

self : (n : ℕ) → T (eqb n n)
self n = T_true (eq-eqb n n refl)

pub same_self : (xs : List ℕ) → T (same xs xs)
unfolding same
same_self xs =
    both (eqb (length xs) (length xs)) _ (self (length xs))
    (all_intro (λ i. eqb (get_or xs i 0) (get_or xs i 0)) (length xs) (λ k h. self (get_or xs k 0)))

set_of : {i j w x : List ℕ} {c d t u s v : ℕ} → c ≡ d → t ≡ u → s ≡ v → i ≡ j → w ≡ x
    → ◌≡◌ {A = VoterSet} (record { ids = i; weights = w; count = c; threshold = t; total = s })
    (record { ids = j; weights = x; count = d; threshold = u; total = v })
set_of e f g h k = rw (e, f, g, h, k)

table_of : {i j n m p q : List ℕ} {c d : ℕ} → c ≡ d → i ≡ j → n ≡ m → p ≡ q
    → ◌≡◌ {A = BlockTable} (record { ids = i; numbers = n; parents = p; count = c }) (record { ids = j; numbers = m; parents = q; count = d })
table_of e f g h = rw (e, f, g, h)

pub voters_means : (a b : VoterSet) → T (same_voters a b) → a ≡ b
unfolding same_voters
voters_means a b t =
    let u = right_of (eqb a.count b.count) _ t in
    let v = right_of (eqb a.threshold b.threshold) _ u in
    let w = right_of (eqb a.total b.total) _ v in
    set_of (eqb→eq _ _ (left_of (eqb a.count b.count) _ t)) (eqb→eq _ _ (left_of (eqb a.threshold b.threshold) _ u))
    (eqb→eq _ _ (left_of (eqb a.total b.total) _ v)) (same_means _ _ (left_of (same a.ids b.ids) _ w))
    (same_means _ _ (right_of (same a.ids b.ids) _ w))

pub voters_self : (a : VoterSet) → T (same_voters a a)
unfolding same_voters
voters_self a =
    both (eqb a.count a.count) _ (self a.count)
    (both (eqb a.threshold a.threshold) _ (self a.threshold)
    (both (eqb a.total a.total) _ (self a.total) (both (same a.ids a.ids) _ (same_self a.ids) (same_self a.weights))))

pub table_means : (a b : BlockTable) → T (same_table a b) → a ≡ b
unfolding same_table
table_means a b t =
    let u = right_of (eqb a.count b.count) _ t in
    let v = right_of (same a.ids b.ids) _ u in
    table_of (eqb→eq _ _ (left_of (eqb a.count b.count) _ t)) (same_means _ _ (left_of (same a.ids b.ids) _ u))
    (same_means _ _ (left_of (same a.numbers b.numbers) _ v)) (same_means _ _ (right_of (same a.numbers b.numbers) _ v))

pub table_self : (a : BlockTable) → T (same_table a a)
unfolding same_table
table_self a =
    both (eqb a.count a.count) _ (self a.count)
    (both (same a.ids a.ids) _ (same_self a.ids)
    (both (same a.numbers a.numbers) _ (same_self a.numbers) (same_self a.parents)))

-- the library's comparison of two columns is ours
pub same_eq : (xs ys : List ℕ) → pointwise eqb xs ys ≡ same xs ys
same_eq xs ys =
    same_test (pointwise eqb xs ys) (same xs ys)
    (λ t. subst (λ (zs : List ℕ). T (same xs zs)) (same_text xs ys (sym (true_T _ t))) (same_self xs))
    (λ t. T_true (subst (λ (zs : List ℕ). pointwise eqb xs zs ≡ true) (same_means xs ys t) (nat_list_eq_equiv.refl xs)))

-- tests in another order
turned_5 : (i w c t s : Bool) → (i && (w && (c && (t && s)))) ≡ (c && (t && (s && (i && w))))
turned_5 true true c t s = rw (and_true s) refl
turned_5 true false c t s = rw (and_false s, and_false t, and_false c) refl
turned_5 false w c t s = rw (and_false s, and_false t, and_false c) refl

turned_4 : (i n p c : Bool) → (i && (n && (p && c))) ≡ (c && (i && (n && p)))
turned_4 true true true c = rw (and_true c) refl
turned_4 true true false c = rw (and_false c) refl
turned_4 true false p c = rw (and_false c) refl
turned_4 false n p c = rw (and_false c) refl

-- a voter set's comparison field by field, and a table's
pub voters_eq : (a b : VoterSet)
    → (pointwise eqb a.ids b.ids && (pointwise eqb a.weights b.weights && (eqb a.count b.count && (eqb a.threshold b.threshold && eqb a.total b.total))))
    ≡ same_voters a b
unfolding same_voters
voters_eq a b =
    rw (same_eq a.ids b.ids, same_eq a.weights b.weights)
    (turned_5 (same a.ids b.ids) (same a.weights b.weights) (eqb a.count b.count) (eqb a.threshold b.threshold) (eqb a.total b.total))

pub table_eq : (a b : BlockTable)
    → (pointwise eqb a.ids b.ids && (pointwise eqb a.numbers b.numbers && (pointwise eqb a.parents b.parents && eqb a.count b.count))) ≡ same_table a b
unfolding same_table
table_eq a b =
    rw (same_eq a.ids b.ids, same_eq a.numbers b.numbers, same_eq a.parents b.parents)
    (turned_4 (same a.ids b.ids) (same a.numbers b.numbers) (same a.parents b.parents) (eqb a.count b.count))

module _ (a b : Round) where
  pub agree_means : T (agree a b) → One a b
  unfolding agree
  agree_means t =
      let u = right_of (eqb a.number b.number) _ t in
      let v = right_of (eqb a.graph.base b.graph.base) _ u in
      record {
        number = eqb→eq _ _ (left_of (eqb a.number b.number) _ t);
        base = eqb→eq _ _ (left_of (eqb a.graph.base b.graph.base) _ u);
        voters = voters_means _ _ (left_of (same_voters a.context.voters b.context.voters) _ v);
        table = table_means _ _ (right_of (same_voters a.context.voters b.context.voters) _ v);
      }

  pub means_agree : One a b → T (agree a b)
  unfolding agree
  means_agree o =
      both (eqb a.number b.number) _ (T_true (eq-eqb _ _ o.number))
      (both (eqb a.graph.base b.graph.base) _ (T_true (eq-eqb _ _ o.base))
      (both (same_voters a.context.voters b.context.voters) _
      (subst (λ (x : VoterSet). T (same_voters a.context.voters x)) o.voters (voters_self a.context.voters))
      (subst (λ (x : BlockTable). T (same_table a.table x)) o.table (table_self a.table))))
