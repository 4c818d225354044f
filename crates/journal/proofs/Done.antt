-- What code has done when it returns: one law for each way out of a turn.
use mathlib.Core.List.{List}
use mathlib.Core.Path.{◌≡◌, refl, sym, ap, subst, ◌∙◌}
use Prim.Native.Nat.{ℕ, ◌+◌, ◌-◌, ◌≤◌}
use native.Mathlib.Omega.{arith}
use lib.ListN.{length, take, drop, length-drop}
use lib.Seq.{drop-drop}
use Rattle.sizes.specs.Sizes.{PAIRS}
use Rattle.weights.specs.Weights.{most}
use Rattle.voter_set.specs.declared.VoterSet.{VoterSet}
use Rattle.voter_set.specs.Voters.{new}
use Rattle.voter_laws.proofs.Made.{made_fit, made_total, new_good}
use Rattle.blocks.specs.declared.BlockTable.{BlockTable}
use Rattle.blocks.specs.Add.{place_of}
use Rattle.block_table.specs.Add as table
use Rattle.block_laws.proofs.Adds.{opened_shaped, found_stands}
use Rattle.graph_rows.specs.declared.Row.{Row}
use Rattle.graph_rows.specs.Rows.{words_of, rows_of}
use Rattle.importing.specs.Import.{Frame}
use Rattle.held_laws.specs.Kept.{Kept}
use Rattle.held_laws.proofs.Opens.{opened_kept}
use Rattle.marks.specs.declared.Mark.TheVariants.{Rt, Op}
use Rattle.marks.specs.declared.Record.TheVariants as is
use Rattle.marks.specs.declared.End.{End}
use Rattle.marks.specs.declared.End.TheVariants.{Cut, Refused, Left}
use Rattle.marks.specs.Marks.{read, fields, after, word, long}
use Rattle.runs.specs.Run.{Run, ended, ran, counted}
use Rattle.runs.proofs.Turns.{part_drop}
use Rattle.round.specs.declared.Round.{Round}
use Rattle.round.specs.Shape.{frame, held_lent, held}
use Rattle.round.specs.Calls.{made, opened}
use Rattle.round_laws.proofs.Keeps.{opened_again}
use Rattle.pairing.specs.declared.Pairs.{Pairs}
use Rattle.pairing.specs.Pairing.{paired}
use Rattle.growing.specs.Growing.{grown}
use Rattle.voting.specs.Voting.{Voting, voted}
use Rattle.turns.specs.Turns as turns
use Rattle.turns.specs.Turns.{pairing, growing, voting, opened_round, no_pairs}
use Rattle.turns.specs.Stands.{Stands}
use Rattle.journal.specs.declared.Turn.TheVariants.{Voters, Blocks, Votes}
use Rattle.journal.specs.declared.Journal.{Journal}
use Rattle.journal.specs.declared.Progress.{Progress}
use Rattle.journal.specs.Journal.{round_of, laid, told_by, told, run_of, run_from}
use Rattle.journal.proofs.Turning.{open_refused, open_goes, root_refused, root_goes}
use Rattle.journal.proofs.Through.{voters_cut, voters_refused, voters_left, voters_rt, blocks_cut, blocks_refused, blocks_left, blocks_shaped, blocks_op, votes_through}
use Rattle.std.specs.Prelude.{Some, None, Result, Ok, Err}
use Rattle.refusals.specs.declared.Refusal.TheVariants.{UnknownBase}
use Rattle.refusals.specs.declared.Refusal.{Refusal}

-- a round after some votes, with its rows as code makes them
abbrev round_by : Voting → List Row → Round
round_by v rows = made v.frame v.held rows None None

same : (v : Voting) → round_by v (rows_of v.held.graph.rows) ≡ round_of v
unfolding round_of
same v = refl

is_laid : (v : Voting) (rows : List Row) → rows ≡ rows_of v.held.graph.rows → (p : Pairs) → p ≡ no_pairs
    → record { turn = Votes; pairs = p; round = round_by v rows } ≡ laid (voting v)
is_laid v rows a p b =
    (λ i. record { turn = Votes; pairs = b i; round = round_by v (a i) })
    ∙ ap (λ (q : Round). record { turn = Votes; pairs = no_pairs; round = q }) (same v)

module _ (r : Round) (kept : Kept (frame r) (held r)) (w : List (List ℕ)) (words : w ≡ words_of r.graph.rows) where
  pub votes_ready : Kept (frame r) (held_lent r w)
  votes_ready = subst (λ x. Kept (frame r) (held_lent r x)) (sym words) kept

  pub votes_done : (v : Voting) (n : ℕ) (bs rest : List ℕ) (x : End) → ended v n rest x ≡ ran voted (record { frame = frame r; held = held_lent r w }) bs
      → (rows : List Row) → rows ≡ rows_of v.held.graph.rows → (p : Pairs) → p ≡ no_pairs
      → ended (record { turn = Votes; pairs = p; round = round_by v rows }) n rest x ≡ run_from (voting (record { frame = frame r; held = held r })) bs
  votes_done v n bs rest x e rows is_rows p is_none =
      ap (λ (j : Journal). ended j n rest x) (is_laid v rows is_rows p is_none)
      ∙ sym (votes_through (record { frame = frame r; held = held r }) v kept n bs rest x (e ∙ ap (λ y. ran voted (record { frame = frame r; held = held_lent r y }) bs) words))

-- records and bytes before a run
later_is : (p : Progress) (n a : ℕ) (bs : List ℕ)
    → run_of (record { journal = p.journal; count = n + p.count; at = a + p.at; end = p.end }) bs ≡ counted n (run_of p (drop a bs))
unfolding counted
later_is p n a bs = ap (λ l. record { state = p.journal; count = n + p.count; rest = l; end = p.end }) (sym (drop-drop p.at a bs))

-- a run over a part, behind records that were taken before it
pub later_done : (j t : turns.Journal) (n a : ℕ) (bs : List ℕ) → run_from j bs ≡ counted n (run_from t (drop a bs)) → (p q : Progress) → run_of p (drop a bs) ≡ run_from t (drop a bs)
    → q ≡ record { journal = p.journal; count = n + p.count; at = a + p.at; end = p.end } → run_of q bs ≡ run_from j bs
later_done j t n a bs goes p q e f = ap (λ (x : Progress). run_of x bs) f ∙ later_is p n a bs ∙ ap (counted n) e ∙ sym goes

-- a part of the bytes from a place on, as code makes it
abbrev part : ℕ → List ℕ → List ℕ
part a bs = take (length bs - a) (drop a bs)

pub part_read : (a : ℕ) (bs : List ℕ) {x : _} → read (drop a bs) ≡ x → read (part a bs) ≡ x
part_read a bs e = ap read (part_drop a bs) ∙ e

pub part_run : (t : turns.Journal) (p : Progress) (a : ℕ) (bs : List ℕ) → run_of p (part a bs) ≡ run_from t (part a bs) → run_of p (drop a bs) ≡ run_from t (drop a bs)
part_run t p a bs e = subst (λ l. run_of p l ≡ run_from t l) (part_drop a bs) e

-- the Op
module _ (v : VoterSet) (t : BlockTable) (stands : Stands Kept (growing v t)) (bs : List ℕ) (whole : read bs ≡ is.Whole Op) (fs : List ℕ) (all : fs ≡ fields Op bs)
    (base : ℕ) (named : base ≡ word fs 8) where
  sought : (o : _) → place_of t.ids t.count base ≡ o → place_of t.ids t.count (word (fields Op bs) 8) ≡ o
  sought o e = ap (place_of t.ids t.count) (ap (λ l. word l 8) (sym all) ∙ sym named) ∙ e

  pub op_refused : place_of t.ids t.count base ≡ None → (j : Journal) → j ≡ laid (growing v t) → ended j 0 bs (Refused UnknownBase) ≡ run_from (growing v t) bs
  op_refused e j f = ap (λ (x : Journal). ended x 0 bs (Refused UnknownBase)) f ∙ sym (open_refused v t bs whole (sought None e))

  module _ (number : ℕ) (told : number ≡ long fs 0) (b : ℕ) (found : place_of t.ids t.count base ≡ Some b) (r : Round) (is_opened : r ≡ opened number v t b) where
    abbrev start : Voting
    start = opened_round number v t b

    frame_start : frame r ≡ start.frame
    unfolding opened
    frame_start = ap frame is_opened

    held_start : held r ≡ start.held
    held_start = ap held is_opened ∙ opened_again number v t b

    pub op_ready : Kept (frame r) (held r)
    op_ready =
        subst (λ (f : Frame). Kept f (held r)) (sym frame_start)
        (subst (Kept start.frame) (sym held_start)
        (opened_kept start.frame
        (record { good = stands.0; fits = stands.1; table = stands.2; in_table = (found_stands t stands.2 base b found).inside })))

    pub op_done : (p q : Progress) → run_of p (part 14 bs) ≡ run_from (voting (record { frame = frame r; held = held r })) (part 14 bs)
        → q ≡ record { journal = p.journal; count = 1 + p.count; at = 14 + p.at; end = p.end } → run_of q bs ≡ run_from (growing v t) bs
    unfolding after
    op_done p q e f =
        later_done (growing v t) (voting (opened_round (long (fields Op bs) 0) v t b)) 1 14 bs (open_goes v t bs whole b (sought (Some b) found)) p q
        (part_run _ p 14 bs
        (e ∙ ap (λ (s : Voting). run_from (voting s) (part 14 bs)) (λ i. record { frame = frame_start i; held = held_start i })
        ∙ ap (λ n. run_from (voting (opened_round n v t b)) (part 14 bs)) (told ∙ ap (λ l. long l 0) all)))
        f

-- the Rt
module _ (p : Pairs) (bs : List ℕ) (whole : read bs ≡ is.Whole Rt) (fs : List ℕ) (all : fs ≡ fields Rt bs) (m : Result VoterSet Refusal)
    (made : m ≡ new (take p.count p.ids) (take p.count p.weights)) where
  pub rt_refused : (n : Refusal) → m ≡ Err n → (j : Journal) → j ≡ laid (pairing p) → ended j 0 bs (Refused n) ≡ run_from (pairing p) bs
  rt_refused n e j f = ap (λ (x : Journal). ended x 0 bs (Refused n)) f ∙ sym (root_refused p bs whole n (sym made ∙ e))

  module _ (v : VoterSet) (yes : m ≡ Ok v) (a b : ℕ) (root : a ≡ word fs 0) (height : b ≡ word fs 4) (t : BlockTable) (is_table : t ≡ table.opened a b) where
    is_made : new (take p.count p.ids) (take p.count p.weights) ≡ Ok v
    is_made = sym made ∙ yes

    pub rt_ready : Stands Kept (growing v t)
    rt_ready =
        subst (λ (u : BlockTable). Stands Kept (growing v u)) (sym is_table) (
          new_good (take p.count p.ids) (take p.count p.weights) is_made,
          subst (λ n. n ≤ most) (sym (made_total (take p.count p.ids) (take p.count p.weights) is_made))
              (made_fit (take p.count p.ids) (take p.count p.weights) is_made).fits,
          opened_shaped a b,
        )

    pub rt_done : (x y : Progress) → run_of x (part 10 bs) ≡ run_from (growing v t) (part 10 bs)
        → y ≡ record { journal = x.journal; count = 1 + x.count; at = 10 + x.at; end = x.end } → run_of y bs ≡ run_from (pairing p) bs
    unfolding after
    rt_done x y e f =
        later_done (pairing p) (growing v (table.opened (word (fields Rt bs) 0) (word (fields Rt bs) 4))) 1 10 bs (root_goes p bs whole v is_made) x y
        (part_run _ x 10 bs
        (e ∙ ap (λ (u : BlockTable). run_from (growing v u) (part 10 bs))
        (is_table ∙ (λ i. table.opened ((root ∙ ap (λ l. word l 0) all) i) ((height ∙ ap (λ l. word l 4) all) i)))))
        f

-- the end of a run, as code has matched it
matched : {S : Type 0} (s : S) (n : ℕ) (rest : List ℕ) (x y : End) (r : Run S) → ended s n rest x ≡ r → x ≡ y → ended s n rest y ≡ r
matched s n rest x y r e f = ap (λ (z : End). ended s n rest z) (sym f) ∙ e

-- what code knows of an end that is not one of a turn, and the two ends that there are then
abbrev NotLeft : End → Type 0
NotLeft x = x ≡ Left → ⊥

over_by : (x : End) (P : End → Type 0) → NotLeft x → (x ≡ Cut → P Cut) → ((k : Refusal) → x ≡ Refused k → P (Refused k)) → P x
over_by Cut P h c r = c refl
over_by (Refused k) P h c r = r k refl
over_by Left P h c r = absurd (h refl)

-- the second turn
module _ (v : VoterSet) (t : BlockTable) (stands : Stands Kept (growing v t)) (u : BlockTable) (n a : ℕ) (bs : List ℕ) (x : End)
    (e : ended u n (drop a bs) x ≡ ran grown t bs) where
  grown_cut : x ≡ Cut → (j : Journal) → j ≡ laid (growing v u) → ended j n (drop a bs) Cut ≡ run_from (growing v t) bs
  grown_cut f j g =
      ap (λ (y : Journal). ended y n (drop a bs) Cut) g ∙ sym (blocks_cut v t u stands.2 n bs (drop a bs) (matched u n (drop a bs) x Cut _ e f))

  grown_refused : (k : Refusal) → x ≡ Refused k → (j : Journal) → j ≡ laid (growing v u) → ended j n (drop a bs) (Refused k) ≡ run_from (growing v t) bs
  grown_refused k f j g =
      ap (λ (y : Journal). ended y n (drop a bs) (Refused k)) g
      ∙ sym (blocks_refused v t u stands.2 n bs (drop a bs) k (matched u n (drop a bs) x (Refused k) _ e f))

  pub grown_over : NotLeft x → (j : Journal) → j ≡ laid (growing v u) → ended j n (drop a bs) x ≡ run_from (growing v t) bs
  grown_over h j g = over_by x (λ y. ended j n (drop a bs) y ≡ run_from (growing v t) bs) h (λ f. grown_cut f j g) (λ k f. grown_refused k f j g)

  pub grown_ready : x ≡ Left → Stands Kept (growing v u) × (read (part a bs) ≡ is.Whole Op)
  grown_ready f = (
    (stands.0, stands.1, blocks_shaped v t u stands.2 n bs (drop a bs) x e),
    part_read a bs (blocks_op v t u stands.2 n bs (drop a bs) (matched u n (drop a bs) x Left _ e f)),
  )

  pub grown_done : x ≡ Left → (p q : Progress) → run_of p (part a bs) ≡ run_from (growing v u) (part a bs)
      → q ≡ record { journal = p.journal; count = n + p.count; at = a + p.at; end = p.end } → run_of q bs ≡ run_from (growing v t) bs
  grown_done f p q g h =
      later_done (growing v t) (growing v u) n a bs (blocks_left v t u stands.2 n bs (drop a bs) (matched u n (drop a bs) x Left _ e f)) p q
      (part_run (growing v u) p a bs g) h

-- the first turn
module _ (p : Pairs) (few : p.count ≤ PAIRS) (q : Pairs) (n a : ℕ) (bs : List ℕ) (x : End) (e : ended q n (drop a bs) x ≡ ran paired p bs) where
  paired_cut : x ≡ Cut → (j : Journal) → j ≡ laid (pairing q) → ended j n (drop a bs) Cut ≡ run_from (pairing p) bs
  paired_cut f j g =
      ap (λ (y : Journal). ended y n (drop a bs) Cut) g ∙ sym (voters_cut p q few n bs (drop a bs) (matched q n (drop a bs) x Cut _ e f))

  paired_refused : (k : Refusal) → x ≡ Refused k → (j : Journal) → j ≡ laid (pairing q) → ended j n (drop a bs) (Refused k) ≡ run_from (pairing p) bs
  paired_refused k f j g =
      ap (λ (y : Journal). ended y n (drop a bs) (Refused k)) g
      ∙ sym (voters_refused p q few n bs (drop a bs) k (matched q n (drop a bs) x (Refused k) _ e f))

  pub paired_over : NotLeft x → (j : Journal) → j ≡ laid (pairing q) → ended j n (drop a bs) x ≡ run_from (pairing p) bs
  paired_over h j g = over_by x (λ y. ended j n (drop a bs) y ≡ run_from (pairing p) bs) h (λ f. paired_cut f j g) (λ k f. paired_refused k f j g)

  pub paired_read : x ≡ Left → read (part a bs) ≡ is.Whole Rt
  paired_read f = part_read a bs (voters_rt p q few n bs (drop a bs) (matched q n (drop a bs) x Left _ e f))

  pub paired_done : x ≡ Left → (y z : Progress) → run_of y (part a bs) ≡ run_from (pairing q) (part a bs)
      → z ≡ record { journal = y.journal; count = n + y.count; at = a + y.at; end = y.end } → run_of z bs ≡ run_from (pairing p) bs
  paired_done f y z g h =
      later_done (pairing p) (pairing q) n a bs (voters_left p q few n bs (drop a bs) (matched q n (drop a bs) x Left _ e f)) y z
      (part_run (pairing q) y a bs g) h

-- by the turn
pub told_voters : (j : Journal) → j.turn ≡ Voters → told j ≡ pairing j.pairs
unfolding told
told_voters j e = ap (λ t. told_by t j) e

pub told_blocks : (j : Journal) → j.turn ≡ Blocks → told j ≡ growing j.round.context.voters j.round.table
unfolding told
told_blocks j e = ap (λ t. told_by t j) e

pub told_votes : (j : Journal) → j.turn ≡ Votes → told j ≡ voting (record { frame = frame j.round; held = held j.round })
unfolding told
told_votes j e = ap (λ t. told_by t j) e

-- records and bytes of a run over a part, with those before it: they fit, and lie within the bytes
part_length : (a : ℕ) (bs : List ℕ) → length (part a bs) ≡ length bs - a
part_length a bs = ap length (part_drop a bs) ∙ length-drop a bs

module _ (n a : ℕ) (bs : List ℕ) (fewer : n ≤ a) (inside : a ≤ length bs) (p : Progress) (at : p.at ≤ length (part a bs)) (less : p.count ≤ p.at) where
  pub later_fits : length bs ≤ most → (n + p.count ≤ most) × (a + p.at ≤ most)
  later_fits h = (omega (arith, part_length a bs), omega (arith, part_length a bs))

  pub later_within : (q : Progress) → q ≡ record { journal = p.journal; count = n + p.count; at = a + p.at; end = p.end } → (q.at ≤ length bs) × (q.count ≤ q.at)
  later_within q e =
      subst (λ (x : Progress). (x.at ≤ length bs) × (x.count ≤ x.at)) (sym e) (omega (arith, part_length a bs), omega arith)

pub by_turn : (s t : turns.Journal) → s ≡ t → (bs : List ℕ) (r : Run Journal) → r ≡ run_from t bs → r ≡ run_from s bs
by_turn s t e bs r q = q ∙ ap (λ (j : turns.Journal). run_from j bs) (sym e)
