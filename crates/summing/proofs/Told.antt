-- What bytes tell from a state on, by each way out of a turn.
use mathlib.Core.Bool.{true, false}
use mathlib.Core.List.{List, [], ◌∷◌}
use mathlib.Core.Path.{◌≡◌, refl, sym, ap, subst, ◌∙◌}
use Prim.Native.Nat.{ℕ, ◌-◌, ◌≤◌}
use native.Mathlib.Omega.{arith}
use lib.ListN.{length, take, drop, set, replicate, length-drop, length-set, length-replicate}
use Rattle.sizes.specs.Sizes.{WORDS, PAIRS, BLOCKS}
use Rattle.lent.specs.Moment.{plain}
use Rattle.columns.specs.Lists.{padded}
use Rattle.weights.specs.Weights.{plus}
use Rattle.voter_set.specs.declared.VoterSet.{VoterSet}
use Rattle.voter_set.specs.Voters.{new}
use Rattle.blocks.specs.declared.BlockTable.{BlockTable}
use Rattle.blocks.specs.Add.{place_of}
use Rattle.block_table.specs.Add as table
use Rattle.block_laws.proofs.Adds.{found_stands}
use Rattle.context.specs.Votes.{voters_heard_in}
use Rattle.context.specs.declared.Phase.TheVariants.{Prevote, Precommit}
use Rattle.nodes.specs.Nodes.{row}
use Rattle.vote_insert.specs.Insert as graph
use Rattle.vote_graph.proofs.Shapes.{columns_of}
use Rattle.importing.specs.declared.Standing.{Standing}
use Rattle.tracker.specs.Votes.{no_votes}
use Rattle.importing.specs.Import.{Frame, Held, blank, opened_held}
use Rattle.importing.specs.Lent.{held_at}
use Rattle.held_laws.specs.Kept.{Kept}
use Rattle.held_laws.proofs.Opens.{opened_kept}
use Rattle.marks.specs.declared.Mark.TheVariants.{Rt, Op}
use Rattle.marks.specs.declared.Record.TheVariants as is
use Rattle.marks.specs.declared.End.{End}
use Rattle.marks.specs.declared.End.TheVariants.{Cut, Refused, Left}
use Rattle.marks.specs.Marks.{read, fields, after, word, long}
use Rattle.runs.specs.Run.{Run, ended, ran, counted}
use Rattle.runs.proofs.Turns.{part_drop}
use Rattle.round.specs.Ask.{heard_in}
use Rattle.pairing.specs.declared.Pairs.{Pairs}
use Rattle.pairing.specs.Pairing.{paired}
use Rattle.growing.specs.Growing.{grown}
use Rattle.voting.specs.Voting.{Voting, voted}
use Rattle.turns.specs.Turns as turns
use Rattle.turns.specs.Turns.{pairing, growing, voting, opened_round, no_pairs}
use Rattle.turns.specs.Stands.{Stands}
use Rattle.journal.specs.declared.Journal.{Journal}
use Rattle.journal.specs.Journal.{round_of, laid, run_from}
use Rattle.journal.proofs.Turning.{open_refused, open_goes, root_refused, root_goes}
use Rattle.journal.proofs.Through.{voters_cut, voters_refused, voters_left, blocks_cut, blocks_refused, blocks_left, votes_through}
use Rattle.journal.proofs.Done.{rt_ready, grown_ready}
use Rattle.feeding.specs.Feeding.{kept_rest, after_run, replayed}
use Rattle.feeding.proofs.Goes.{after_counted}
use Rattle.summary.specs.declared.Outcome.TheVariants as outcome
use Rattle.summary.specs.declared.Outcome.TheVariants.{Early}
use Rattle.summary.specs.declared.Summary.{Summary}
use Rattle.summary.specs.Summary.{bare, of_round, summed}
use Rattle.summing.specs.Summing.{told, of_parts, closed}
use Rattle.std.specs.Prelude.{Some, None, Result, Ok, Err}
use Rattle.refusals.specs.declared.Refusal.TheVariants.{UnknownBase}
use Rattle.refusals.specs.declared.Refusal.{Refusal}

-- a part of the bytes from a place on, as code makes it
abbrev part : ℕ → List ℕ → List ℕ
part a bs = take (length bs - a) (drop a bs)

-- a run that goes on from another state, n records later
goes_on : (m n : ℕ) (j t : turns.Journal) (a : ℕ) (bs : List ℕ) → run_from j bs ≡ counted n (run_from t (drop a bs))
    → (k : ℕ) → k ≡ plus m n → (r : Summary) → r ≡ told k t (part a bs) → r ≡ told m j bs
unfolding told
goes_on m n j t a bs e k f r g =
    g ∙ (λ i. summed (after_run (f i) (run_from t (part_drop a bs i))))
    ∙ ap summed (sym (after_counted m n (run_from t (drop a bs))) ∙ ap (after_run m) (sym e))

-- a refused record
stops_at : (m n : ℕ) (j : turns.Journal) (s : Journal) (bs rest : List ℕ) (x : Refusal) → run_from j bs ≡ ended s n rest (Refused x)
    → (k : ℕ) → k ≡ plus m n → (r : Summary) → r ≡ bare (outcome.Refused x) k 0 → r ≡ told m j bs
unfolding told after_run summed
stops_at m n j s bs rest x e k f r g =
    g ∙ ap (λ i. bare (outcome.Refused x) i 0) f ∙ ap (λ (y : Run Journal). summed (after_run m y)) (sym e)

-- a journal that ends before its Op
ends_at : (m n a : ℕ) (bs : List ℕ) (j : turns.Journal) → told m j bs ≡ bare Early (plus m n) (length (drop a bs))
    → (k : ℕ) → k ≡ plus m n → (r : Summary) → r ≡ bare Early k (length bs - a) → r ≡ told m j bs
ends_at m n a bs j e k f r g = g ∙ (λ i. bare Early (f i) (sym (length-drop a bs) i)) ∙ sym e

-- the first turn
module _ (m : ℕ) (p : Pairs) (few : p.count ≤ PAIRS) (q : Pairs) (n a : ℕ) (bs : List ℕ) (x : End) (e : ended q n (drop a bs) x ≡ ran paired p bs)
    (k : ℕ) (sum : k ≡ plus m n) (r : Summary) where
  matched : (y : End) → x ≡ y → ended q n (drop a bs) y ≡ ran paired p bs
  matched y f = ap (λ (z : End). ended q n (drop a bs) z) (sym f) ∙ e

  pub pairs_on : x ≡ Left → r ≡ told k (pairing q) (part a bs) → r ≡ told m (pairing p) bs
  pairs_on f = goes_on m n (pairing p) (pairing q) a bs (voters_left p q few n bs (drop a bs) (matched Left f)) k sum r

  pub pairs_cut : x ≡ Cut → r ≡ bare Early k (length bs - a) → r ≡ told m (pairing p) bs
  unfolding told after_run summed kept_rest
  pairs_cut f =
      ends_at m n a bs (pairing p) (ap (λ (y : Run Journal). summed (after_run m y)) (voters_cut p q few n bs (drop a bs) (matched Cut f))) k sum r

  pub pairs_refused : (z : Refusal) → x ≡ Refused z → r ≡ bare (outcome.Refused z) k 0 → r ≡ told m (pairing p) bs
  pairs_refused z f =
      stops_at m n (pairing p) (laid (pairing q)) bs (drop a bs) z (voters_refused p q few n bs (drop a bs) z (matched (Refused z) f)) k sum r

pub whole : (bs : List ℕ) (r : Summary) → r ≡ told 0 (pairing no_pairs) bs → r ≡ summed (replayed bs)
unfolding told replayed
whole bs r e = e

-- the second turn
module _ (m : ℕ) (v : VoterSet) (o : BlockTable) (stands : Stands Kept (growing v o)) (t : BlockTable) (is_o : t ≡ o) (u : BlockTable) (n a : ℕ) (bs : List ℕ) (x : End)
    (e : ended u n (drop a bs) x ≡ ran grown t bs) where
  from_o : ended u n (drop a bs) x ≡ ran grown o bs
  from_o = e ∙ ap (λ (w : BlockTable). ran grown w bs) is_o

  same : (y : End) → x ≡ y → ended u n (drop a bs) y ≡ ran grown o bs
  same y f = ap (λ (z : End). ended u n (drop a bs) z) (sym f) ∙ from_o

  pub blocks_ready : x ≡ Left → Stands Kept (growing v u) × (read (part a bs) ≡ is.Whole Op)
  blocks_ready = grown_ready v o stands u n a bs x from_o

  module _ (k : ℕ) (sum : k ≡ plus m n) (r : Summary) where
    pub blocks_on : x ≡ Left → r ≡ told k (growing v u) (part a bs) → r ≡ told m (growing v o) bs
    blocks_on f = goes_on m n (growing v o) (growing v u) a bs (blocks_left v o u stands.2 n bs (drop a bs) (same Left f)) k sum r

    pub blocks_end : x ≡ Cut → r ≡ bare Early k (length bs - a) → r ≡ told m (growing v o) bs
    unfolding told after_run summed kept_rest
    blocks_end f =
        ends_at m n a bs (growing v o) (ap (λ (y : Run Journal). summed (after_run m y)) (blocks_cut v o u stands.2 n bs (drop a bs) (same Cut f))) k sum r

    pub blocks_stop : (z : Refusal) → x ≡ Refused z → r ≡ bare (outcome.Refused z) k 0 → r ≡ told m (growing v o) bs
    blocks_stop z f =
        stops_at m n (growing v o) (laid (growing v u)) bs (drop a bs) z (blocks_refused v o u stands.2 n bs (drop a bs) z (same (Refused z) f)) k sum r

pub opened_room : (a b : ℕ) (t : BlockTable) → t ≡ table.opened a b → (t.count ≤ BLOCKS) × (length t.ids ≡ BLOCKS)
unfolding table.opened
opened_room a b t e =
    subst (λ (u : BlockTable). (u.count ≤ BLOCKS) × (length u.ids ≡ BLOCKS)) (sym e)
    (omega arith, length-set (replicate BLOCKS 0) 0 a ∙ length-replicate {A = ℕ} BLOCKS 0)

-- the Rt
module _ (m : ℕ) (p : Pairs) (bs : List ℕ) (is_rt : read bs ≡ is.Whole Rt) (fs : List ℕ) (all : fs ≡ fields Rt bs) (made : Result VoterSet Refusal)
    (is_made : made ≡ new (take p.count p.ids) (take p.count p.weights)) where
  pub rt_stop : (z : Refusal) → made ≡ Err z → (k : ℕ) → k ≡ plus m 0 → (r : Summary) → r ≡ bare (outcome.Refused z) k 0 → r ≡ told m (pairing p) bs
  rt_stop z e = stops_at m 0 (pairing p) (laid (pairing p)) bs bs z (root_refused p bs is_rt z (sym is_made ∙ e))

  module _ (v : VoterSet) (yes : made ≡ Ok v) (a b : ℕ) (root : a ≡ word fs 0) (height : b ≡ word fs 4) where
    pub rt_stands : Stands Kept (growing v (table.opened a b))
    rt_stands = rt_ready p bs is_rt fs all made is_made v yes a b root height (table.opened a b) refl

    pub rt_on : (k : ℕ) → k ≡ plus m 1 → (r : Summary) → r ≡ told k (growing v (table.opened a b)) (part 10 bs) → r ≡ told m (pairing p) bs
    unfolding after
    rt_on k f r g =
        goes_on m 1 (pairing p) (growing v (table.opened (word (fields Rt bs) 0) (word (fields Rt bs) 4))) 10 bs
        (root_goes p bs is_rt v (sym is_made ∙ yes)) k f r
        (g ∙ (λ i. told k (growing v (table.opened ((root ∙ ap (λ l. word l 0) all) i) ((height ∙ ap (λ l. word l 4) all) i))) (part 10 bs)))

-- the Op
module _ (m : ℕ) (v : VoterSet) (t : BlockTable) (stands : Stands Kept (growing v t)) (bs : List ℕ) (is_op : read bs ≡ is.Whole Op) (fs : List ℕ) (all : fs ≡ fields Op bs)
    (base : ℕ) (named : base ≡ word fs 8) where
  sought : (o : _) → place_of t.ids t.count base ≡ o → place_of t.ids t.count (word (fields Op bs) 8) ≡ o
  sought o e = ap (place_of t.ids t.count) (ap (λ l. word l 8) (sym all) ∙ sym named) ∙ e

  pub op_stop : place_of t.ids t.count base ≡ None → (k : ℕ) → k ≡ plus m 0 → (r : Summary) → r ≡ bare (outcome.Refused UnknownBase) k 0 → r ≡ told m (growing v t) bs
  op_stop e = stops_at m 0 (growing v t) (laid (growing v t)) bs bs UnknownBase (open_refused v t bs is_op (sought None e))

  module _ (number : ℕ) (named_too : number ≡ long fs 0) (b : ℕ) (found : place_of t.ids t.count base ≡ Some b) where
    pub op_kept : Kept (opened_round number v t b).frame (opened_held b)
    op_kept =
        opened_kept (opened_round number v t b).frame
        (record { good = stands.0; fits = stands.1; table = stands.2; in_table = (found_stands t stands.2 base b found).inside })

    pub op_on : (k : ℕ) → k ≡ plus m 1 → (r : Summary) → r ≡ told k (voting (opened_round number v t b)) (part 14 bs) → r ≡ told m (growing v t) bs
    unfolding after
    op_on k f r g =
        goes_on m 1 (growing v t) (voting (opened_round (long (fields Op bs) 0) v t b)) 14 bs (open_goes v t bs is_op b (sought (Some b) found)) k f r
        (g ∙ ap (λ n. told k (voting (opened_round n v t b)) (part 14 bs)) (named_too ∙ ap (λ l. long l 0) all))

-- the third turn, from columns that code has just blanked
abbrev blanked : ℕ → ℕ → Standing → Held
blanked w b z =
    held_at plain (set (replicate BLOCKS false) w true) (replicate BLOCKS 0) (replicate BLOCKS (replicate WORDS 0)) (replicate BLOCKS 0) (set (replicate BLOCKS 0) 0 b)
    no_votes.counts no_votes.first_block no_votes.first_signature no_votes.second_target no_votes.second_number no_votes.second_signature (replicate BLOCKS 0) z

is_opened : (w b : ℕ) → w ≡ b → (z : Standing) → z ≡ blank → blanked w b z ≡ opened_held b
unfolding graph.opened padded
is_opened w b e z f = λ i. blanked (e i) b (f i)

-- a round by its parts
abbrev parts_of : Voting → List ℕ → ℕ → ℕ → Summary
parts_of v bits n tail =
    of_parts v.frame.table.ids v.frame.table.numbers bits v.frame.number v.frame.voters.total v.frame.voters.threshold v.held.heard
    v.held.answers n tail

parts_round : (v : Voting) (n tail : ℕ) → parts_of v (row v.held.graph.rows v.frame.base) n tail ≡ of_round (round_of v) n tail
unfolding of_parts of_round round_of heard_in
parts_round v n tail = λ i. of_parts v.frame.table.ids v.frame.table.numbers (row (sym (columns_of v.frame.base v.held.graph) i).rows v.frame.base) v.frame.number v.frame.voters.total v.frame.voters.threshold v.held.heard v.held.answers n tail

ends_voting : (m : ℕ) (v : Voting) → Kept v.frame v.held → (s : Voting) (n : ℕ) (bs rest : List ℕ) (x : End) → ended s n rest x ≡ ran voted v bs
    → closed x (parts_of s (row s.held.graph.rows s.frame.base) (plus m n) (length rest)) (plus m n) ≡ told m (voting v) bs
unfolding told after_run summed kept_rest
ends_voting m v kept s n bs rest Cut e =
    parts_round s (plus m n) (length rest) ∙ ap (λ (y : Run Journal). summed (after_run m y)) (sym (votes_through v s kept n bs rest Cut e))
ends_voting m v kept s n bs rest (Refused k) e = ap (λ (y : Run Journal). summed (after_run m y)) (sym (votes_through v s kept n bs rest (Refused k) e))
ends_voting m v kept s n bs rest Left e = ap (λ (y : Run Journal). summed (after_run m y)) (sym (votes_through v s kept n bs rest Left e))

module _ (f : Frame) (w : ℕ) (wide : w ≡ f.base) (z : Standing) (is_blank : z ≡ blank) (kept : Kept f (opened_held f.base)) where
  pub votes_ready : Kept f (blanked w f.base z)
  votes_ready = subst (Kept f) (sym (is_opened w f.base wide z is_blank)) kept

  pub votes_told : (m : ℕ) (s : Voting) (n a : ℕ) (bs : List ℕ) (x : End) → ended s n (drop a bs) x ≡ ran voted (record { frame = f; held = blanked w f.base z }) bs
      → (k : ℕ) → k ≡ plus m n → (r : Summary) → r ≡ closed x (parts_of s (row s.held.graph.rows s.frame.base) k (length bs - a)) k
      → r ≡ told m (voting (record { frame = f; held = opened_held f.base })) bs
  votes_told m s n a bs x e k sum r g =
      g
      ∙ (λ i. closed x (parts_of s (row s.held.graph.rows s.frame.base) (sum i) (sym (length-drop a bs) i)) (sum i))
      ∙ ends_voting m (record { frame = f; held = blanked w f.base z }) votes_ready s n bs (drop a bs) x e
      ∙ ap (λ (h : Held). told m (voting (record { frame = f; held = h })) bs) (is_opened w f.base wide z is_blank)
