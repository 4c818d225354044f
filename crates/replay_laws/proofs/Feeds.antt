-- A journal fed in pieces is the journal fed whole, and both are its replay as a function on bytes.
use mathlib.Core.Bool.{Bool, true, false, not}
use mathlib.Core.List.{List, [], ◌∷◌, ◌++◌, flatten, append-nil, append_assoc}
use mathlib.Core.Path.{◌≡◌, refl, sym, ap, subst, ◌∙◌}
use Prim.Native.Nat.{ℕ, ◌+◌, ◌≤◌}
use native.Mathlib.Omega.{arith}
use borrow.Author.Tests.{le-ltb}
use lib.Dec.{T, ltb}
use lib.ListN.{length, drop, replicate}
use lib.Seq.{take_at}
use Rattle.loops.proofs.Tests.{T_true, both, left_of}
use Rattle.weights.specs.Weights.{most, plus}
use Rattle.marks.specs.declared.Record.TheVariants as is
use Rattle.marks.specs.declared.End.{End}
use Rattle.marks.specs.declared.End.TheVariants as end
use Rattle.marks.specs.Marks.{read}
use Rattle.marks.proofs.Readings.{read_short, cut_short}
use Rattle.runs.specs.Run.{Run, ended, ran, counted}
use Rattle.held_laws.specs.Kept.{Kept}
use Rattle.runs.proofs.Turns.{ran_cut}
use Rattle.runs.proofs.Rests.{rest_cut}
use Rattle.runs.proofs.Appends.{append_cut, append_refused}
use Rattle.turns.specs.Turns as turns
use Rattle.turns.specs.Turns.{pairing, took, no_pairs}
use Rattle.turns.specs.Stands.{Stands}
use Rattle.journal.specs.declared.Journal.{Journal}
use Rattle.journal.specs.Journal as journal
use Rattle.journal.specs.Journal.{laid, told, run_from}
use Rattle.round.specs.Calls.{opened}
use Rattle.round_laws.proofs.Keeps.{on_true}
use Rattle.turns.proofs.Keeps.{took_kept, ran_has}
use Rattle.feeding.proofs.Goes.{after_counted}
use Rattle.journal.proofs.Laid.{told_laid, stands_told, laid_stands}
use Rattle.journal.proofs.Turning.{from_ended, from_counted}
use Rattle.feeding.specs.declared.Replay.{Replay}
use Rattle.feeding.specs.declared.Fed.{Fed}
use Rattle.feeding.specs.Feeding.{bytes_of, is_cut, rest_stands, over, kept_rest, ended_by, after_run, started, replayed, went, stands, answered, unless, fed}
use Rattle.replay_laws.specs.Pieces.{fed_all}
use Rattle.replay_laws.proofs.Holds.{never_left}
use Rattle.std.specs.Prelude.{Result, Ok, Err, ⊤}
use Rattle.refusals.specs.declared.Refusal.{Refusal}
use Rattle.refusals.specs.declared.Refusal.TheVariants.{Misshapen}

-- bytes that are kept are read again
pub rest_again : (bs : List ℕ) → bytes_of (kept_rest bs) ≡ bs
unfolding kept_rest
rest_again bs = take_at bs (drop (length bs) (replicate 22 0)) (length bs) refl

rest_passes : (bs : List ℕ) → read bs ≡ is.Cut → T (rest_stands (kept_rest bs))
unfolding rest_stands kept_rest
rest_passes bs e =
    both (not (ltb 22 (length bs))) _ (T_true (ap not (le-ltb 22 (length bs) (omega (arith, cut_short bs e)))))
    (T_true (ap is_cut (ap read (rest_again bs) ∙ e)))

-- a replay that is open, and one that has stopped
abbrev open_at : turns.Journal → List ℕ → ℕ → Replay
open_at j rest n = record { journal = laid j; rest = kept_rest rest; records = n; stop = Ok tt }

abbrev stopped_at : turns.Journal → ℕ → Refusal → Replay
stopped_at j n k = record { journal = laid j; rest = kept_rest []; records = n; stop = Err k }

ended_at : (r : Run turns.Journal) (x : End) → r.end ≡ x → r ≡ ended r.state r.count r.rest x
ended_at r x e = ap (ended r.state r.count r.rest) e

-- a replay after a run from some state, by how the run ends
module _ (j : turns.Journal) (n : ℕ) (bs : List ℕ) where
  abbrev run : Run turns.Journal
  run = ran took j bs

  after_cut : run.end ≡ end.Cut → after_run n (run_from j bs) ≡ open_at run.state run.rest (plus n run.count)
  unfolding after_run
  after_cut e = ap (after_run n) (from_ended j run.state run.count bs run.rest end.Cut (ended_at run end.Cut e))

  after_refused : (k : Refusal) → run.end ≡ end.Refused k → after_run n (run_from j bs) ≡ stopped_at run.state (plus n run.count) k
  unfolding after_run
  after_refused k e =
      ap (after_run n) (from_ended j run.state run.count bs run.rest (end.Refused k) (ended_at run (end.Refused k) e))

  -- one of the two it is
  by_ending : (P : Replay → Type 0) → (run.end ≡ end.Cut → P (open_at run.state run.rest (plus n run.count)))
      → ((k : Refusal) → run.end ≡ end.Refused k → P (stopped_at run.state (plus n run.count) k)) → P (after_run n (run_from j bs))
  by_ending P f g = go run.end refl
    where
      go : (x : End) → run.end ≡ x → P (after_run n (run_from j bs))
      go end.Cut e = subst P (sym (after_cut e)) (f e)
      go (end.Refused k) e = subst P (sym (after_refused k e)) (g k e)
      go end.Left e = absurd (never_left j bs e)

-- a replay's test passes
open_stands : (j : turns.Journal) (rest : List ℕ) (n : ℕ) → Stands Kept j → read rest ≡ is.Cut → T (stands (open_at j rest n))
unfolding stands
open_stands j rest n s c = both (journal.stands (laid j)) _ (laid_stands j s) (rest_passes rest c)

stopped_stands : (j : turns.Journal) (n : ℕ) (k : Refusal) → Stands Kept j → T (stands (stopped_at j n k))
unfolding stands
stopped_stands j n k s = both (journal.stands (laid j)) _ (laid_stands j s) (rest_passes [] (read_short [] (omega arith)))

after_stands : (j : turns.Journal) → Stands Kept j → (n : ℕ) (bs : List ℕ) → T (stands (after_run n (run_from j bs)))
after_stands j s n bs =
    let r = ran took j bs in
    let k = ran_has took (Stands Kept) took_kept j bs s in
    by_ending j n bs (λ (x : Replay). T (stands x)) (λ e. open_stands r.state r.rest (plus n r.count) k (rest_cut took j bs e))
    (λ i e. stopped_stands r.state (plus n r.count) i k)

-- feeding such a replay
fed_open : (j : turns.Journal) (rest : List ℕ) (n : ℕ) → Stands Kept j → read rest ≡ is.Cut → (b : List ℕ)
    → fed (open_at j rest n) b ≡ answered (after_run n (run_from j (rest ++ b)))
unfolding fed went
fed_open j rest n s c b =
    on_true (λ (x : Fed). x ≡ answered (after_run n (run_from j (rest ++ b)))) (stands (open_at j rest n)) _ _ (open_stands j rest n s c)
    (λ i. answered (after_run n (run_from (told_laid j i) (rest_again rest i ++ b))))

-- what is taken while it is refused stays as it is
pub fed_stopped : (r : Replay) (k : Refusal) (b : List ℕ) → r.stop ≡ Err k → T (stands r) → fed r b ≡ record { answer = Err k; replay = r }
unfolding fed
fed_stopped r k b e t =
    on_true (λ (x : Fed). x ≡ record { answer = Err k; replay = r }) (stands r) _ _ t
    (ap (λ (s : Result ⊤ Refusal). unless s r (went r.journal r.rest r.records b)) e)

-- a state that breaks the rules is refused with Misshapen and comes back equal
pub fed_nine : (r : Replay) (b : List ℕ) → stands r ≡ false → fed r b ≡ record { answer = Err Misshapen; replay = r }
unfolding fed
fed_nine r b e = rw e

journal_stands : (r : Replay) → T (stands r) → T (journal.stands r.journal)
unfolding stands
journal_stands r t = left_of (journal.stands r.journal) _ t

-- a piece more, fed, is the run over all bytes so far
module _ (j : turns.Journal) (n : ℕ) (a b : List ℕ) where
  abbrev before : Run turns.Journal
  before = ran took j a

  after_stays : (k : Refusal) → before.end ≡ end.Refused k → after_run n (run_from j (a ++ b)) ≡ after_run n (run_from j a)
  unfolding after_run
  after_stays k e =
      ap (after_run n) (from_ended j before.state before.count (a ++ b) (before.rest ++ b) (end.Refused k) (append_refused took b j a k e))
      ∙ sym (after_refused j n a k e)

  after_goes_on : before.end ≡ end.Cut
      → after_run n (run_from j (a ++ b)) ≡ after_run (plus n before.count) (run_from before.state (before.rest ++ b))
  after_goes_on e =
      ap (after_run n) (from_counted j before.state before.count (a ++ b) (before.rest ++ b) (append_cut took b j a e))
      ∙ after_counted n before.count (run_from before.state (before.rest ++ b))

  fed_after : Stands Kept j → fed (after_run n (run_from j a)) b ≡ answered (after_run n (run_from j (a ++ b)))
  fed_after s = go before.end refl
    where
      go : (x : End) → before.end ≡ x → fed (after_run n (run_from j a)) b ≡ answered (after_run n (run_from j (a ++ b)))
      go end.Cut e =
          ap (λ (r : Replay). fed r b) (after_cut j n a e)
          ∙ fed_open before.state before.rest (plus n before.count) (ran_has took (Stands Kept) took_kept j a s) (rest_cut took j a e) b
          ∙ ap answered (sym (after_goes_on e))
      go (end.Refused k) e =
          let stop : (after_run n (run_from j a)).stop ≡ Err k = ap (λ (r : Replay). r.stop) (after_refused j n a k e) in
          fed_stopped (after_run n (run_from j a)) k b stop (after_stands j s n a)
          ∙ ap (λ (x : Result ⊤ Refusal). record { answer = x; replay = after_run n (run_from j a) }) (sym stop)
          ∙ ap answered (sym (after_stays k e))
      go end.Left e = absurd (never_left j a e)

-- any replay that is handed in: fed twice it is fed once, with both pieces
module _ (r : Replay) (fits : r.journal.round.context.voters.total ≤ most) where
  -- one that is open and keeps the rules
  fed_went : (b : List ℕ) → stands r ≡ true → r.stop ≡ Ok tt
      → fed r b ≡ answered (after_run r.records (run_from (told r.journal) (bytes_of r.rest ++ b)))
  unfolding fed went
  fed_went b t o = rw (t, o)

  pub fed_twice : (a b : List ℕ) → fed (fed r a).replay b ≡ fed r (a ++ b)
  fed_twice a b = go (stands r) refl r.stop refl
    where
      same : (x : Result ⊤ Refusal) → ((c : List ℕ) → fed r c ≡ record { answer = x; replay = r }) → fed (fed r a).replay b ≡ fed r (a ++ b)
      same x f = ap (λ (y : Fed). fed y.replay b) (f a) ∙ f b ∙ sym (f (a ++ b))

      go : (t : Bool) → stands r ≡ t → (x : Result ⊤ Refusal) → r.stop ≡ x → fed (fed r a).replay b ≡ fed r (a ++ b)
      go false t x o = same (Err Misshapen) (λ c. fed_nine r c t)
      go true t (Err k) o = same (Err k) (λ c. fed_stopped r k c o (T_true t))
      go true t (Ok tt) o =
          let old = bytes_of r.rest in
          let j = told r.journal in
          ap (λ (y : Fed). fed y.replay b) (fed_went a t o)
          ∙ fed_after j r.records (old ++ a) b (stands_told r.journal fits (journal_stands r (T_true t)))
          ∙ ap (λ (l : List ℕ). answered (after_run r.records (run_from j l))) (append_assoc old a b)
          ∙ sym (fed_went (a ++ b) t o)

  -- and in any pieces
  pub fed_any : (p : List ℕ) (ps : List (List ℕ)) → fed_all r (p ∷ ps) ≡ (fed r (p ++ flatten ps)).replay
  unfolding fed_all flatten
  fed_any p [] = ap (λ (l : List ℕ). (fed r l).replay) (sym (append-nil p))
  fed_any p (q ∷ ps) =
      ap (λ (x : Fed). fed_all x.replay ps) (fed_twice p q) ∙ fed_any (p ++ q) ps
      ∙ ap (λ (l : List ℕ). (fed r l).replay) (append_assoc p q (flatten ps))

-- a replay from the start
module _ (bs : List ℕ) where
  pub replayed_cut : (turns.replayed bs).end ≡ end.Cut
      → replayed bs ≡ open_at (turns.replayed bs).state (turns.replayed bs).rest (plus 0 (turns.replayed bs).count)
  unfolding replayed turns.replayed
  replayed_cut = after_cut (pairing no_pairs) 0 bs

  pub replayed_refused : (k : Refusal) → (turns.replayed bs).end ≡ end.Refused k
      → replayed bs ≡ stopped_at (turns.replayed bs).state (plus 0 (turns.replayed bs).count) k
  unfolding replayed turns.replayed
  replayed_refused = after_refused (pairing no_pairs) 0 bs

  pub by_end : (P : Replay → Type 0)
      → ((turns.replayed bs).end ≡ end.Cut → P (open_at (turns.replayed bs).state (turns.replayed bs).rest (plus 0 (turns.replayed bs).count)))
      → ((k : Refusal) → (turns.replayed bs).end ≡ end.Refused k → P (stopped_at (turns.replayed bs).state (plus 0 (turns.replayed bs).count) k))
      → P (replayed bs)
  unfolding replayed turns.replayed
  by_end = by_ending (pairing no_pairs) 0 bs

  -- its test passes
  pub replay_stands : T (stands (replayed bs))
  unfolding replayed
  replay_stands = after_stands (pairing no_pairs) (omega arith) 0 bs

-- a refused replay is that of the longer journal too
pub refused_stays : (a b : List ℕ) (k : Refusal) → (turns.replayed a).end ≡ end.Refused k → replayed (a ++ b) ≡ replayed a
unfolding replayed turns.replayed
refused_stays a b = after_stays (pairing no_pairs) 0 a b

-- a piece more
pub fed_more : (a b : List ℕ) → fed (replayed a) b ≡ answered (replayed (a ++ b))
unfolding replayed
fed_more a b = fed_after (pairing no_pairs) 0 a b (omega arith)

-- before the first byte
pub none_replayed : replayed [] ≡ started
unfolding turns.replayed
none_replayed =
    let c = ran_cut took (pairing no_pairs) [] (read_short [] (omega arith)) in
    replayed_cut [] (ap (λ (r : Run turns.Journal). r.end) c)
    ∙ ap (λ (r : Run turns.Journal). open_at r.state r.rest (plus 0 r.count)) c

-- a journal in one piece
pub fed_whole : (bs : List ℕ) → fed started bs ≡ answered (replayed bs)
fed_whole bs = ap (λ (r : Replay). fed r bs) (sym none_replayed) ∙ fed_more [] bs

-- a journal in any pieces
pub fed_pieces : (ps : List (List ℕ)) → fed_all started ps ≡ replayed (flatten ps)
unfolding fed_all flatten opened
fed_pieces [] = sym none_replayed
fed_pieces (p ∷ ps) = fed_any started (omega arith) p ps ∙ ap (λ (x : Fed). x.replay) (fed_whole (p ++ flatten ps))
