-- The records that end a turn: the Rt and the Op, and what follows them.
use mathlib.Core.List.{List}
use mathlib.Core.Path.{◌≡◌, ap}
use Prim.Native.Nat.{ℕ}
use lib.ListN.{take}
use Rattle.voter_set.specs.declared.VoterSet.{VoterSet}
use Rattle.voter_set.specs.Voters.{new}
use Rattle.blocks.specs.declared.BlockTable.{BlockTable}
use Rattle.blocks.specs.Add.{place_of, on_place}
use Rattle.block_table.specs.Add.{opened}
use Rattle.marks.specs.declared.Mark.TheVariants.{Rt, Op}
use Rattle.marks.specs.declared.Record.TheVariants as is
use Rattle.marks.specs.declared.End.{End}
use Rattle.marks.specs.declared.End.TheVariants as end
use Rattle.marks.specs.Marks.{read, fields, after, word, long}
use Rattle.runs.specs.Run.{goes, stops, ended, ran, counted}
use Rattle.runs.proofs.Turns.{ran_goes, ran_stops}
use Rattle.pairing.specs.declared.Pairs.{Pairs}
use Rattle.pairing.specs.Pairing.{paired}
use Rattle.growing.specs.Growing.{grown}
use Rattle.turns.specs.Turns as turns
use Rattle.turns.specs.Turns.{pairing, growing, voting, seated, rooted, opened_round, based, took}
use Rattle.journal.specs.Journal.{laid, by_value, run_from}
use Rattle.std.specs.Prelude.{Option, Some, None, Result, Ok, Err}
use Rattle.refusals.specs.declared.Refusal.TheVariants.{UnknownBase}
use Rattle.refusals.specs.declared.Refusal.{Refusal}

-- a run that ends at once, and one that goes on
pub from_ended : (j t : turns.Journal) (n : ℕ) (bs rest : List ℕ) (e : End) → ran took j bs ≡ ended t n rest e → run_from j bs ≡ ended (laid t) n rest e
unfolding run_from
from_ended j t n bs rest e q = ap by_value q

pub from_counted : (j t : turns.Journal) (n : ℕ) (bs rest : List ℕ) → ran took j bs ≡ counted n (ran took t rest) → run_from j bs ≡ counted n (run_from t rest)
unfolding run_from counted
from_counted j t n bs rest q = ap by_value q

module _ (v : VoterSet) (t : BlockTable) (part : List ℕ) (whole : read part ≡ is.Whole Op) where
  fs : List ℕ
  fs = fields Op part

  at_op : (o : Option ℕ) → place_of t.ids t.count (word (fields Op part) 8) ≡ o
      → took (growing v t) Op (fields Op part) ≡ on_place o (λ b. goes (voting (opened_round (long (fields Op part) 0) v t b))) (stops UnknownBase)
  unfolding took grown based
  at_op o e = ap (λ (p : Option ℕ). on_place p (λ b. goes (voting (opened_round (long (fields Op part) 0) v t b))) (stops UnknownBase)) e

  pub open_refused : place_of t.ids t.count (word (fields Op part) 8) ≡ None → run_from (growing v t) part ≡ ended (laid (growing v t)) 0 part (end.Refused UnknownBase)
  open_refused e = from_ended (growing v t) (growing v t) 0 part part (end.Refused UnknownBase) (ran_stops took (growing v t) part Op UnknownBase whole (at_op None e))

  pub open_goes : (b : ℕ) → place_of t.ids t.count (word (fields Op part) 8) ≡ Some b
      → run_from (growing v t) part ≡ counted 1 (run_from (voting (opened_round (long (fields Op part) 0) v t b)) (after Op part))
  open_goes b e = from_counted (growing v t) _ 1 part (after Op part) (ran_goes took (growing v t) _ part Op whole (at_op (Some b) e))

module _ (p : Pairs) (part : List ℕ) (whole : read part ≡ is.Whole Rt) where
  at_rt : (a : Result VoterSet Refusal) → new (take p.count p.ids) (take p.count p.weights) ≡ a
      → took (pairing p) Rt (fields Rt part) ≡ seated (opened (word (fields Rt part) 0) (word (fields Rt part) 4)) a
  unfolding took paired rooted
  at_rt a e = ap (seated (opened (word (fields Rt part) 0) (word (fields Rt part) 4))) e

  pub root_refused : (n : Refusal) → new (take p.count p.ids) (take p.count p.weights) ≡ Err n
      → run_from (pairing p) part ≡ ended (laid (pairing p)) 0 part (end.Refused n)
  root_refused n e = from_ended (pairing p) (pairing p) 0 part part (end.Refused n) (ran_stops took (pairing p) part Rt n whole (at_rt (Err n) e))

  pub root_goes : (v : VoterSet) → new (take p.count p.ids) (take p.count p.weights) ≡ Ok v
      → run_from (pairing p) part ≡ counted 1 (run_from (growing v (opened (word (fields Rt part) 0) (word (fields Rt part) 4))) (after Rt part))
  root_goes v e = from_counted (pairing p) _ 1 part (after Rt part) (ran_goes took (pairing p) _ part Rt whole (at_rt (Ok v) e))
