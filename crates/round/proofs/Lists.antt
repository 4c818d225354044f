-- The lists of recorded votes: a list of wanted entries fits its column, and its records are those of the list.
use mathlib.Core.List.{List}
use mathlib.Core.Bool.{true}
use mathlib.Core.Path.{◌≡◌, sym, ap, subst, ◌∙◌}
use Prim.Native.Nat.{ℕ, ◌≤◌, ◌<◌}
use native.Mathlib.Omega.{arith}
use lib.Dec.{T}
use lib.ListN.{get_or}
use Rattle.sizes.specs.Sizes.{HISTORY}
use Rattle.loops.specs.Listing.{times, front, keep}
use Rattle.loops.proofs.Listings.{kept_in}
use Rattle.graph_shape.proofs.Marks.{in_front}
use Rattle.entry_lists.specs.declared.Entries.{Entries}
use Rattle.entry_lists.specs.Entries.{Fit, entered}
use Rattle.entry_lists.proofs.Lists.{entered_front, entered_count}
use Rattle.listing.specs.declared.Wanted.{Wanted}
use Rattle.listing.specs.declared.Wanted.TheVariants.{Finalizing}
use Rattle.listing.specs.Entries.{by_voter, phase_in, wants}
use Rattle.listing.specs.Written.{Lent}
use Rattle.listing.proofs.Voters.{few_kept, by_voter_in}
use Rattle.round.specs.declared.Round.{Round}
use Rattle.round.specs.Shape.{shaped}
use Rattle.round.specs.Ask.{records, entries_of, listed, finalizing, finalizing_precommits}
use Rattle.round.proofs.Steps.{few_voters}
use Rattle.std.specs.Prelude.{Some}

module _ (r : Round) (w : Wanted) (m : Entries)
    (e : m ≡ entered (keep (wants r.votes.counts r.votes.first_block r.table.parents w) (by_voter (phase_in w) r.context.voters.count))) where
  pub few_entries : T (shaped r) → m.count ≤ HISTORY
  few_entries t =
      omega (
        arith,
        entered_count m _ e,
        few_kept (wants r.votes.counts r.votes.first_block r.table.parents w) (phase_in w) r.context.voters.count,
        few_voters r t,
      )

  pub fit_entries : T (shaped r) → Fit m.entries m.count
  fit_entries t k h =
      let i = subst (λ (l : List ℕ). 0 < times (get_or m.entries k 0) l) (entered_front m _ e) (in_front m.entries k m.count h) in
      by_voter_in (phase_in w) r.context.voters.count (get_or m.entries k 0) (few_voters r t)
      (kept_in (wants r.votes.counts r.votes.first_block r.table.parents w) (get_or m.entries k 0) (by_voter (phase_in w) r.context.voters.count) i).0

  pub listed_done : (x : Lent) (out : List ℕ)
      → x ≡ records (front m.count m.entries) r.context.voters r.table r.votes out → x ≡ listed w r out
  unfolding listed entries_of
  listed_done x out q =
      q ∙ ap (λ (es : List ℕ). records es r.context.voters r.table r.votes out) (entered_front m _ e)

-- where a block is finalized
pub finalizing_done : (r : Round) (b : ℕ) (x : Lent) (out : List ℕ) → shaped r ≡ true → r.answers.finalized ≡ Some b
    → x ≡ listed (Finalizing b) r out → x ≡ finalizing_precommits r out
unfolding finalizing_precommits
finalizing_done r b x out s q p = rw s (p ∙ sym (ap (finalizing r out) q))
