-- A vote's record, as it is written, is read as the same vote.
use mathlib.Core.List.{List, [], ◌∷◌, ◌++◌, map, append_assoc}
use mathlib.Core.Path.{◌≡◌, refl, sym, ap, ◌∙◌}
use Prim.Native.Nat.{ℕ, ◌+◌, ◌^◌, ◌<◌, ◌≤◌}
use native.Mathlib.Omega.{arith}
use lib.ListN.{length}
use lib.Seq.{drop_at}
use Rattle.context.specs.declared.Phase.{Phase}
use Rattle.context.specs.declared.Phase.TheVariants.{Prevote, Precommit}
use Rattle.nodes.specs.Nodes.{col}
use Rattle.tracker.specs.declared.Votes.{Votes}
use Rattle.tracker.specs.declared.Pair.{Pair}
use Rattle.importing.specs.Import.{import}
use Rattle.records.specs.Bytes.{little, vote_bytes}
use Rattle.records.proofs.Bytes.{length_vote, number_back}
use Rattle.listing.specs.Written.{phase_of, voter_of, pair_of, record_of, in_a_row}
use Rattle.marks.specs.declared.Record.TheVariants as is
use Rattle.marks.specs.Marks.{named, size, read, fields, after, word, long}
use Rattle.marks.proofs.Readings.{mark_at, read_whole}
use Rattle.marks.proofs.Parts.{whole_more, fields_more}
use Rattle.runs.specs.Run.{Next}
use Rattle.runs.specs.Parsed.{Entry, parsed}
use Rattle.runs.proofs.Parses.{parsed_whole}
use Rattle.voting.specs.Voting.{Voting, pair_in, answered, counted, voted}
use Rattle.replay_laws.specs.Marked.{mark_of}
use Rattle.std.specs.Prelude.{Some}

-- the record of a vote
abbrev pub vote_entry : Phase → ℕ → Pair → Entry
vote_entry phase voter pair = record { mark = mark_of phase; fields = fields (mark_of phase) (vote_bytes phase voter pair) }

pub vote_counted : (r : Voting) (phase : Phase) (fs : List ℕ) → voted r (mark_of phase) fs ≡ counted phase r fs
unfolding voted
vote_counted r Prevote fs = refl
vote_counted r Precommit fs = refl

module _ (phase : Phase) (voter : ℕ) (pair : Pair) where
  vote_named : named (mark_at (vote_bytes phase voter pair)) ≡ Some (mark_of phase)
  unfolding vote_bytes named
  vote_named = go phase
    where
      go : (f : Phase) → named (mark_at (vote_bytes f voter pair)) ≡ Some (mark_of f)
      go Prevote = refl
      go Precommit = refl

  vote_size : 2 + size (mark_of phase) ≡ 22
  vote_size = go phase
    where
      go : (f : Phase) → 2 + size (mark_of f) ≡ 22
      go Prevote = refl
      go Precommit = refl

  vote_fits : 2 + size (mark_of phase) ≤ length (vote_bytes phase voter pair)
  vote_fits = omega (arith, vote_size, length_vote phase voter pair)

  -- whatever comes behind
  pub vote_read : (more : List ℕ) → read (vote_bytes phase voter pair ++ more) ≡ is.Whole (mark_of phase)
  vote_read more =
      whole_more (vote_bytes phase voter pair) more (mark_of phase) (read_whole (vote_bytes phase voter pair) (mark_of phase) vote_named vote_fits)

  pub vote_after : (more : List ℕ) → after (mark_of phase) (vote_bytes phase voter pair ++ more) ≡ more
  unfolding after
  vote_after more = drop_at (vote_bytes phase voter pair) more (2 + size (mark_of phase)) (length_vote phase voter pair ∙ sym vote_size)

  -- its fields, for numbers of their widths
  abbrev field_bytes : List ℕ
  field_bytes = little 4 voter ++ (little 4 pair.target ++ (little 4 pair.number ++ little 8 pair.signature))

  vote_fields : (more : List ℕ) → fields (mark_of phase) (vote_bytes phase voter pair ++ more) ≡ field_bytes
  unfolding vote_bytes fields
  vote_fields more = fields_more (mark_of phase) (vote_bytes phase voter pair) more vote_fits ∙ go phase
    where
      go : (f : Phase) → fields (mark_of f) (vote_bytes f voter pair) ≡ field_bytes
      go Prevote = refl
      go Precommit = refl

  voter_word : voter < 2 ^ 32 → word field_bytes 0 ≡ voter
  unfolding word
  voter_word h = omega (arith, number_back 4 voter (omega arith))

  target_word : pair.target < 2 ^ 32 → word field_bytes 4 ≡ pair.target
  unfolding word
  target_word h = omega (arith, number_back 4 pair.target (omega arith))

  number_word : pair.number < 2 ^ 32 → word field_bytes 8 ≡ pair.number
  unfolding word
  number_word h = omega (arith, number_back 4 pair.number (omega arith))

  signature_long : pair.signature < 2 ^ 64 → long field_bytes 12 ≡ pair.signature
  unfolding word long
  signature_long h = omega (arith, number_back 8 pair.signature (omega arith))

  -- one record more
  pub vote_parsed : (more : List ℕ) → parsed (vote_bytes phase voter pair ++ more) ≡ vote_entry phase voter pair ∷ parsed more
  unfolding fields
  vote_parsed more =
      parsed_whole (vote_bytes phase voter pair ++ more) (mark_of phase) (vote_read more)
      ∙ (λ i. record { mark = mark_of phase; fields = as_fields i } ∷ parsed (vote_after more i))
    where
      as_fields : fields (mark_of phase) (vote_bytes phase voter pair ++ more) ≡ fields (mark_of phase) (vote_bytes phase voter pair)
      as_fields = fields_more (mark_of phase) (vote_bytes phase voter pair) more vote_fits

  module _ (more : List ℕ) where
    pub vote_voter : voter < 2 ^ 32 → word (fields (mark_of phase) (vote_bytes phase voter pair ++ more)) 0 ≡ voter
    vote_voter h = ap (λ (fs : List ℕ). word fs 0) (vote_fields more) ∙ voter_word h

    pub vote_pair : pair.target < 2 ^ 32 → pair.number < 2 ^ 32 → pair.signature < 2 ^ 64
        → pair_in (fields (mark_of phase) (vote_bytes phase voter pair ++ more)) ≡ pair
    vote_pair t n s =
        ap pair_in (vote_fields more) ∙ (λ i. record { target = target_word t i; number = number_word n i; signature = signature_long s i })

    -- so replaying the record imports the vote
    pub vote_again : voter < 2 ^ 32 → pair.target < 2 ^ 32 → pair.number < 2 ^ 32 → pair.signature < 2 ^ 64 → (r : Voting)
        → voted r (mark_of phase) (fields (mark_of phase) (vote_bytes phase voter pair ++ more))
        ≡ answered (record { frame = r.frame; held = (import r.frame phase voter pair r.held).held }) (import r.frame phase voter pair r.held).answer
    unfolding counted
    vote_again v t n s r =
        vote_counted r phase (fields (mark_of phase) (vote_bytes phase voter pair ++ more))
        ∙ (λ i. imports (vote_voter v i) (vote_pair t n s i))
      where
        imports : ℕ → Pair → Next Voting
        imports w p =
            answered (record { frame = r.frame; held = (import r.frame phase w p r.held).held }) (import r.frame phase w p r.held).answer

-- a list of votes that a round writes: as many records, in their order
pub list_parsed : (v : Votes) (voters ids numbers es more : List ℕ)
    → parsed (in_a_row (record_of v voters ids numbers) es ++ more)
    ≡ map (λ (e : ℕ). vote_entry (phase_of e) (col voters (voter_of e)) (pair_of v ids numbers e)) es ++ parsed more
unfolding in_a_row record_of
list_parsed v voters ids numbers [] more = refl
list_parsed v voters ids numbers (e ∷ es) more =
    ap parsed (append_assoc (vote_bytes (phase_of e) (col voters (voter_of e)) (pair_of v ids numbers e)) (in_a_row (record_of v voters ids numbers) es) more)
    ∙ vote_parsed (phase_of e) (col voters (voter_of e)) (pair_of v ids numbers e) (in_a_row (record_of v voters ids numbers) es ++ more)
    ∙ ap (λ (l : List Entry). vote_entry (phase_of e) (col voters (voter_of e)) (pair_of v ids numbers e) ∷ l) (list_parsed v voters ids numbers es more)
