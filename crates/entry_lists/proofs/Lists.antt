-- Lists of entries in columns.
use mathlib.Core.List.{List, [], ◌∷◌, ◌++◌}
use mathlib.Core.Path.{◌≡◌, refl, ap, ◌∙◌}
use Prim.Native.Nat.{ℕ, ◌+◌, ◌<◌}
use native.Mathlib.Omega.{arith}
use lib.ListN.{set, length, replicate, length-append}
use Rattle.sizes.specs.Sizes.{HISTORY}
use Rattle.loops.specs.Listing.{front}
use Rattle.columns.specs.Lists.{padded}
use Rattle.columns.proofs.Padded.{next_padded}
use Rattle.nodes.proofs.Lists.{front_padded}
use Rattle.entry_lists.specs.declared.Entries.{Entries}
use Rattle.entry_lists.specs.Entries.{entered}

-- the list that a loop has laid down
pub entered_none : record { entries = replicate HISTORY 0; count = 0 } ≡ entered []
unfolding entered padded
entered_none = refl

pub entered_next : (entries : List ℕ) (n : ℕ) (l : List ℕ) (e : ℕ) → record { entries = entries; count = n } ≡ entered l → length l < HISTORY
    → record { entries = set entries n e; count = n + 1 } ≡ entered (l ++ (e ∷ []))
unfolding entered
entered_next entries n l e q h =
    let a : entries ≡ padded HISTORY l = ap (λ (m : Entries). m.entries) q in
    let b : n ≡ length l = ap (λ (m : Entries). m.count) q in
    let c : length (l ++ (e ∷ [])) ≡ length l + 1 = omega (arith, length-append l (e ∷ [])) in
    rw (a, b, c, next_padded HISTORY l e h)

-- a list comes back from the column and the count that hold it
pub entered_front : (m : Entries) (l : List ℕ) → m ≡ entered l → front m.count m.entries ≡ l
unfolding entered
entered_front m l e = ap (λ (q : Entries). front q.count q.entries) e ∙ front_padded HISTORY l

pub entered_count : (m : Entries) (l : List ℕ) → m ≡ entered l → m.count ≡ length l
unfolding entered
entered_count m l e = ap (λ (q : Entries). q.count) e
