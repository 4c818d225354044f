-- A column of numbers that stand for themselves.
use Rattle.std.proofs.Common.{◌≡◌, List, ℕ, ◌<◌, length, get_or}
use Rattle.std.proofs.lemmas.Grind.{get_or_default_zero}
use mathlib.Core.Path.{sym, ◌∙◌}

pub plain_reads : (xs : List ℕ) (k x : ℕ) → k < length xs → get_or xs k x ≡ x → get_or xs k 0 ≡ x
plain_reads xs k x h e = sym (get_or_default_zero xs k x h) ∙ e
