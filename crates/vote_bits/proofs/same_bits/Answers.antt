use mathlib.Core.Path.{◌≡◌, ◌∙◌}
use mir.Val.{Fits}
use mir.Syntax.{w64}
use native.Mathlib.Omega.{arith}
use lib.ListN.{get_or, length}
use Rattle.sizes.specs.Sizes.{WORDS}
use Rattle.vote_bits.proofs.Sames.{fits_two, same_lists}
use borrow.Author.Rules.{rules}
use Rattle.vote_bits.proofs.same_bits.Goals as goal

pub returns : goal.returns
returns c =
    let a = c.args.a in
    let b = c.args.b in
    let sa : length a ≡ WORDS = search rules in
    let sb : length b ≡ WORDS = search rules in
    let f : Fits w64 (get_or a 0 0) = search rules in
    let g : Fits w64 (get_or a 1 0) = search rules in
    let h : Fits w64 (get_or b 0 0) = search rules in
    let k : Fits w64 (get_or b 1 0) = search rules in
    c.eq.ensures ∙ same_lists a b sa sb (fits_two a sa (omega arith) (omega arith)) (fits_two b sb (omega arith) (omega arith))
