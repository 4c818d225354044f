use mathlib.Core.Path.{sym, ◌∙◌}
use Rattle.block_shape.specs.Shape.{tabled}
use Rattle.block_shape.proofs.Shapes.{sized_is, count_fits_is, none_fits, many_fits}
use Rattle.block_shape.proofs.is_table.Goals as goal

pub returns-then-count-eq0 : goal.returns-then-count-eq0
unfolding tabled
returns-then-count-eq0 c =
    let p = c.requires in
    rw (sized_is _ _ _ p.0 p.1 p.2, none_fits _ c.if-count-eq0.true)

pub returns-then-count-gt-BLOCKS : goal.returns-then-count-gt-BLOCKS
unfolding tabled
returns-then-count-gt-BLOCKS c =
    let p = c.requires in
    rw (sized_is _ _ _ p.0 p.1 p.2, many_fits _ c.if-count-gt-BLOCKS.true)

pub returns-then-not-is_tree : goal.returns-then-not-is_tree
unfolding tabled
returns-then-not-is_tree c =
    let p = c.requires in
    rw (sized_is _ _ _ p.0 p.1 p.2, count_fits_is _ c.if-count-eq0.false c.if-count-gt-BLOCKS.false, sym c.is_tree.ensures ∙ c.if-not-is_tree.true)

pub returns-then-not-are_clear : goal.returns-then-not-are_clear
unfolding tabled
returns-then-not-are_clear c =
    let p = c.requires in
    rw (sized_is _ _ _ p.0 p.1 p.2, count_fits_is _ c.if-count-eq0.false c.if-count-gt-BLOCKS.false, sym c.is_tree.ensures ∙ c.if-not-is_tree.false, sym c.are_clear.ensures ∙ c.if-not-are_clear.true)

pub returns : goal.returns
unfolding tabled
returns c =
    let p = c.requires in
    rw (sized_is _ _ _ p.0 p.1 p.2, count_fits_is _ c.if-count-eq0.false c.if-count-gt-BLOCKS.false, sym c.is_tree.ensures ∙ c.if-not-is_tree.false, sym c.are_clear.ensures ∙ c.if-not-are_clear.false, c.are_distinct.ensures)
