use Rattle.vote_insert.proofs.Adds.{few, list_room, heads_room, is_over, added_some, added_none}
use Rattle.vote_insert.proofs.add_node.Goals as goal

pub as_slice-members-requires : goal.as_slice-members-requires
as_slice-members-requires c = few _ _ _ _ c.requires c.told-heads c.told-order _ c.find_containing_nodes-found.ensures

pub relist-list-requires : goal.relist-list-requires
relist-list-requires c = list_room _ _ _ _ c.requires c.told-heads c.told-order _ c.find_containing_nodes-found.ensures _ c.as_slice-members.ensures

pub returns-then-found-gt0 : goal.returns-then-found-gt0
returns-then-found-gt0 c =
    added_some _ _ _ _ c.requires c.told-heads c.told-order _ c.find_containing_nodes-found.ensures _ c.as_slice-members.ensures
    _ _ _ _ _ c.wide-k.ensures.0 c.nearest-over.ensures c.join_of-bits.ensures c.relist-list.ensures c.set_all.ensures c.if-found-gt0.true

pub rehead-next-requires : goal.rehead-next-requires
rehead-next-requires c =
    heads_room _ _ _ _ c.requires c.told-heads c.told-order _ c.find_containing_nodes-found.ensures c.if-found-gt0.false _
    (is_over _ _ _ _ c.requires c.told-heads c.told-order _ c.find_containing_nodes-found.ensures _ c.as_slice-members.ensures
    _ _ _ _ _ c.wide-k.ensures.0 c.nearest-over.ensures c.join_of-bits.ensures c.relist-list.ensures c.set_all.ensures)

pub returns : goal.returns
returns c =
    added_none _ _ _ _ c.requires c.told-heads c.told-order _ c.find_containing_nodes-found.ensures _ c.as_slice-members.ensures
    _ _ _ _ _ c.wide-k.ensures.0 c.nearest-over.ensures c.join_of-bits.ensures c.relist-list.ensures c.set_all.ensures c.if-found-gt0.false _ c.rehead-next.ensures
