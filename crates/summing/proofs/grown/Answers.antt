use Rattle.summing.proofs.Told.{opened_room, blocks_ready, blocks_on, blocks_end, blocks_stop}
use Rattle.summing.proofs.grown.Goals as goal

pub run-ran-requires : goal.run-ran-requires
run-ran-requires c = opened_room _ _ _ c.new-table.ensures

pub open-requires : goal.open-requires
open-requires c = blocks_ready 0 _ _ c.requires _ c.new-table.ensures _ _ c.run-ran.result.at _ _ c.run-ran.ensures.fact c.in-Left.is

pub returns-in-Left : goal.returns-in-Left
returns-in-Left c = blocks_on _ _ _ c.requires _ c.new-table.ensures _ _ c.run-ran.result.at _ _ c.run-ran.ensures.fact _ c.more-seen.ensures _ c.in-Left.is c.«open».ensures

pub returns-in-Cut : goal.returns-in-Cut
returns-in-Cut c = blocks_end _ _ _ c.requires _ c.new-table.ensures _ _ c.run-ran.result.at _ _ c.run-ran.ensures.fact _ c.more-seen.ensures _ c.in-Cut.is c.bare.ensures

pub returns-in-Refused : goal.returns-in-Refused
returns-in-Refused c = blocks_stop _ _ _ c.requires _ c.new-table.ensures _ _ c.run-ran.result.at _ _ c.run-ran.ensures.fact _ c.more-seen.ensures _ _ c.in-Refused.is c.bare-in-Refused.ensures
