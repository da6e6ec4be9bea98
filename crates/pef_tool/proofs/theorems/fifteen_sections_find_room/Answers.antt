use Rattle.pef_tool.proofs.RoomLemmas.{few_find_room}
use Rattle.pef_tool.proofs.theorems.fifteen_sections_find_room.Goals as goal

pub returns : goal.returns
returns c = few_find_room
