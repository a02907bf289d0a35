use Rattle.laws_kept_facts.proofs.RoomCases.{room_kept}
use Rattle.laws_kept_facts.proofs.kept.a_call_keeps_room_for_disks.Goals as goal

pub returns : goal.returns
returns c = room_kept
