-- What is left to do of a task may be sent to another thread.
use denote.Builtin.{u64, usize}
use denote.Param.Send.{AllSend, IsSend, sendable}
use denote.RattleType.{RattleType}
use denote.Struct.Declared as declared
use Rattle.bosh_base.proofs.inst.Inst.TheSendSync as Inst
use Rattle.bosh_base.proofs.key.Key.TheSendSync as Key
use Rattle.bosh_base.proofs.seq.Seq.TheSendSync as Seq
use Rattle.bosh_base.proofs.task.TaskEnd.TheSendSync as TaskEnd
use Rattle.bosh_progress.specs.contracts.place_set.PlaceSet as PlaceSet
use Rattle.bosh_progress.specs.contracts.queue.Queue as Queue
use Rattle.bosh_progress.specs.contracts.rolling.Rolling as Rolling
use Rattle.bosh_progress.proofs.tree.Tree.TheLaws.TheKnot as knot
use Rattle.bosh_work.proofs.part.MachineName.TheSendSync as MachineName
use Rattle.bosh_work.specs.contracts.groups.GroupWork as GroupWork
use Rattle.bosh_work.specs.contracts.groups.Groups as Groups
use Rattle.bosh_work.specs.contracts.line.Line as Line
use Rattle.bosh_work.specs.contracts.work.Work as Work
use Rattle.bosh_crossing.proofs.Cuts.{field_sent, struct_sent}
use Rattle.std.proofs.Crossing.{crosses}

-- places of a list, each marked or not
places_sent : IsSend PlaceSet.the_row
places_sent = search (sendable, crosses, knot.crosses) depth 20

-- which items are left, and which of them are free
queue_sent : AllSend (declared.fields Queue.the_type)
queue_sent = (places_sent, (places_sent, tt))

-- how far the updates of a group have come
rolling_sent : AllSend (declared.fields Rolling.the_type)
rolling_sent = (search sendable, (search sendable, (places_sent, (places_sent, (places_sent, tt)))))

group_sent : IsSend GroupWork.the_row
group_sent = struct_sent GroupWork.the_type
    (search sendable, (Seq.the_send usize (search sendable), (field_sent Rolling.the_type rolling_sent, tt)))

-- the groups with changes
groups_sent : IsSend Groups.the_row
groups_sent = search (sendable, crosses, group_sent) depth 20

-- items in order, and which of them are left
line_sent : (T : RattleType) → IsSend T → AllSend (declared.fields (Line.the_type T))
line_sent T s = (Seq.the_send T s, (field_sent Queue.the_type queue_sent, tt))

whole_line : (T : RattleType) → IsSend T → IsSend ((declared.field (Line.the_type T)).row)
whole_line T s = field_sent (Line.the_type T) (line_sent T s)

pub work_sent : IsSend Work.the_row
work_sent = struct_sent Work.the_type (
  search sendable,
  (
    whole_line _ Inst.the_send,
    (
      whole_line _ MachineName.the_send,
      (
        whole_line _ Key.the_send,
        (
          search sendable,
          (
            search sendable,
            (
              whole_line _ Inst.the_send,
              (
                Seq.the_send _ Inst.the_send,
                (
                  groups_sent,
                  (
                    whole_line u64 (search sendable),
                    (
                      search (sendable, TaskEnd.the_send),
                      (search sendable, tt),
                    ),
                  ),
                ),
              ),
            ),
          ),
        ),
      ),
    ),
  ),
)
