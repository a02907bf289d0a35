-- The records may be sent to another thread.
use denote.Param.Send.{AllSend, IsSend, sendable}
use denote.Struct.Declared as declared
use Rattle.bosh_base.proofs.entry.Begin.TheSendSync as Begin
use Rattle.bosh_base.proofs.release.Release.TheSendSync as Release
use Rattle.bosh_base.proofs.snapshot.DepRow.TheSendSync as DepRow
use Rattle.bosh_base.proofs.stemcell.Stemcell.TheSendSync as Stemcell
use Rattle.bosh_base.proofs.task.TaskRow.TheSendSync as TaskRow
use Rattle.bosh_base.proofs.inst.Inst.TheSendSync as Inst
use Rattle.bosh_base.proofs.key.Key.TheSendSync as Key
use Rattle.bosh_records.proofs.instances.Instance.TheSendSync as Instance
use Rattle.bosh_records.proofs.keys.KeyState.TheSendSync as KeyState
use Rattle.bosh_records.proofs.machines.Machine.TheSendSync as Machine
use Rattle.bosh_records.proofs.orphans.LooseDisk.TheSendSync as LooseDisk
use Rattle.bosh_records.proofs.records.Since.TheSendSync as Since
use Rattle.bosh_records.specs.contracts.records.Records as Records
use Rattle.bosh_work.proofs.part.MachineName.TheSendSync as MachineName
use Rattle.bosh_crossing.proofs.Cuts.{struct_sent}
use Rattle.bosh_crossing.proofs.WorkSent.{work_sent}
use Rattle.std.proofs.Crossing.{crosses}
use Rattle.std.proofs.MapsCrossing as maps

pub records_fields : AllSend (declared.fields Records.the_type)
records_fields = (
  search sendable depth 20,
  (
    search (sendable, crosses, Release.the_send),
    (
      search (sendable, crosses, Stemcell.the_send),
      (
        search (sendable, crosses) depth 20,
        (
          search (sendable, maps.crosses, Since.the_send, DepRow.the_send) depth 20,
          (
            search (sendable, maps.crosses, Inst.the_send, Instance.the_send) depth 20,
            (
              search (sendable, maps.crosses, MachineName.the_send, Machine.the_send) depth 20,
              (
                search (sendable, maps.crosses, LooseDisk.the_send) depth 20,
                (
                  search (sendable, maps.crosses, Key.the_send, KeyState.the_send) depth 20,
                  (
                    search (sendable, maps.crosses, TaskRow.the_send) depth 20,
                    (
                      search (sendable, maps.crosses, work_sent) depth 20,
                      (
                        search (sendable, maps.crosses, Begin.the_send) depth 20,
                        (
                          search sendable,
                          (search sendable, tt),
                        ),
                      ),
                    ),
                  ),
                ),
              ),
            ),
          ),
        ),
      ),
    ),
  ),
)

pub records_sent : IsSend Records.the_row
records_sent = struct_sent Records.the_type records_fields
