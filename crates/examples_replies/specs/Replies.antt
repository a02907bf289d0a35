-- Replies in few words.
use Rattle.std.specs.Prelude.{ℕ, Bool, List, [], ◌∷◌, ◌+◌, codes, Option, Some}
use Rattle.bosh_base.specs.declared.inst.Inst.{Inst}
use Rattle.bosh_base.specs.declared.method.Method.{Method}
use Rattle.bosh_base.specs.declared.owner.Owner.TheVariants.{Instance}
use Rattle.bosh_base.specs.declared.reply.InstanceLine.{InstanceLine}
use Rattle.bosh_base.specs.declared.reply.MachineLine.{MachineLine}
use Rattle.bosh_base.specs.declared.reply.OrphanLine.{OrphanLine}
use Rattle.bosh_base.specs.declared.reply.Reply.{Reply}
use Rattle.bosh_base.specs.declared.reply.Reply.TheVariants as replies
use Rattle.bosh_base.specs.declared.reply.Shown.{Shown}
use Rattle.bosh_base.specs.declared.reply.TaskLine.{TaskLine}
use Rattle.bosh_base.specs.declared.task.TaskEnd.{TaskEnd}
use Rattle.bosh_base.specs.declared.task.TaskKind.{TaskKind}
use Rattle.bosh_refusals.specs.Refused.{bare_refusal, refusal_with}
use Rattle.examples_histories.specs.Values.{web}

abbrev pub bare : List ℕ → List ℕ → Reply
bare word variant = replies.Refused (bare_refusal word variant)

abbrev pub naming : List ℕ → List ℕ → List ℕ → Reply
naming word variant named = replies.Refused (refusal_with word variant named)

abbrev pub stopped_reply : Reply
stopped_reply = bare (codes "book") (codes "Stopped")

-- an instance with the address 10.0.0.N
abbrev pub line : ℕ → Shown → List ℕ → ℕ → Option ℕ → Option ℕ → InstanceLine
line index state az n vm disk = record {
  group = codes "web";
  index = index;
  state = state;
  az = Some az;
  addrs = record { 0 = 167772160 + n } ∷ [];
  vm = vm;
  disk = disk;
}

abbrev pub machine : ℕ → Inst → List ℕ → ℕ → Bool → MachineLine
machine vm inst az n running = record {
  vm = vm;
  owner = Instance inst;
  az = az;
  addrs = record { 0 = 167772160 + n } ∷ [];
  running = running;
  disks = [];
}

-- machines alone
abbrev pub machines : List MachineLine → Reply
machines all = replies.Cloud (record { machines = all; disks = [] })

abbrev pub orphan_of : ℕ → ℕ → Bool → OrphanLine
orphan_of disk size doubt = record { disk = disk; size = size; inst = web 0; doubt = doubt }

abbrev pub task_of : ℕ → TaskKind → Option (List ℕ) → Option TaskEnd → TaskLine
task_of task kind dep end = record { task = task; kind = kind; dep = dep; end = end }

abbrev pub failed_at : ℕ → ℕ → Method → Inst → Reply
failed_at task n method inst =
    replies.TaskFailed (record { task = task; n = n; method = method; owner = Instance inst })
