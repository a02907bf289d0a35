-- What jobs write and what is shown of machines and disks (this project's profile).
use Rattle.std.specs.Prelude.{ℕ, Bool, true, false, List, Option, Some, None, codes}
use Rattle.bosh_answers.specs.Placed.{first_placed, shown_file}
use Rattle.bosh_base.specs.declared.entry.Entry.TheVariants as entries
use Rattle.bosh_base.specs.declared.inst.Inst.{Inst}
use Rattle.bosh_base.specs.declared.moves.Move.TheVariants as moves
use Rattle.bosh_base.specs.declared.reply.Refusal.{Refusal}
use Rattle.bosh_base.specs.declared.reply.Reply.TheVariants as replies
use Rattle.bosh_base.specs.declared.row.Row.{Row}
use Rattle.bosh_due.specs.Before.{Before}
use Rattle.bosh_due.specs.Outcomes.{Outcome}
use Rattle.bosh_due.specs.Outcomes.Outcome.{Answers, Changes, Refuses}
use Rattle.bosh_holdings.specs.Finding.{lost_vm_of, machines_in, read_disk_of, written_disk_of}
use Rattle.bosh_lines.specs.declared.word.Lost.{Lost}
use Rattle.bosh_lines.specs.declared.word.Lost.TheVariants as losses
use Rattle.bosh_refusals.specs.Refused.{refusal_with}
use Rattle.bosh_report.specs.Owner.{inst_text}

-- what is recorded of an instance
abbrev pub row_at : Before → Inst → Option Row
row_at b inst = Some (b.moment.known.row inst)

-- the instance has no running machine with its disk mounted
abbrev pub not_running : Inst → Option Refusal
not_running inst = Some (refusal_with (codes "world") (codes "NotRunning") (inst_text inst))

-- no machine of the instance is there
abbrev pub no_machine : Inst → Option Refusal
no_machine inst = Some (refusal_with (codes "world") (codes "NoMachine") (inst_text inst))

-- a job writes to the active disk of its instance
abbrev pub written_outcome : Option ℕ → Inst → List ℕ → Outcome
written_outcome (Some disk) inst text =
    Changes (moves.Wrote (record { inst = inst; text = text })) (entries.Write (record { disk = disk; text = text }))
    replies.Written
written_outcome None inst text = Refuses (not_running inst)

-- what comes of a write
abbrev pub write_outcome : Before → Inst → List ℕ → Outcome
write_outcome b inst text = written_outcome (written_disk_of (row_at b inst) b.moment.effects inst) inst text

-- its contents are shown
abbrev pub held_outcome : Option (List ℕ) → Inst → Outcome
held_outcome (Some contents) inst = Answers (replies.Contents contents)
held_outcome None inst = Refuses (not_running inst)

-- what comes of reading
abbrev pub read_outcome : Before → Inst → Outcome
read_outcome b inst = held_outcome (read_disk_of (row_at b inst) b.moment.effects inst) inst

-- a file that was placed on a machine of the instance is shown
abbrev pub show_outcome : Before → Inst → List ℕ → Outcome
show_outcome b inst path = Answers (shown_file path (first_placed inst path (machines_in b.moment.effects)))

-- the machine vanishes whole, or its agent falls silent
abbrev pub loses_whole : Lost → Bool
loses_whole losses.Vm = true
loses_whole losses.Agent = false

-- this machine is lost, or there is none
abbrev pub lost_outcome : Option ℕ → Inst → Lost → Outcome
lost_outcome (Some vm) inst how =
    Changes (moves.Lost (record { vm = vm; whole = loses_whole how }))
    (entries.Lost (record { vm = vm; whole = loses_whole how })) replies.Lost
lost_outcome None inst how = Refuses (no_machine inst)

-- what comes of a loss
abbrev pub lose_outcome : Before → Inst → Lost → Outcome
lose_outcome b inst how = lost_outcome (lost_vm_of (row_at b inst) b.moment.effects inst) inst how
