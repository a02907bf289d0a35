-- Where the records of a deployment and the cloud differ (this project's profile).
use Rattle.std.specs.Prelude.{ℕ, Bool, true, false, ◌&&◌, List, [], ◌∷◌, ◌++◌, codes, is_some, Option, None, Some, if◌then◌else◌}
use Rattle.std.specs.Option.{option_to_list}
use Rattle.std.specs.Str.{bytes_eq}
use Rattle.bosh_base.specs.declared.inst.Inst.{Inst}
use Rattle.bosh_base.specs.declared.machine.Disk.{Disk}
use Rattle.bosh_base.specs.declared.machine.Machine.{Machine}
use Rattle.bosh_base.specs.declared.reply.Reply.{Reply}
use Rattle.bosh_base.specs.declared.reply.Reply.TheVariants.{Problems, Refused}
use Rattle.bosh_base.specs.declared.row.Row.{Row}
use Rattle.bosh_base.specs.declared.snapshot.Orphan.{Orphan}
use Rattle.bosh_cck.specs.Problems.{all_agree, problems}
use Rattle.bosh_cck.specs.Tables.{all_there}
use Rattle.bosh_records.specs.Readers.{deployment_of}
use Rattle.bosh_records.specs.declared.instances.Instance.{Instance}
use Rattle.bosh_records.specs.declared.orphans.LooseDisk.{LooseDisk}
use Rattle.bosh_records.specs.declared.records.Records.{Records}
use Rattle.bosh_refusals.specs.Refused.{refusal_with}
use Rattle.bosh_shown.specs.Instances.{row_in}

-- the recorded instances of a deployment
abbrev pub rows_of : List ℕ → List (Inst × Instance) → List Row
rows_of dep [] = []
rows_of dep (it ∷ others) = option_to_list (row_in dep it) ++ rows_of dep others

abbrev pub orphan_in : List ℕ → Option LooseDisk → Option Orphan
orphan_in dep None = None
orphan_in dep (Some it) = if bytes_eq it.orphan.inst.dep dep then Some it.orphan else None

-- its orphaned disks
abbrev pub orphans_of : List ℕ → List (ℕ × Option LooseDisk) → List Orphan
orphans_of dep [] = []
orphans_of dep (it ∷ others) = option_to_list (orphan_in dep it.1) ++ orphans_of dep others

abbrev pub no_deployment : List ℕ → Reply
no_deployment dep = Refused (refusal_with (codes "book") (codes "NoDeployment") dep)

abbrev pub problems_reply : List ℕ → Records → List (Option Machine) → List (Option Disk) → Reply
problems_reply dep records machines disks =
    Problems (problems dep (rows_of dep records.instances.by_inst.entries) (orphans_of dep records.orphans.places.entries)
    (all_there machines) (all_there disks))

-- what is told of a deployment, where it is recorded
abbrev pub check_reply : List ℕ → Records → List (Option Machine) → List (Option Disk) → Reply
check_reply dep records machines disks =
    if is_some (deployment_of records dep) then problems_reply dep records machines disks else no_deployment dep

-- nothing differs, by what is told
abbrev pub tells_none : Reply → Bool
tells_none (Problems []) = true
tells_none reply = false

-- the deployment is recorded, each of its recorded instances agrees with the cloud, and no disk of it is loose
abbrev pub all_stand : List ℕ → Records → List (Option Machine) → List (Option Disk) → Bool
all_stand dep records machines disks =
    is_some (deployment_of records dep)
    && all_agree dep (rows_of dep records.instances.by_inst.entries) (orphans_of dep records.orphans.places.entries)
    (all_there machines) (all_there disks)
