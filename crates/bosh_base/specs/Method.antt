-- The methods of a cloud provider interface and of a machine's agent (bosh.io, "CPI API v1" and "Agent API").
use Rattle.std.specs.Prelude.{ℕ, Bool, true, false, List, codes}
use Rattle.bosh_base.specs.declared.method.Method.{Method}
use Rattle.bosh_base.specs.declared.method.Method.TheVariants.{CreateVm, DeleteVm, HasVm, FindVm, CreateDisk, DeleteDisk, HasDisk, FindDisk, AttachDisk, DetachDisk, GetDisks, Ping, GetState, Apply, Start, Drain, Stop, MountDisk, UnmountDisk, ListDisk, MigrateDisk, CompilePackage}

-- its name on the wire and in texts
abbrev pub name_of : Method → List ℕ
name_of CreateVm = codes "create_vm"
name_of DeleteVm = codes "delete_vm"
name_of HasVm = codes "has_vm"
name_of FindVm = codes "find_vm"
name_of CreateDisk = codes "create_disk"
name_of DeleteDisk = codes "delete_disk"
name_of HasDisk = codes "has_disk"
name_of FindDisk = codes "find_disk"
name_of AttachDisk = codes "attach_disk"
name_of DetachDisk = codes "detach_disk"
name_of GetDisks = codes "get_disks"
name_of Ping = codes "ping"
name_of GetState = codes "get_state"
name_of Apply = codes "apply"
name_of Start = codes "start"
name_of Drain = codes "drain"
name_of Stop = codes "stop"
name_of MountDisk = codes "mount_disk"
name_of UnmountDisk = codes "unmount_disk"
name_of ListDisk = codes "list_disk"
name_of MigrateDisk = codes "migrate_disk"
name_of CompilePackage = codes "compile_package"

-- its place in the list of methods, from 0 on
abbrev pub place_of : Method → ℕ
place_of CreateVm = 0
place_of DeleteVm = 1
place_of HasVm = 2
place_of FindVm = 3
place_of CreateDisk = 4
place_of DeleteDisk = 5
place_of HasDisk = 6
place_of FindDisk = 7
place_of AttachDisk = 8
place_of DetachDisk = 9
place_of GetDisks = 10
place_of Ping = 11
place_of GetState = 12
place_of Apply = 13
place_of Start = 14
place_of Drain = 15
place_of Stop = 16
place_of MountDisk = 17
place_of UnmountDisk = 18
place_of ListDisk = 19
place_of MigrateDisk = 20
place_of CompilePackage = 21

-- it changes the cloud: a compilation does not, and a probe only asks
abbrev pub is_changing : Method → Bool
is_changing CreateVm = true
is_changing DeleteVm = true
is_changing CreateDisk = true
is_changing DeleteDisk = true
is_changing AttachDisk = true
is_changing DetachDisk = true
is_changing Apply = true
is_changing Start = true
is_changing Drain = true
is_changing Stop = true
is_changing MountDisk = true
is_changing UnmountDisk = true
is_changing MigrateDisk = true
is_changing m = false

-- a machine's agent answers it, and not the cloud
abbrev pub is_agents : Method → Bool
is_agents Ping = true
is_agents GetState = true
is_agents Apply = true
is_agents Start = true
is_agents Drain = true
is_agents Stop = true
is_agents MountDisk = true
is_agents UnmountDisk = true
is_agents ListDisk = true
is_agents MigrateDisk = true
is_agents CompilePackage = true
is_agents m = false
