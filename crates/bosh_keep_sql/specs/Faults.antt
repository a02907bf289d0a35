-- How a refusal of the database is told by a keeper, and by a load: want of memory as such, and each other one as a
-- failure.
use Rattle.bosh_keep_sql.specs.declared.fault.LoadFault.{LoadFault}
use Rattle.bosh_keep_sql.specs.declared.fault.LoadFault.TheVariants as load
use Rattle.bosh_ports.specs.declared.keeper.KeepFault.{KeepFault}
use Rattle.bosh_ports.specs.declared.keeper.KeepFault.TheVariants.{Failed, Memory}
use Rattle.sqlite.specs.declared.error.Error.{Error}
use Rattle.sqlite.specs.declared.error.Error.TheVariants.{SqliteFailure}
use Rattle.sqlite.specs.declared.error.ErrorCode.TheVariants.{OutOfMemory}

abbrev pub fault_of : Error → KeepFault
fault_of (SqliteFailure OutOfMemory) = Memory
fault_of error = Failed

abbrev pub load_fault_of : Error → LoadFault
load_fault_of (SqliteFailure OutOfMemory) = load.Memory
load_fault_of error = load.Failed

-- how a keeper tells what is wrong with its rows
abbrev pub kept_as : LoadFault → KeepFault
kept_as load.Memory = Memory
kept_as fault = Failed
