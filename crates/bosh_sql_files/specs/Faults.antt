-- How it is told that files are not open.
use Rattle.bosh_sql_files.specs.declared.fault.OpenFault.{OpenFault}
use Rattle.bosh_sql_files.specs.declared.fault.OpenFault.TheVariants.{Failed, Memory}
use Rattle.sqlite.specs.declared.error.Error.{Error}
use Rattle.sqlite.specs.declared.error.Error.TheVariants.{SqliteFailure}
use Rattle.sqlite.specs.declared.error.ErrorCode.TheVariants.{OutOfMemory}
use Rattle.sqlite_store.specs.declared.error.OpenError.{OpenError}
use Rattle.sqlite_store.specs.declared.error.OpenError.TheVariants as creating
use Rattle.sqlite_wal.specs.declared.error.Error as log
use Rattle.sqlite_wal.specs.declared.error.Error.TheVariants as wal

-- want of memory, or any other refusal to open files
abbrev pub open_fault_of : Error → OpenFault
open_fault_of (SqliteFailure OutOfMemory) = Memory
open_fault_of _ = Failed

-- the same, of a database that could not be made in them
abbrev pub create_fault_of : OpenError → OpenFault
create_fault_of creating.OutOfMemory = Memory
create_fault_of _ = Failed

-- the same, of files that could not be read
abbrev pub probe_fault_of : log.Error → OpenFault
probe_fault_of wal.OutOfMemory = Memory
probe_fault_of _ = Failed
