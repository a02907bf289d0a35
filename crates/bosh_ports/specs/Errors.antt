-- What an error of the system means to a shelf.
use Rattle.std.specs.declared.io.ErrorKind.{ErrorKind}
use Rattle.std.specs.declared.io.ErrorKind.TheVariants.{NotFound, NotADirectory, InvalidFilename, OutOfMemory}
use Rattle.bosh_ports.specs.declared.shelf.ShelfFault.{ShelfFault}
use Rattle.bosh_ports.specs.declared.shelf.ShelfFault.TheVariants.{Absent, Failed, Memory}

-- of a call that looks for a path: no such file, no folder on the way to it, and a name that no file can have say that
-- nothing is there; want of memory is itself; every other error is a failure of the shelf
abbrev pub fault_of : ErrorKind → ShelfFault
fault_of NotFound = Absent
fault_of NotADirectory = Absent
fault_of InvalidFilename = Absent
fault_of OutOfMemory = Memory
fault_of kind = Failed

-- of a read from a file that is open: the file is there, so every error but want of memory is a failure
abbrev pub fault_of_read : ErrorKind → ShelfFault
fault_of_read OutOfMemory = Memory
fault_of_read kind = Failed
