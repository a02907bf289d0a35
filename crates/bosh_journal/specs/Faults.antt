-- How the faults of a journal's store are told as its own.
use Rattle.bosh_journal.specs.declared.fault.JournalFault.{JournalFault}
use Rattle.bosh_journal.specs.declared.fault.JournalFault.TheVariants.{StoreFault, Broken, Memory}
use Rattle.bosh_ports.specs.declared.keeper.KeepFault.{KeepFault}
use Rattle.bosh_ports.specs.declared.keeper.KeepFault.TheVariants as keep

abbrev pub of_keeper : KeepFault → JournalFault
of_keeper keep.Failed = StoreFault
of_keeper keep.Broken = Broken
of_keeper keep.Memory = Memory
