-- How the faults of a cloud's store are told as its own.
use Rattle.bosh_cloud.specs.declared.fault.CloudFault.{CloudFault}
use Rattle.bosh_cloud.specs.declared.fault.CloudFault.TheVariants.{StoreFault, Broken, Memory}
use Rattle.bosh_ports.specs.declared.keeper.KeepFault.{KeepFault}
use Rattle.bosh_ports.specs.declared.keeper.KeepFault.TheVariants as keep

abbrev pub of_keeper : KeepFault → CloudFault
of_keeper keep.Failed = StoreFault
of_keeper keep.Broken = Broken
of_keeper keep.Memory = Memory
