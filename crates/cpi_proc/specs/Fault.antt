-- What a fault of JSON is to a port.
use Rattle.std.specs.Prelude.{◌≡◌, Option, Some, None, Result, Ok, Err}
use Rattle.cpi_wire.specs.declared.fault.WireFault.{WireFault}
use Rattle.cpi_wire.specs.declared.fault.WireFault.TheVariants as wire
use Rattle.cpi_proc.specs.declared.fault.PortFault.{PortFault}
use Rattle.cpi_proc.specs.declared.fault.PortFault.TheVariants.{NotAReply, Memory}
use Rattle.cpi_proc.specs.declared.request.Request.{Request}

abbrev pub port_fault : WireFault → PortFault
port_fault wire.NotAValue = NotAReply
port_fault wire.Memory = Memory

-- what a function answers is the request that was read, unless memory ran out
abbrev pub GivesRequest : Result Request PortFault → Option Request → Type 0
GivesRequest (Ok r) read = read ≡ Some r
GivesRequest (Err NotAReply) read = read ≡ None
GivesRequest (Err Memory) read = Unit {0}
GivesRequest (Err fault) read = ⊥
