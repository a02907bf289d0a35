-- How refusals of the book and of the cloud are told as the site's.
use Rattle.std.specs.Prelude.{Option, Some, None, Result, Ok, Err}
use Rattle.bosh_asks.specs.declared.fault.BookFault.{BookFault}
use Rattle.bosh_asks.specs.declared.fault.BookFault.TheVariants as book
use Rattle.bosh_base.specs.declared.moves.Cause.{Cause}
use Rattle.bosh_base.specs.declared.moves.Cause.TheVariants as causes
use Rattle.bosh_cloud.specs.declared.fault.CloudFault.{CloudFault}
use Rattle.bosh_cloud.specs.declared.fault.CloudFault.TheVariants as cloud
use Rattle.bosh_ports.specs.declared.rig.Rig.{Rig}
use Rattle.bosh_ports.specs.declared.rig.Rig.TheVariants.{StopBefore, StopAfter}
use Rattle.bosh_world.specs.declared.fault.SiteFault.{SiteFault}
use Rattle.bosh_world.specs.declared.fault.SiteFault.TheVariants.{Book, CloudStore, CloudDamaged, Memory}

abbrev pub of_book : BookFault → SiteFault
of_book book.Memory = Memory
of_book fault = Book fault

abbrev pub of_cloud : CloudFault → SiteFault
of_cloud cloud.StoreFault = CloudStore
of_cloud cloud.Broken = CloudStore
of_cloud (cloud.Damaged position) = CloudDamaged position
of_cloud cloud.Memory = Memory

-- why the director's store failed: a rig may have stopped the director
abbrev pub cause_of : Option Rig → Cause
cause_of (Some StopBefore) = causes.Stop
cause_of (Some StopAfter) = causes.Stop
cause_of other = causes.Store

-- how that is told
abbrev pub store_fault : Cause → SiteFault
store_fault causes.Stop = Book book.Stopped
store_fault cause = Book book.StoreFault

-- how a stop in a call is told
abbrev pub stop_fault : Cause → SiteFault
stop_fault causes.CloudStore = CloudStore
stop_fault cause = Book book.Stopped

-- what a call of the book is answered as, and the halt that comes of it
abbrev pub fault_as : Option Rig → BookFault → SiteFault
fault_as sprung book.StoreFault = store_fault (cause_of sprung)
fault_as sprung fault = of_book fault

abbrev pub answered_as : {T : Type 0} → Option Rig → Result T BookFault → Result T SiteFault
answered_as sprung (Ok value) = Ok value
answered_as sprung (Err fault) = Err (fault_as sprung fault)

abbrev pub halt_by : Option Rig → BookFault → Option Cause
halt_by sprung book.StoreFault = Some (cause_of sprung)
halt_by sprung fault = None

abbrev pub halt_of : {T : Type 0} → Option Rig → Result T BookFault → Option Cause
halt_of sprung (Ok value) = None
halt_of sprung (Err fault) = halt_by sprung fault

-- what a refusal of the cloud is answered as in a call, and the halt that comes of it
abbrev pub cloud_fault : CloudFault → SiteFault
cloud_fault cloud.Memory = Memory
cloud_fault fault = CloudStore

abbrev pub halt_by_cloud : CloudFault → Option Cause
halt_by_cloud cloud.Memory = None
halt_by_cloud fault = Some causes.CloudStore
