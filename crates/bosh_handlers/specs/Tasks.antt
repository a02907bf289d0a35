-- Why tasks are left without an end (this project's profile).
use Rattle.std.specs.Prelude.{Option, None, Some}
use Rattle.bosh_asks.specs.declared.fault.BookFault.TheVariants as book
use Rattle.bosh_base.specs.declared.moves.Cause.{Cause}
use Rattle.bosh_base.specs.declared.moves.Cause.TheVariants as causes
use Rattle.bosh_world.specs.declared.fault.SiteFault.{SiteFault}
use Rattle.bosh_world.specs.declared.fault.SiteFault.TheVariants as site

-- why a site halted, by the fault that told it
abbrev pub cause_of : SiteFault → Option Cause
cause_of (site.Book book.Stopped) = Some causes.Stop
cause_of (site.Book book.StoreFault) = Some causes.Store
cause_of site.CloudStore = Some causes.CloudStore
cause_of fault = None
