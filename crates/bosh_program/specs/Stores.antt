-- The stores of the program (this project's profile).
use Rattle.bosh_asks.specs.declared.fault.BookFault.TheVariants as book
use Rattle.bosh_program.specs.declared.stores.StoreName.{StoreName}
use Rattle.bosh_program.specs.declared.stores.StoreName.TheVariants.{Director, Cloud}
use Rattle.bosh_world.specs.declared.fault.SiteFault.{SiteFault}
use Rattle.bosh_world.specs.declared.fault.SiteFault.TheVariants as site

-- how it is told that a store could not be made
abbrev pub fault_of : StoreName → SiteFault
fault_of Director = site.Book book.StoreFault
fault_of Cloud = site.CloudStore
