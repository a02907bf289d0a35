-- How far tasks are carried, and why no further (this project's profile).
use Rattle.std.specs.Prelude.{◌≡◌, ℕ, true, is_some, All, List}
use Rattle.bosh_asks.specs.declared.fault.BookFault.TheVariants as book
use Rattle.bosh_base.specs.History.{Extends}
use Rattle.bosh_book.specs.Ends.{end_of}
use Rattle.bosh_book.specs.Running.{is_full}
use Rattle.bosh_records.specs.declared.records.Records.{Records}
use Rattle.bosh_ports.specs.declared.keeper.Keeper as keeper
use Rattle.bosh_world.specs.declared.site.Site.{Site}
use Rattle.bosh_world.specs.declared.fault.SiteFault.{SiteFault}
use Rattle.bosh_world.specs.declared.fault.SiteFault.TheVariants.{Book, CloudStore, Memory}

-- the task has its end
abbrev pub IsEnded : Records → ℕ → Type 0
IsEnded records task = is_some (end_of records task) ≡ true

abbrev pub AreEnded : {K L : Type 0} {k : keeper.Ghosts K} {l : keeper.Ghosts L} → Site K L k l → List ℕ → Type 0
AreEnded site tasks = All (IsEnded site.book.records) tasks

-- the moves go on
abbrev pub Goes : {K L : Type 0} {k : keeper.Ghosts K} {l : keeper.Ghosts L} → Site K L k l → Site K L k l → Type 0
Goes was now = Extends was.history.moves now.history.moves

-- Why tasks are not carried further: the site has halted, the book is full, something waits for calls that others have
-- open, or there is no memory.
abbrev pub IsStuck : {K L : Type 0} {k : keeper.Ghosts K} {l : keeper.Ghosts L} → Site K L k l → SiteFault → Type 0
IsStuck site (Book book.Stopped) = site.history.is_halted ≡ true
IsStuck site (Book book.StoreFault) = site.history.is_halted ≡ true
IsStuck site (Book book.Full) = is_full site.book ≡ true
IsStuck site (Book (book.Locked task)) = Unit {0}
IsStuck site CloudStore = site.history.is_halted ≡ true
IsStuck site Memory = Unit {0}
IsStuck site fault = ⊥
