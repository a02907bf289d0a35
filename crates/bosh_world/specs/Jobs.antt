-- What jobs and losses change in the cloud.
use Rattle.std.specs.Prelude.{◌≡◌, ℕ, Bool, true, false, List, [], ◌∷◌, Option, Some, None, Ok, Err}
use Rattle.bosh_asks.specs.declared.fault.BookFault.TheVariants as book
use Rattle.bosh_base.specs.declared.entry.Entry.{Entry}
use Rattle.bosh_base.specs.declared.entry.Entry.TheVariants as entries
use Rattle.bosh_base.specs.declared.inst.Inst.{Inst}
use Rattle.bosh_base.specs.declared.moves.Cause.TheVariants as causes
use Rattle.bosh_base.specs.declared.moves.Move.{Move}
use Rattle.bosh_cloud.specs.Notes.{Does, SameFates}
use Rattle.bosh_cloud.specs.declared.fault.CloudFault.TheVariants as cloud
use Rattle.bosh_holdings.specs.Finding.{lost_vm, read_disk, written_disk}
use Rattle.bosh_world.specs.Performing.{HaltsInCloud, LacksMemory}
use Rattle.bosh_ports.specs.declared.keeper.Keeper as keeper
use Rattle.bosh_world.specs.declared.site.Site.{Site}
use Rattle.bosh_world.specs.Steps.{Comes}
use Rattle.bosh_world.specs.declared.fault.SiteFault.{SiteFault}
use Rattle.bosh_world.specs.declared.fault.SiteFault.TheVariants.{Book, CloudStore, Memory, NoMachine, NotRunning}

-- the cloud changes so, and that is told; nothing else changes
pub record Changes {K L : Type 0} {k : keeper.Ghosts K} {l : keeper.Ghosts L}
    (bodies : L → Option (List (List ℕ))) (faults : L → ℕ) (was : Site K L k l) (done : Entry) (move : Move)
    (now : Site K L k l) : Type 0 where
  pub running : was.history.is_halted ≡ false
  pub does : Does {T = Unit {0}} bodies faults (Ok tt) was.cloud (done ∷ []) now.cloud
  pub fates : SameFates was.cloud now.cloud
  pub comes : Comes was (move ∷ []) now
  pub halted : now.history.is_halted ≡ false
  pub same_book : now.book ≡ was.book
  pub same_calls : now.calls ≡ was.calls
  pub same_armed : now.traps.items ≡ was.traps.items
  pub same_opening : now.opening ≡ was.opening

-- The cloud's store fails in it: what was to be done is pending, and the site halts.
pub record FailsInJob {K L : Type 0} {k : keeper.Ghosts K} {l : keeper.Ghosts L}
    (bodies : L → Option (List (List ℕ))) (faults : L → ℕ) (was : Site K L k l) (done : Entry) (now : Site K L k l) :
    Type 0 where
  pub does : Does {T = Unit {0}} bodies faults (Err cloud.StoreFault) was.cloud (done ∷ []) now.cloud
  pub fates : SameFates was.cloud now.cloud
  pub same_armed : now.traps.items ≡ was.traps.items
  pub halts : HaltsInCloud bodies faults was causes.CloudStore now

-- The cloud does not change: the site has halted, the cloud's store fails in what was to be done, there is no memory, or for
-- a cause that is told apart.
abbrev pub RefusesJob : {K L : Type 0} {k : keeper.Ghosts K} {l : keeper.Ghosts L} → (L → Option (List (List ℕ))) → (L →
    ℕ) → Site K L k l → (Entry → Type 0) → (SiteFault → Type 0) →
    SiteFault → Site K L k l → Type 0
RefusesJob bodies faults was Is May (Book book.Stopped) now = (was.history.is_halted ≡ true) × (now ≡ was)
RefusesJob bodies faults was Is May CloudStore now = (done : Entry) × Is done × FailsInJob bodies faults was done now
RefusesJob bodies faults was Is May Memory now = LacksMemory bodies was now
RefusesJob bodies faults was Is May fault now = May fault × (now ≡ was)

-- the cloud's store fails in it, or there is no memory
abbrev pub FailsJob : {K L : Type 0} {k : keeper.Ghosts K} {l : keeper.Ghosts L} → (L → Option (List (List ℕ))) → (L →
    ℕ) → Site K L k l → Entry → SiteFault → Site K L k l → Type 0
FailsJob bodies faults was done CloudStore now = FailsInJob bodies faults was done now
FailsJob bodies faults was done Memory now = LacksMemory bodies was now
FailsJob bodies faults was done fault now = ⊥

-- a job of the instance writes this to its disk
abbrev pub IsWrite : {K L : Type 0} {k : keeper.Ghosts K} {l : keeper.Ghosts L} → Site K L k l → Inst → List ℕ → Entry → Type 0
IsWrite site inst text done =
    (disk : ℕ) × (written_disk site.book.records site.cloud.effects inst ≡ Some disk)
    × (done ≡ entries.Write (record { disk = disk; text = text }))

-- the machine of the instance is lost, whole or its agent
abbrev pub IsLoss : {K L : Type 0} {k : keeper.Ghosts K} {l : keeper.Ghosts L} → Site K L k l → Inst → Bool → Entry → Type 0
IsLoss site inst whole done =
    (vm : ℕ) × (lost_vm site.book.records site.cloud.effects inst ≡ Some vm)
    × (done ≡ entries.Lost (record { vm = vm; whole = whole }))

-- no job of the instance may write
abbrev pub IsNotRunning : {K L : Type 0} {k : keeper.Ghosts K} {l : keeper.Ghosts L} → Site K L k l → Inst → SiteFault → Type 0
IsNotRunning site inst fault =
    (fault ≡ NotRunning inst) × (site.history.is_halted ≡ false)
    × (written_disk site.book.records site.cloud.effects inst ≡ None)

-- the instance has no machine
abbrev pub IsMissing : {K L : Type 0} {k : keeper.Ghosts K} {l : keeper.Ghosts L} → Site K L k l → Inst → SiteFault → Type 0
IsMissing site inst fault =
    (fault ≡ NoMachine inst) × (site.history.is_halted ≡ false)
    × (lost_vm site.book.records site.cloud.effects inst ≡ None)

-- the disk of the instance is not read
abbrev pub IsNotRead : {K L : Type 0} {k : keeper.Ghosts K} {l : keeper.Ghosts L} → Site K L k l → Inst → SiteFault → Type 0
IsNotRead site inst (Book book.Stopped) = site.history.is_halted ≡ true
IsNotRead site inst (NotRunning other) =
    (other ≡ inst) × (site.history.is_halted ≡ false)
    × (read_disk site.book.records site.cloud.effects inst ≡ None)
IsNotRead site inst Memory = site.history.is_halted ≡ false
IsNotRead site inst fault = ⊥
