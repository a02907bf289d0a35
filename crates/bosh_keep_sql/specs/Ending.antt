-- What an orderly end of a keeper over files leaves of them.
use Rattle.std.specs.Prelude.{◌≡◌, ℕ, List}
use Rattle.bosh_keep_sql.specs.Faults.{fault_of}
use Rattle.bosh_keep_sql.specs.Holding.{Holds}
use Rattle.bosh_ports.specs.declared.keeper.KeepFault.{KeepFault}
use Rattle.sqlite.specs.Closing.{IsCopied}
use Rattle.sqlite.specs.declared.error.Error.{Error}
use Rattle.sqlite.specs.FileStore.{view}
use Rattle.sqlite.specs.Files.{FailsToClose, IsClosed, file_state, over_files}
use Rattle.sqlite.specs.Held.{Held}
use Rattle.sqlite.specs.View.{IsClean}
use Rattle.sqlite.specs.WalReads.{AreClean}
use Rattle.sqlite_disk.specs.declared.Disk.{Ghosts}
use Rattle.sqlite_disk.specs.declared.Files.{Files}
use Rattle.sqlite_store.specs.declared.store.FileStore.{FileStore}

module _ {D : Type 0} {g : Ghosts D} where
  -- The database file alone, without its log, has the last commit, as it reads now and after a crash, and in that the table
  -- holds just these bodies.
  abbrev pub StandsAlone : List (List ℕ) → Held (FileStore D g) → Files D → Type 0
  StandsAlone bodies connection files =
      IsCopied connection files × Holds (over_files {D = D} {g = g}) bodies (file_state connection).committed

  -- the log could not be copied, and that is told so
  abbrev pub FailsToCopy : Held (FileStore D g) → FileStore D g → KeepFault → Type 0
  FailsToCopy connection left fault = (e : Error) × (fault ≡ fault_of e) × FailsToClose connection left e

  -- the database file alone is what the keeper had, where both files were clean
  abbrev pub EndsWhole : List (List ℕ) → Held (FileStore D g) → Type 0
  EndsWhole bodies connection =
      (files : Files D) × (AreClean g files.log files.db → StandsAlone bodies connection files)

  -- the log stays, since it could not be copied
  abbrev pub EndsWithLog : Held (FileStore D g) → KeepFault → Type 0
  EndsWithLog connection fault =
      (left : FileStore D g) × IsClosed connection left × (IsClean (view left) → FailsToCopy connection left fault)
