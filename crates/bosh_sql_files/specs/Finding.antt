-- What is found in the files of a store.
use Rattle.std.specs.Prelude.{◌≡◌, ◌⊎◌, ℕ}
use Rattle.sqlite.specs.Files.{AreFoundIn, HoldsDatabase, IsEmpty, file_state, image_of}
use Rattle.sqlite.specs.Held.{Held}
use Rattle.sqlite_disk.specs.declared.Disk.{Ghosts}
use Rattle.sqlite_disk.specs.declared.Files.{Files}
use Rattle.sqlite_pool.specs.Opening.{IsBlankFile}
use Rattle.sqlite_store.specs.declared.store.FileStore.{FileStore}
use Rattle.sqlite_trees.specs.Tree.{Trees}
use Rattle.sqlite_wal.specs.Reads.{AreClean}
use Rattle.sqlite_wal.specs.Recovery.{Image}

-- the bytes of a page of a store that begins (this project's profile)
abbrev pub new_page : ℕ
new_page = 1024

-- how many pages that were read are kept in memory (this project's profile)
abbrev pub cached_pages : ℕ
cached_pages = 32

-- The trees are what the files hold; or the files hold nothing yet, or what a crash leaves of a store that begins, and the
-- trees are empty.
abbrev pub AreFoundOrBegun : Image → Trees → Type 0
AreFoundOrBegun image trees = AreFoundIn image trees ⊎ (IsBlankFile new_page image × IsEmpty trees)

module _ {D : Type 0} {g : Ghosts D} where
  -- The files gave back what was written, and a database that they hold is found, whatever the size of its pages.
  pub record FindsOrBegins (files : Files D) (connection : Held (FileStore D g)) : Type 0 where
    pub honest : AreClean g files.log files.db
    pub holds : (trees : Trees) → HoldsDatabase (image_of g files) trees → (file_state connection).committed.trees ≡ trees
    pub reads : AreFoundOrBegun (image_of g files) (file_state connection).committed.trees
