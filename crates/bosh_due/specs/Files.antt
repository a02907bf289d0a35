-- The files that a command reads: those that blocks keep stand before those of the shelf (this project's profile).
use Rattle.std.specs.Prelude.{◌≡◌, ◌≤◌, ℕ, Bool, true, false, List, [], ◌∷◌, ◌++◌, find, is_none, length, map, nat_le, nat_lt, not}
use Rattle.std.specs.Prelude.{◌&&◌, codes, Option, Some, None, Result, Ok, Err, if◌then◌else◌}
use Rattle.std.specs.List.{list_all}
use Rattle.std.specs.List.Sorted.{IsStrictlySortedBy}
use Rattle.std.specs.Str.{bytes_eq}
use Rattle.bosh_answers.specs.Files.{has_path, kept_below, text_at}
use Rattle.bosh_answers.specs.Folder.{folder_of}
use Rattle.bosh_answers.specs.declared.files.KeptFile.{KeptFile}
use Rattle.bosh_base.specs.declared.moves.Move.{Move}
use Rattle.bosh_base.specs.declared.moves.Move.TheVariants as moves
use Rattle.bosh_base.specs.declared.reply.Reply.{Reply}
use Rattle.bosh_base.specs.declared.reply.Reply.TheVariants.{Refused}
use Rattle.bosh_ports.specs.Shelf.{byte_order, file_at, has_line_feed}
use Rattle.bosh_ports.specs.declared.shelf.ShelfFault.{ShelfFault}
use Rattle.bosh_ports.specs.declared.shelf.ShelfFault.TheVariants.{Absent, Failed, TooLarge}
use Rattle.bosh_release_files.specs.declared.folder.File.{File}

-- the files of a shelf, each a path and its bytes
abbrev pub Shelved : Type 0
Shelved = List (List ℕ × List ℕ)

-- what there is to read
pub record FilesRead : Type 0 where
  -- what blocks kept before the command
  pub kept : List KeptFile
  -- what the shelf has, where it tells it
  pub shelf : Option Shelved
  -- how often the shelf failed meanwhile, at most: all turns together, as often as the count of its faults rose
  pub failures : ℕ

-- ---- what is read

-- A shelf that tells its files answers what is defined over them. What another one answers is free, but that what it
-- gives has this form: a file that it lists may be gone as it is read.
abbrev pub AnswersAs : {A : Type 0} → Option Shelved → (Shelved → Result A ShelfFault) → (A → Type 0) →
    Result A ShelfFault → Type 0
AnswersAs (Some there) read Fits answer = answer ≡ read there
AnswersAs None read Fits (Ok value) = Fits value
AnswersAs None read Fits (Err fault) = Unit {0}

-- .. unless it failed
abbrev pub AnswersOrFails : {A : Type 0} → FilesRead → (Shelved → Result A ShelfFault) → (A → Type 0) →
    Result A ShelfFault → Type 0
AnswersOrFails files read Fits (Err Failed) = 1 ≤ files.failures
AnswersOrFails files read Fits answer = AnswersAs files.shelf read Fits answer

-- a file of 1,048,576 bytes at most
abbrev pub HasFileSize : List ℕ → Type 0
HasFileSize bytes = length bytes ≤ 1048576

-- what a shelf answers of a file that it has, or has not
abbrev pub shelf_file : Option (List ℕ) → Result (List ℕ) ShelfFault
shelf_file None = Err Absent
shelf_file (Some bytes) = if nat_lt 1048576 (length bytes) then Err TooLarge else Ok bytes

-- a file that a block keeps, or else one of the shelf
abbrev pub IsKeptOr : Option (List ℕ) → FilesRead → List ℕ → Result (List ℕ) ShelfFault → Type 0
IsKeptOr (Some text) files path answer = answer ≡ Ok text
IsKeptOr None files path answer = AnswersOrFails files (λ there. shelf_file (file_at there path)) HasFileSize answer

-- the answer about the file of a path
abbrev pub IsFile : FilesRead → List ℕ → Result (List ℕ) ShelfFault → Type 0
IsFile files path answer = IsKeptOr (text_at files.kept path) files path answer

-- the path of a file of a folder
abbrev pub path_in : List ℕ → File → List ℕ
path_in folder file = folder ++ 47 ∷ file.path

-- a file of a folder, whose path no block keeps
abbrev pub is_unkept : List KeptFile → List ℕ → File → Bool
is_unkept kept folder file = is_none (find (has_path (path_in folder file)) kept)

-- .. of a size that is read
abbrev pub has_file_size : File → Bool
has_file_size file = nat_le (length file.bytes) 1048576

-- its path has no line feed
abbrev pub is_one_line : List ℕ → File → Bool
is_one_line folder file = not (has_line_feed (path_in folder file))

-- Files of a folder, some and not too many: first those of the shelf that no block keeps, each once and in the byte order
-- of their paths, and then those that blocks keep.
pub record AreOfFolder (kept : List KeptFile) (folder : List ℕ) (found : List File) : Type 0 where
  pub shelved : List File
  pub is : found ≡ shelved ++ kept_below folder kept
  pub unkept : list_all (is_unkept kept folder) shelved ≡ true
  pub one_line : list_all (is_one_line folder) shelved ≡ true
  pub ordered : IsStrictlySortedBy byte_order (map (path_in folder) shelved)
  pub sizes : list_all has_file_size shelved ≡ true
  pub few : (nat_le 1 (length found) && nat_le (length found) 4096) ≡ true

-- the answer about the files of a folder
abbrev pub IsFolder : FilesRead → List ℕ → Result (List File) ShelfFault → Type 0
IsFolder files folder answer =
    AnswersOrFails files (folder_of folder files.kept) (AreOfFolder files.kept folder) answer

-- ---- what is told of the shelf

-- that the shelf failed
abbrev pub is_shelf_failure : Reply → Bool
is_shelf_failure (Refused it) = bytes_eq it.word (codes "shelf") && bytes_eq it.variant (codes "Failed")
is_shelf_failure reply = false

-- a reply tells that the shelf failed
abbrev pub tells_shelf_failure : Move → Bool
tells_shelf_failure (moves.Said said) = is_shelf_failure said.reply
tells_shelf_failure move = false

-- ---- what is kept

-- a file is kept in the place of the one of its path, or behind all others
abbrev pub put : KeptFile → List KeptFile → List KeptFile
put file [] = file ∷ []
put file (other ∷ files) = if has_path file.path other then file ∷ files else other ∷ put file files
