-- The files of a folder: those of the shelf that no block keeps, and those that blocks keep (this project's profile).
use Rattle.std.specs.Prelude.{ℕ, List, [], ◌∷◌, ◌++◌, length, nat_lt, Option, None, Some, is_some, find, Result, Ok, Err, if◌then◌else◌}
use Rattle.bosh_answers.specs.Files.{file_from, has_path, kept_below}
use Rattle.bosh_answers.specs.Step.{◌>>=◌}
use Rattle.bosh_answers.specs.declared.files.KeptFile.{KeptFile}
use Rattle.bosh_ports.specs.Shelf.{file_at, paths_below}
use Rattle.bosh_ports.specs.declared.shelf.ShelfFault.{ShelfFault}
use Rattle.bosh_ports.specs.declared.shelf.ShelfFault.TheVariants.{Absent, TooLarge}
use Rattle.bosh_release_files.specs.declared.folder.File.{File}

-- a file of the shelf, of 1,048,576 bytes at most
abbrev pub shelved_file : List ℕ → List ℕ → Option (List ℕ) → Result (List File) ShelfFault
shelved_file folder path None = Err Absent
shelved_file folder path (Some bytes) =
    if nat_lt 1048576 (length bytes) then Err TooLarge else Ok (file_from folder path bytes ∷ [])

-- the file of a path of the shelf, unless a block keeps one of that path
abbrev pub shelved_at : List ℕ → List KeptFile → List (List ℕ × List ℕ) → List ℕ → Result (List File) ShelfFault
shelved_at folder kept there path =
    if is_some (find (has_path path) kept) then Ok [] else shelved_file folder path (file_at there path)

-- the files of several paths, or the first fault among them
abbrev pub shelved_among : List ℕ → List KeptFile → List (List ℕ × List ℕ) → List (List ℕ) → Result (List File) ShelfFault
shelved_among folder kept there [] = Ok []
shelved_among folder kept there (path ∷ paths) =
    shelved_at folder kept there path >>= λ files.
    shelved_among folder kept there paths >>= λ others. Ok (files ++ others)

-- the paths of the shelf below the folder, 4,096 at most
abbrev pub listed : List ℕ → List (List ℕ × List ℕ) → Result (List (List ℕ)) ShelfFault
listed folder there =
    if nat_lt 4096 (length (paths_below folder there)) then Err TooLarge else Ok (paths_below folder there)

-- the files of the shelf in the folder that no block keeps
abbrev pub shelved_in : List ℕ → List KeptFile → List (List ℕ × List ℕ) → Result (List File) ShelfFault
shelved_in folder kept there = listed folder there >>= shelved_among folder kept there

-- a folder has files, 4,096 at most
abbrev pub judged : List File → Result (List File) ShelfFault
judged [] = Err Absent
judged (file ∷ files) = if nat_lt 4096 (length (file ∷ files)) then Err TooLarge else Ok (file ∷ files)

-- first the files of the shelf that no block keeps, and then those that blocks keep
abbrev pub folder_of : List ℕ → List KeptFile → List (List ℕ × List ℕ) → Result (List File) ShelfFault
folder_of folder kept there = shelved_in folder kept there >>= λ shelved. judged (shelved ++ kept_below folder kept)
