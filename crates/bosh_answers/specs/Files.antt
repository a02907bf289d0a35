-- The files that the blocks of a session keep (this project's profile).
use Rattle.std.specs.Prelude.{ℕ, Bool, List, [], ◌∷◌, ◌+◌, drop, length, Option, find, option_map, if◌then◌else◌}
use Rattle.std.specs.Str.{bytes_eq}
use Rattle.bosh_answers.specs.declared.files.KeptFile.{KeptFile}
use Rattle.bosh_ports.specs.Shelf.{is_below}
use Rattle.bosh_release_files.specs.declared.folder.File.{File}

abbrev pub has_path : List ℕ → KeptFile → Bool
has_path path file = bytes_eq file.path path

-- the text of the file of a path
abbrev pub text_at : List KeptFile → List ℕ → Option (List ℕ)
text_at files path = option_map (λ file. file.text) (find (has_path path) files)

-- a file of a folder, by its path from there
abbrev pub file_from : List ℕ → List ℕ → List ℕ → File
file_from folder path bytes = record { path = drop (length folder + 1) path; bytes = bytes }

-- the files of a folder that were kept
abbrev pub kept_below : List ℕ → List KeptFile → List File
kept_below folder [] = []
kept_below folder (file ∷ files) =
    if is_below folder file.path then file_from folder file.path file.text ∷ kept_below folder files
    else kept_below folder files
