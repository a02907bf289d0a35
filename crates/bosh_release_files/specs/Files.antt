-- The files of a release's folder, by their paths (bosh.io, "Creating a release", "Directory structure").
use Rattle.std.specs.Prelude.{ℕ, ◌==◌, List, [], ◌∷◌, Option, Some, None, fold, map, if◌then◌else◌}
use Rattle.std.specs.BTreeMap.{insert_entry}
use Rattle.std.specs.BTreeSet.{insert_key}
use Rattle.std.specs.Cmp.Lexicographic.{slice_cmp}
use Rattle.std.specs.List.{filter_map}
use Rattle.std.specs.Map.{lookup}
use Rattle.std.specs.Option.{option_and_then, option_map}
use Rattle.std.specs.Ordering.{nat_cmp}
use Rattle.std.specs.Str.{bytes_eq}
use Rattle.bosh_base.specs.declared.digest.Digest.{Digest}
use Rattle.bosh_release_listing.specs.Listing.{Stamped, digest_of}
use Rattle.bosh_release_files.specs.declared.folder.File.{File}

-- what stands after a front of a path
abbrev pub after : List ℕ → List ℕ → Option (List ℕ)
after [] path = Some path
after (a ∷ front) [] = None
after (a ∷ front) (b ∷ path) = if a == b then after front path else None

-- ---- by path

-- things by their paths in order; of two things of one path the later one counts
abbrev pub by_path : {A : Type 0} → List (List ℕ × A) → List (List ℕ × A)
by_path things = fold (λ table it. insert_entry (slice_cmp nat_cmp) table it.0 it.1) [] things

-- a path with its bytes
abbrev pub Entry : Type 0
Entry = List ℕ × List ℕ

abbrev pub entry_of : File → Entry
entry_of file = (file.path, file.bytes)

-- the files of a folder
abbrev pub folder_of_files : List File → List Entry
folder_of_files files = by_path (map entry_of files)

-- the bytes of the file of a path
abbrev pub bytes_at : List Entry → List ℕ → Option (List ℕ)
bytes_at folder path = lookup (bytes_eq path) folder

-- ---- folders

-- the first folder of a path, where it has one
abbrev pub first_folder : List ℕ → Option (List ℕ)
first_folder [] = None
first_folder (b ∷ path) = if b == 47 then Some [] else option_map (λ name. b ∷ name) (first_folder path)

-- the folder into which a path leads below a front
abbrev pub folder_after : List ℕ → File → Option (List ℕ)
folder_after front file = option_and_then first_folder (after front file.path)

-- names in order, each once
abbrev pub in_order : List (List ℕ) → List (List ℕ)
in_order names = fold (insert_key (slice_cmp nat_cmp)) [] names

-- the names of the folders below a front, in order
abbrev pub folders_below : List ℕ → List File → List (List ℕ)
folders_below front files = in_order (filter_map (folder_after front) files)

-- ---- files below a front

abbrev pub digest_after : List ℕ → File → Option (List ℕ × Digest)
digest_after front file = option_map (λ path. (path, digest_of file.bytes)) (after front file.path)

abbrev pub stamped_by : List ℕ × Digest → Stamped
stamped_by it = record { name = it.0; digest = it.1 }

-- the digests of the files below a front, by their paths in order
abbrev pub digests_below : List ℕ → List File → List (List ℕ × Digest)
digests_below front files = by_path (filter_map (digest_after front) files)

-- the files below a front by their paths in order, each with the digest of its bytes
abbrev pub files_below : List ℕ → List File → List Stamped
files_below front files = map stamped_by (digests_below front files)
