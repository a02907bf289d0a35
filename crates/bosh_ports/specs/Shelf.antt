-- A shelf is a map from paths to bytes. Where it is told, it is the list of its files, each a path and its bytes, in
-- the byte order of the paths and each path once.
use Rattle.std.specs.Prelude.{◌≡◌, ℕ, ◌<◌, ◌≤◌, ◌==◌, Bool, true, false, cond, List, [], ◌∷◌, ◌++◌, length, map, filter, All, nat_eq, Option, Some, None, IsSomeAnd, Result, Ok, Err, Vec, if◌then◌else◌}
use Rattle.std.specs.List.{starts_with, list_any}
use Rattle.std.specs.List.Sorted.{IsStrictlySortedBy}
use Rattle.std.specs.Ordering.{nat_cmp, is_eq}
use Rattle.std.specs.Cmp.Lexicographic.{slice_cmp}
use Rattle.std.specs.BTreeMap.{insert_entry}
use Rattle.std.specs.declared.alloc.Global.{Global}
use Rattle.std.specs.declared.cmp.Ordering.{Ordering}
use Rattle.bosh_ports.specs.Faults.{Rose}
use Rattle.bosh_ports.specs.declared.shelf.ShelfFault.{ShelfFault}
use Rattle.bosh_ports.specs.declared.shelf.ShelfFault.TheVariants.{Absent, TooLarge, Failed, Memory}

-- the order of paths by their bytes
abbrev pub byte_order : List ℕ → List ℕ → Ordering
byte_order = slice_cmp nat_cmp

-- the same of paths that are kept each in a `Vec`
abbrev pub key_order : Vec ℕ Global → Vec ℕ Global → Ordering
key_order a b = byte_order a.items b.items

-- the bytes of the file at a path
abbrev pub file_at : List (List ℕ × List ℕ) → List ℕ → Option (List ℕ)
file_at [] path = None
file_at (file ∷ files) path = cond (is_eq (byte_order path file.0)) (Some file.1) (file_at files path)

-- the files with these bytes at this path, in place of what was there
abbrev pub placed : List (List ℕ × List ℕ) → List ℕ → List ℕ → List (List ℕ × List ℕ)
placed files path bytes = insert_entry byte_order files path bytes

-- the path has these bytes after a file was put there, and every other path what it had
abbrev pub Places : List (List ℕ × List ℕ) → List ℕ → List ℕ → List (List ℕ × List ℕ) → Type 0
Places before path bytes after =
    (q : List ℕ) → file_at after q ≡ (if is_eq (byte_order q path) then Some bytes else file_at before q)

-- the path lies below the folder: it begins with the folder and a slash
abbrev pub is_below : List ℕ → List ℕ → Bool
is_below folder path = starts_with nat_eq path (folder ++ 47 ∷ [])

-- a line feed stands in the path
abbrev pub has_line_feed : List ℕ → Bool
has_line_feed path = list_any (λ byte. byte == 10) path

-- no line feed stands in any of these paths
abbrev pub AllOneLine : List (Vec ℕ Global) → Type 0
AllOneLine paths = All (λ path. has_line_feed path.items ≡ false) paths

-- the paths below a folder, in byte order
abbrev pub paths_below : List ℕ → List (List ℕ × List ℕ) → List (List ℕ)
paths_below folder files = filter (is_below folder) (map (λ file. file.0) files)

-- a call fails only where the count of faults rose
abbrev pub FailsByCount : {T : Type 0} → Result T ShelfFault → ℕ → ℕ → Type 0
FailsByCount (Err Failed) before after = Rose before after
FailsByCount answer before after = Unit {0}

-- The answer about the file at a path: its bytes; `Absent` exactly where there is none; `TooLarge` exactly where it has
-- more than 1,048,576 bytes. A failure and want of memory come before these.
abbrev pub AnswersFile : Result (Vec ℕ Global) ShelfFault → Option (List ℕ) → Type 0
AnswersFile (Ok bytes) file = (file ≡ Some bytes.items) × (length bytes.items ≤ 1048576)
AnswersFile (Err Absent) file = file ≡ None
AnswersFile (Err TooLarge) file = IsSomeAnd file (λ bytes. 1048576 < length bytes)
AnswersFile (Err Failed) file = Unit {0}
AnswersFile (Err Memory) file = Unit {0}

-- The answer about the paths below a folder: all of them; `Absent` exactly where there is none; `TooLarge` exactly
-- where there are more than 4,096. A failure and want of memory come before these.
abbrev pub AnswersPaths : Result (List (List ℕ)) ShelfFault → List (List ℕ) → Type 0
AnswersPaths (Ok paths) below = (paths ≡ below) × (1 ≤ length below) × (length below ≤ 4096)
AnswersPaths (Err Absent) below = below ≡ []
AnswersPaths (Err TooLarge) below = 4096 < length below
AnswersPaths (Err Failed) below = Unit {0}
AnswersPaths (Err Memory) below = Unit {0}

-- what any shelf lists: some paths below the folder, not too many, in byte order and each once, none with a line feed
pub record IsListing (folder : List ℕ) (paths : List (List ℕ)) : Type 0 where
  pub some : 1 ≤ length paths
  pub few : length paths ≤ 4096
  pub below : All (λ path. is_below folder path ≡ true) paths
  pub one_line : All (λ path. has_line_feed path ≡ false) paths
  pub ordered : IsStrictlySortedBy byte_order paths
