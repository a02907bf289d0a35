-- Which files belong to a package (bosh.io, "Packages", "files", in this project's profile: an exact path, `D/*`,
-- `D/**/*` and `**/*`).
use Rattle.std.specs.Prelude.{ℕ, ◌==◌, ◌||◌, not, Bool, true, false, List, [], ◌∷◌, ◌++◌, Option, Some, None, codes, filter, Result, Ok, Err, if◌then◌else◌, is_some}
use Rattle.std.specs.List.{list_any}
use Rattle.std.specs.Option.{option_map}
use Rattle.std.specs.Str.{bytes_eq}
use Rattle.bosh_release_listing.specs.Listing.{Stamped}
use Rattle.bosh_release_files.specs.Answer.{◌>>=◌, check_each, each, or_fault}
use Rattle.bosh_release_files.specs.Files.{after}
use Rattle.bosh_release_files.specs.declared.fault.ReleaseFault.{ReleaseFault}
use Rattle.bosh_release_files.specs.declared.fault.ReleaseFault.TheVariants as faults
use Rattle.bosh_release_files.specs.declared.pattern.Form.{Form}
use Rattle.bosh_release_files.specs.declared.pattern.Form.TheVariants.{Every, Below, In, Exact}
use Rattle.bosh_release_files.specs.declared.pattern.Pattern.{Pattern}

-- `*`, `?`, `[` and `{`
abbrev pub is_pattern_byte : ℕ → Bool
is_pattern_byte b = b == 42 || (b == 63 || (b == 91 || b == 123))

abbrev pub is_plain : List ℕ → Bool
is_plain text = not (list_any is_pattern_byte text)

-- what stands before an end of a text
abbrev pub before : List ℕ → List ℕ → Option (List ℕ)
before end [] = if bytes_eq [] end then Some [] else None
before end (b ∷ text) =
    if bytes_eq (b ∷ text) end then Some [] else option_map (λ front. b ∷ front) (before end text)

-- a folder has a name, and no pattern in it
abbrev pub is_folder : List ℕ → Bool
is_folder [] = false
is_folder (b ∷ name) = is_plain (b ∷ name)

abbrev pub exact : List ℕ → Option Form
exact text = if is_plain text then Some (Exact text) else None

abbrev pub in_folder : List ℕ → Option (List ℕ) → Option Form
in_folder text (Some folder) = if is_folder folder then Some (In folder) else None
in_folder text None = exact text

-- a file is below a folder where its path begins with the folder and a slash
abbrev pub below_folder : List ℕ → Option (List ℕ) → Option Form
below_folder text (Some folder) = if is_folder folder then Some (Below (folder ++ 47 ∷ [])) else None
below_folder text None = in_folder text (before (codes "/*") text)

-- the form of pattern that a text has
abbrev pub form_of : List ℕ → Option Form
form_of text =
    if bytes_eq text (codes "**/*") then Some Every else below_folder text (before (codes "/**/*") text)

-- ---- which paths it takes

-- the folder of a path: what stands before its last slash
abbrev pub folder_of : List ℕ → Option (List ℕ)
folder_of [] = None
folder_of (b ∷ path) = or_here b (folder_of path)
  where
    or_here : ℕ → Option (List ℕ) → Option (List ℕ)
    or_here b (Some folder) = Some (b ∷ folder)
    or_here b None = if b == 47 then Some [] else None

abbrev pub is_that : List ℕ → Option (List ℕ) → Bool
is_that folder (Some other) = bytes_eq folder other
is_that folder None = false

-- the file lies directly in the folder
abbrev pub lies_in : List ℕ → List ℕ → Bool
lies_in folder path = is_that folder (folder_of path)

abbrev pub takes : Form → List ℕ → Bool
takes Every path = true
takes (Below front) path = is_some (after front path)
takes (In folder) path = lies_in folder path
takes (Exact text) path = bytes_eq text path

-- ---- the files of a package

abbrev pub pattern_with : List ℕ → Form → Pattern
pattern_with text form = record { text = text; form = form }

abbrev pub read_pattern : List ℕ → Result Pattern ReleaseFault
read_pattern text = do
  form ← or_fault (faults.Pattern text) (form_of text)
  Ok (pattern_with text form)

-- some file is taken
abbrev pub matches : List Stamped → Form → Bool
matches sources form = list_any (λ source. takes form source.name) sources

abbrev pub check_match : List Stamped → Pattern → Result Bool ReleaseFault
check_match sources pattern =
    if matches sources pattern.form then Ok true else Err (faults.NoMatch pattern.text)

-- every text is a pattern, and then each takes some file
abbrev pub patterns : List Stamped → List (List ℕ) → Result (List Pattern) ReleaseFault
patterns sources texts = do
  good ← each read_pattern texts
  matched ← check_each (check_match sources) good
  Ok good

-- some pattern takes the path
abbrev pub is_taken : List Pattern → List ℕ → Bool
is_taken patterns path = list_any (λ pattern. takes pattern.form path) patterns

-- the files that some pattern takes, by path, each once
abbrev pub taken_files : List Stamped → List Pattern → List Stamped
taken_files sources patterns = filter (λ source. is_taken patterns source.name) sources
