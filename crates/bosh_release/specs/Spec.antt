-- A file of fields: what it reads as, or at which line it does not.
use Rattle.std.specs.Prelude.{ℕ, Bool, true, List, [], Result, Ok, Err, if◌then◌else◌}
use Rattle.std.specs.Str.{bytes_eq}
use Rattle.bosh_fields.specs.Kind.{Kind}
use Rattle.bosh_fields.specs.declared.fault.FieldFault.{FieldFault}
use Rattle.bosh_release_files.specs.Answer.{◌>>=◌}
use Rattle.bosh_release_files.specs.declared.fault.ReleaseFault.{ReleaseFault}
use Rattle.bosh_release_files.specs.declared.fault.ReleaseFault.TheVariants.{Spec, NameDiffers}
use Rattle.bosh_yaml.specs.Reading.{reading}
use Rattle.bosh_yaml.specs.Tree.{Tree}
use Rattle.bosh_yaml.specs.declared.fault.ReadFault.{ReadFault}
use Rattle.bosh_yaml.specs.declared.fault.ReadFault.TheVariants as reads

-- the line that the reader names, and 0 where it names none
abbrev pub line_of : ReadFault → ℕ
line_of (reads.Syntax line) = line
line_of (reads.RepeatedKey line) = line
line_of fault = 0

-- what the text of a file reads as
abbrev pub read_as : List ℕ → Result Tree ReadFault → Result Tree ReleaseFault
read_as path (Ok t) = Ok t
read_as path (Err fault) = Err (Spec path (line_of fault))

abbrev pub tree_at : List ℕ → List ℕ → Result Tree ReleaseFault
tree_at path text = read_as path (reading text)

-- whatever is wrong with a field is told by the path alone
abbrev pub fields_at : {A : Type 0} → List ℕ → Result A FieldFault → Result A ReleaseFault
fields_at path (Ok a) = Ok a
fields_at path (Err fault) = Err (Spec path 0)

-- a file with fields of this form
abbrev pub spec_at : {A : Type 0} → Kind A → List ℕ → List ℕ → Result A ReleaseFault
spec_at form path text = do
  t ← tree_at path text
  fields_at path (form [] t)

-- a spec has the name of its folder
abbrev pub check_name : List ℕ → List ℕ → List ℕ → Result Bool ReleaseFault
check_name path folder name = if bytes_eq name folder then Ok true else Err (NameDiffers path)
