-- The value of a property (bosh.io/docs/jobs, "Properties", and bosh.io/docs/job-templates).
use Rattle.std.specs.Prelude.{ℕ, Bool, List, [], ◌∷◌, ◌==◌, codes, Option, None, Some, Result, Ok, Err, cond, if◌then◌else◌}
use Rattle.std.specs.Fmt.{signed_decimal}
use Rattle.bosh_base.specs.declared.release.Setting.{Setting}
use Rattle.bosh_base.specs.declared.release.Setting.TheVariants.{Scalar, Compound}
use Rattle.bosh_yaml.specs.Keys.{value_of_key}
use Rattle.bosh_yaml.specs.Tree.{Tree, null, boolean, integer, text, list, map}
use Rattle.bosh_template.specs.declared.fault.TemplateFault.{TemplateFault}
use Rattle.bosh_template.specs.declared.fault.TemplateFault.TheVariants.{Missing, NotScalar}

-- the first of some keys begins with one more byte
abbrev pub with_byte : ℕ → List (List ℕ) → List (List ℕ)
with_byte b [] = (b ∷ []) ∷ []
with_byte b (key ∷ keys) = (b ∷ key) ∷ keys

-- the keys between the dots of a name
abbrev pub path_of : List ℕ → List (List ℕ)
path_of [] = [] ∷ []
path_of (b ∷ name) = if b == 46 then [] ∷ path_of name else with_byte b (path_of name)

-- what stands at a path, if anything does
abbrev pub at_path : List (List ℕ) → Option Tree → Option Tree
at_path [] node = node
at_path (key ∷ path) None = None
at_path (key ∷ path) (Some node) = at_path path (value_of_key key node)

abbrev pub truth : Bool → List ℕ
truth b = cond b (codes "true") (codes "false")

-- a node as a setting; null is none
abbrev pub setting_of : Option Tree → Option Setting
setting_of None = None
setting_of (Some null) = None
setting_of (Some (boolean b)) = Some (Scalar (truth b))
setting_of (Some (integer n)) = Some (Scalar (signed_decimal n))
setting_of (Some (text s)) = Some (Scalar s)
setting_of (Some (list _)) = Some Compound
setting_of (Some (map _)) = Some Compound

-- what the manifest gives to a property: what stands at its dotted path
abbrev pub given_setting : List ℕ → Tree → Option Setting
given_setting name given = setting_of (at_path (path_of name) (Some given))

-- a literal is a setting too
abbrev pub literal : Option (List ℕ) → Option Setting
literal None = None
literal (Some bytes) = Some (Scalar bytes)

-- the first of two settings that is there
abbrev pub or_else : Option Setting → Option Setting → Option Setting
or_else None other = other
or_else (Some setting) other = Some setting

-- the text of a property, by its setting
abbrev pub setting_text : List ℕ → Option Setting → Result (List ℕ) TemplateFault
setting_text name None = Err (Missing name)
setting_text name (Some (Scalar bytes)) = Ok bytes
setting_text name (Some Compound) = Err (NotScalar name)
