-- What a deploy of a text asks for, or the first fault of the text (this project's profile; bosh.io, "CLI v2", deploy, and
-- "Variable Interpolation").
use Rattle.std.specs.Prelude.{◌≡◌, ◌⊎◌, ℕ, List, [], ◌∷◌, None, Result, Ok, Err}
use Rattle.std.specs.Option.{option_or}
use Rattle.std.specs.Result.{result_map_both}
use Rattle.std.specs.Str.{bytes_eq}
use Rattle.sha2.specs.Sha256.{sha256}
use Rattle.bosh_answers.specs.Step.{◌>>=◌}
use Rattle.bosh_answers.specs.Texts.{text_told}
use Rattle.bosh_answers.specs.declared.deploy.How.{How}
use Rattle.bosh_answers.specs.declared.text_fault.TextFault.{TextFault}
use Rattle.bosh_answers.specs.declared.text_fault.TextFault.TheVariants.{Unfilled, Unfit, Unread}
use Rattle.bosh_asks.specs.declared.ask.Ask.{Ask}
use Rattle.bosh_asks.specs.declared.ask.Ask.TheVariants.{Deploy}
use Rattle.bosh_base.specs.declared.digest.Digest.{Digest}
use Rattle.bosh_lines.specs.declared.variable.Variable.{Variable}
use Rattle.bosh_manifest.specs.Check.{manifest_of}
use Rattle.bosh_vars.specs.Filled.{Values, filled, value_if}
use Rattle.bosh_vars.specs.declared.var.Var.{Var}
use Rattle.bosh_yaml.specs.Canon.{canon_text}
use Rattle.bosh_yaml.specs.Reading.{reading}
use Rattle.bosh_yaml.specs.Scalar.{leaf_tree, scalar_of}
use Rattle.bosh_yaml.specs.Tree.{Tree}
use Rattle.bosh_yaml.specs.View.{tree_of}

-- what a variable stands for: its text as a plain scalar
abbrev pub value_of : Variable → Tree
value_of variable = leaf_tree (scalar_of variable.value)

-- .. with its name, as it is given, and as it is read
abbrev pub given_value : Variable → List ℕ × Tree
given_value variable = (variable.name, value_of variable)

abbrev pub read_value : Var → List ℕ × Tree
read_value var = (var.name, tree_of var.value)

-- the value for a name: of several variables of one name, the last counts
abbrev pub values_for : List Variable → Values
values_for [] name = None
values_for (v ∷ vs) name = option_or (values_for vs name) (value_if (bytes_eq v.name name) (value_of v))

-- the node that a text spells
abbrev pub node_of : List ℕ → Result Tree TextFault
node_of text = result_map_both (λ t. t) Unread (reading text)

-- a node with the values of variables in the places of their names
abbrev pub filled_with : List Variable → Tree → Result Tree TextFault
filled_with variables t = result_map_both (λ u. u) Unfilled (filled (values_for variables) t)

-- the node of a text, filled
abbrev pub filled_in : List Variable → List ℕ → Result Tree TextFault
filled_in variables text = node_of text >>= filled_with variables

-- the digest of a manifest is that of its canonical text
abbrev pub digest_of : Tree → Digest
digest_of t = record { 0 = sha256 (canon_text t) }

-- what a deploy of a node asks for
abbrev pub deploy_in : List ℕ → How → Tree → Result Ask TextFault
deploy_in dep how t =
    result_map_both
    (λ manifest. Deploy (record { manifest = manifest; recreate = how.recreate; fix = how.fix; source = digest_of t }))
    Unfit (manifest_of dep t)

-- what a deploy of a text asks for: faults of its spelling come first, then those of its placeholders, then those of the
-- manifest
abbrev pub deploy_of : List ℕ → List Variable → How → List ℕ → Result Ask TextFault
deploy_of dep variables how text = filled_in variables text >>= deploy_in dep how

-- want of memory is told by no refusal
abbrev pub IsMemory : TextFault → Type 0
IsMemory fault = text_told fault ≡ None

-- what a function answered, seen by a view, is what is defined, unless memory ran out
abbrev pub Reads : {A B : Type 0} → (A → B) → Result A TextFault → Result B TextFault → Type 0
Reads view (Ok x) read = read ≡ Ok (view x)
Reads view (Err fault) read = IsMemory fault ⊎ (read ≡ Err fault)
