-- The faults of a text, step by step, and the values of variables.
use Rattle.std.proofs.Common.{◌≡◌, ℕ, List, [], ◌∷◌, Option, refl, ap, ◌∙◌, map}
use Rattle.std.specs.Option.{option_or}
use Rattle.std.specs.Result.{result_map_both}
use Rattle.std.specs.Str.{bytes_eq}
use Rattle.bosh_answers.specs.Deploys.{filled_with, given_value, read_value, values_for}
use Rattle.bosh_answers.specs.declared.text_fault.TextFault.TheVariants.{Unfilled}
use Rattle.bosh_lines.specs.declared.variable.Variable.{Variable}
use Rattle.bosh_vars.specs.Filled.{Values, filled, value_if, values_of}
use Rattle.bosh_vars.specs.declared.var.Var.{Var}
use Rattle.bosh_yaml.specs.Tree.{Tree}

-- variables that have the values that are given stand for the same
same_values : (read : List Var) (given : List Variable) (name : List ℕ) → map read_value read ≡ map given_value given → values_of read name ≡ values_for given name
same_values [] [] name same = refl
same_values [] (g ∷ gs) name same = absurd cc
same_values (v ∷ vs) [] name same = absurd cc
same_values (v ∷ vs) (g ∷ gs) name same =
    let first : read_value v ≡ given_value g = cc in
    let rest : map read_value vs ≡ map given_value gs = cc in
    ap (λ (values : Option Tree). option_or values (value_if (bytes_eq v.name name) (read_value v).1)) (same_values vs gs name rest)
    ∙ ap (λ (p : List ℕ × Tree). option_or (values_for gs name) (value_if (bytes_eq p.0 name) p.1)) first

-- the values that were read are those that are given
pub values_alike : (read : List Var) (given : List Variable) → map read_value read ≡ map given_value given → values_of read ≡ values_for given
values_alike read given same = λ k. λ name. same_values read given name same k

-- a node is filled by the values that were read as by those that are given
pub filled_alike :
    (given : List Variable) (read : List Var) (t : Tree) → map read_value read ≡ map given_value given
    → result_map_both (λ u. u) Unfilled (filled (values_of read) t) ≡ filled_with given t
filled_alike given read t same = ap (λ (values : Values). result_map_both (λ u. u) Unfilled (filled values t)) (values_alike read given same)
