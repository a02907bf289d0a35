-- The availability zones that a subnet lists (bosh.io, "Networks": `az` and `azs` of a manual network's subnet).
use Rattle.std.specs.Prelude.{ℕ, List, [], ◌∷◌, Option, Some, None, Result, Ok, codes, option_map}
use Rattle.bosh_yaml.specs.Tree.{Tree}
use Rattle.bosh_fields.specs.Answer.{◌>>=◌}
use Rattle.bosh_fields.specs.Distinct.{a_distinct_list}
use Rattle.bosh_fields.specs.Field.{optional, value_at}
use Rattle.bosh_fields.specs.Kind.{Kind, a_name}
use Rattle.bosh_fields.specs.List.{no_limit}
use Rattle.bosh_fields.specs.declared.fault.FieldFault.{FieldFault}

-- names alone, of which none stands twice
abbrev pub names : Kind (List (List ℕ))
names = a_distinct_list a_name (λ name _. Ok name) no_limit

abbrev pub one_zone : Tree → Result (Option (List (List ℕ))) FieldFault
one_zone t = do
  az ← optional a_name (codes "az") t
  Ok (option_map (λ name. name ∷ []) az)

-- those of `azs`, beside which `az` is not looked at, or that of `az`; there are none where neither stands
abbrev pub zones_from : Option Tree → Tree → Result (Option (List (List ℕ))) FieldFault
zones_from None t = one_zone t
zones_from (Some azs) t = do
  listed ← names (codes "azs") azs
  Ok (Some listed)

abbrev pub zones : Tree → Result (Option (List (List ℕ))) FieldFault
zones t = zones_from (value_at (codes "azs") t) t
