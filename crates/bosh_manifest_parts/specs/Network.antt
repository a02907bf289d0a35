-- The networks of a group (bosh.io, "Deployment manifest": `networks` of an instance group).
use Rattle.std.specs.Prelude.{ℕ, Bool, true, false, ◌==◌, ◌||◌, List, [], Option, Result, Ok, Err, codes, unwrap_or, count_by, if◌then◌else◌}
use Rattle.std.specs.List.{list_any}
use Rattle.std.specs.Str.{bytes_eq}
use Rattle.bosh_base.specs.declared.addr.Band.{Band}
use Rattle.bosh_yaml.specs.Tree.{Tree, Trees}
use Rattle.bosh_fields.specs.Address.{a_band}
use Rattle.bosh_fields.specs.Answer.{◌>>=◌}
use Rattle.bosh_fields.specs.Field.{optional, required}
use Rattle.bosh_fields.specs.Kind.{Kind, a_text}
use Rattle.bosh_fields.specs.List.{a_list, count, items_up_to}
use Rattle.bosh_fields.specs.declared.fault.FieldFault.{FieldFault}
use Rattle.bosh_fields.specs.declared.fault.FieldFault.TheVariants.{Malformed, Missing, WrongKind, Unsupported}
use Rattle.bosh_manifest_parts.specs.Named.{each_named, some_items}
use Rattle.bosh_manifest_parts.specs.declared.network.NetUse.{NetUse}
use Rattle.bosh_manifest_parts.specs.declared.network.Role.{Role}
use Rattle.bosh_manifest_parts.specs.declared.network.Role.TheVariants.{Dns, Gateway}

-- a text that is no address or range is of a wrong kind
abbrev pub untyped : FieldFault → FieldFault
untyped (Malformed key) = WrongKind key
untyped fault = fault

abbrev pub bands_or_fault : Result (Option (List Band)) FieldFault → Result (List Band) FieldFault
bands_or_fault (Ok bands) = Ok (unwrap_or bands [])
bands_or_fault (Err fault) = Err (untyped fault)

-- the addresses that the instances are to have
abbrev pub fixed_bands : Tree → Result (List Band) FieldFault
fixed_bands t = bands_or_fault (optional (a_list a_band) (codes "static_ips") t)

-- what a network is the default for; `addressable` is not offered
abbrev pub role_in : List ℕ → List ℕ → Result Role FieldFault
role_in key s =
    if bytes_eq s (codes "dns") then Ok Dns
    else if bytes_eq s (codes "gateway") then Ok Gateway
    else if bytes_eq s (codes "addressable") then Err (Unsupported key) else Err (WrongKind key)

abbrev pub a_role : Kind Role
a_role key t = do
  s ← a_text key t
  role_in key s

abbrev pub is_gateway : Role → Bool
is_gateway Gateway = true
is_gateway Dns = false

-- whether the gateway is among the defaults
abbrev pub is_default_gateway : Tree → Result Bool FieldFault
is_default_gateway t = do
  roles ← optional (a_list a_role) (codes "default") t
  Ok (list_any is_gateway (unwrap_or roles []))

-- the only network of a group has its gateway, whatever its defaults are
abbrev pub a_network : Bool → List ℕ → Tree → Result NetUse FieldFault
a_network is_only name t = do
  bands ← fixed_bands t
  gateway ← is_default_gateway t
  Ok (record { net = name; fixed = bands; gateway = is_only || gateway })

abbrev pub has_gateway : NetUse → Bool
has_gateway network = network.gateway

-- exactly one network has the gateway
abbrev pub one_gateway : List NetUse → Result (List NetUse) FieldFault
one_gateway networks =
    if count_by has_gateway networks == 1 then Ok networks else Err (Missing (codes "default"))

-- one network at least
abbrev pub each_network : List ℕ → Trees → Result (List NetUse) FieldFault
each_network key ts = do
  read ← each_named (a_network (count ts == 1)) key ts
  networks ← some_items key read
  one_gateway networks

-- at most 16 networks
abbrev pub a_network_list : Kind (List NetUse)
a_network_list key t = do
  ts ← items_up_to 16 key t
  each_network key ts

abbrev pub group_networks : Tree → Result (List NetUse) FieldFault
group_networks t = required a_network_list (codes "networks") t
