-- Subnets and networks (bosh.io, "Networks", manual networks).
use Rattle.std.specs.Prelude.{ℕ, List, [], Option, Some, None, Result, Ok, Err, codes, unwrap_or, if◌then◌else◌}
use Rattle.std.specs.Str.{bytes_eq}
use Rattle.bosh_base.specs.declared.addr.Band.{Band}
use Rattle.bosh_yaml.specs.Tree.{Tree}
use Rattle.bosh_fields.specs.Address.{a_band, an_addr}
use Rattle.bosh_fields.specs.Answer.{◌>>=◌, both}
use Rattle.bosh_fields.specs.Field.{optional, required}
use Rattle.bosh_fields.specs.Kind.{Kind, a_mapping, a_text}
use Rattle.bosh_fields.specs.List.{a_list, a_list_up_to}
use Rattle.bosh_fields.specs.declared.fault.FieldFault.{FieldFault}
use Rattle.bosh_fields.specs.declared.fault.FieldFault.TheVariants.{Unsupported}
use Rattle.bosh_cloudcfg.specs.declared.subnet.NetworkFields.{NetworkFields}
use Rattle.bosh_cloudcfg.specs.declared.subnet.SubnetFields.{SubnetFields}
use Rattle.bosh_cloudcfg.specs.Block.{a_block}
use Rattle.bosh_cloudcfg.specs.Zones.{zones}

-- a list at a key, which is empty where the key is absent
abbrev pub list_at : {A : Type 0} → Kind A → List ℕ → Tree → Result (List A) FieldFault
list_at kind key t = do
  found ← optional (a_list kind) key t
  Ok (unwrap_or found [])

-- the zones, behind the addresses of name servers, which are read and not kept
abbrev pub zones_behind_dns : Tree → Result (Option (List (List ℕ))) FieldFault
zones_behind_dns t = do
  dns ← list_at an_addr (codes "dns") t
  zones t

-- the reserved and the static addresses, and the zones
abbrev pub lists : Tree → Result ((List Band × List Band) × Option (List (List ℕ))) FieldFault
lists t =
    both (both (list_at a_band (codes "reserved") t) (list_at a_band (codes "static") t)) (zones_behind_dns t)

abbrev pub a_subnet : Kind SubnetFields
a_subnet key t = do
  subnet ← a_mapping key t
  block ← required a_block (codes "range") subnet
  gateway ← optional an_addr (codes "gateway") subnet
  others ← lists subnet
  Ok (record {
    range = block.addresses;
    gateway = gateway;
    reserved = others.0.0;
    fixed = others.0.1;
    azs = others.1;
  })

-- the one type of networks
abbrev pub is_manual : Option (List ℕ) → Result (Option (List ℕ)) FieldFault
is_manual None = Ok None
is_manual (Some type) =
    if bytes_eq type (codes "manual") then Ok (Some type) else Err (Unsupported (codes "type"))

abbrev pub network_type : Tree → Result (Option (List ℕ)) FieldFault
network_type t = do
  given ← optional a_text (codes "type") t
  is_manual given

-- a network of at most 16 subnets
abbrev pub a_network : List ℕ → Tree → Result NetworkFields FieldFault
a_network name t = do
  type ← network_type t
  subnets ← required (a_list_up_to 16 a_subnet) (codes "subnets") t
  Ok (record { name = name; subnets = subnets })
