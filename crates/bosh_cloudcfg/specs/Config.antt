-- The config that tables make.
use Rattle.std.specs.Prelude.{ℕ, List, map, unwrap_or}
use Rattle.std.specs.List.{flat_map}
use Rattle.bosh_base.specs.declared.plan.Subnet.{Subnet}
use Rattle.bosh_cloudcfg.specs.declared.config.Config.{Config}
use Rattle.bosh_cloudcfg.specs.declared.items.Zone.{Zone}
use Rattle.bosh_cloudcfg.specs.declared.subnet.NetworkFields.{NetworkFields}
use Rattle.bosh_cloudcfg.specs.declared.subnet.SubnetFields.{SubnetFields}
use Rattle.bosh_cloudcfg.specs.declared.tables.Tables.{Tables}

abbrev pub zone_name : Zone → List ℕ
zone_name zone = zone.name

abbrev pub network_name : NetworkFields → List ℕ
network_name network = network.name

-- a subnet that lists no zones lies in every zone of the config
abbrev pub subnet_of : List (List ℕ) → List ℕ → SubnetFields → Subnet
subnet_of azs net fields = record {
  net = net;
  range = fields.range;
  gateway = fields.gateway;
  reserved = fields.reserved;
  fixed = fields.fixed;
  azs = unwrap_or fields.azs azs;
}

abbrev pub subnets_of : List (List ℕ) → NetworkFields → List Subnet
subnets_of azs network = map (subnet_of azs network.name) network.subnets

abbrev pub config_of : Tables → Config
config_of tables = record {
  azs = map zone_name tables.azs;
  networks = map network_name tables.networks;
  plan = record { subnets = flat_map (subnets_of (map zone_name tables.azs)) tables.networks };
  vm_types = tables.vm_types;
  disk_types = tables.disk_types;
  compilation = tables.compilation;
}
