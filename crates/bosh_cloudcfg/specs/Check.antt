-- The config that a node is, or its first fault.
use Rattle.std.specs.Prelude.{Option, Some, None, Result, Ok, Err}
use Rattle.bosh_yaml.specs.Tree.{Tree}
use Rattle.bosh_fields.specs.declared.fault.FieldFault.{FieldFault}
use Rattle.bosh_cloudcfg.specs.declared.config.Config.{Config}
use Rattle.bosh_cloudcfg.specs.declared.fault.ConfigFault.{ConfigFault}
use Rattle.bosh_cloudcfg.specs.declared.tables.Tables.{Tables}
use Rattle.bosh_cloudcfg.specs.Answer.{fault_of}
use Rattle.bosh_cloudcfg.specs.Config.{config_of}
use Rattle.bosh_cloudcfg.specs.Passes.{first_fault}
use Rattle.bosh_cloudcfg.specs.Tables.{tables}

abbrev pub unless : {A : Type 0} → Option ConfigFault → A → Result A ConfigFault
unless None value = Ok value
unless (Some fault) value = Err fault

abbrev pub config_of_tables : Result Tables FieldFault → Result Config ConfigFault
config_of_tables (Ok tables) = unless (first_fault (config_of tables)) (config_of tables)
config_of_tables (Err fault) = Err (fault_of fault)

abbrev pub config_of_tree : Tree → Result Config ConfigFault
config_of_tree t = config_of_tables (tables t)
