-- Whether a text is a cloud config: it reads, and the tables in it make a config without a fault.
use Rattle.std.specs.Prelude.{◌≡◌, ℕ, Bool, List, Option, Some, None, Result, Ok, Err, is_some}
use Rattle.bosh_cloudcfg.specs.Check.{config_of_tree}
use Rattle.bosh_cloudcfg.specs.declared.config.Config.{Config}
use Rattle.bosh_cloudcfg.specs.declared.fault.ConfigFault.{ConfigFault}
use Rattle.bosh_yaml.specs.Reading.{reading}
use Rattle.bosh_yaml.specs.Tree.{Tree}
use Rattle.bosh_yaml.specs.declared.fault.ReadFault.{ReadFault}

-- the config that is checked without a fault
abbrev pub if_checked : Result Config ConfigFault → Option Config
if_checked (Ok config) = Some config
if_checked (Err fault) = None

-- the config that is read
abbrev pub if_read : Result Tree ReadFault → Option Config
if_read (Ok tree) = if_checked (config_of_tree tree)
if_read (Err fault) = None

-- the text is a cloud config
abbrev pub is_config : List ℕ → Bool
is_config text = is_some (if_read (reading text))

-- what a text is read as, and the cloud config that this is
pub record Spells (text : List ℕ) : Type 0 where
  pub tree : Tree
  pub config : Config
  pub reads : reading text ≡ Ok tree
  pub is : config_of_tree tree ≡ Ok config
