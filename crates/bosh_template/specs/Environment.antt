-- What templates look up.
use Rattle.std.specs.Prelude.{ℕ, List}
use Rattle.bosh_base.specs.declared.addr.Addr.{Addr}
use Rattle.bosh_base.specs.declared.release.Prop.{Prop}
use Rattle.bosh_base.specs.declared.release.PropSpec.{PropSpec}
use Rattle.bosh_yaml.specs.Tree.{Tree}

-- what the provider of a link gives to its consumer
pub record LinkEnv : Type 0 where
  -- the link, as the consumer calls it
  pub name : List ℕ
  -- the names of the properties that the provider lists
  pub listed : List (List ℕ)
  -- those of them that have a value
  pub props : List Prop
  -- the addresses of the provider's instances, by index
  pub addrs : List Addr

-- what the templates of a job look up in any instance of its group
pub record JobEnv : Type 0 where
  pub dep : List ℕ
  pub group : List ℕ
  -- the properties that the job's specification declares
  pub declared : List PropSpec
  -- the properties that the manifest gives to the job
  pub given : Tree
  -- the links that have a provider
  pub links : List LinkEnv

-- what they look up in one instance
pub record Env : Type 0 where
  pub job : JobEnv
  pub index : ℕ
  pub az : List ℕ
  -- the address on the gateway's network
  pub addr : Addr

abbrev pub prop_spec_name : PropSpec → List ℕ
prop_spec_name spec = spec.name

abbrev pub prop_name : Prop → List ℕ
prop_name prop = prop.name

abbrev pub link_name : LinkEnv → List ℕ
link_name link = link.name

abbrev pub own_name : List ℕ → List ℕ
own_name text = text
