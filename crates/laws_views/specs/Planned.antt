-- An opening that is planned over the records for what is asked.
use Rattle.std.specs.Prelude.{◌≡◌, None}
use Rattle.bosh_asks.specs.Asked.{dep_of}
use Rattle.bosh_asks.specs.Known.{lock_holder, next_task}
use Rattle.bosh_asks.specs.Opened.{Opens, plan_of}
use Rattle.bosh_asks.specs.Over.{DoesOver, IsNamed}
use Rattle.bosh_asks.specs.declared.ask.Ask.{Ask}
use Rattle.bosh_asks.specs.declared.ask.Ask.TheVariants as asks
use Rattle.bosh_base.specs.declared.entry.TaskOpen.{TaskOpen}
use Rattle.bosh_manifest.specs.Sound.{IsSound}
use Rattle.bosh_records.specs.declared.records.Records.{Records}

pub record IsPlanned (records : Records) (ask : Ask) (o : TaskOpen) : Type 0 where
  -- it has the next number
  pub number : o.task ≡ next_task records
  -- no open task has its lock
  pub free : lock_holder records (dep_of ask) ≡ None
  -- what is named is there
  pub named : IsNamed records ask
  -- it does what is asked, by the records
  pub over : DoesOver records ask (plan_of o)
  -- .. and tells so
  pub opens : Opens ask o

-- the manifest of a deploy is a checked one
abbrev pub IsChecked : Ask → Type 0
IsChecked (asks.Deploy it) = IsSound it.manifest
IsChecked ask = Unit {0}
