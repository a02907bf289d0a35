-- All that records say: what came, and what their tables have, with the places that are kept free. Only memory is not in it.
use Rattle.std.specs.Prelude.{ℕ, Bool, ◌&&◌, List, [], Option, None, is_none, is_some, not}
use Rattle.std.specs.List.{filter}
use Rattle.bosh_base.specs.declared.entry.Begin.{Begin}
use Rattle.bosh_base.specs.declared.inst.Inst.{Inst}
use Rattle.bosh_base.specs.declared.key.Key.{Key}
use Rattle.bosh_base.specs.declared.snapshot.DepRow.{DepRow}
use Rattle.bosh_base.specs.declared.task.TaskRow.{TaskRow}
use Rattle.bosh_records.specs.Arrivals.{Arrivals, arrivals}
use Rattle.bosh_records.specs.declared.instances.Instance.{Instance}
use Rattle.bosh_records.specs.declared.keys.KeyState.{KeyState}
use Rattle.bosh_records.specs.declared.machines.Machine.{Machine}
use Rattle.bosh_records.specs.declared.orphans.LooseDisk.{LooseDisk}
use Rattle.bosh_records.specs.declared.records.Records.{Records}
use Rattle.bosh_records.specs.declared.records.Since.{Since}
use Rattle.bosh_work.specs.declared.part.MachineName.{MachineName}
use Rattle.bosh_work.specs.declared.work.Work.{Work}

pub record Recorded : Type 0 where
  pub came : Arrivals
  pub deployments : List (Since × Option DepRow)
  pub instances : List (Inst × Instance)
  pub machines : List (MachineName × Option Machine)
  pub orphans : List (ℕ × Option LooseDisk)
  pub keys : List (Key × KeyState)
  pub tasks : List (ℕ × Option TaskRow)
  pub works : List (ℕ × Option Work)
  pub calls : List (ℕ × Option Begin)

abbrev pub recorded : Records → Recorded
recorded records = record {
  came = arrivals records;
  deployments = records.deployments.places.entries;
  instances = records.instances.by_inst.entries;
  machines = records.machines.places.entries;
  orphans = records.orphans.places.entries;
  keys = records.keys.by_key.entries;
  tasks = records.tasks.places.entries;
  works = records.works.places.entries;
  calls = records.calls.places.entries;
}

-- before the first entry
abbrev pub nothing : Recorded
nothing = record {
  came = record { releases = []; stemcells = []; config = None; opened = 0; last_call = 0 };
  deployments = [];
  instances = [];
  machines = [];
  orphans = [];
  keys = [];
  tasks = [];
  works = [];
  calls = [];
}

-- ---- what says something, beside room that is kept

-- nothing is known of an instance
abbrev pub is_unknown : Instance → Bool
is_unknown it =
    is_none it.row && (is_none it.want && (is_none it.call
    && (is_none it.part.ping && (is_none it.part.leaving && is_none it.part.change))))

-- a key is neither compiled nor being compiled
abbrev pub is_only_asked : KeyState → Bool
is_only_asked it = is_none it.digest && is_none it.call

abbrev pub taken_places : {K V : Type 0} → List (K × Option V) → List (K × Option V)
taken_places places = filter (λ place. is_some place.1) places

abbrev pub known_instances : List (Inst × Instance) → List (Inst × Instance)
known_instances instances = filter (λ entry. not (is_unknown entry.1)) instances

abbrev pub known_keys : List (Key × KeyState) → List (Key × KeyState)
known_keys keys = filter (λ entry. not (is_only_asked entry.1)) keys

abbrev pub kept : Recorded → Recorded
kept it = record {
  came = it.came;
  deployments = taken_places it.deployments;
  instances = known_instances it.instances;
  machines = taken_places it.machines;
  orphans = taken_places it.orphans;
  keys = known_keys it.keys;
  tasks = taken_places it.tasks;
  works = taken_places it.works;
  calls = taken_places it.calls;
}
