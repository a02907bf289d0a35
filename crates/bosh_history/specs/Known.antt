-- What a director knows: each fact is a function of its subject, and beside it stands the list of those that are
-- recorded.
use Rattle.std.specs.Prelude.{ℕ, Bool, false, eqb, Option, Some, None, List, [], find}
use Rattle.std.specs.Option.{option_and_then}
use Rattle.std.specs.Str.{bytes_eq}
use Rattle.bosh_base.specs.declared.digest.Digest.{Digest}
use Rattle.bosh_base.specs.declared.entry.Begin.{Begin}
use Rattle.bosh_base.specs.declared.failure.Failure.{Failure}
use Rattle.bosh_base.specs.declared.goal.Goal.{Goal}
use Rattle.bosh_base.specs.declared.goal.GoalRow.{GoalRow}
use Rattle.bosh_base.specs.declared.goal.GroupPlan.{GroupPlan}
use Rattle.bosh_base.specs.declared.inst.Inst.{Inst}
use Rattle.bosh_base.specs.declared.key.Key.{Key}
use Rattle.bosh_base.specs.declared.make.Make.{Make}
use Rattle.bosh_base.specs.declared.offer.Offer.{Offer}
use Rattle.bosh_base.specs.declared.release.Release.{Release}
use Rattle.bosh_base.specs.declared.row.Doubt.{Doubt}
use Rattle.bosh_base.specs.declared.row.Row.{Row}
use Rattle.bosh_base.specs.declared.row.Vm.{Vm}
use Rattle.bosh_base.specs.declared.snapshot.BuiltKey.{BuiltKey}
use Rattle.bosh_base.specs.declared.snapshot.Orphan.{Orphan}
use Rattle.bosh_base.specs.declared.stemcell.Stemcell.{Stemcell}
use Rattle.bosh_base.specs.declared.task.TaskEnd.{TaskEnd}
use Rattle.bosh_base.specs.declared.task.TaskKind.{TaskKind}
use Rattle.bosh_base.specs.declared.task.TaskKind.TheVariants.{CleanUp}
use Rattle.bosh_roll.specs.declared.upd.Upd.{Upd}
use Rattle.bosh_roll.specs.declared.upd.Upd.TheVariants.{Todo}
use Rattle.bosh_history.specs.Words.{at}
use Rattle.bosh_rows.specs.After.{bare}
use Rattle.bosh_rows.specs.Same.{same_inst}

-- a task: how it was opened, and how far it has come
pub record Task : Type 0 where
  pub kind : TaskKind
  pub dep : Option (List ℕ)
  pub source : Option Digest
  pub goal : Option Goal
  pub changed : List Inst
  pub obsolete : List Inst
  pub disks : List ℕ
  -- the instances whose machines are asked first, in a task that looks whether each answers
  pub to_ping : List Inst
  -- the disks that were recorded orphaned when it opened
  pub orphans : List ℕ
  pub pinged : Inst → Bool
  pub upd : Inst → Upd
  pub gone : Inst → Bool
  -- its least failed call, and how that failed
  pub failed : Option Failure
  -- how many calls began, where that is known
  pub calls : Option ℕ
  pub end : Option TaskEnd

-- a compile machine, by its task and its slot
pub record Slot : Type 0 where
  pub dep : List ℕ
  pub make : Make
  pub vm : Option Vm
  pub doubt : Option Doubt
  -- what it is to compile
  pub key : Option Key

-- the name of a compile machine
pub record SlotName : Type 0 where
  pub task : ℕ
  pub slot : ℕ

pub record Known : Type 0 where
  pub releases : List Release
  pub stemcells : List Stemcell
  pub config : Option (List ℕ)
  -- the recorded deployments, in the order of their first tasks
  pub deployments : List (List ℕ)
  -- the current goal of a deployment
  pub goal : List ℕ → Option Goal
  -- the offers of its last deploy that was done
  pub shared : List ℕ → List Offer
  -- the recorded instances, in order
  pub instances : List Inst
  pub row : Inst → Row
  -- the recorded compile machines, in order
  pub machines : List SlotName
  pub slot : ℕ → ℕ → Option Slot
  -- the orphaned disks, by number
  pub orphans : List ℕ
  pub orphan : ℕ → Option Orphan
  -- the compiled packages, by name and key
  pub built : List BuiltKey
  -- what a compiled key gave
  pub digest : Key → Option Digest
  -- how many tasks were opened
  pub tasks : ℕ
  pub task : ℕ → Task
  pub begun : ℕ → Option Begin
  pub last_call : ℕ

abbrev pub no_task : Task
no_task = record {
  kind = CleanUp;
  dep = None;
  source = None;
  goal = None;
  changed = [];
  obsolete = [];
  disks = [];
  to_ping = [];
  orphans = [];
  pinged = λ i. false;
  upd = λ i. Todo;
  gone = λ i. false;
  failed = None;
  calls = None;
  end = None;
}

abbrev pub nothing_known : Known
nothing_known = record {
  releases = [];
  stemcells = [];
  config = None;
  deployments = [];
  goal = λ dep. None;
  shared = λ dep. [];
  instances = [];
  row = bare;
  machines = [];
  slot = λ t s. None;
  orphans = [];
  orphan = λ d. None;
  built = [];
  digest = λ key. None;
  tasks = 0;
  task = λ t. no_task;
  begun = λ n. None;
  last_call = 0;
}

-- ---- a task of several

abbrev pub dep_named : Option (List ℕ) → List ℕ
dep_named (Some dep) = dep
dep_named None = []

-- the deployment of a task
abbrev pub dep_of_task : Known → ℕ → List ℕ
dep_of_task k t = dep_named (k.task t).dep

abbrev pub with_task : ℕ → (Task → Task) → Known → Known
with_task t change k = record k { task = at eqb t (change (k.task t)) k.task }

-- ---- questions on a goal

-- how a goal wants an instance
abbrev pub want_in : Option Goal → Inst → Option GoalRow
want_in goal i = option_and_then (λ g. find (λ want. same_inst i want.inst) g.rows) goal

-- the links that it offers
abbrev pub offers_in : Option Goal → List Offer
offers_in (Some goal) = goal.offers
offers_in None = []

-- the plan of the group of an instance
abbrev pub plan_in : Option Goal → Inst → Option GroupPlan
plan_in goal i = option_and_then (λ g. find (λ plan. bytes_eq plan.name i.group) g.groups) goal
