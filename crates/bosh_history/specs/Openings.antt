-- Which task may be opened (this project's profile).
use Rattle.std.specs.Prelude.{◌≡◌, ℕ, ◌+◌, Bool, true, false, eqb, not, ◌&&◌, ◌||◌, Option, Some, None, is_some, List, [], ◌∷◌}
use Rattle.std.specs.List.{list_all}
use Rattle.std.specs.Option.{option_eq}
use Rattle.std.specs.Str.{bytes_eq}
use Rattle.bosh_base.specs.Cloud.{numbers_to}
use Rattle.bosh_base.specs.declared.entry.Entry.{Entry}
use Rattle.bosh_base.specs.declared.entry.Entry.TheVariants as entries
use Rattle.bosh_base.specs.declared.entry.TaskOpen.{TaskOpen}
use Rattle.bosh_base.specs.declared.goal.Goal.{Goal}
use Rattle.bosh_base.specs.declared.inst.Inst.{Inst}
use Rattle.bosh_base.specs.declared.link.Tie.{Tie}
use Rattle.bosh_base.specs.declared.task.TaskKind.{TaskKind}
use Rattle.bosh_base.specs.declared.task.TaskKind.TheVariants.{Deploy, DeleteDisk, CleanUp, Fix}
use Rattle.bosh_history.specs.Goals.{named_instance, to_change, to_delete, is_in}
use Rattle.bosh_history.specs.Held.{is_offered, is_open}
use Rattle.bosh_history.specs.Known.{Known}
use Rattle.bosh_history.specs.Words.{is_among}

-- no open task has the lock: that of the deployment, or that of the clean-up tasks
abbrev pub is_free : Known → Option (List ℕ) → Bool
is_free k dep = list_all (λ t. not (is_open k t && option_eq bytes_eq (k.task t).dep dep)) (numbers_to k.tasks)

abbrev pub deploys : TaskKind → Bool
deploys Deploy = true
deploys Fix = true
deploys kind = false

-- a tie of another deployment to this one is still offered by the goal
abbrev pub is_offered_still : Goal → Tie → Bool
is_offered_still goal tie = not (bytes_eq tie.provider.dep goal.dep) || is_offered tie.provider tie.kind goal.offers

abbrev pub ties_of : Option Goal → List Tie
ties_of (Some goal) = goal.ties
ties_of None = []

-- another deployment has no tie to a link that the goal withdraws
abbrev pub keeps_ties : Known → Goal → List ℕ → Bool
keeps_ties k goal dep = bytes_eq dep goal.dep || list_all (is_offered_still goal) (ties_of (k.goal dep))

-- no other current goal has one
abbrev pub withdraws_nothing : Known → Goal → Bool
withdraws_nothing k goal = list_all (keeps_ties k goal) k.deployments

abbrev pub is_recorded : Known → List ℕ → Bool
is_recorded k dep = is_among bytes_eq dep k.deployments

-- a deploy may be of a new deployment, any other task is of a recorded one, and one of an instance is of one that is
-- wanted
abbrev pub names_what_is_there : Known → TaskKind → Goal → Bool
names_what_is_there k kind goal = deploys kind || (is_recorded k goal.dep && by_name (named_instance kind))
  where
    by_name : Option Inst → Bool
    by_name (Some i) = is_in (k.goal goal.dep) i
    by_name None = true

-- a deploy tells its source, and no other task does
abbrev pub HasSource : Entry → Type 0
HasSource (entries.TaskOpen o) = is_some o.source ≡ deploys o.kind
HasSource entry = Unit {0}

-- a task of a deployment opens: a deploy, or one of its instances, or its deletion
pub record OpensWith (k : Known) (o : TaskOpen) (goal : Goal) : Type 0 where
  pub number : o.task ≡ k.tasks + 1
  pub of_the_deployment : option_eq bytes_eq o.dep (Some goal.dep) ≡ true
  pub is_free : is_free k o.dep ≡ true
  pub is_there : names_what_is_there k o.kind goal ≡ true
  pub changes : o.changed ≡ to_change k o.kind o.goal
  pub deletes : o.obsolete ≡ to_delete k o.kind goal.dep o.goal
  pub no_disks : o.disks ≡ []
  pub keeps_links : withdraws_nothing k goal ≡ true

-- a task opens that deletes disks alone
pub record OpensOn (k : Known) (o : TaskOpen) : Type 0 where
  pub number : o.task ≡ k.tasks + 1
  pub of_none : o.dep ≡ None
  pub is_free : is_free k o.dep ≡ true
  pub changes_none : o.changed ≡ []
  pub deletes_none : o.obsolete ≡ []

abbrev pub OpensFor : Known → TaskOpen → Option Goal → Type 0
OpensFor k o (Some goal) = OpensWith k o goal
OpensFor k o None = ⊥

abbrev pub OpensDisks : Known → TaskOpen → Option Goal → Type 0
OpensDisks k o None = OpensOn k o
OpensDisks k o (Some goal) = ⊥

-- all disks that are recorded orphaned are to be deleted, by number
abbrev pub OpensAll : Known → TaskOpen → Option Goal → Type 0
OpensAll k o goal = OpensDisks k o goal × (o.disks ≡ k.orphans)

-- one disk is, which is recorded orphaned
abbrev pub OpensOne : Known → TaskOpen → Option Goal → ℕ → Type 0
OpensOne k o goal d = OpensDisks k o goal × (o.disks ≡ d ∷ []) × (is_among eqb d k.orphans ≡ true)

abbrev pub OpensBy : Known → TaskOpen → TaskKind → Type 0
OpensBy k o CleanUp = OpensAll k o o.goal
OpensBy k o (DeleteDisk d) = OpensOne k o o.goal d
OpensBy k o kind = OpensFor k o o.goal

-- the task may open, whatever source it tells
abbrev pub MayOpen : Known → TaskOpen → Type 0
MayOpen k o = OpensBy k o o.kind
