-- What it means that a fact is kept, and the facts one by one, each of all its subjects.
use Rattle.std.specs.Prelude.{◌≡◌, ℕ, true, false, Some, List}
use Rattle.std.specs.List.{list_all}
use Rattle.std.specs.Ordering.{nat_cmp}
use Rattle.std.specs.Str.{bytes_eq}
use Rattle.bosh_base.specs.declared.key.Key.{Key}
use Rattle.bosh_base.specs.Inst.{inst_cmp}
use Rattle.bosh_base.specs.declared.goal.Goal.{Goal}
use Rattle.bosh_base.specs.declared.inst.Inst.{Inst}
use Rattle.bosh_base.specs.declared.moves.Move.{Move}
use Rattle.bosh_base.specs.declared.owner.Owner.{Owner}
use Rattle.laws_facts.specs.Makers.{is_machine_of_deployment}
use Rattle.laws_facts.specs.Facts.{Holds}
use Rattle.laws_facts.specs.Goals.{has_sound_rows, is_offered_now}
use Rattle.laws_facts.specs.KnownFacts.{KnownFacts}
use Rattle.laws_facts.specs.Lists.{is_deployment_listed, is_machine_listed, is_orphan_listed, is_key_listed}
use Rattle.laws_facts.specs.Numbers.{are_rows_past, is_doubt_past, is_number_past, is_of_its_task}
use Rattle.laws_facts.specs.Owners.{works}
use Rattle.laws_facts.specs.Tasks.{has_another_lock}
use Rattle.laws_row_facts.specs.Words.{are_ascending}
use Rattle.bosh_history.specs.Known.{Known}
use Rattle.bosh_history.specs.Links.{is_kept}
use Rattle.bosh_history.specs.Moments.{Moment, OpenCall, later}
use Rattle.bosh_history.specs.Notes.{Outside, has_begun}
use Rattle.bosh_history.specs.Orders.{slot_cmp}
use Rattle.bosh_history.specs.Permitted.{IsPermitted}
use Rattle.bosh_history.specs.Sound.{has_offers, has_slots}
use Rattle.bosh_history.specs.Words.{is_among}
use Rattle.bosh_rows.specs.SoundSnapshot.{are_distinct}
use Rattle.bosh_rows.specs.After.{bare}
use Rattle.bosh_rows.specs.Same.{same_inst}

-- the fact holds after each permitted move, where those on what is known held before it
abbrev pub IsKept : (Moment → Type 0) → Type 0
IsKept Fact =
    (outside : Outside) (m : Moment) (move : Move) → IsPermitted outside m move → KnownFacts m → Fact (later m move)

-- .. where all facts held before it
abbrev pub IsKeptByAll : (Moment → Type 0) → Type 0
IsKeptByAll Fact =
    (outside : Outside) (m : Moment) (move : Move) → IsPermitted outside m move → Holds m → Fact (later m move)

-- a fact on what is recorded alone
abbrev pub OfRecords : (Known → Type 0) → Moment → Type 0
OfRecords Fact m = Fact m.known

-- ---- numbers

-- the next number is new
abbrev pub AreNumbersPast : Moment → Type 0
AreNumbersPast m = (n : ℕ) → is_number_past m n ≡ true

-- no call in doubt is to come
abbrev pub AreDoubtsPast : Known → Type 0
AreDoubtsPast k = (owner : Owner) → is_doubt_past k owner ≡ true

-- no row of a goal is wanted of a call that is to come
abbrev pub AreRowsPast : Known → Type 0
AreRowsPast k = (dep : List ℕ) → are_rows_past k dep ≡ true

-- a compile machine is of a task that was opened, and of its deployment
abbrev pub AreOfTheirTasks : Known → Type 0
AreOfTheirTasks k = (t s : ℕ) → is_of_its_task k t s ≡ true

-- ---- whom machines were made for

-- each machine was made for an instance, or for a compile machine of a task that was opened, in its deployment
abbrev pub AreMadeInTheirDeployments : Moment → Type 0
AreMadeInTheirDeployments m = (v : ℕ) → is_machine_of_deployment m v ≡ true

-- ---- open calls

-- the open call has its number, and it is known how it began
pub record IsBegun (m : Moment) (n : ℕ) (call : OpenCall) : Type 0 where
  pub number : call.begin.n ≡ n
  pub begun : m.known.begun n ≡ Some call.begin

-- the call has its number, and it is known how it began
abbrev pub AreBegun : Moment → Type 0
AreBegun m = (n : ℕ) (call : OpenCall) → m.calls n ≡ Some call → IsBegun m n call

-- its task works
abbrev pub AreOfWork : Moment → Type 0
AreOfWork m = (n : ℕ) (call : OpenCall) → m.calls n ≡ Some call → works m call.begin.task ≡ true

-- no other open call is of its owner
abbrev pub HaveOneCall : Moment → Type 0
HaveOneCall m =
    (n : ℕ) (call : OpenCall) (other : ℕ) (that : OpenCall) → m.calls n ≡ Some call → m.calls other ≡ Some that →
    that.begin.owner ≡ call.begin.owner → other ≡ n

-- ---- lists

-- the orphaned disks that are listed are those of which something is known
abbrev pub AreOrphansListed : Known → Type 0
AreOrphansListed k = (d : ℕ) → is_orphan_listed k d ≡ true

-- the orphaned disks stand in order
abbrev pub AreOrphansInOrder : Known → Type 0
AreOrphansInOrder k = are_ascending nat_cmp k.orphans ≡ true

-- the compile machines that are listed are those of which something is known
abbrev pub AreMachinesListed : Known → Type 0
AreMachinesListed k = (t s : ℕ) → is_machine_listed k t s ≡ true

-- the compile machines stand in order
abbrev pub AreMachinesInOrder : Known → Type 0
AreMachinesInOrder k = are_ascending slot_cmp k.machines ≡ true

-- each row is that of its instance
abbrev pub HaveOwnRows : Known → Type 0
HaveOwnRows k = (i : Inst) → (k.row i).inst ≡ i

-- nothing is recorded of an instance that is not listed
abbrev pub AreOthersBare : Known → Type 0
AreOthersBare k = (i : Inst) → is_among same_inst i k.instances ≡ false → k.row i ≡ bare i

-- the instances stand in order
abbrev pub AreInstancesInOrder : Known → Type 0
AreInstancesInOrder k = are_ascending inst_cmp k.instances ≡ true

-- the compiled keys that are listed are those that have a digest
abbrev pub AreBuiltListed : Known → Type 0
AreBuiltListed k = (key : Key) → is_key_listed k key ≡ true

-- the deployments that are listed are those that have a goal
abbrev pub AreDeploymentsListed : Known → Type 0
AreDeploymentsListed k = (dep : List ℕ) → is_deployment_listed k dep ≡ true

-- no deployment stands twice
abbrev pub AreDeploymentsApart : Known → Type 0
AreDeploymentsApart k = are_distinct bytes_eq k.deployments ≡ true

-- what a goal has from the opening of its task on
pub record IsGoalSound (dep : List ℕ) (goal : Goal) : Type 0 where
  pub of_dep : goal.dep ≡ dep
  pub sound_rows : has_sound_rows goal ≡ true
  pub has_slots : has_slots goal ≡ true
  pub own_offers : has_offers goal ≡ true

-- .. of each current goal
abbrev pub AreGoalsSound : Known → Type 0
AreGoalsSound k = (dep : List ℕ) (goal : Goal) → k.goal dep ≡ Some goal → IsGoalSound dep goal

-- ---- tasks

-- another open task has another lock
abbrev pub HaveOwnLocks : Known → Type 0
HaveOwnLocks k = (t other : ℕ) → has_another_lock k t other ≡ true

-- the update of a changed instance has begun, but for a ping
abbrev pub HaveBegun : Moment → Type 0
HaveBegun m =
    (n : ℕ) (call : OpenCall) → m.calls n ≡ Some call →
    has_begun (m.known.task call.begin.task) call.begin.owner ≡ true

-- its goal is the current one of its deployment
abbrev pub AreCurrent : Moment → Type 0
AreCurrent m =
    (t : ℕ) (dep : List ℕ) → works m t ≡ true → (m.known.task t).dep ≡ Some dep →
    m.known.goal dep ≡ (m.known.task t).goal

-- ---- links

-- the links of other deployments are offered by their last done deploy, and by their current goal
pub record AreTied (k : Known) (dep : List ℕ) (goal : Goal) : Type 0 where
  pub done : list_all (is_kept k dep) goal.ties ≡ true
  pub now : list_all (is_offered_now k dep) goal.ties ≡ true

-- .. of each current goal
abbrev pub AreTiesKept : Known → Type 0
AreTiesKept k = (dep : List ℕ) (goal : Goal) → k.goal dep ≡ Some goal → AreTied k dep goal
