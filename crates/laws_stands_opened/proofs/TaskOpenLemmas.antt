-- A task opens that may be noted: what is recorded then stands for what is told, and fits.
use Rattle.std.proofs.Common.{◌≡◌, ◌∙◌, ◌+◌, ◌≤◌, ℕ, true, false, ◌&&◌, List, Option, Some, None, ap, arith, refl, subst}
use Rattle.std.proofs.Common.{sym}
use Rattle.std.specs.Prelude.{eqb, is_some, nat_le}
use Rattle.std.specs.Option.{option_eq}
use Rattle.std.specs.Ordering.{nat_cmp}
use Rattle.std.specs.Str.{bytes_eq}
use Rattle.std.proofs.lemmas.Bool.{and_parts, leb-true}
use Rattle.std.proofs.lemmas.Bool.Decides.{eqb_tells}
use Rattle.std.proofs.lemmas.Cmp.{nat_cmp_total}
use Rattle.std.proofs.lemmas.Map.Lookups.{exact_unsigned}
use Rattle.bosh_base.specs.Inst.{inst_cmp}
use Rattle.bosh_base.specs.declared.entry.Entry.TheVariants as entries
use Rattle.bosh_base.specs.declared.entry.TaskOpen.{TaskOpen}
use Rattle.bosh_base.specs.declared.goal.Goal.{Goal}
use Rattle.bosh_base.specs.declared.inst.Inst.{Inst}
use Rattle.bosh_fold.specs.Learned.{learned}
use Rattle.bosh_fold.specs.Learns.{Learns}
use Rattle.bosh_fold.specs.Planned.{IsOpening}
use Rattle.bosh_fold.specs.Tasks.{goal_set, parts_set, task_noted}
use Rattle.bosh_fold.specs.declared.change.Change.{Change}
use Rattle.bosh_fold.specs.declared.change.Change.TheVariants as changes
use Rattle.bosh_history.specs.Known.{Known, Slot}
use Rattle.bosh_history.specs.Moments.{Moment}
use Rattle.bosh_history.specs.Openings.{MayOpen}
use Rattle.bosh_history.specs.Sound.{IsSound}
use Rattle.bosh_history.specs.Words.{is_among}
use Rattle.bosh_plan.specs.Opened.{task_row_of}
use Rattle.bosh_plan.specs.WorkBy.{asked_in, full, nothing, swept_in, with_keys, work_by}
use Rattle.bosh_records.specs.Changes.{since_cmp}
use Rattle.bosh_records.specs.Recorded.{Recorded, recorded}
use Rattle.bosh_records.specs.Table.{found}
use Rattle.bosh_records.specs.declared.records.Records.{Records}
use Rattle.bosh_records.specs.declared.records.Since.TheVariants as sinces
use Rattle.bosh_rows.specs.Same.{same_inst}
use Rattle.bosh_rows.specs.SoundSnapshot.{are_distinct}
use Rattle.bosh_work.specs.declared.part.MachineName.{MachineName}
use Rattle.bosh_work.specs.declared.work.Work.{Work}
use Rattle.laws_facts.proofs.GoalLemmas.{opens_of, sound_of}
use Rattle.laws_facts.proofs.InstanceLemmas.{instances_apart}
use Rattle.laws_facts.proofs.LockLemmas.{no_other}
use Rattle.laws_facts.proofs.OrderLemmas.{distinct_ascending}
use Rattle.laws_facts.proofs.WorkLemmas.{opens_next}
use Rattle.laws_facts.specs.Goals.{GoalFacts}
use Rattle.laws_facts.specs.KnownFacts.{KnownFacts}
use Rattle.laws_row_facts.specs.Words.{where_any}
use Rattle.laws_stands.specs.Agrees.{Agrees}
use Rattle.laws_stands.specs.Linked.{same_machine}
use Rattle.laws_stands.specs.Stands.{IsWork, Stands, StandsIn, StandsInOrder}
use Rattle.laws_stands.specs.Told.{Told, telling}
use Rattle.laws_stands_fits.specs.Fits.{Fits, SweepsEnded}
use Rattle.laws_stands_fits.specs.Own.{TellsOwn}
use Rattle.laws_stands_on.proofs.RoomyLemmas.{roomy_stands}
use Rattle.laws_stands_opened.proofs.AllowsLemmas.{AllowsOpen, WantsOwn}
use Rattle.laws_stands_fits.proofs.EntriesLemmas.{alike_keeps}
use Rattle.laws_stands_fits.proofs.KeepsLemmas.{fits_on}
use Rattle.laws_stands_opened.proofs.FitsOnLemmas.{opened_fits}
use Rattle.laws_stands_opened.proofs.GoalLemmas.{GoalSet, goal_is_set}
use Rattle.laws_stands_opened.proofs.ListsLemmas.{ListsThere, asked_apart, asked_recorded, goal_apart, goal_own, lists_there}
use Rattle.laws_stands_opened.proofs.OpeningLemmas.{Opens, now}
use Rattle.laws_stands_opened.proofs.RoomLemmas.{deployment_there, task_there, wants_there, work_there}
use Rattle.laws_stands_opened.proofs.StandsLemmas.{opened_stands}
use Rattle.laws_stands_opened.proofs.WantLemmas.{insts, none_wanted}

-- ---- what is known of the task

module _ (m : Moment) (told : Told) (o : TaskOpen) (agrees : Agrees m told) (facts : KnownFacts m)
    (may : MayOpen m.known o) (sound : IsSound m.known o) where
  -- what was known
  abbrev k : Known
  k = m.known

  apart : are_distinct same_inst k.instances ≡ true
  apart = instances_apart k.instances facts.lists.instances_in_order

  orphans_apart : are_distinct eqb k.orphans ≡ true
  orphans_apart =
      distinct_ascending nat_cmp nat_cmp_total eqb eqb_tells exact_unsigned k.orphans facts.lists.orphans_in_order

  lists : ListsThere k o
  lists = lists_there k apart orphans_apart o sound may

  -- a current goal wants instances of its deployment
  current_own : (dep : List ℕ) (goal : Goal) → k.goal dep ≡ Some goal → WantsOwn dep goal.rows
  current_own dep goal is i other =
      let sure : GoalFacts k dep goal = facts.goals dep goal is in
      none_wanted goal.dep _ goal.rows i (and_parts (are_distinct same_inst (insts goal.rows)) _ sure.sound_rows).1
      (ap (λ dep. bytes_eq dep i.dep) sure.of_dep ∙ other)

  -- no task has a compile machine before it opens
  no_slot : (s : ℕ) → k.slot o.task s ≡ None
  no_slot s = by (k.slot o.task s) refl
    where
      by : (slot : Option Slot) → k.slot o.task s ≡ slot → slot ≡ None
      by None is = refl
      by (Some slot) is =
          let (low, rest) = and_parts (nat_le 1 o.task) _ (sym (λ j. where_any (λ (it : Slot). nat_le 1 o.task
          && (nat_le o.task k.tasks && option_eq bytes_eq (Some it.dep) (k.task o.task).dep)) (is j))
          ∙ facts.numbers.of_tasks o.task s) in
          let (high, own) = and_parts (nat_le o.task k.tasks) _ rest in
          let past : o.task ≤ k.tasks = leb-true o.task k.tasks high in
          let next : o.task ≡ k.tasks + 1 = opens_next k o may in
          absurd (omega arith)

  allows_known : AllowsOpen (record told { known = k }) o
  allows_known = record {
    number = opens_next k o may;
    opens = opens_of k o may;
    alone = λ t open_ same. no_other k o t may open_ same;
    own = lists.own;
    pings_apart = asked_apart k apart orphans_apart o sound;
    obsolete_apart = lists.obsolete_apart;
    changed_apart = lists.changed_apart;
    disks_apart = lists.disks_apart;
    asked_there = asked_recorded k apart orphans_apart o sound;
    leaving_there = lists.leaving_there;
    changing_there = lists.changing_there;
    wants_own = λ goal is. goal_own k o.kind goal (sound_of k o goal is sound);
    wants_apart = λ goal is. goal_apart k o.kind goal (sound_of k o goal is sound);
    current_own = current_own;
    deployments_apart = facts.lists.deployments_apart;
    deployment_listed = facts.lists.deployment_listed;
    no_slot = no_slot;
  }

  pub allows_open : AllowsOpen told o
  allows_open = subst (λ known. AllowsOpen (record told { known = known }) o) (sym agrees.known_is) allows_known

-- ---- what is recorded once it opens

module _ (m : Moment) (told : Told) (was later : Records) (o : TaskOpen) (stands : Stands told was)
    (agrees : Agrees m told) (facts : KnownFacts m) (own : TellsOwn told) (fits : Fits told (recorded was))
    (may : MayOpen m.known o) (sound : IsSound m.known o) (learns : Learns was (entries.TaskOpen o) later)
    (opened : IsWork (telling told (entries.TaskOpen o)) o.task (Some (work_by learns.roomy o))) where
  -- what is recorded with the room that was made
  abbrev it : Recorded
  it = recorded learns.roomy

  -- what is left of the task
  abbrev work : Work
  work = work_by learns.roomy o

  allows : AllowsOpen told o
  allows = allows_open m told o agrees facts may sound

  roomy : StandsIn told it
  roomy = roomy_stands told was (entries.TaskOpen o) later learns stands

  roomy_fits : Fits told it
  roomy_fits =
      fits_on told told (recorded was) it
      (alike_keeps told (recorded was) it roomy.ordered learns.alike.same stands) (λ t none. none) refl fits

  wants_room : (goal : Goal) → o.goal ≡ Some goal → (i : Inst) → is_among same_inst i (insts goal.rows) ≡ true
      → is_some (found inst_cmp it.instances i) ≡ true
  wants_room goal is i among = ap (λ (it : Recorded). is_some (found inst_cmp it.instances i)) learns.room
      ∙ wants_there o (recorded was) goal is i among

  set : GoalSet told.known o it
  set = goal_is_set told it o roomy allows roomy_fits.since own.unshared
      (λ goal is. ap (λ (it : Recorded). is_some (found since_cmp it.deployments (sinces.Task o.task))) learns.room
      ∙ deployment_there o (recorded was) goal is)
      wants_room

  -- its keys change nothing of what it is to sweep
  same_sweep : (goal : Option Goal) (before : Work)
      → (with_keys (learns.roomy).keys goal before).sweep.items ≡ before.sweep.items
  same_sweep (Some goal) before = refl
  same_sweep None before = refl

  opens : Opens told it o work
  opens = record {
    stands = roomy;
    fits = roomy_fits;
    allows = allows;
    set = set;
    tasks_room = ap (λ (it : Recorded). is_some (found nat_cmp it.tasks o.task)) learns.room
        ∙ task_there o (recorded was);
    works_room = ap (λ (it : Recorded). is_some (found nat_cmp it.works o.task)) learns.room
        ∙ work_there o (recorded was);
    wants_room = wants_room;
    swept_are = same_sweep o.goal (record (nothing o.task) {
      pings = full (asked_in o it.instances);
      sweep = full (swept_in o.dep it.machines);
    });
    is_work = opened;
  }

  now_is : recorded later ≡ now told it o work opens
  now_is = by learns.change learns.planned learns.is_learned
    where
      by : (change : Change) → IsOpening learns.roomy o change
          → recorded later ≡ learned (entries.TaskOpen o) change it → recorded later ≡ now told it o work opens
      by (changes.Opened it_opened) planned is =
          is
          ∙ (λ j. task_noted (planned.row j) (planned.work j)
          (parts_set (planned.work j) (goal_set (planned.row j).task (planned.deployment j) it)))
          ∙ (λ j. task_noted (task_row_of o) work (parts_set work ((opens.set).is j)))
      by change planned is = absurd planned

  pub task_opened_stands : ((t : ℕ) (w : Option Work) → eqb o.task t ≡ false → IsWork told t w
      → IsWork (telling told (entries.TaskOpen o)) t w)
      → ((name : MachineName) → is_among same_machine name work.sweep.items ≡ true
      → SweepsEnded (telling told (entries.TaskOpen o)) o.task name)
      → Stands (telling told (entries.TaskOpen o)) later × Fits (telling told (entries.TaskOpen o)) (recorded later)
  task_opened_stands others ended = (
    subst (StandsInOrder (telling told (entries.TaskOpen o))) (sym now_is) (opened_stands told it o work opens others)
        learns.ordered,
    subst (Fits (telling told (entries.TaskOpen o))) (sym now_is) (opened_fits told it o work opens ended),
  )
