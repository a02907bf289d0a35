-- What a task that opens asks, takes away, sweeps and deletes is of its deployment, or it is of none; so nothing of it has an
-- open call.
use Rattle.std.proofs.Common.{◌≡◌, ◌∙◌, ℕ, Bool, true, false, ◌&&◌, not, List, [], ◌∷◌, Option, Some}
use Rattle.std.proofs.Common.{None, ap, arith, filter, map, refl, subst, sym}
use Rattle.std.specs.Prelude.{eqb, find, is_some}
use Rattle.std.specs.List.{list_all}
use Rattle.std.specs.Str.{bytes_eq}
use Rattle.std.proofs.lemmas.Bool.{and_parts, eq-eqb, false≢true}
use Rattle.bosh_base.specs.Cloud.{numbers_to}
use Rattle.bosh_base.specs.Inst.{inst_cmp}
use Rattle.bosh_base.specs.declared.entry.Begin.{Begin}
use Rattle.bosh_base.specs.declared.entry.TaskOpen.{TaskOpen}
use Rattle.bosh_base.specs.declared.goal.Goal.{Goal}
use Rattle.bosh_base.specs.declared.goal.GoalRow.{GoalRow}
use Rattle.bosh_base.specs.declared.inst.Inst.{Inst}
use Rattle.bosh_base.specs.declared.owner.Owner.{Owner}
use Rattle.bosh_base.specs.declared.owner.Owner.TheVariants.{Compile, Disk, Instance}
use Rattle.bosh_base.specs.declared.task.TaskKind.{TaskKind}
use Rattle.bosh_base.specs.declared.task.TaskKind.TheVariants as kinds
use Rattle.bosh_history.specs.Goals.{inst_of, is_in, to_delete}
use Rattle.bosh_history.specs.Known.{Known, Slot}
use Rattle.bosh_history.specs.Moments.{Moment}
use Rattle.bosh_history.specs.Openings.{MayOpen, OpensBy, OpensDisks, OpensFor, OpensWith, is_recorded, names_what_is_there}
use Rattle.bosh_history.specs.Orders.{slot_cmp}
use Rattle.bosh_history.specs.Sound.{has_plan}
use Rattle.bosh_history.specs.Tasks.{asks_of, is_of_dep}
use Rattle.bosh_history.specs.Words.{holds, is_among}
use Rattle.bosh_rows.specs.SoundSnapshot.{are_distinct}
use Rattle.bosh_rows.specs.Same.{same_inst, same_owner}
use Rattle.laws_facts.proofs.LockLemmas.{locks_equal, no_other}
use Rattle.laws_facts.specs.Goals.{GoalFacts}
use Rattle.laws_facts.specs.KnownFacts.{KnownFacts}
use Rattle.laws_facts.specs.Lists.{is_machine_listed, is_orphan_listed}
use Rattle.laws_facts.specs.Numbers.{is_of_its_task}
use Rattle.laws_row_facts.specs.Words.{are_ascending}
use Rattle.laws_stands.proofs.MemberLemmas.{bytes_is, inst_is}
use Rattle.laws_stands.specs.Told.{TellsWell, Told, idle_in, is_idle}
use Rattle.laws_stands_fits.specs.Own.{IsOwn, TellsOwn}
use Rattle.laws_stands_on.proofs.CallLemmas.{same_owner_is}
use Rattle.laws_stands_works.proofs.KeptLemmas.{all_among, all_filtered, all_true}

-- ---- what is known at a moment, as far as it is needed

pub record IsOrderly (k : Known) : Type 0 where
  -- instances and compile machines stand in order
  pub instances : are_ascending inst_cmp k.instances ≡ true
  pub machines : are_ascending slot_cmp k.machines ≡ true
  -- compile machines and disks are listed where something is known of them
  pub machine_listed : (t s : ℕ) → is_machine_listed k t s ≡ true
  pub orphan_listed : (d : ℕ) → is_orphan_listed k d ≡ true
  -- a compile machine is of a task that was opened, and of its deployment
  pub of_tasks : (t s : ℕ) → is_of_its_task k t s ≡ true
  -- what is known of each current goal
  pub goals : (dep : List ℕ) (goal : Goal) → k.goal dep ≡ Some goal → GoalFacts k dep goal

pub orderly : (m : Moment) → KnownFacts m → IsOrderly m.known
orderly m facts = record {
  instances = facts.lists.instances_in_order;
  machines = facts.lists.machines_in_order;
  machine_listed = facts.lists.machine_listed;
  orphan_listed = facts.lists.orphan_listed;
  of_tasks = facts.numbers.of_tasks;
  goals = facts.goals;
}

module _ (k : Known) (o : TaskOpen) where
  dep_of : (goal : Goal) → OpensWith k o goal → o.dep ≡ Some goal.dep
  dep_of goal may = locks_equal o.dep (Some goal.dep) may.of_the_deployment

  -- ---- who is asked

  -- an instance of a current goal is of its deployment
  found_dep : (named : Inst) (goal : Goal) (dep : List ℕ) (rows : List GoalRow)
      → list_all (λ want. bytes_eq want.inst.dep dep && has_plan goal want) rows ≡ true
      → is_some (find (λ want. same_inst named want.inst) rows) ≡ true → named.dep ≡ dep
  found_dep named goal dep [] all there = absurd (false≢true there)
  found_dep named goal dep (want ∷ rows) all there =
      let (first, rest) = and_parts (bytes_eq want.inst.dep dep && has_plan goal want)
      (list_all (λ (want : GoalRow). bytes_eq want.inst.dep dep && has_plan goal want) rows) all in
      by (same_inst named want.inst) refl (and_parts (bytes_eq want.inst.dep dep) (has_plan goal want) first).0
      (λ there. found_dep named goal dep rows rest there) there
    where
      by : (b : Bool) → same_inst named want.inst ≡ b → bytes_eq want.inst.dep dep ≡ true
          → (is_some (find (λ (want : GoalRow). same_inst named want.inst) rows) ≡ true → named.dep ≡ dep)
          → is_some (find (λ (want : GoalRow). same_inst named want.inst) (want ∷ rows)) ≡ true → named.dep ≡ dep
      by true same first more there =
          ap (λ (i : Inst). i.dep) (inst_is named want.inst same) ∙ bytes_is want.inst.dep dep first
      by false other first more there = more (grind (arith, other, there))

  wanted_dep : IsOrderly k → (named : Inst) (dep : List ℕ) (current : Option Goal) → k.goal dep ≡ current
      → is_in current named ≡ true → named.dep ≡ dep
  wanted_dep well named dep (Some goal) is there =
      let facts : GoalFacts k dep goal = well.goals dep goal is in
      found_dep named goal goal.dep goal.rows (and_parts (are_distinct same_inst (map inst_of goal.rows))
      (list_all (λ (want : GoalRow). bytes_eq want.inst.dep goal.dep && has_plan goal want) goal.rows) facts.sound_rows).1 there
      ∙ facts.of_dep
  wanted_dep well named dep None is there = absurd (false≢true there)

  named_own : IsOrderly k → (named : Inst) (goal : Option Goal) → o.kind ≡ kinds.Resolve named → OpensFor k o goal
      → o.dep ≡ Some named.dep
  named_own well named (Some goal) kind may =
      dep_of goal may ∙ ap Some (sym (wanted_dep well named goal.dep (k.goal goal.dep) refl there))
    where
      there : is_in (k.goal goal.dep) named ≡ true
      there = (and_parts (is_recorded k goal.dep) (is_in (k.goal goal.dep) named)
          (ap (λ kind. names_what_is_there k kind goal) (sym kind) ∙ may.is_there)).1
  named_own well named None kind may = absurd may

  of_dep : (dep : Option (List ℕ)) (i : Inst) → is_of_dep dep i ≡ true → dep ≡ Some i.dep
  of_dep (Some dep) i is = ap Some (sym (bytes_is i.dep dep is))
  of_dep None i is = absurd (false≢true is)

  asked_by : IsOrderly k → (kind : TaskKind) → o.kind ≡ kind → OpensBy k o kind → (i : Inst)
      → asks_of kind o.dep i ≡ true → o.dep ≡ Some i.dep
  asked_by well kinds.Fix is may i asks = of_dep o.dep i asks
  asked_by well (kinds.Resolve named) is may i asks =
      named_own well named o.goal is may ∙ ap (λ (i : Inst). Some i.dep) (inst_is named i asks)
  asked_by well kind is may i asks = absurd (false≢true asks)

  -- an instance that it asks is of its deployment
  pub asked_own : IsOrderly k → MayOpen k o → (i : Inst) → asks_of o.kind o.dep i ≡ true → o.dep ≡ Some i.dep
  asked_own well may i asks = asked_by well o.kind refl may i asks

  -- ---- what leaves

  module _ (p : Inst → Bool) (own : (i : Inst) → o.dep ≡ Some i.dep → p i ≡ true) where
    out_all : (dep : List ℕ) → o.dep ≡ Some dep → (q : Inst → Bool) (xs : List Inst)
        → list_all p (filter (λ i. bytes_eq i.dep dep && q i) xs) ≡ true
    out_all dep is q xs = all_filtered p (λ i. bytes_eq i.dep dep && q i)
        (λ i both. own i (is ∙ ap Some (sym (bytes_is i.dep dep (and_parts (bytes_eq i.dep dep) (q i) both).0)))) xs

    deleted_all : (kind : TaskKind) (dep : List ℕ) → o.dep ≡ Some dep → list_all p (to_delete k kind dep o.goal) ≡ true
    deleted_all kinds.Deploy dep is = out_all dep is (λ i. not (is_in o.goal i)) k.instances
    deleted_all kinds.Fix dep is = out_all dep is (λ i. not (is_in o.goal i)) k.instances
    deleted_all kinds.DeleteDeployment dep is = out_all dep is (λ i. not (is_in o.goal i)) k.instances
    deleted_all kind dep is = refl

    leaving_for : (goal : Option Goal) → OpensFor k o goal → list_all p o.obsolete ≡ true
    leaving_for (Some goal) may = ap (list_all p) may.deletes ∙ deleted_all o.kind goal.dep (dep_of goal may)
    leaving_for None may = absurd may

    leaving_on : (goal : Option Goal) → OpensDisks k o goal → list_all p o.obsolete ≡ true
    leaving_on (Some goal) may = absurd may
    leaving_on None may = ap (list_all p) may.deletes_none

    leaving_by : (kind : TaskKind) → OpensBy k o kind → list_all p o.obsolete ≡ true
    leaving_by kinds.CleanUp may = leaving_on o.goal may.0
    leaving_by (kinds.DeleteDisk d) may = leaving_on o.goal may.0
    leaving_by kind may = leaving_for o.goal may

    -- what holds of each instance of its deployment holds of those that leave
    pub leaving_own : MayOpen k o → list_all p o.obsolete ≡ true
    leaving_own may = leaving_by o.kind may

  -- ---- what is deleted

  module _ (p : ℕ → Bool) (own : (d : ℕ) → o.dep ≡ None → is_among eqb d k.orphans ≡ true → p d ≡ true) where
    none_on : (goal : Option Goal) → OpensDisks k o goal → o.dep ≡ None
    none_on (Some goal) may = absurd may
    none_on None may = may.of_none

    disks_for : (goal : Option Goal) → OpensFor k o goal → list_all p o.disks ≡ true
    disks_for (Some goal) may = ap (list_all p) may.no_disks
    disks_for None may = absurd may

    disks_by : (kind : TaskKind) → OpensBy k o kind → list_all p o.disks ≡ true
    disks_by kinds.CleanUp (may, are) =
        ap (list_all p) are
        ∙ all_among eqb (λ d. eq-eqb d d refl) p k.orphans (λ d there. own d (none_on o.goal may) there)
    disks_by (kinds.DeleteDisk d) (may, are, there) =
        ap (list_all p) are ∙ (λ i. own d (none_on o.goal may) there i && true)
    disks_by kind may = disks_for o.goal may

    -- what holds of each orphaned disk, where it is of no deployment, holds of those that are deleted
    pub deleting_own : MayOpen k o → list_all p o.disks ≡ true
    deleting_own may = disks_by o.kind may

-- ---- whose call is open

module _ (told : Told) (o : TaskOpen) (may : MayOpen told.known o) (well : TellsWell told) (own : TellsOwn told) where
  -- no owner has an open call of whose deployment the task that opens is
  idle : (owner : Owner) → ((n : ℕ) (b : Begin) → told.calls n ≡ Some b → owner ≡ b.owner
      → (told.known.task b.task).dep ≡ o.dep) → is_idle told owner ≡ true
  idle owner same = all_true (λ n. not (holds (λ (b : Begin). same_owner owner b.owner) (told.calls n)))
      (λ n. by n (told.calls n) refl) (numbers_to told.known.last_call)
    where
      of : (n : ℕ) (b : Begin) → told.calls n ≡ Some b → (c : Bool) → same_owner owner b.owner ≡ c → not c ≡ true
      of n b is true one = absurd (no_other told.known o b.task may (well.going n b is)
          (same n b is (same_owner_is owner b.owner one)))
      of n b is false other = refl

      by : (n : ℕ) (call : Option Begin) → told.calls n ≡ call
          → not (holds (λ (b : Begin). same_owner owner b.owner) call) ≡ true
      by n (Some b) is = of n b is (same_owner owner b.owner) refl
      by n None is = refl

  abbrev OwnOf : ℕ → Owner → Type 0
  OwnOf t owner = IsOwn told.known (told.known.task t).dep owner

  pub instance_idle : (i : Inst) → o.dep ≡ Some i.dep → idle_in told i ≡ true
  instance_idle i dep = idle (Instance i) same
    where
      same : (n : ℕ) (b : Begin) → told.calls n ≡ Some b → Instance i ≡ b.owner → (told.known.task b.task).dep ≡ o.dep
      same n b is one =
          let e : OwnOf b.task (Instance i) = subst (OwnOf b.task) (sym one) (own.calls n b is) in e ∙ sym dep

  pub disk_idle : (d : ℕ) → o.dep ≡ None → is_idle told (Disk d) ≡ true
  disk_idle d dep = idle (Disk d) same
    where
      same : (n : ℕ) (b : Begin) → told.calls n ≡ Some b → Disk d ≡ b.owner → (told.known.task b.task).dep ≡ o.dep
      same n b is one =
          let e : OwnOf b.task (Disk d) = subst (OwnOf b.task) (sym one) (own.calls n b is) in e ∙ sym dep

  pub machine_idle : (t s : ℕ) (row : Slot) → told.known.slot t s ≡ Some row → o.dep ≡ Some row.dep
      → is_idle told (Compile t s) ≡ true
  machine_idle t s row there dep = idle (Compile t s) same
    where
      of : (u : ℕ) → OwnOf u (Compile t s) → (told.known.task u).dep ≡ o.dep
      of u (it, is, of_it) = of_it ∙ ap (λ (it : Slot). Some it.dep) one ∙ sym dep
        where
          one : it ≡ row
          one = let e : Some it ≡ Some row = sym is ∙ there in cc

      same : (n : ℕ) (b : Begin) → told.calls n ≡ Some b → Compile t s ≡ b.owner
          → (told.known.task b.task).dep ≡ o.dep
      same n b is one = of b.task (subst (OwnOf b.task) (sym one) (own.calls n b is))
