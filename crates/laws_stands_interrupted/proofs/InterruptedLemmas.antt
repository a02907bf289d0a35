-- What is recorded stands once the calls of a task are open no more, with the marks of its own work set anew.
use Rattle.std.proofs.Common.{◌≡◌, ◌∙◌, ℕ, Bool, true, false, ◌==◌, List, Option, Some, None}
use Rattle.std.proofs.Common.{ap, refl, subst, sym}
use Rattle.std.specs.Prelude.{eqb, option_map, if◌then◌else◌}
use Rattle.std.specs.List.{list_any}
use Rattle.std.specs.Option.{option_and_then}
use Rattle.std.specs.Ordering.{nat_cmp}
use Rattle.std.proofs.lemmas.Bool.{eq-eqb, eqb-true}
use Rattle.bosh_base.specs.Cloud.{numbers_to}
use Rattle.bosh_base.specs.declared.entry.Begin.{Begin}
use Rattle.bosh_base.specs.declared.goal.Goal.{Goal}
use Rattle.bosh_base.specs.declared.key.Key.{Key}
use Rattle.bosh_base.specs.declared.owner.Owner.{Owner}
use Rattle.bosh_base.specs.declared.owner.Owner.TheVariants as owners
use Rattle.bosh_base.specs.declared.snapshot.DepRow.{DepRow}
use Rattle.bosh_base.specs.declared.task.TaskEnd.{TaskEnd}
use Rattle.bosh_base.specs.declared.task.TaskRow.{TaskRow}
use Rattle.bosh_fold.specs.Tasks.{cleared, closed_task, forgotten_in}
use Rattle.bosh_history.specs.Known.{Known}
use Rattle.bosh_history.specs.Steps.{compiles}
use Rattle.bosh_history.specs.Words.{holds}
use Rattle.bosh_records.specs.Changes.{with_end}
use Rattle.bosh_records.specs.Readers.{deployment_in}
use Rattle.bosh_records.specs.Recorded.{Recorded}
use Rattle.bosh_records.specs.Table.{changed, thing_in, things, without}
use Rattle.bosh_records.specs.declared.machines.Machine.{Machine}
use Rattle.bosh_records.specs.declared.orphans.LooseDisk.{LooseDisk}
use Rattle.bosh_records.specs.declared.records.Since.{Since}
use Rattle.bosh_work.specs.declared.work.Work.{Work}
use Rattle.laws_stands.proofs.OrderLemmas.{once_of}
use Rattle.laws_stands.specs.Linked.{IsLinked, want_place}
use Rattle.laws_stands.specs.Reading.{machine_of, orphan_of, work_of}
use Rattle.laws_stands.specs.Stands as stand
use Rattle.laws_stands.specs.Stands.{IsWork, StandsIn, StandsInOrder}
use Rattle.laws_stands.specs.Told.{TellsWell, Told, of_others}
use Rattle.laws_stands_closed.proofs.ClosedLemmas.{closed_stands}
use Rattle.laws_stands_closed.specs.Closed.{AllowsClose, told_ended}
use Rattle.laws_stands_done.proofs.ClosedFitsLemmas.{AreListed, are_listed}
use Rattle.laws_stands_done.proofs.PlacesLemmas.{SamePlaces, same_listed}
use Rattle.laws_stands_fits.specs.Own.{TellsOwn}
use Rattle.laws_stands_interrupted.proofs.FitsLemmas.{forgotten_same, parts_are, was_disk, was_machine}
use Rattle.laws_stands_interrupted.proofs.FoldedLemmas.{begins, came_is, deployments_are, digest_same, folded}
use Rattle.laws_stands_interrupted.proofs.FoldedLemmas.{instance_call, instance_read, is_for, is_of, key_call}
use Rattle.laws_stands_interrupted.proofs.FoldedLemmas.{machine_call, machine_read, orphan_call, orphan_read, tasks_are}
use Rattle.laws_stands_interrupted.proofs.FoldedLemmas.{works_are}
use Rattle.laws_stands_interrupted.proofs.ForgottenLemmas.{IsOneOf, none_is_open, one_is_open, others_stay}
use Rattle.laws_stands_interrupted.proofs.IdleLemmas.{IsAlone, other_listed}
use Rattle.laws_stands_interrupted.proofs.OrderedLemmas.{forgotten_ordered}
use Rattle.laws_stands_interrupted.proofs.OwnerLemmas.{never_found, none_found, only_one, same_any, same_found}
use Rattle.laws_stands_interrupted.proofs.RemarkLemmas.{gone_same, marked, marked_work}
use Rattle.laws_stands_interrupted.specs.Interrupts.{told_without}
use Rattle.laws_stands_on.proofs.ChangedLemmas.{eqb_flip, thing_at_key}
use Rattle.laws_stands_on.proofs.LinkLemmas.{ListsSame, changed_work}
use Rattle.laws_stands_on.proofs.ListedLemmas.{listed_goes_on}

module _ (t : ℕ) (told : Told) (it : Recorded) (own : TellsOwn told) (apart : IsAlone told t) (stands : StandsIn told it)
  where
    abbrev k : Known
    k = told.known

    -- what is told once no call of the task is open
    abbrev new : Told
    new = told_without t told

    -- what is recorded then
    abbrev left : Recorded
    left = forgotten_in t it

    -- .. with the marks of the work of the task set anew
    abbrev remarked : Recorded
    remarked = record left { works = changed nat_cmp t (marked t told) left.works }

    -- ---- the calls of owners

    told_call : (n : ℕ) (b : Begin) → thing_in nat_cmp it.calls n ≡ Some b → told.calls n ≡ Some b
    told_call n b is = sym (stands.calls n) ∙ is

    -- none of the task is of the owner
    none_passes : (p : Begin → Bool) → list_any p (begins t it) ≡ false → (n : ℕ) (b : Begin) → told.calls n ≡ Some b
        → (b.task == t) ≡ true → p b ≡ false
    none_passes p none n b is = none_is_open t p it.calls none n b (stands.calls n ∙ is)

    call_now : (owner : Owner)
        → (if list_any (is_of owner) (begins t it) then None else stand.call_of told owner) ≡ stand.call_of new owner
    call_now owner = by (list_any (is_of owner) (begins t it)) refl
      where
        none : IsOneOf t it.calls (is_of owner) → stand.call_of new owner ≡ None
        none one = none_found t told (is_of owner)
            (only_one t told stands.tells_well owner one.number one.begin (told_call one.number one.begin one.there) one.own
            one.passes)

        by : (b : Bool) → list_any (is_of owner) (begins t it) ≡ b
            → (if b then None else stand.call_of told owner) ≡ stand.call_of new owner
        by true is = sym (none (one_is_open t (is_of owner) it.calls (once_of stands.ordered).calls is))
        by false is = sym (same_found t told (is_of owner) (none_passes (is_of owner) is))

    -- an open call compiles the key
    abbrev compiling_in : Told → Key → Bool
    compiling_in all key = list_any (λ n. holds (λ b. compiles key b.call) (all.calls n)) (numbers_to k.last_call)

    compiling_now : (key : Key)
        → (if list_any (is_for key) (begins t it) then false else compiling_in told key) ≡ compiling_in new key
    compiling_now key = by (list_any (is_for key) (begins t it)) refl
      where
        only : (one : IsOneOf t it.calls (is_for key)) (n : ℕ) (b : Begin) → told.calls n ≡ Some b → is_for key b ≡ true
            → (b.task == t) ≡ true
        only one n b is passes =
            let there : told.calls one.number ≡ Some one.begin = told_call one.number one.begin one.there in
            let same : n ≡ one.number = stands.tells_well.one_key n one.number b one.begin key is there passes one.passes in
            let both : Some b ≡ Some one.begin = sym is ∙ ap told.calls same ∙ there in
            let begin : b ≡ one.begin = cc in
            ap (λ (b : Begin). b.task == t) begin ∙ one.own

        none : IsOneOf t it.calls (is_for key) → compiling_in new key ≡ false
        none one = never_found t told (is_for key) (only one)

        by : (b : Bool) → list_any (is_for key) (begins t it) ≡ b
            → (if b then false else compiling_in told key) ≡ compiling_in new key
        by true is = sym (none (one_is_open t (is_for key) it.calls (once_of stands.ordered).calls is))
        by false is = sym (same_any t told (is_for key) (none_passes (is_for key) is))

    -- a call that is told was told, and is another task's
    pub record WasCall (n : ℕ) (b : Begin) : Type 0 where
      pub is : told.calls n ≡ Some b
      pub other : eqb t b.task ≡ false

    was_call : (n : ℕ) (b : Begin) → new.calls n ≡ Some b → WasCall n b
    was_call n b is = by (told.calls n) refl is
      where
        of : (c : Begin) → told.calls n ≡ Some c → (d : Bool) → (c.task == t) ≡ d
            → (if d then None else Some c) ≡ Some b → WasCall n b
        of c there true own is = absurd cc
        of c there false away is =
            let same : c ≡ b = cc in
            record { is = there ∙ ap Some same; other = eqb_flip t b.task ∙ ap (λ (b : Begin). b.task == t) (sym same) ∙ away }

        by : (o : Option Begin) → told.calls n ≡ o → of_others t o ≡ Some b → WasCall n b
        by None there is = absurd cc
        by (Some c) there is = of c there (c.task == t) refl is

    -- ---- works

    work_left : (x : ℕ) → work_of left x ≡ work_of it x
    work_left x = ap (λ (works : List (ℕ × Option Work)). thing_in nat_cmp works x) (works_are t it)

    work_is : (x : ℕ) → work_of remarked x
        ≡ (if eqb t x then option_map (marked t told) (work_of it x) else work_of it x)
    work_is x = thing_at_key t (marked t told) left.works x
        ∙ (λ j. if eqb t x then option_map (marked t told) (work_left x j) else work_left x j)

    own_work : (o : Option Work) → IsWork told t o → IsWork new t (option_map (marked t told) o)
    own_work (Some work) (going, later, (swept, work_stands, are)) =
        (going, later, (swept, marked_work t told swept work work_stands, are))
    own_work None gone = gone

    other_work : (x : ℕ) → eqb t x ≡ false → (o : Option Work) → IsWork told x o → IsWork new x o
    other_work x other (Some work) (going, later, (swept, work_stands, are)) = (
      going,
      later,
      (
        swept,
        listed_goes_on told new (k.task x) x swept work (other_listed t told own apart x other going swept are) work_stands,
        are,
      ),
    )
    other_work x other None gone = gone

    works : (x : ℕ) → IsWork new x (work_of remarked x)
    works x = subst (IsWork new x) (sym (work_is x)) (by (eqb t x) refl)
      where
        by : (b : Bool) → eqb t x ≡ b
            → IsWork new x (if b then option_map (marked t told) (work_of it x) else work_of it x)
        by true is = subst (λ n. IsWork new n (option_map (marked t told) (work_of it n))) (eqb-true t x is)
            (own_work (work_of it t) (stands.works t))
        by false other = other_work x other (work_of it x) (stands.works x)

    -- ---- places

    lists_same : (w : Work) → ListsSame (marked t told w) w
    lists_same w = record { pings = refl; obsolete = refl; changed = refl; sweep = refl; disks = refl }

    stay : (x : ℕ) (w : Work) → work_of it x ≡ Some w → (later : Work) × (work_of remarked x ≡ Some later)
    stay x w is = by (eqb t x) (work_is x)
      where
        by : (b : Bool) → work_of remarked x ≡ (if b then option_map (marked t told) (work_of it x) else work_of it x)
            → (later : Work) × (work_of remarked x ≡ Some later)
        by true now = (marked t told w, now ∙ ap (option_map (marked t told)) is)
        by false now = (w, now ∙ is)

    same : SamePlaces it remarked
    same = record {
      works = changed_work it remarked t (marked t told) lists_same work_is;
      stay = stay;
      deps = (forgotten_same t it).deps;
      parts = parts_are t it;
      machines = was_machine t it;
      orphans = was_disk t it;
      since = (forgotten_same t it).since;
    }

    listed : AreListed remarked
    listed = same_listed it remarked same (are_listed it stands.linked)

    linked : IsLinked remarked
    linked = record {
      wants = λ i. instance_read t it (λ known. known.want) (λ known. refl) i ∙ stands.linked.wants i
          ∙ ap (λ (rows : List (Since × Option DepRow)).
          option_and_then (λ (goal : Goal). want_place goal.rows i)
          (option_map (λ (row : DepRow). row.goal) (deployment_in rows i.dep))) (sym (deployments_are t it));
      pings = listed.pings;
      leaving = listed.leaving;
      changes = listed.changes;
      sweeps = listed.sweeps;
      deletions = listed.deletions;
    }

    -- ---- all

    mapped : {X Y : Type 0} (f : X → Y) (o : Option X) → option_map f o ≡ option_and_then (λ x. Some (f x)) o
    mapped f (Some x) = refl
    mapped f None = refl

    tells_well : TellsWell new
    tells_well = record {
      number = λ n b is. well.number n b (was_call n b is).is;
      low = λ n b is. well.low n b (was_call n b is).is;
      past = λ n b is. well.past n b (was_call n b is).is;
      begun = λ n b is. well.begun n b (was_call n b is).is;
      begun_past = well.begun_past;
      failed = well.failed;
      going = λ n b is. well.going n b (was_call n b is).is;
      one_owner = λ c d b e is too. well.one_owner c d b e (was_call c b is).is (was_call d e too).is;
      one_key = λ c d b e key is too. well.one_key c d b e key (was_call c b is).is (was_call d e too).is;
      recorded = λ n b i is. well.recorded n b i (was_call n b is).is;
      counted = well.counted;
      disks_apart = well.disks_apart;
      updates = well.updates;
    }
      where
        well : TellsWell told
        well = stands.tells_well

    remarked_stands : StandsIn new remarked
    remarked_stands = record {
      uploads = came_is t it ∙ stands.uploads;
      deployments = ap things (deployments_are t it) ∙ stands.deployments;
      rows = λ i. instance_read t it (λ known. known.row) (λ known. refl) i ∙ stands.rows i;
      row_calls = λ i. instance_call t it i
          ∙ (λ j. if list_any (is_of (owners.Instance i)) (begins t it) then None else stands.row_calls i j)
          ∙ call_now (owners.Instance i);
      machines = λ name. mapped (λ (machine : Machine). machine.row) (machine_of (folded t it) name)
          ∙ machine_read t it (λ machine. Some machine.row) (λ machine. refl) name
          ∙ sym (mapped (λ (machine : Machine). machine.row) (machine_of it name)) ∙ stands.machines name;
      machine_keys = λ name later. machine_read t it (λ machine. machine.key) (λ machine. refl) name
          ∙ stands.machine_keys name later;
      machine_calls = λ name. machine_call t it name
          ∙ (λ j. if list_any (is_of (owners.Compile name.task name.slot)) (begins t it) then None
          else stands.machine_calls name j)
          ∙ call_now (owners.Compile name.task name.slot);
      orphans = λ d. mapped (λ (loose : LooseDisk). loose.orphan) (orphan_of (folded t it) d)
          ∙ orphan_read t it (λ loose. Some loose.orphan) (λ loose. refl) d
          ∙ sym (mapped (λ (loose : LooseDisk). loose.orphan) (orphan_of it d)) ∙ stands.orphans d;
      orphan_calls = λ d. orphan_call t it d
          ∙ (λ j. if list_any (is_of (owners.Disk d)) (begins t it) then None else stands.orphan_calls d j)
          ∙ call_now (owners.Disk d);
      digests = λ key. digest_same t it key ∙ stands.digests key;
      compiling = λ key. key_call t it key
          ∙ (λ j. if list_any (is_for key) (begins t it) then false else stands.compiling key j)
          ∙ compiling_now key;
      tasks = λ x. ap (λ (tasks : List (ℕ × Option TaskRow)). thing_in nat_cmp tasks x) (tasks_are t it) ∙ stands.tasks x;
      calls = λ n. others_stay t it.calls (once_of stands.ordered).calls n ∙ ap (of_others t) (stands.calls n);
      works = works;
      linked = linked;
      ordered = forgotten_ordered t it (marked t told) stands.ordered;
      tells_well = tells_well;
    }

    -- ---- the end of the task

    -- the marks make no difference then
    closed_same : (end : TaskEnd) → closed_task t end remarked ≡ closed_task t end left
    closed_same end =
        (λ j. record (cleared (there j) remarked) {
          tasks = changed nat_cmp t (with_end end) left.tasks;
          works = gone_same nat_cmp t (option_map (marked t told)) left.works j;
        })
        ∙ by (work_of left t)
      where
        there : work_of remarked t ≡ option_map (marked t told) (work_of left t)
        there = thing_at_key t (marked t told) left.works t
            ∙ (λ j. if eq-eqb t t refl j then option_map (marked t told) (work_of left t) else work_of left t)

        by : (o : Option Work)
            → record (cleared (option_map (marked t told) o) remarked) {
              tasks = changed nat_cmp t (with_end end) left.tasks;
              works = without nat_cmp t left.works;
            }
            ≡ record (cleared o left) {
              tasks = changed nat_cmp t (with_end end) left.tasks;
              works = without nat_cmp t left.works;
            }
        by (Some work) = refl
        by None = refl

    allows : AllowsClose new t
    allows = record {
      none_open = λ n b is. (was_call n b is).other;
      alone = apart.alone;
      asked = (own.lists t apart.going).asked;
      leaving = (own.lists t apart.going).leaving;
      changing = (own.lists t apart.going).changing;
      deleting = (own.lists t apart.going).deleting;
    }

    pub interrupted_stands : (end : TaskEnd) → StandsInOrder (told_ended t end new) (closed_task t end (forgotten_in t it))
    interrupted_stands end =
        subst (StandsInOrder (told_ended t end new)) (closed_same end)
        (closed_stands t end new remarked allows remarked_stands)
