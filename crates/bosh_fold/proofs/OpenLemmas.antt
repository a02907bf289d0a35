-- A call that began is open by the records, and what is told of tasks and orphaned disks beside calls stays.
use Rattle.std.proofs.Common.{◌≡◌, ◌∙◌, ℕ, Bool, true, false, List, [], ◌∷◌, Option, Some, None, refl, sym, ap, subst, arith}
use Rattle.std.specs.Prelude.{cond, is_some, if◌then◌else◌}
use Rattle.std.specs.BTreeMap.{insert_entry, is_at}
use Rattle.std.specs.Map.{set_value}
use Rattle.std.specs.Option.{option_and_then, option_map, option_map_or}
use Rattle.std.specs.Ordering.{is_eq, match_ordering, nat_cmp}
use Rattle.std.specs.declared.cmp.Ordering.{Ordering}
use Rattle.std.specs.declared.cmp.Ordering.TheVariants.{Equal, Greater, Less}
use Rattle.bosh_base.specs.declared.call.Call.{Call}
use Rattle.bosh_base.specs.declared.call.Call.TheVariants as calls
use Rattle.bosh_base.specs.declared.entry.Begin.{Begin}
use Rattle.bosh_base.specs.declared.entry.Entry.TheVariants as entries
use Rattle.bosh_base.specs.declared.owner.Owner.{Owner}
use Rattle.bosh_base.specs.declared.owner.Owner.TheVariants as owners
use Rattle.bosh_base.specs.declared.row.Doubt.{Doubt}
use Rattle.bosh_base.specs.declared.task.TaskRow.{TaskRow}
use Rattle.bosh_plan.specs.Roomy.{roomy_for_owner}
use Rattle.bosh_plan.specs.declared.beginning.Subject.{Subject}
use Rattle.bosh_plan.specs.declared.beginning.Subject.TheVariants as subjects
use Rattle.bosh_records.specs.Changes.{with_disk_call, with_disk_doubt, with_one_call}
use Rattle.bosh_records.specs.Readers.{call_at, orphan_at, task_at}
use Rattle.bosh_records.specs.Recorded.{Recorded, recorded}
use Rattle.bosh_records.specs.Table.{changed, found, put_at, thing_in, with_room}
use Rattle.bosh_records.specs.declared.orphans.LooseDisk.{LooseDisk}
use Rattle.bosh_records.specs.declared.records.Records.{Records}
use Rattle.bosh_fold.specs.Calls.{with_call, with_compiling, with_subject}
use Rattle.bosh_fold.specs.Learned.{learned}
use Rattle.bosh_fold.specs.Learns.{Learns}
use Rattle.bosh_fold.specs.Planned.{IsPlanned}
use Rattle.bosh_fold.specs.declared.change.Change.{Change}
use Rattle.bosh_fold.specs.declared.change.Change.TheVariants as changes

-- ---- a table

module _ {K X : Type 0} (cmp : K → K → Ordering) (key : K) where
  -- room for a key is there
  inserted_there : (same : cmp key key ≡ Equal) (first : X) (entries : List (K × X))
      → is_some (found cmp entries key) ≡ false → is_some (found cmp (insert_entry cmp entries key first) key) ≡ true
  inserted_there same first [] absent = λ i. is_some (cond (is_eq (same i)) (Some first) None)
  inserted_there same first (e ∷ entries) absent = by (cmp key e.0) refl (inserted_there same first entries)
    where
      told : (o : Ordering) → cmp key e.0 ≡ o → is_some (cond (is_eq o) (Some e.1) (found cmp entries key)) ≡ false
      told o is = subst (λ p. is_some (cond (is_eq p) (Some e.1) (found cmp entries key)) ≡ false) is absent

      placed : Ordering → List (K × X)
      placed o = match_ordering o ((key, first) ∷ e ∷ entries) ((e.0, first) ∷ entries) (e ∷ insert_entry cmp entries key first)

      by : (o : Ordering) → cmp key e.0 ≡ o
          → (is_some (found cmp entries key) ≡ false → is_some (found cmp (insert_entry cmp entries key first) key) ≡ true)
          → is_some (found cmp (insert_entry cmp (e ∷ entries) key first) key) ≡ true
      by Less is later = (λ i. is_some (found cmp (placed (is i)) key))
          ∙ (λ i. is_some (cond (is_eq (same i)) (Some first) (found cmp (e ∷ entries) key)))
      by Equal is later = absurd (grind (arith, told Equal is))
      by Greater is later = (λ i. is_some (found cmp (placed (is i)) key))
          ∙ (λ i. is_some (cond (is_eq (is i)) (Some e.1) (found cmp (insert_entry cmp entries key first) key)))
          ∙ later (told Greater is)

  room_there : (same : cmp key key ≡ Equal) (first : X) (entries : List (K × X))
      → is_some (found cmp (with_room cmp key first entries) key) ≡ true
  room_there same first entries = by (is_some (found cmp entries key)) refl
    where
      by : (b : Bool) → is_some (found cmp entries key) ≡ b → is_some (found cmp (with_room cmp key first entries) key) ≡ true
      by true is = (λ i. is_some (found cmp (if is i then entries else insert_entry cmp entries key first) key)) ∙ is
      by false is = (λ i. is_some (found cmp (if is i then entries else insert_entry cmp entries key first) key))
          ∙ inserted_there same first entries is

  -- what is set at a key that is there is found
  set_there : (x : X) (entries : List (K × X)) → is_some (found cmp entries key) ≡ true
      → found cmp (set_value (is_at (cmp key)) entries x) key ≡ Some x
  set_there x [] there = absurd (grind (arith, there))
  set_there x (e ∷ entries) there = by (is_at (cmp key) e.0) refl (set_there x entries)
    where
      by : (b : Bool) → is_at (cmp key) e.0 ≡ b
          → (is_some (found cmp entries key) ≡ true → found cmp (set_value (is_at (cmp key)) entries x) key ≡ Some x)
          → found cmp (set_value (is_at (cmp key)) (e ∷ entries) x) key ≡ Some x
      by true is later =
          (λ i. found cmp (cond (is i) ((e.0, x) ∷ entries) (e ∷ set_value (is_at (cmp key)) entries x)) key)
          ∙ (λ i. cond (is i) (Some x) (found cmp entries key))
      by false is later =
          (λ i. found cmp (cond (is i) ((e.0, x) ∷ entries) (e ∷ set_value (is_at (cmp key)) entries x)) key)
          ∙ (λ i. cond (is i) (Some e.1) (found cmp (set_value (is_at (cmp key)) entries x) key))
          ∙ later ((λ i. is_some (cond (sym is i) (Some e.1) (found cmp entries key))) ∙ there)

nat_same : (n : ℕ) → nat_cmp n n ≡ Equal
nat_same n = grind (arith)

-- a thing that is put in its place is there
thing_put : {V : Type 0} (n : ℕ) (v : V) (places : List (ℕ × Option V)) → is_some (found nat_cmp places n) ≡ true
    → thing_in nat_cmp (put_at nat_cmp n v places) n ≡ Some v
thing_put {V} n v places there = by (found nat_cmp places n) refl
  where
    by : (o : Option (Option V)) → found nat_cmp places n ≡ o
        → thing_in nat_cmp (put_at nat_cmp n v places) n ≡ Some v
    by (Some it) is =
        (λ i. thing_in nat_cmp (option_map_or (λ (w : Option V). set_value (is_at (nat_cmp n)) places (Some v)) (is i) places) n)
        ∙ ap (option_and_then (λ (place : Option V). place)) (set_there nat_cmp n (Some v) places there)
    by None is = absurd (grind (arith, there, is))

-- what is read of a thing stays where a change keeps it
pub read_stays : {V W : Type 0} (read : Option V → W) (change : V → V) → ((v : V) → read (Some (change v)) ≡ read (Some v))
    → (key : ℕ) (places : List (ℕ × Option V)) (k : ℕ)
    → read (thing_in nat_cmp (changed nat_cmp key change places) k) ≡ read (thing_in nat_cmp places k)
read_stays {V} {W} read change same key places k = by (found nat_cmp places key) refl
  where
    kept : (o : Option V) → read (option_map change o) ≡ read o
    kept (Some v) = same v
    kept None = refl

    set : (x : Option V) (es : List (ℕ × Option V)) → found nat_cmp es key ≡ Some x
        → read (thing_in nat_cmp (set_value (is_at (nat_cmp key)) es (option_map change x)) k) ≡ read (thing_in nat_cmp es k)
    set x [] is = refl
    set x (e ∷ es) is = first (is_at (nat_cmp key) e.0) refl (set x es)
      where
        after : Bool → List (ℕ × Option V)
        after b = cond b ((e.0, option_map change x) ∷ es) (e ∷ set_value (is_at (nat_cmp key)) es (option_map change x))

        here : (c : Bool) → e.1 ≡ x
            → read (option_and_then (λ (place : Option V). place) (cond c (Some (option_map change x)) (found nat_cmp es k)))
            ≡ read (option_and_then (λ (place : Option V). place) (cond c (Some e.1) (found nat_cmp es k)))
        here true it = kept x ∙ ap read (sym it)
        here false it = refl

        there : (c : Bool)
            → read (thing_in nat_cmp (set_value (is_at (nat_cmp key)) es (option_map change x)) k) ≡ read (thing_in nat_cmp es k)
            → read (option_and_then (λ (place : Option V). place)
            (cond c (Some e.1) (found nat_cmp (set_value (is_at (nat_cmp key)) es (option_map change x)) k)))
            ≡ read (option_and_then (λ (place : Option V). place) (cond c (Some e.1) (found nat_cmp es k)))
        there true more = refl
        there false more = more

        value : Option (Option V) → Option V
        value (Some it) = it
        value None = x

        first : (b : Bool) → is_at (nat_cmp key) e.0 ≡ b
            → (found nat_cmp es key ≡ Some x
            → read (thing_in nat_cmp (set_value (is_at (nat_cmp key)) es (option_map change x)) k) ≡ read (thing_in nat_cmp es k))
            → read (thing_in nat_cmp (set_value (is_at (nat_cmp key)) (e ∷ es) (option_map change x)) k)
            ≡ read (thing_in nat_cmp (e ∷ es) k)
        first true at later = (λ i. read (thing_in nat_cmp (after (at i)) k))
            ∙ here (is_at (nat_cmp k) e.0)
            (ap value ((λ i. cond (sym at i) (Some e.1) (found nat_cmp es key)) ∙ is))
        first false at later = (λ i. read (thing_in nat_cmp (after (at i)) k))
            ∙ there (is_at (nat_cmp k) e.0) (later ((λ i. cond (sym at i) (Some e.1) (found nat_cmp es key)) ∙ is))

    by : (o : Option (Option V)) → found nat_cmp places key ≡ o
        → read (thing_in nat_cmp (changed nat_cmp key change places) k) ≡ read (thing_in nat_cmp places k)
    by (Some x) is =
        (λ i. read (thing_in nat_cmp
        (option_map_or (λ it. set_value (is_at (nat_cmp key)) places (option_map change it)) (is i) places) k))
        ∙ set x places is
    by None is =
        λ i. read (thing_in nat_cmp
        (option_map_or (λ it. set_value (is_at (nat_cmp key)) places (option_map change it)) (is i) places) k)

-- ---- a call that begins

-- the calls and the tasks are touched by what is said of its owner in no way
calls_by_owner : (owner : Owner) (call : Call) (it : Recorded) → (roomy_for_owner owner call it).calls ≡ it.calls
calls_by_owner (owners.Instance inst) call it = refl
calls_by_owner (owners.Compile task slot) (calls.CreateVm make disks) it = refl
calls_by_owner (owners.Compile task slot) (calls.CompilePackage vm work deps) it = refl
calls_by_owner (owners.Compile task slot) call it = refl
calls_by_owner (owners.Disk disk) call it = refl

tasks_by_owner : (owner : Owner) (call : Call) (it : Recorded) → (roomy_for_owner owner call it).tasks ≡ it.tasks
tasks_by_owner (owners.Instance inst) call it = refl
tasks_by_owner (owners.Compile task slot) (calls.CreateVm make disks) it = refl
tasks_by_owner (owners.Compile task slot) (calls.CompilePackage vm work deps) it = refl
tasks_by_owner (owners.Compile task slot) call it = refl
tasks_by_owner (owners.Disk disk) call it = refl

orphans_by_owner : (owner : Owner) (call : Call) (it : Recorded) → (roomy_for_owner owner call it).orphans ≡ it.orphans
orphans_by_owner (owners.Instance inst) call it = refl
orphans_by_owner (owners.Compile task slot) (calls.CreateVm make disks) it = refl
orphans_by_owner (owners.Compile task slot) (calls.CompilePackage vm work deps) it = refl
orphans_by_owner (owners.Compile task slot) call it = refl
orphans_by_owner (owners.Disk disk) call it = refl

-- what stays of two tables while a call opens
pub record Beside (was now : Recorded) : Type 0 where
  pub calls : now.calls ≡ was.calls
  pub tasks : now.tasks ≡ was.tasks
  pub loose : (d : ℕ) (read : Option LooseDisk → Option (List ℕ))
      → ((call : Option ℕ) (loose : LooseDisk) → read (Some (with_disk_call call loose)) ≡ read (Some loose))
      → ((doubt : Doubt) (loose : LooseDisk) → read (Some (with_disk_doubt (Some doubt) loose)) ≡ read (Some loose))
      → read (thing_in nat_cmp now.orphans d) ≡ read (thing_in nat_cmp was.orphans d)

beside_same : (it : Recorded) → Beside it it
beside_same it = record { calls = refl; tasks = refl; loose = λ d read call doubt. refl }

beside_on : (was mid now : Recorded) → Beside was mid → Beside mid now → Beside was now
beside_on was mid now one other = record {
  calls = other.calls ∙ one.calls;
  tasks = other.tasks ∙ one.tasks;
  loose = λ d read call doubt. other.loose d read call doubt ∙ one.loose d read call doubt;
}

beside_subject : (owner : Owner) (subject : Subject) (it : Recorded) → Beside it (with_subject owner subject it)
beside_subject owner (subjects.Instance row) it = record { calls = refl; tasks = refl; loose = λ d read call doubt. refl }
beside_subject owner (subjects.Machine machine) it = record { calls = refl; tasks = refl; loose = λ d read call doubt. refl }
beside_subject (owners.Instance inst) (subjects.Doubt it) all = beside_same all
beside_subject (owners.Compile task slot) (subjects.Doubt it) all =
    record { calls = refl; tasks = refl; loose = λ d read call doubt. refl }
beside_subject (owners.Disk disk) (subjects.Doubt it) all = record {
  calls = refl;
  tasks = refl;
  loose = λ d read call doubt. read_stays read (with_disk_doubt (Some it)) (doubt it) disk all.orphans d;
}
beside_subject owner subjects.Same it = beside_same it

beside_call : (owner : Owner) («open» : Option ℕ) (it : Recorded) → Beside it (with_call owner «open» it)
beside_call (owners.Instance inst) «open» it = record { calls = refl; tasks = refl; loose = λ d read call doubt. refl }
beside_call (owners.Compile task slot) «open» it =
    record { calls = refl; tasks = refl; loose = λ d read call doubt. refl }
beside_call (owners.Disk disk) «open» it = record {
  calls = refl;
  tasks = refl;
  loose = λ d read call doubt. read_stays read (with_disk_call «open») (call «open») disk it.orphans d;
}

beside_compiling : (call : Call) («open» : Option ℕ) (it : Recorded) → Beside it (with_compiling call «open» it)
beside_compiling (calls.CompilePackage vm work deps) «open» it =
    record { calls = refl; tasks = refl; loose = λ d read call doubt. refl }
beside_compiling call «open» it = beside_same it

-- up to the taking of the owner
module _ (begin : Begin) (subject : Subject) (it : Recorded) where
  abbrev said : Recorded
  said = with_subject begin.owner subject it

  abbrev called : Recorded
  called = with_call begin.owner (Some begin.n) said

  abbrev compiles : Recorded
  compiles = with_compiling begin.call (Some begin.n) called

  beside_all : Beside it compiles
  beside_all = beside_on it said compiles (beside_subject begin.owner subject it)
      (beside_on said called compiles (beside_call begin.owner (Some begin.n) said)
      (beside_compiling begin.call (Some begin.n) called))

-- ---- what is recorded then

-- what was planned for a beginning
module _ (was now : Records) (begin : Begin) where
  -- it is open
  pub begun_is_open : Learns was (entries.Begin begin) now → call_at now begin.n ≡ Some begin
  begun_is_open it = by it.change it.planned it.is_learned
    where
      by : (change : Change) → IsPlanned was it.roomy (entries.Begin begin) change
          → recorded now ≡ learned (entries.Begin begin) change (recorded it.roomy) → call_at now begin.n ≡ Some begin
      by (changes.Begun begun) planned is =
          let all : Recorded = recorded it.roomy in
          let room : all.calls ≡ with_room nat_cmp begin.n None (recorded was).calls =
          ap (λ one. one.calls) it.room ∙ calls_by_owner begin.owner begin.call _ in
          let there : is_some (found nat_cmp all.calls begin.n) ≡ true =
          (λ i. is_some (found nat_cmp (room i) begin.n)) ∙ room_there nat_cmp begin.n (nat_same begin.n) None (recorded was).calls in
          ap (λ one. thing_in nat_cmp one.calls begin.n) is
          ∙ (λ i. thing_in nat_cmp (put_at nat_cmp (planned.0 i).n (planned.0 i)
          ((beside_all begun.begin begun.subject all).calls i)) begin.n)
          ∙ thing_put begin.n begin all.calls there
      by change planned is = absurd planned

  -- no task is of another deployment
  pub tasks_stay : Learns was (entries.Begin begin) now → (t : ℕ)
      → option_and_then (λ (row : TaskRow). row.dep) (task_at now t) ≡ option_and_then (λ (row : TaskRow). row.dep) (task_at was t)
  tasks_stay it t = by it.change it.planned it.is_learned
    where
      dep_in : List (ℕ × Option TaskRow) → Option (List ℕ)
      dep_in places = option_and_then (λ (row : TaskRow). row.dep) (thing_in nat_cmp places t)

      by : (change : Change) → IsPlanned was it.roomy (entries.Begin begin) change
          → recorded now ≡ learned (entries.Begin begin) change (recorded it.roomy)
          → dep_in (recorded now).tasks ≡ dep_in (recorded was).tasks
      by (changes.Begun begun) planned is =
          let all : Recorded = recorded it.roomy in
          ap (λ one. dep_in one.tasks) is
          ∙ (λ i. dep_in (changed nat_cmp begun.begin.task with_one_call ((beside_all begun.begin begun.subject all).tasks i)))
          ∙ read_stays (option_and_then (λ (row : TaskRow). row.dep)) with_one_call (λ row. refl) begun.begin.task all.tasks t
          ∙ ap (λ one. dep_in one.tasks) it.room
          ∙ ap dep_in (tasks_by_owner begin.owner begin.call _)
      by change planned is = absurd planned

  -- no disk was another instance's
  pub orphans_stay : Learns was (entries.Begin begin) now → (d : ℕ)
      → option_map (λ (loose : LooseDisk). loose.orphan.inst.dep) (orphan_at now d)
      ≡ option_map (λ (loose : LooseDisk). loose.orphan.inst.dep) (orphan_at was d)
  orphans_stay it d = by it.change it.planned it.is_learned
    where
      read : Option LooseDisk → Option (List ℕ)
      read loose = option_map (λ (it : LooseDisk). it.orphan.inst.dep) loose

      by : (change : Change) → IsPlanned was it.roomy (entries.Begin begin) change
          → recorded now ≡ learned (entries.Begin begin) change (recorded it.roomy)
          → read (thing_in nat_cmp (recorded now).orphans d) ≡ read (thing_in nat_cmp (recorded was).orphans d)
      by (changes.Begun begun) planned is =
          let all : Recorded = recorded it.roomy in
          ap (λ one. read (thing_in nat_cmp one.orphans d)) is
          ∙ (beside_all begun.begin begun.subject all).loose d read (λ call loose. refl) (λ doubt loose. refl)
          ∙ ap (λ one. read (thing_in nat_cmp one.orphans d)) it.room
          ∙ ap (λ places. read (thing_in nat_cmp places d)) (orphans_by_owner begin.owner begin.call _)
      by change planned is = absurd planned
