-- The keys of each table stand in order still, once the calls of a task are open no more.
use Rattle.std.proofs.Common.{◌≡◌, ℕ, Bool, true, false, not, List, [], ◌∷◌, filter, None, subst, sym}
use Rattle.std.specs.Prelude.{fold, option_map, if◌then◌else◌}
use Rattle.std.specs.List.{AllByRecursion}
use Rattle.std.specs.List.Sorted.{IsStrictlySortedBy}
use Rattle.std.specs.Map.{keys_of}
use Rattle.std.specs.Ordering.{nat_cmp}
use Rattle.std.specs.declared.cmp.Ordering.{Ordering}
use Rattle.std.specs.declared.cmp.Ordering.TheVariants.{Less}
use Rattle.bosh_base.specs.Inst.{inst_cmp}
use Rattle.bosh_base.specs.declared.call.Call.{Call}
use Rattle.bosh_base.specs.declared.call.Call.TheVariants as calls
use Rattle.bosh_base.specs.declared.entry.Begin.{Begin}
use Rattle.bosh_base.specs.declared.owner.Owner.{Owner}
use Rattle.bosh_base.specs.declared.owner.Owner.TheVariants as owners
use Rattle.bosh_fold.specs.Calls.{closed_call, machine_name, with_call, with_compiling}
use Rattle.bosh_fold.specs.Tasks.{forgotten_call, forgotten_in, is_call_of}
use Rattle.bosh_records.specs.Changes.{since_cmp}
use Rattle.bosh_records.specs.Keys.{key_cmp}
use Rattle.bosh_records.specs.Ordered.{AreInOrder, AreOrdered}
use Rattle.bosh_records.specs.Readers.{machine_cmp}
use Rattle.bosh_records.specs.Recorded.{Recorded}
use Rattle.bosh_records.specs.Table.{changed}
use Rattle.bosh_work.specs.declared.work.Work.{Work}
use Rattle.laws_stands_done.proofs.OrderLemmas.{altered_in_order}
use Rattle.laws_stands_interrupted.proofs.FoldedLemmas.{begins, deployments_are, tasks_are, works_are}
use Rattle.laws_stands_interrupted.proofs.OneLemmas.{instances_left, keys_left, machines_left, no_call, no_compiler}
use Rattle.laws_stands_interrupted.proofs.OneLemmas.{no_disk_call, no_machine_call, orphans_left}

-- ---- what is kept of a table in order

kept_above : {K X : Type 0} (cmp : K → K → Ordering) (keep : K × X → Bool) (k : K) (es : List (K × X))
    → AllByRecursion (λ y. cmp k y ≡ Less) (keys_of es)
    → AllByRecursion (λ y. cmp k y ≡ Less) (keys_of (filter keep es))
kept_above cmp keep k [] above = above
kept_above cmp keep k (e ∷ es) (first, rest) = by (keep e) (kept_above cmp keep k es rest)
  where
    by : (b : Bool) → AllByRecursion (λ y. cmp k y ≡ Less) (keys_of (filter keep es))
        → AllByRecursion (λ y. cmp k y ≡ Less) (keys_of (if b then e ∷ filter keep es else filter keep es))
    by true more = (first, more)
    by false more = more

kept_in_order : {K X : Type 0} (cmp : K → K → Ordering) (keep : K × X → Bool) (es : List (K × X))
    → AreInOrder cmp es → AreInOrder cmp (filter keep es)
unfolding IsStrictlySortedBy
kept_in_order cmp keep [] order = order
kept_in_order cmp keep (e ∷ es) (above, order) = by (keep e) (kept_in_order cmp keep es order)
  where
    by : (b : Bool) → AreInOrder cmp (filter keep es)
        → AreInOrder cmp (if b then e ∷ filter keep es else filter keep es)
    by true more = (kept_above cmp keep e.0 es above, more)
    by false more = more

-- ---- one call after another

many_in_order : {K X : Type 0} (cmp : K → K → Ordering) (table : Recorded → List (K × X))
    → ((b : Begin) (it : Recorded) → AreInOrder cmp (table it) → AreInOrder cmp (table (closed_call b it)))
    → (begins : List Begin) (it : Recorded) → AreInOrder cmp (table it)
    → AreInOrder cmp (table (fold forgotten_call it begins))
many_in_order cmp table one [] it order = order
many_in_order cmp table one (b ∷ begins) it order =
    many_in_order cmp table one begins (closed_call b it) (one b it order)

instances_in_order : (b : Begin) (it : Recorded) → AreInOrder inst_cmp it.instances
    → AreInOrder inst_cmp (closed_call b it).instances
instances_in_order b it order =
    subst (AreInOrder inst_cmp) (sym (instances_left b.call (with_call b.owner None it))) (by b.owner)
  where
    by : (owner : Owner) → AreInOrder inst_cmp (with_call owner None it).instances
    by (owners.Instance i) = altered_in_order inst_cmp i no_call it.instances order
    by (owners.Compile t s) = order
    by (owners.Disk d) = order

machines_in_order : (b : Begin) (it : Recorded) → AreInOrder machine_cmp it.machines
    → AreInOrder machine_cmp (closed_call b it).machines
machines_in_order b it order =
    subst (AreInOrder machine_cmp) (sym (machines_left b.call (with_call b.owner None it))) (by b.owner)
  where
    by : (owner : Owner) → AreInOrder machine_cmp (with_call owner None it).machines
    by (owners.Instance i) = order
    by (owners.Compile t s) = altered_in_order machine_cmp (machine_name t s) no_machine_call it.machines order
    by (owners.Disk d) = order

orphans_in_order : (b : Begin) (it : Recorded) → AreInOrder nat_cmp it.orphans
    → AreInOrder nat_cmp (closed_call b it).orphans
orphans_in_order b it order =
    subst (AreInOrder nat_cmp) (sym (orphans_left b.call (with_call b.owner None it))) (by b.owner)
  where
    by : (owner : Owner) → AreInOrder nat_cmp (with_call owner None it).orphans
    by (owners.Instance i) = order
    by (owners.Compile t s) = order
    by (owners.Disk d) = altered_in_order nat_cmp d no_disk_call it.orphans order

keys_in_order : (b : Begin) (it : Recorded) → AreInOrder key_cmp it.keys → AreInOrder key_cmp (closed_call b it).keys
keys_in_order b it order = by b.call
  where
    before : AreInOrder key_cmp (with_call b.owner None it).keys
    before = subst (AreInOrder key_cmp) (sym (keys_left b.owner it)) order

    by : (call : Call) → AreInOrder key_cmp (with_compiling call None (with_call b.owner None it)).keys
    by (calls.CompilePackage vm work deps) =
        altered_in_order key_cmp work.key no_compiler (with_call b.owner None it).keys before
    by call = before

-- ---- all

pub forgotten_ordered : (t : ℕ) (it : Recorded) (change : Work → Work) → AreOrdered it
    → AreOrdered (record (forgotten_in t it) { works = changed nat_cmp t change (forgotten_in t it).works })
forgotten_ordered t it change ordered = record {
  deployments = subst (AreInOrder since_cmp) (sym (deployments_are t it)) ordered.deployments;
  instances = many_in_order inst_cmp (λ it. it.instances) instances_in_order (begins t it) it ordered.instances;
  machines = many_in_order machine_cmp (λ it. it.machines) machines_in_order (begins t it) it ordered.machines;
  orphans = many_in_order nat_cmp (λ it. it.orphans) orphans_in_order (begins t it) it ordered.orphans;
  keys = many_in_order key_cmp (λ it. it.keys) keys_in_order (begins t it) it ordered.keys;
  tasks = subst (AreInOrder nat_cmp) (sym (tasks_are t it)) ordered.tasks;
  works = altered_in_order nat_cmp t (option_map change) (forgotten_in t it).works
      (subst (AreInOrder nat_cmp) (sym (works_are t it)) ordered.works);
  calls = kept_in_order nat_cmp (λ place. not (is_call_of t place.1)) it.calls ordered.calls;
}
