-- What is recorded stands also with room for more: what says nothing is read as nothing.
use Rattle.std.proofs.Common.{◌≡◌, ◌∙◌, ℕ, Bool, true, false, not, List, [], ◌∷◌, filter, Option, Some}
use Rattle.std.proofs.Common.{None, ap, refl, sym, subst}
use Rattle.std.specs.Prelude.{cond, find, is_none, is_some, option_map, if◌then◌else◌}
use Rattle.std.specs.BTreeMap.{is_at}
use Rattle.std.specs.Option.{option_and_then, option_map_or}
use Rattle.std.specs.Ordering.{nat_cmp}
use Rattle.std.specs.Str.{bytes_eq}
use Rattle.std.specs.declared.cmp.Ordering.{Ordering}
use Rattle.std.proofs.lemmas.Bool.{and_parts, false≢true, true≢false}
use Rattle.bosh_base.specs.Inst.{inst_cmp}
use Rattle.bosh_base.specs.declared.inst.Inst.{Inst}
use Rattle.bosh_base.specs.declared.key.Key.{Key}
use Rattle.bosh_base.specs.declared.snapshot.DepRow.{DepRow}
use Rattle.bosh_base.specs.declared.task.TaskRow.{TaskRow}
use Rattle.bosh_records.specs.Keys.{key_cmp}
use Rattle.bosh_records.specs.Ordered.{AreOrdered}
use Rattle.bosh_records.specs.Places.{part_of}
use Rattle.bosh_records.specs.Readers.{machine_cmp}
use Rattle.bosh_records.specs.Recorded.{Recorded, is_only_asked, is_unknown, kept}
use Rattle.bosh_records.specs.Recorded.{taken_places}
use Rattle.bosh_records.specs.Table.{found, thing_in, things}
use Rattle.bosh_records.specs.declared.instances.Instance.{Instance}
use Rattle.bosh_records.specs.declared.keys.KeyState.{KeyState}
use Rattle.bosh_work.specs.Part.{no_part}
use Rattle.bosh_work.specs.declared.part.MachineName.{MachineName}
use Rattle.bosh_work.specs.declared.part.Part.{Part}
use Rattle.laws_stands.specs.Linked.{want_place}
use Rattle.laws_stands.specs.Reading as reading
use Rattle.laws_stands.specs.Stands.{IsWork, StandsIn}
use Rattle.laws_stands.specs.Told.{Told}
use Rattle.laws_stands.proofs.OrderLemmas.{once_of}
use Rattle.laws_stands_on.proofs.TableLemmas.{TellsKeys, nat_keys}
use Rattle.laws_stands_on.proofs.KeyLemmas.{inst_keys, key_keys, machine_keys}
use Rattle.laws_stands.specs.Once.{AreOnce, IsOnce}

not_true : (b : Bool) → not b ≡ false → b ≡ true
not_true true is = refl
not_true false is = absurd (true≢false is)

-- what an entry that is left out says is nothing, so leaving it out changes nothing that is read
reads_kept : {K X Y : Type 0} (cmp : K → K → Ordering) (tells : TellsKeys cmp) (keep : K × X → Bool) (read : X
    → Option Y)
    → ((e : K × X) → keep e ≡ false → read e.1 ≡ None) → (es : List (K × X)) → IsOnce cmp es → (k : K)
    → option_and_then read (found cmp (filter keep es) k) ≡ option_and_then read (found cmp es k)
reads_kept cmp tells keep read silent [] once k = refl
reads_kept cmp tells keep read silent (e ∷ es) (none, once) k = by (keep e) (is_at (cmp k) e.0) refl refl
    (reads_kept cmp tells keep read silent es once k)
  where
    by : (b c : Bool) → keep e ≡ b → is_at (cmp k) e.0 ≡ c
        → option_and_then read (found cmp (filter keep es) k) ≡ option_and_then read (found cmp es k)
        → option_and_then read (found cmp (if b then e ∷ filter keep es else filter keep es) k)
        ≡ option_and_then read (cond (is_at (cmp k) e.0) (Some e.1) (found cmp es k))
    by true true stays here more =
        (λ i. option_and_then read (cond (here i) (Some e.1) (found cmp (filter keep es) k)))
        ∙ (λ i. option_and_then read (cond (sym here i) (Some e.1) (found cmp es k)))
    by true false stays here more =
        (λ i. option_and_then read (cond (here i) (Some e.1) (found cmp (filter keep es) k))) ∙ more
        ∙ (λ i. option_and_then read (cond (sym here i) (Some e.1) (found cmp es k)))
    by false true goes here more =
        more ∙ ap (λ q. option_and_then read (found cmp es q)) (tells k e.0 here) ∙ ap (option_and_then read) none
        ∙ sym (silent e goes)
        ∙ (λ i. option_and_then read (cond (sym here i) (Some e.1) (found cmp es k)))
    by false false goes here more = more
        ∙ (λ i. option_and_then read (cond (sym here i) (Some e.1) (found cmp es k)))

-- the things of a table stand in places that are taken
things_kept : {K V : Type 0} (places : List (K × Option V)) → things (taken_places places) ≡ things places
things_kept [] = refl
things_kept ((k, o) ∷ places) = by o (things_kept places)
  where
    by : (o : Option _) → things (taken_places places) ≡ things places
        → things (if is_some o then (k, o) ∷ taken_places places else taken_places places)
        ≡ things ((k, o) ∷ places)
    by (Some v) more = ap (λ vs. v ∷ vs) more
    by None more = more

free_says : {K V : Type 0} (e : K × Option V) → is_some e.1 ≡ false → e.1 ≡ None
free_says (k, None) is = refl
free_says (k, Some v) is = absurd (true≢false is)

none_is : {X : Type 0} (o : Option X) → is_none o ≡ true → o ≡ None
none_is None is = refl
none_is (Some x) is = absurd (false≢true is)

-- what is said of an instance that is not known
pub record SaysNothing (it : Instance) : Type 0 where
  pub row : it.row ≡ None
  pub want : it.want ≡ None
  pub call : it.call ≡ None
  pub ping : it.part.ping ≡ None
  pub leaving : it.part.leaving ≡ None
  pub change : it.part.change ≡ None

unknown_says : (it : Instance) → not (is_unknown it) ≡ false → SaysNothing it
unknown_says it is =
    let (row, a) = and_parts (is_none it.row) _ (not_true (is_unknown it) is) in
    let (want, b) = and_parts (is_none it.want) _ a in
    let (call, c) = and_parts (is_none it.call) _ b in
    let (ping, d) = and_parts (is_none it.part.ping) _ c in
    let (leaving, change) = and_parts (is_none it.part.leaving) _ d in
    record {
      row = none_is it.row row;
      want = none_is it.want want;
      call = none_is it.call call;
      ping = none_is it.part.ping ping;
      leaving = none_is it.part.leaving leaving;
      change = none_is it.part.change change;
    }

module _ (told : Told) (was now : Recorded) (ordered : AreOrdered now) (alike : kept now ≡ kept was)
    (stands : StandsIn told was) where
  once : AreOnce was
  once = once_of stands.ordered

  once_now : AreOnce now
  once_now = once_of ordered

  -- a table of places
  pub places_same : {K V : Type 0} (cmp : K → K → Ordering) (tells : TellsKeys cmp) (table : Recorded
      → List (K × Option V))
      → IsOnce cmp (table was) → IsOnce cmp (table now) → taken_places (table now) ≡ taken_places (table was)
      → (k : K)
      → thing_in cmp (table now) k ≡ thing_in cmp (table was) k
  places_same cmp tells table its its_now same k =
      sym (reads_kept cmp tells (λ place. is_some place.1) (λ o. o) free_says (table now) its_now k)
      ∙ ap (λ places. thing_in cmp places k) same
      ∙ reads_kept cmp tells (λ place. is_some place.1) (λ o. o) free_says (table was) its k

  pub machine_same : (name : MachineName) → reading.machine_of now name ≡ reading.machine_of was name
  machine_same = places_same machine_cmp machine_keys (λ it. it.machines) once.machines once_now.machines
      (ap (λ (it : Recorded). it.machines) alike)

  pub orphan_same : (d : ℕ) → reading.orphan_of now d ≡ reading.orphan_of was d
  orphan_same = places_same nat_cmp nat_keys (λ it. it.orphans) once.orphans once_now.orphans
      (ap (λ (it : Recorded). it.orphans) alike)

  task_same : (t : ℕ) → reading.task_of now t ≡ reading.task_of was t
  task_same = places_same nat_cmp nat_keys (λ it. it.tasks) once.tasks once_now.tasks
      (ap (λ (it : Recorded). it.tasks) alike)

  pub work_same : (t : ℕ) → reading.work_of now t ≡ reading.work_of was t
  work_same = places_same nat_cmp nat_keys (λ it. it.works) once.works once_now.works
      (ap (λ (it : Recorded). it.works) alike)

  call_same : (n : ℕ) → reading.call_of now n ≡ reading.call_of was n
  call_same = places_same nat_cmp nat_keys (λ it. it.calls) once.calls once_now.calls
      (ap (λ (it : Recorded). it.calls) alike)

  pub dep_same : (t : ℕ) → reading.dep_of now t ≡ reading.dep_of was t
  dep_same t = ap (option_and_then (λ (row : TaskRow). row.dep)) (task_same t)

  -- what is read of an instance
  instance_same : {Y : Type 0} (read : Instance → Option Y) → ((it : Instance) → SaysNothing it → read it ≡ None)
      → (i : Inst)
      → option_and_then read (reading.instance_of now i) ≡ option_and_then read (reading.instance_of was i)
  instance_same read silent i =
      sym (reads_kept inst_cmp inst_keys (λ entry. not (is_unknown entry.1)) read
      (λ e is. silent e.1 (unknown_says e.1 is)) now.instances once_now.instances i)
      ∙ ap (λ (it : Recorded). option_and_then read (found inst_cmp it.instances i)) alike
      ∙ reads_kept inst_cmp inst_keys (λ entry. not (is_unknown entry.1)) read
      (λ e is. silent e.1 (unknown_says e.1 is)) was.instances once.instances i

  pub part_same : {Y : Type 0} (read : Part → Option Y) → read no_part ≡ None
      → ((it : Instance) → SaysNothing it → read it.part ≡ None) → (i : Inst)
      → read (part_of now i) ≡ read (part_of was i)
  part_same read none silent i = of (reading.instance_of now i) ∙ instance_same (λ it. read it.part) silent i
      ∙ sym (of (reading.instance_of was i))
    where
      of : (o : Option Instance) → read (option_map_or (λ known. known.part) o no_part)
          ≡ option_and_then (λ it. read it.part) o
      of (Some it) = refl
      of None = none

  -- what is read of a key
  state_same : {Y : Type 0} (read : KeyState → Option Y) → ((it : KeyState) → is_only_asked it ≡ true → read it
      ≡ None) → (key : Key)
      → option_and_then read (reading.state_of now key) ≡ option_and_then read (reading.state_of was key)
  state_same read silent key =
      sym (reads_kept key_cmp key_keys (λ entry. not (is_only_asked entry.1)) read
      (λ e is. silent e.1 (not_true (is_only_asked e.1) is)) now.keys once_now.keys key)
      ∙ ap (λ (it : Recorded). option_and_then read (found key_cmp it.keys key)) alike
      ∙ reads_kept key_cmp key_keys (λ entry. not (is_only_asked entry.1)) read
      (λ e is. silent e.1 (not_true (is_only_asked e.1) is)) was.keys once.keys key

  compiling_same : (key : Key) → reading.is_compiling now key ≡ reading.is_compiling was key
  compiling_same key =
      of (reading.state_of now key)
      ∙ ap is_some
      (state_same (λ it. it.call)
      (λ it is. none_is it.call (and_parts (is_none it.digest) (is_none it.call) is).1) key)
      ∙ sym (of (reading.state_of was key))
    where
      of : (o : Option KeyState) → option_map_or (λ state. is_some state.call) o false
          ≡ is_some (option_and_then (λ it. it.call) o)
      of (Some it) = refl
      of None = refl

  things_same : things now.deployments ≡ things was.deployments
  things_same = sym (things_kept now.deployments) ∙ ap (λ (it : Recorded). things it.deployments) alike
      ∙ things_kept was.deployments

  pub alike_stands : StandsIn told now
  alike_stands = record {
    uploads = ap (λ (it : Recorded). it.came) alike ∙ stands.uploads;
    deployments = things_same ∙ stands.deployments;
    rows = λ i. instance_same (λ it. it.row) (λ it says. says.row) i ∙ stands.rows i;
    row_calls = λ i. instance_same (λ it. it.call) (λ it says. says.call) i ∙ stands.row_calls i;
    machines = λ name. ap (option_map (λ machine. machine.row)) (machine_same name) ∙ stands.machines name;
    machine_keys = λ name later. ap (option_and_then (λ machine. machine.key)) (machine_same name)
        ∙ stands.machine_keys name later;
    machine_calls = λ name. ap (option_and_then (λ machine. machine.call)) (machine_same name)
        ∙ stands.machine_calls name;
    orphans = λ d. ap (option_map (λ loose. loose.orphan)) (orphan_same d) ∙ stands.orphans d;
    orphan_calls = λ d. ap (option_and_then (λ loose. loose.call)) (orphan_same d) ∙ stands.orphan_calls d;
    digests = λ key. state_same (λ it. it.digest)
        (λ it is. none_is it.digest (and_parts (is_none it.digest) (is_none it.call) is).0) key
        ∙ stands.digests key;
    compiling = λ key. compiling_same key ∙ stands.compiling key;
    tasks = λ t. task_same t ∙ stands.tasks t;
    calls = λ n. call_same n ∙ stands.calls n;
    works = λ t. subst (IsWork told t) (sym (work_same t)) (stands.works t);
    linked = record {
      wants = λ i. instance_same (λ it. it.want) (λ it says. says.want) i ∙ stands.linked.wants i
          ∙ (λ j. option_and_then (λ goal. want_place goal.rows i) (goal_in i j));
      pings = λ t w i is dep. part_same (λ part. part.ping) refl (λ it says. says.ping) i
          ∙ stands.linked.pings t w i (sym (work_same t) ∙ is) (sym (dep_same t) ∙ dep);
      leaving = λ t w i is dep. part_same (λ part. part.leaving) refl (λ it says. says.leaving) i
          ∙ stands.linked.leaving t w i (sym (work_same t) ∙ is) (sym (dep_same t) ∙ dep);
      changes = λ t w i is dep. part_same (λ part. part.change) refl (λ it says. says.change) i
          ∙ stands.linked.changes t w i (sym (work_same t) ∙ is) (sym (dep_same t) ∙ dep);
      sweeps = λ t w name machine is there dep.
          stands.linked.sweeps t w name machine (sym (work_same t) ∙ is) (sym (machine_same name) ∙ there)
          (sym (dep_same t) ∙ dep);
      deletions = λ t w d loose is there dep.
          stands.linked.deletions t w d loose (sym (work_same t) ∙ is) (sym (orphan_same d) ∙ there)
          (sym (dep_same t) ∙ dep);
    };
    ordered = ordered;
    tells_well = stands.tells_well;
  }
    where
      goal_in : (i : Inst) → reading.goal_of was i.dep ≡ reading.goal_of now i.dep
      goal_in i =
          ap (λ rows. option_map (λ (row : DepRow). row.goal)
          (find (λ (row : DepRow). bytes_eq row.dep i.dep) rows)) (sym things_same)
