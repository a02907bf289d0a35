-- Which addresses others hold, and which are left over, as the records have it and as it is known.
use Rattle.std.proofs.Common.{◌≡◌, ◌∙◌, ℕ, ◌+◌, ◌≤◌, Bool, true, false, ◌&&◌, not, List, [], ◌∷◌, ◌++◌, Option, Some, None}
use Rattle.std.proofs.Common.{ap, arith, filter, length, map, refl, sym}
use Rattle.std.specs.Prelude.{is_some, min, nat_le, ◌||◌, if◌then◌else◌}
use Rattle.std.specs.List.{cons_option, filter_map, flat_map, list_all}
use Rattle.std.specs.Option.{option_and_then, option_eq, option_map, option_map_or}
use Rattle.std.specs.Str.{bytes_eq}
use Rattle.std.proofs.lemmas.Bool.{and_parts}
use Rattle.std.proofs.lemmas.List.Elements.{filter-append}
use Rattle.bosh_base.specs.Cloud.{numbers_to}
use Rattle.bosh_base.specs.declared.addr.NetAddr.{NetAddr}
use Rattle.bosh_base.specs.declared.entry.Begin.{Begin}
use Rattle.bosh_base.specs.declared.goal.Goal.{Goal}
use Rattle.bosh_base.specs.declared.goal.GoalRow.{GoalRow}
use Rattle.bosh_base.specs.declared.inst.Inst.{Inst}
use Rattle.bosh_base.specs.declared.make.Make.{Make}
use Rattle.bosh_base.specs.declared.owner.Owner.{Owner}
use Rattle.bosh_base.specs.declared.owner.Owner.TheVariants.{Compile, Instance}
use Rattle.bosh_base.specs.declared.row.Row.{Row}
use Rattle.bosh_base.specs.declared.snapshot.CompileRow.{CompileRow}
use Rattle.bosh_base.specs.declared.snapshot.DepRow.{DepRow}
use Rattle.bosh_base.specs.declared.task.TaskRow.{TaskRow}
use Rattle.bosh_base.specs.declared.view.Held.{Held}
use Rattle.bosh_history.specs.Held as held
use Rattle.bosh_history.specs.Held.{addresses_of, is_open, numbered, of_make}
use Rattle.bosh_history.specs.Items.{slots_of}
use Rattle.bosh_history.specs.Known.{Known, Slot, SlotName, dep_named, dep_of_task}
use Rattle.bosh_history.specs.Moments.{Moment, dep_of}
use Rattle.bosh_history.specs.Snapshots.{dep_row, task_row}
use Rattle.bosh_history.specs.Sound.{has_plan}
use Rattle.bosh_history.specs.Goals.{inst_of}
use Rattle.bosh_records.specs.Readers.{goal_of}
use Rattle.bosh_records.specs.declared.instances.Instance.{Instance as Listed}
use Rattle.bosh_records.specs.declared.machines.Machine.{Machine}
use Rattle.bosh_records.specs.declared.records.Records.{Records}
use Rattle.bosh_records.specs.declared.records.Since.{Since}
use Rattle.bosh_rows.specs.Same.{same_inst}
use Rattle.bosh_rows.specs.SoundSnapshot.{are_distinct}
use Rattle.bosh_rows.specs.Standing.{same_truth}
use Rattle.bosh_views.specs.View as views
use Rattle.bosh_work.specs.declared.part.MachineName.{MachineName}
use Rattle.laws_facts.proofs.LockLemmas.{locks_equal}
use Rattle.laws_facts.specs.Goals.{GoalFacts}
use Rattle.laws_facts.specs.KnownFacts.{KnownFacts}
use Rattle.laws_row_facts.specs.Words.{where_any}
use Rattle.laws_stands.proofs.DeploymentLemmas.{bytes_is}
use Rattle.laws_stands.specs.Stands.{Stands, row_of_slot}
use Rattle.laws_views.proofs.ListedLemmas.{flat_map_pairs}
use Rattle.laws_views.proofs.TableLemmas.{goal_known, machine_name, machine_row, machines_known, rows_known, tasks_known}
use Rattle.laws_views.specs.Viewed.{CanBeViewed}

-- ---- lists of lists

pub filter_flat : {A B : Type 0} (p : B → Bool) (f : A → List B) (xs : List A)
    → filter p (flat_map f xs) ≡ flat_map (λ x. filter p (f x)) xs
filter_flat p f [] = refl
filter_flat p f (x ∷ xs) = filter-append p (f x) (flat_map f xs) ∙ ap (λ ys. filter p (f x) ++ ys) (filter_flat p f xs)

flat_same : {A B : Type 0} (f g : A → List B) → ((x : A) → f x ≡ g x) → (xs : List A) → flat_map f xs ≡ flat_map g xs
flat_same f g same xs = λ i. flat_map (λ x. same x i) xs

flat_filtered : {A B : Type 0} (p : A → Bool) (f : A → List B) (xs : List A)
    → flat_map f (filter p xs) ≡ flat_map (λ x. if p x then f x else []) xs
flat_filtered p f [] = refl
flat_filtered {A} {B} p f (x ∷ xs) = by (p x) (flat_filtered p f xs)
  where
    by : (b : Bool) → flat_map f (filter p xs) ≡ flat_map (λ x. if p x then f x else []) xs
        → flat_map f (if b then x ∷ filter p xs else filter p xs)
        ≡ (if b then f x else []) ++ flat_map (λ x. if p x then f x else []) xs
    by true more = ap (λ ys. f x ++ ys) more
    by false more = more

flat_found : {A B C : Type 0} (f : A → Option B) (g : B → List C) (xs : List A)
    → flat_map g (filter_map f xs) ≡ flat_map (λ x. option_map_or g (f x) []) xs
flat_found f g [] = refl
flat_found {A} {B} {C} f g (x ∷ xs) = by (f x) (flat_found f g xs)
  where
    by : (o : Option B) → flat_map g (filter_map f xs) ≡ flat_map (λ x. option_map_or g (f x) []) xs
        → flat_map g (cons_option o (filter_map f xs)) ≡ option_map_or g o [] ++ flat_map (λ x. option_map_or g (f x) []) xs
    by (Some y) more = ap (λ ys. g y ++ ys) more
    by None more = more

pub flat_mapped : {A B C : Type 0} (f : A → B) (g : B → List C) (xs : List A) → flat_map g (map f xs) ≡ flat_map (λ x. g (f x)) xs
flat_mapped f g [] = refl
flat_mapped f g (x ∷ xs) = ap (λ ys. g (f x) ++ ys) (flat_mapped f g xs)

abbrev no_address : List Held
no_address = []

-- all addresses of one owner are kept, or none
pub of_owner : (q : Owner → Bool) (owner : Owner) (make : Make)
    → filter (λ (it : Held). q it.owner) (addresses_of owner make) ≡ (if q owner then addresses_of owner make else [])
of_owner q owner make = by (q owner) refl make.nets
  where
    each : List NetAddr → List Held
    each nets = map (λ (it : NetAddr). record { owner = owner; net = it.net; addr = it.addr }) nets

    by : (b : Bool) → q owner ≡ b → (nets : List NetAddr)
        → filter (λ (it : Held). q it.owner) (each nets) ≡ (if b then each nets else [])
    by true is [] = refl
    by true is (it ∷ nets) =
        (λ i. if is i then record { owner = owner; net = it.net; addr = it.addr } ∷ filter (λ (it : Held). q it.owner) (each nets)
        else filter (λ (it : Held). q it.owner) (each nets))
        ∙ ap (λ ys. record { owner = owner; net = it.net; addr = it.addr } ∷ ys) (by true is nets)
    by false is [] = refl
    by false is (it ∷ nets) =
        (λ i. if is i then record { owner = owner; net = it.net; addr = it.addr } ∷ filter (λ (it : Held). q it.owner) (each nets)
        else filter (λ (it : Held). q it.owner) (each nets))
        ∙ by false is nets

of_option : (q : Owner → Bool) (owner : Owner) (make : Option Make)
    → filter (λ (it : Held). q it.owner) (of_make owner make) ≡ (if q owner then of_make owner make else [])
of_option q owner (Some make) = of_owner q owner make
of_option q owner None = by (q owner)
  where
    by : (b : Bool) → [] ≡ (if b then of_make owner None else [])
    by true = refl
    by false = refl

if_not : {A : Type 0} (b : Bool) (x y : A) → (if not b then x else y) ≡ (if b then y else x)
if_not true x y = refl
if_not false x y = refl

-- ---- slots of a goal

numbered_as : (t n : ℕ) (slots : List Make) → n + length slots ≤ 4294967296
    → views.held_by_slots t n slots ≡ numbered n (λ s make. addresses_of (Compile t s) make) slots
numbered_as t n [] low = refl
numbered_as t n (make ∷ []) low = refl
numbered_as t n (make ∷ other ∷ slots) low =
    let next : min (n + 1) 4294967295 ≡ n + 1 = omega arith in
    ap (λ ys. addresses_of (Compile t n) make ++ ys)
    (ap (λ s. views.held_by_slots t s (other ∷ slots)) next
    ∙ numbered_as t (n + 1) (other ∷ slots) (omega arith))

of_numbered : (q : Owner → Bool) (t : ℕ) (b : Bool) → ((s : ℕ) → q (Compile t s) ≡ b) → (n : ℕ) (slots : List Make)
    → filter (λ (it : Held). q it.owner) (numbered n (λ s make. addresses_of (Compile t s) make) slots)
    ≡ (if b then numbered n (λ s make. addresses_of (Compile t s) make) slots else [])
of_numbered q t true is n [] = refl
of_numbered q t false is n [] = refl
of_numbered q t true is n (make ∷ slots) =
    filter-append (λ (it : Held). q it.owner) (addresses_of (Compile t n) make)
    (numbered (n + 1) (λ s make. addresses_of (Compile t s) make) slots)
    ∙ (λ i. (of_owner q (Compile t n) make ∙ (λ j. if is n j then addresses_of (Compile t n) make else [])) i
    ++ of_numbered q t true is (n + 1) slots i)
of_numbered q t false is n (make ∷ slots) =
    filter-append (λ (it : Held). q it.owner) (addresses_of (Compile t n) make)
    (numbered (n + 1) (λ s make. addresses_of (Compile t s) make) slots)
    ∙ (λ i. (of_owner q (Compile t n) make ∙ (λ j. if is n j then addresses_of (Compile t n) make else [])) i
    ++ of_numbered q t false is (n + 1) slots i)

-- ---- at a moment

module _ (m : Moment) (calls : ℕ → Option Begin) (snapped : ℕ) (records : Records) (facts : KnownFacts m)
    (stands : Stands (record { known = m.known; calls = calls; snapped = snapped }) records) (dep : List ℕ) where
  abbrev k : Known
  k = m.known

  -- the owner is of another deployment
  abbrev is_other : Owner → Bool
  is_other owner = not (bytes_eq (dep_of k owner) dep)

  -- ---- rows

  pub rows_held : views.held_by_rows dep records.instances.by_inst.entries
      ≡ filter (λ (it : Held). is_other it.owner) (held.held_by_rows k)
  rows_held =
      flat_same (views.held_by_row dep) (λ e. option_map_or (of_row e.0) e.1.row []) there records.instances.by_inst.entries
      ∙ sym (flat_map_pairs (λ (e : Inst × Listed). e.0) (λ e. e.1.row) of_row records.instances.by_inst.entries)
      ∙ ap (flat_map (λ p. of_row p.0 p.1)) (rows_known m calls snapped records facts stands)
      ∙ flat_map_pairs (λ (i : Inst). i) (λ i. Some (k.row i)) of_row k.instances
      ∙ flat_same (λ i. of_row i (k.row i)) (λ i. filter (λ (it : Held). is_other it.owner) (of_make (Instance i) (k.row i).make))
      known k.instances
      ∙ sym (filter_flat (λ (it : Held). is_other it.owner) (λ i. of_make (Instance i) (k.row i).make) k.instances)
    where
      of_row : Inst → Row → List Held
      of_row i row = if bytes_eq i.dep dep then [] else of_make (Instance i) row.make

      there : (e : Inst × Listed) → views.held_by_row dep e ≡ option_map_or (of_row e.0) e.1.row []
      there e = by (bytes_eq e.0.dep dep) e.1.row
        where
          made : (make : Option Make) → option_map_or (views.held_of (Instance e.0)) make [] ≡ of_make (Instance e.0) make
          made (Some make) = refl
          made None = refl

          by : (b : Bool) (row : Option Row)
              → (if b then [] else option_map_or (views.held_of (Instance e.0)) (views.make_of row) [])
              ≡ option_map_or (λ (row : Row). if b then [] else of_make (Instance e.0) row.make) row []
          by true (Some row) = refl
          by true None = refl
          by false (Some row) = made row.make
          by false None = refl

      known : (i : Inst) → of_row i (k.row i)
          ≡ filter (λ (it : Held). is_other it.owner) (of_make (Instance i) (k.row i).make)
      known i = sym (of_option is_other (Instance i) (k.row i).make
          ∙ if_not (bytes_eq i.dep dep) (of_make (Instance i) (k.row i).make) [])

  -- ---- goals

  pub goals_held : views.held_by_goals dep records.deployments.places.entries
      ≡ filter (λ (it : Held). is_other it.owner) (held.held_by_goals k)
  goals_held =
      flat_same (λ place. option_map_or (λ (row : DepRow). views.held_by_goal row.goal) (views.other_of dep place.1) [])
      (λ place. option_map_or of_dep place.1 []) (λ place. there place.1) records.deployments.places.entries
      ∙ sym (flat_found (λ (place : Since × Option DepRow). place.1) of_dep records.deployments.places.entries)
      ∙ ap (flat_map of_dep) stands.deployments
      ∙ flat_found (dep_row k) of_dep k.deployments
      ∙ flat_same (λ d. option_map_or of_dep (dep_row k d) [])
      (λ d. filter (λ (it : Held). is_other it.owner) (held.held_by_goal (k.goal d))) (λ d. known d (k.goal d) refl) k.deployments
      ∙ sym (filter_flat (λ (it : Held). is_other it.owner) (λ d. held.held_by_goal (k.goal d)) k.deployments)
    where
      of_dep : DepRow → List Held
      of_dep row = if bytes_eq row.dep dep then [] else views.held_by_goal row.goal

      there : (o : Option DepRow)
          → option_map_or (λ (row : DepRow). views.held_by_goal row.goal) (views.other_of dep o) [] ≡ option_map_or of_dep o []
      there None = refl
      there (Some row) = by (bytes_eq row.dep dep)
        where
          by : (b : Bool) → option_map_or (λ (row : DepRow). views.held_by_goal row.goal) (if b then None else Some row) []
              ≡ (if b then [] else views.held_by_goal row.goal)
          by true = refl
          by false = refl

      wants : (d : List ℕ) (goal : Goal) (rows : List GoalRow)
          → list_all (λ (want : GoalRow). bytes_eq want.inst.dep goal.dep && has_plan goal want) rows ≡ true → goal.dep ≡ d
          → filter (λ (it : Held). is_other it.owner) (views.held_by_wants rows)
          ≡ (if bytes_eq d dep then [] else views.held_by_wants rows)
      wants d goal [] own is = by (bytes_eq d dep)
        where
          by : (b : Bool) → [] ≡ (if b then [] else views.held_by_wants [])
          by true = refl
          by false = refl
      wants d goal (want ∷ rows) own is =
          let (first, rest) = and_parts (bytes_eq want.inst.dep goal.dep && has_plan goal want)
          (list_all (λ (want : GoalRow). bytes_eq want.inst.dep goal.dep && has_plan goal want) rows) own in
          let here : want.inst.dep ≡ d =
          bytes_is want.inst.dep goal.dep (and_parts (bytes_eq want.inst.dep goal.dep) (has_plan goal want) first).0 ∙ is in
          filter-append (λ (it : Held). is_other it.owner) (addresses_of (Instance want.inst) want.make) (views.held_by_wants rows)
          ∙ (λ i. (of_owner is_other (Instance want.inst) want.make
          ∙ if_not (bytes_eq want.inst.dep dep) (addresses_of (Instance want.inst) want.make) []
          ∙ (λ j. if bytes_eq (here j) dep then [] else addresses_of (Instance want.inst) want.make)) i
          ++ wants d goal rows rest is i)
          ∙ both (bytes_eq d dep)
        where
          both : (b : Bool) → (if b then [] else addresses_of (Instance want.inst) want.make)
              ++ (if b then [] else views.held_by_wants rows)
              ≡ (if b then [] else addresses_of (Instance want.inst) want.make ++ views.held_by_wants rows)
          both true = refl
          both false = refl

      known : (d : List ℕ) (goal : Option Goal) → k.goal d ≡ goal
          → option_map_or of_dep (dep_row k d) [] ≡ filter (λ (it : Held). is_other it.owner) (held.held_by_goal (k.goal d))
      known d (Some goal) is =
          let of_goal : GoalFacts k d goal = facts.goals d goal is in
          (λ i. option_map_or of_dep (option_map (λ goal. record { dep = d; goal = goal; shared = k.shared d }) (is i)) [])
          ∙ sym (wants d goal goal.rows
          (and_parts (are_distinct same_inst (map inst_of goal.rows))
          (list_all (λ (want : GoalRow). bytes_eq want.inst.dep goal.dep && has_plan goal want) goal.rows) of_goal.sound_rows).1
          of_goal.of_dep)
          ∙ ap (λ goal. filter (λ (it : Held). is_other it.owner) (held.held_by_goal goal)) (sym is)
      known d None is =
          (λ i. option_map_or of_dep (option_map (λ goal. record { dep = d; goal = goal; shared = k.shared d }) (is i)) [])
          ∙ ap (λ goal. filter (λ (it : Held). is_other it.owner) (held.held_by_goal goal)) (sym is)

  -- ---- compile machines

  -- the deployment of a compile machine is that of its task
  dep_of_machine : (t s : ℕ) (slot : Slot) → k.slot t s ≡ Some slot → dep_of_task k t ≡ slot.dep
  dep_of_machine t s slot is = of (sym (ap (where_any (λ (it : Slot). nat_le 1 t
      && (nat_le t k.tasks && option_eq bytes_eq (Some it.dep) (k.task t).dep))) is) ∙ facts.numbers.of_tasks t s)
    where
      of : (nat_le 1 t && (nat_le t k.tasks && option_eq bytes_eq (Some slot.dep) (k.task t).dep)) ≡ true
          → dep_of_task k t ≡ slot.dep
      of fact =
          let (one, more) = and_parts (nat_le 1 t) (nat_le t k.tasks && option_eq bytes_eq (Some slot.dep) (k.task t).dep) fact in
          let (two, same) = and_parts (nat_le t k.tasks) (option_eq bytes_eq (Some slot.dep) (k.task t).dep) more in
          ap dep_named (sym (locks_equal (Some slot.dep) (k.task t).dep same))

  -- those of the deployment, or of others
  pub machines_held : (mine : Bool) → views.held_by_machines dep mine records.machines.places.entries
      ≡ filter (λ (it : Held). same_truth (bytes_eq (dep_of k it.owner) dep) mine) (held.held_by_machines k)
  machines_held mine =
      flat_same (λ place. option_map_or (views.held_by_machine dep mine place.0) place.1 [])
      (λ place. option_map_or (of_row place.0) (option_map (λ (machine : Machine). machine.row) place.1) [])
      (λ place. there place.0 place.1) records.machines.places.entries
      ∙ sym (flat_map_pairs (λ (place : MachineName × Option Machine). place.0)
      (λ place. option_map (λ (machine : Machine). machine.row) place.1) of_row records.machines.places.entries)
      ∙ ap (flat_map (λ p. of_row p.0 p.1)) (machines_known m calls snapped records facts stands)
      ∙ flat_map_pairs (λ (name : MachineName). name) (machine_row k) of_row (map machine_name k.machines)
      ∙ flat_mapped machine_name (λ name. option_map_or (of_row name) (machine_row k name) []) k.machines
      ∙ flat_same (λ name. option_map_or (of_row (machine_name name)) (machine_row k (machine_name name)) [])
      (λ name. filter (λ (it : Held). q it.owner) (held.held_by_slot name (k.slot name.task name.slot)))
      (λ name. known name (k.slot name.task name.slot) refl) k.machines
      ∙ sym (filter_flat (λ (it : Held). q it.owner) (λ name. held.held_by_slot name (k.slot name.task name.slot)) k.machines)
    where
      q : Owner → Bool
      q owner = same_truth (bytes_eq (dep_of k owner) dep) mine

      of_row : MachineName → CompileRow → List Held
      of_row name row =
          if same_truth (bytes_eq row.dep dep) mine then views.held_of (Compile name.task name.slot) row.make else []

      there : (name : MachineName) (o : Option Machine) → option_map_or (views.held_by_machine dep mine name) o []
          ≡ option_map_or (of_row name) (option_map (λ (machine : Machine). machine.row) o) []
      there name (Some machine) = refl
      there name None = refl

      known : (name : SlotName) (slot : Option Slot) → k.slot name.task name.slot ≡ slot
          → option_map_or (of_row (machine_name name)) (machine_row k (machine_name name)) []
          ≡ filter (λ (it : Held). q it.owner) (held.held_by_slot name (k.slot name.task name.slot))
      known name (Some slot) is =
          (λ i. option_map_or (of_row (machine_name name)) (option_map (row_of_slot name.task name.slot) (is i)) [])
          ∙ (λ i. if same_truth (bytes_eq (sym (dep_of_machine name.task name.slot slot is) i) dep) mine
          then addresses_of (Compile name.task name.slot) slot.make else [])
          ∙ sym (of_owner q (Compile name.task name.slot) slot.make)
          ∙ ap (λ slot. filter (λ (it : Held). q it.owner) (held.held_by_slot name slot)) (sym is)
      known name None is =
          (λ i. option_map_or (of_row (machine_name name)) (option_map (row_of_slot name.task name.slot) (is i)) [])
          ∙ ap (λ slot. filter (λ (it : Held). q it.owner) (held.held_by_slot name slot)) (sym is)

  -- ---- slots of open tasks

  module _ (viewed : CanBeViewed m.known) where
    pub tasks_held : views.held_by_tasks records dep records.tasks.places.entries
        ≡ filter (λ (it : Held). is_other it.owner) (held.held_by_slots k)
    tasks_held =
        flat_same (λ place. views.held_by_task records dep place.1)
        (λ place. option_map_or of_row place.1 []) (λ place. there place.1) records.tasks.places.entries
        ∙ sym (flat_map_pairs (λ (place : ℕ × Option TaskRow). place.0) (λ place. place.1) (λ t row. of_row row)
        records.tasks.places.entries)
        ∙ ap (flat_map (λ p. of_row p.1)) (tasks_known m calls snapped records facts stands)
        ∙ flat_map_pairs (λ (t : ℕ). t) (λ t. Some (task_row k t)) (λ t row. of_row row) (numbers_to k.tasks)
        ∙ flat_same (λ t. of_row (task_row k t))
        (λ t. if is_open k t then filter (λ (it : Held). is_other it.owner) (held.held_by_task k t) else []) known
        (numbers_to k.tasks)
        ∙ sym (flat_filtered (is_open k) (λ t. filter (λ (it : Held). is_other it.owner) (held.held_by_task k t))
        (numbers_to k.tasks))
        ∙ sym (filter_flat (λ (it : Held). is_other it.owner) (held.held_by_task k) (filter (is_open k) (numbers_to k.tasks)))
      where
        of_row : TaskRow → List Held
        of_row row = views.held_by_task records dep (Some row)

        there : (o : Option TaskRow) → views.held_by_task records dep o ≡ option_map_or of_row o []
        there (Some row) = refl
        there None = refl

        known : (t : ℕ) → of_row (task_row k t)
            ≡ (if is_open k t then filter (λ (it : Held). is_other it.owner) (held.held_by_task k t) else [])
        known t = by (is_some (k.task t).end) (k.task t).dep refl
          where
            slots : Option Goal → List Held
            slots goal = numbered 0 (λ s make. addresses_of (Compile t s) make) (slots_of goal)

            -- what the records have of it, where it is of a deployment
            recorded : Bool → List ℕ → Option Goal → List Held
            recorded ended other goal =
                option_map_or (λ (it : ℕ × Goal). views.held_by_slots it.0 0 it.1.slots)
                (if ended || bytes_eq other dep then None else option_map (λ goal. (t, goal)) goal) []

            of_dep : (ended : Bool) (other : List ℕ) (b : Bool) → bytes_eq other dep ≡ b
                → (goal : Option Goal) → length (slots_of goal) ≤ 4294967296
                → option_map_or (λ (it : ℕ × Goal). views.held_by_slots it.0 0 it.1.slots)
                (if ended || b then None else option_map (λ goal. (t, goal)) goal) []
                ≡ (if not ended then (if b then [] else slots goal) else [])
            of_dep true other b is goal low = refl
            of_dep false other true is goal low = refl
            of_dep false other false is (Some goal) low =
                numbered_as t 0 goal.slots (let few : length goal.slots ≤ 4294967296 = low in omega arith)
            of_dep false other false is None low = refl

            whole : (other : List ℕ) → dep_of_task k t ≡ other
                → filter (λ (it : Held). is_other it.owner) (held.held_by_task k t)
                ≡ (if bytes_eq other dep then [] else slots (k.goal other))
            whole other is =
                of_numbered is_other t (not (bytes_eq other dep)) (λ s. ap (λ d. not (bytes_eq d dep)) is) 0
                (slots_of (k.goal (dep_of_task k t)))
                ∙ if_not (bytes_eq other dep) (slots (k.goal (dep_of_task k t))) []
                ∙ (λ i. if bytes_eq other dep then [] else slots (k.goal (is i)))

            by : (ended : Bool) (own : Option (List ℕ)) → (k.task t).dep ≡ own
                → option_map_or (λ (it : ℕ × Goal). views.held_by_slots it.0 0 it.1.slots)
                (option_and_then (λ other. if ended || bytes_eq other dep then None
                else option_map (λ goal. (t, goal)) (goal_of records other)) (k.task t).dep) []
                ≡ (if not ended then filter (λ (it : Held). is_other it.owner) (held.held_by_task k t) else [])
            by ended (Some other) is =
                (λ i. option_map_or (λ (it : ℕ × Goal). views.held_by_slots it.0 0 it.1.slots)
                (option_and_then (λ other. if ended || bytes_eq other dep then None
                else option_map (λ goal. (t, goal)) (goal_of records other)) (is i)) [])
                ∙ ap (recorded ended other) (goal_known m calls snapped records facts stands other)
                ∙ of_dep ended other (bytes_eq other dep) refl (k.goal other) (viewed.numbered other)
                ∙ ap (λ held. if not ended then held else []) (sym (whole other (ap dep_named is)))
            by ended None is =
                (λ i. option_map_or (λ (it : ℕ × Goal). views.held_by_slots it.0 0 it.1.slots)
                (option_and_then (λ other. if ended || bytes_eq other dep then None
                else option_map (λ goal. (t, goal)) (goal_of records other)) (is i)) [])
                ∙ none ended
                ∙ ap (λ held. if not ended then held else [])
                (sym (whole [] (ap dep_named is) ∙ (λ i. if bytes_eq [] dep then [] else slots (viewed.named i))
                ∙ empty (bytes_eq [] dep)))
              where
                none : (b : Bool) → no_address ≡ (if not b then no_address else no_address)
                none true = refl
                none false = refl

                empty : (b : Bool) → (if b then [] else slots None) ≡ []
                empty true = refl
                empty false = refl
