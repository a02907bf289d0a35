-- The addresses that a deployment may take are held by no other one.
use Rattle.std.proofs.Common.{◌≡◌, ℕ, ◌≤◌, Bool, true, false, ◌==◌, ◌&&◌, Option, Some, None, List, [], ◌∷◌, ◌++◌, refl, ap, sym, ◌∙◌, inl, inr, arith}
use Rattle.std.specs.Prelude.{eqb, find, filter, map, not, if◌then◌else◌}
use Rattle.std.specs.List.{list_any, flat_map}
use Rattle.std.specs.Option.{option_eq, option_map}
use Rattle.std.specs.Str.{bytes_eq}
use Rattle.std.proofs.lemmas.Bool.Decides.{eqb_tells}
use Prim.Native.Nat.{zero, suc}
use Rattle.bosh_base.specs.Cloud.{numbers_to}
use Rattle.bosh_base.specs.declared.goal.Goal.{Goal}
use Rattle.bosh_base.specs.declared.goal.GoalRow.{GoalRow}
use Rattle.bosh_base.specs.declared.inst.Inst.{Inst}
use Rattle.bosh_base.specs.declared.make.Make.{Make}
use Rattle.bosh_base.specs.declared.addr.NetAddr.{NetAddr}
use Rattle.bosh_base.specs.declared.owner.Owner.{Owner}
use Rattle.bosh_base.specs.declared.owner.Owner.TheVariants.{Instance, Compile}
use Rattle.bosh_base.specs.declared.view.Held.{Held}
use Rattle.laws_facts.proofs.ListLemmas.{Tells, bytes_tells}
use Rattle.laws_facts.proofs.MachineLemmas.{slot_tells}
use Rattle.laws_facts.specs.Addresses.{Holder, Recorded, Machine, Wanted, Free, dep_of_holder, holds_address}
use Rattle.laws_facts.specs.CallFacts.{named}
use Rattle.laws_facts.specs.KnownFacts.{KnownFacts}
use Rattle.laws_facts.specs.Owners.{works}
use Rattle.bosh_history.specs.Held.{addresses_of, held, held_by_goal, held_by_goals, held_by_machines, held_by_rows, held_by_slot, held_by_slots, held_by_task, held_elsewhere, is_open, numbered, of_make}
use Rattle.bosh_history.specs.Items.{slots_of}
use Rattle.bosh_history.specs.Known.{Known, Slot, dep_of_task, no_task, want_in}
use Rattle.bosh_history.specs.Moments.{Moment, dep_of}
use Rattle.bosh_history.specs.Orders.{same_slot}
use Rattle.bosh_history.specs.Sound.{has_addr, is_held}
use Rattle.bosh_history.specs.Steps.{nth}
use Rattle.bosh_history.specs.Words.{is_among}
use Rattle.bosh_rows.proofs.SameLemmas.{same_inst_tells}
use Rattle.bosh_rows.specs.Same.{same_inst}
use Rattle.laws_addresses.proofs.FreeLemmas.{IsMachine, machine_recorded, row_recorded}
use Rattle.laws_addresses.proofs.ListLemmas.{any_flat, any_left, any_numbered, any_right}
use Rattle.laws_addresses.proofs.WorkingLemmas.{WorksOn, works_on}

-- an item of what is held, with the address and of the deployment
abbrev pub is_of : Known → List ℕ → ℕ → Held → Bool
is_of k dep a it = it.addr.0 == a && bytes_eq (dep_of k it.owner) dep

-- ---- one make

nets_held : (k : Known) (dep : List ℕ) (a : ℕ) (owner : Owner) (nets : List NetAddr)
    → list_any (λ b. b == a) (map (λ it. it.addr.0) nets) ≡ true → bytes_eq (dep_of k owner) dep ≡ true
    → list_any (is_of k dep a) (map (λ it. record { owner = owner; net = it.net; addr = it.addr }) nets) ≡ true
nets_held k dep a owner [] has own = absurd cc
nets_held k dep a owner (net ∷ nets) has own = grind (arith, has, own, nets_held k dep a owner nets)

make_held_as : (k : Known) (dep : List ℕ) (a : ℕ) (owner : Owner) (make : Make) → has_addr a (Some make) ≡ true
    → bytes_eq (dep_of k owner) dep ≡ true → list_any (is_of k dep a) (addresses_of owner make) ≡ true
make_held_as k dep a owner make has own = nets_held k dep a owner make.nets has own

pub same_dep : (a b : List ℕ) → a ≡ b → bytes_eq a b ≡ true
same_dep a b same = grind (arith, bytes_tells a b, same)

-- ---- each holder

row_held : (m : Moment) (i : Inst) (a : ℕ) → KnownFacts m → holds_address m (Recorded i) a ≡ true
    → list_any (is_of m.known i.dep a) (held_by_rows m.known) ≡ true
row_held m i a h is =
    any_flat same_inst same_inst_tells (is_of m.known i.dep a) (λ i. of_make (Instance i) (m.known.row i).make) i
    m.known.instances (row_recorded m i a h is) (by (m.known.row i).make is)
  where
    by : (make : Option Make) → has_addr a make ≡ true
        → list_any (is_of m.known i.dep a) (of_make (Instance i) make) ≡ true
    by (Some make) has = make_held_as m.known i.dep a (Instance i) make has (same_dep i.dep i.dep refl)
    by None has = absurd cc

-- a row that is found in a goal
found_held : (k : Known) (i : Inst) (a : ℕ) (rows : List GoalRow) (want : GoalRow)
    → find (λ want. same_inst i want.inst) rows ≡ Some want → has_addr a (Some want.make) ≡ true
    → list_any (is_of k i.dep a) (flat_map (λ want. addresses_of (Instance want.inst) want.make) rows) ≡ true
found_held k i a [] want is has = absurd cc
found_held k i a (row ∷ rows) want is has = by (same_inst_tells i row.inst) (found_held k i a rows want)
  where
    by : Tells same_inst i row.inst
        → (find (λ want. same_inst i want.inst) rows ≡ Some want → has_addr a (Some want.make) ≡ true
        → list_any (is_of k i.dep a) (flat_map (λ want. addresses_of (Instance want.inst) want.make) rows) ≡ true)
        → list_any (is_of k i.dep a)
        (flat_map (λ want. addresses_of (Instance want.inst) want.make) (row ∷ rows)) ≡ true
    by (inl same) more =
        let it : row ≡ want = grind (arith, is, same) in
        any_left (is_of k i.dep a) (addresses_of (Instance row.inst) row.make)
        (flat_map (λ want. addresses_of (Instance want.inst) want.make) rows)
        (make_held_as k i.dep a (Instance row.inst) row.make ((λ j. has_addr a (Some (it j).make)) ∙ has)
        (same_dep row.inst.dep i.dep (ap (λ (it : Inst). it.dep) (sym same.1))))
    by (inr apart) more =
        any_right (is_of k i.dep a) (addresses_of (Instance row.inst) row.make)
        (flat_map (λ want. addresses_of (Instance want.inst) want.make) rows) (more (grind (arith, is, apart)) has)

-- the row of the current goal
pub record IsWanted (m : Moment) (i : Inst) (a : ℕ) : Type 0 where
  pub goal : Goal
  pub row : GoalRow
  pub current : m.known.goal i.dep ≡ Some goal
  pub wanted : want_in (Some goal) i ≡ Some row
  pub has : has_addr a (Some row.make) ≡ true

pub is_wanted : (m : Moment) (i : Inst) (a : ℕ) → holds_address m (Wanted i) a ≡ true → IsWanted m i a
is_wanted m i a is = by (m.known.goal i.dep) refl is
  where
    of : (goal : Goal) → m.known.goal i.dep ≡ Some goal → (want : Option GoalRow) → want_in (Some goal) i ≡ want
        → has_addr a (option_map (λ want. want.make) want) ≡ true → IsWanted m i a
    of goal current (Some row) wanted has = record {
      goal = goal;
      row = row;
      current = current;
      wanted = wanted;
      has = has;
    }
    of goal current None wanted has = absurd cc

    by : (goal : Option Goal) → m.known.goal i.dep ≡ goal
        → has_addr a (option_map (λ want. want.make) (want_in goal i)) ≡ true → IsWanted m i a
    by (Some goal) current has = of goal current (want_in (Some goal) i) refl has
    by None current has = absurd cc

goal_held : (m : Moment) (i : Inst) (a : ℕ) → KnownFacts m → holds_address m (Wanted i) a ≡ true
    → list_any (is_of m.known i.dep a) (held_by_goals m.known) ≡ true
goal_held m i a h is =
    let it : IsWanted m i a = is_wanted m i a is in
    any_flat bytes_eq bytes_tells (is_of m.known i.dep a) (λ dep. held_by_goal (m.known.goal dep)) i.dep
    m.known.deployments
    (grind (arith, h.lists.deployment_listed i.dep, it.current))
    ((λ j. list_any (is_of m.known i.dep a) (held_by_goal (it.current j)))
    ∙ found_held m.known i a it.goal.rows it.row it.wanted it.has)

-- the deployment of a compile machine is that of its task
pub machine_dep : (m : Moment) (t s : ℕ) (it : Slot) → KnownFacts m → m.known.slot t s ≡ Some it
    → (m.known.task t).dep ≡ Some it.dep
machine_dep m t s it h is = by (m.known.task t).dep refl
  where
    own : option_eq bytes_eq (Some it.dep) (m.known.task t).dep ≡ true
    own = grind (arith, is, h.numbers.of_tasks t s)

    by : (dep : Option (List ℕ)) → (m.known.task t).dep ≡ dep → (m.known.task t).dep ≡ Some it.dep
    by (Some dep) same = same ∙ ap Some (sym (grind (arith, own, same, bytes_tells it.dep dep)))
    by None same = absurd (grind (arith, own, same))

pub dep_as : (k : Known) (t : ℕ) (dep : List ℕ) → (k.task t).dep ≡ Some dep → dep_of_task k t ≡ dep
dep_as k t dep same = (λ i. dep_of_task (record k { task = λ t. record no_task { dep = same i } }) t)

pub slot_held : (m : Moment) (t s a : ℕ) → KnownFacts m → holds_address m (Machine t s) a ≡ true
    → list_any (is_of m.known (dep_of_holder m.known (Machine t s)) a) (held_by_machines m.known) ≡ true
slot_held m t s a h is = by (machine_recorded m t s a h is)
  where
    by : (it : Slot) × IsMachine m t s it a
        → list_any (is_of m.known (dep_of_holder m.known (Machine t s)) a) (held_by_machines m.known) ≡ true
    by (it, found) =
        any_flat same_slot slot_tells (is_of m.known (dep_of_holder m.known (Machine t s)) a)
        (λ name. held_by_slot name (m.known.slot name.task name.slot)) (named t s) m.known.machines found.listed
        ((λ j. list_any (is_of m.known (dep_of_holder m.known (Machine t s)) a)
        (held_by_slot (named t s) (found.slot j)))
        ∙ make_held_as m.known (dep_of_holder m.known (Machine t s)) a (Compile t s) it.make found.has
        (same_dep (dep_of_task m.known t) (dep_of_holder m.known (Machine t s))
        (dep_as m.known t it.dep (machine_dep m t s it h found.slot)
        ∙ sym (grind (arith, found.slot)))))

-- a slot of a task that works
pub record IsFree (m : Moment) (t s a : ℕ) : Type 0 where
  pub goal : Goal
  pub make : Make
  pub works : works m t ≡ true
  pub has_goal : (m.known.task t).goal ≡ Some goal
  pub slot : nth s goal.slots ≡ Some make
  pub has : has_addr a (Some make) ≡ true

pub no_slot : (s : ℕ) (make : Option Make) → nth s [] ≡ make → make ≡ None
no_slot zero make is = sym is
no_slot (suc s) make is = sym is

pub is_free : (m : Moment) (t s a : ℕ) → holds_address m (Free t s) a ≡ true → IsFree m t s a
is_free m t s a is = by (works m t) refl (m.known.task t).goal refl is
  where
    of : works m t ≡ true → (goal : Goal) → (m.known.task t).goal ≡ Some goal → (make : Option Make)
        → nth s goal.slots ≡ make → has_addr a make ≡ true → IsFree m t s a
    of working goal own (Some make) slot has = record {
      goal = goal;
      make = make;
      works = working;
      has_goal = own;
      slot = slot;
      has = has;
    }
    of working goal own None slot has = absurd cc

    by : (b : Bool) → works m t ≡ b → (goal : Option Goal) → (m.known.task t).goal ≡ goal
        → has_addr a (if b then nth s (slots_of goal) else None) ≡ true → IsFree m t s a
    by true working (Some goal) own has = of working goal own (nth s goal.slots) refl has
    by true working None own has =
        absurd (grind (arith, sym (λ j. has_addr a (no_slot s (nth s []) refl j)) ∙ has))
    by false working goal own has = absurd cc

-- the numbers up to the last
pub up_to : (t last : ℕ) → 1 ≤ t → t ≤ last → is_among eqb t (numbers_to last) ≡ true
up_to t zero low high = absurd (omega arith)
up_to t (suc last) low high = by (eqb_tells t (suc last)) (up_to t last low)
  where
    by : Tells eqb t (suc last) → (t ≤ last → is_among eqb t (numbers_to last) ≡ true)
        → is_among eqb t (numbers_to (suc last)) ≡ true
    by (inl same) more = any_right (eqb t) (numbers_to last) (suc last ∷ []) (grind (arith, same))
    by (inr apart) more = any_left (eqb t) (numbers_to last) (suc last ∷ []) (more (grind (arith, apart, high)))

pub among_filter : (p : ℕ → Bool) (t : ℕ) (items : List ℕ) → is_among eqb t items ≡ true → p t ≡ true
    → is_among eqb t (filter p items) ≡ true
among_filter p t [] there is = absurd cc
among_filter p t (b ∷ items) there is = grind (arith, there, is, eqb_tells t b, among_filter p t items)

free_held : (m : Moment) (t s a : ℕ) → KnownFacts m → holds_address m (Free t s) a ≡ true
    → list_any (is_of m.known (dep_of_task m.known t) a) (held_by_slots m.known) ≡ true
free_held m t s a h is =
    any_flat eqb eqb_tells (is_of m.known (dep_of_task m.known t) a) (held_by_task m.known) t
    (filter (is_open m.known) (numbers_to m.known.tasks))
    (among_filter (is_open m.known) t (numbers_to m.known.tasks)
    (up_to t m.known.tasks (grind (arith, it.works)) (grind (arith, it.works))) (grind (arith, it.works)))
    ((λ j. list_any (is_of m.known (dep_of_task m.known t) a)
    (numbered 0 (λ s make. addresses_of (Compile t s) make) (slots_of (goal j))))
    ∙ any_numbered (is_of m.known (dep_of_task m.known t) a) (λ s make. addresses_of (Compile t s) make) 0 s
    it.goal.slots it.make it.slot
    (λ other. make_held_as m.known (dep_of_task m.known t) a (Compile t other) it.make it.has
    (same_dep (dep_of_task m.known t) (dep_of_task m.known t) refl)))
  where
    it : IsFree m t s a
    it = is_free m t s a is

    on : WorksOn m t it.goal
    on = works_on m t it.goal h it.works it.has_goal

    goal : m.known.goal (dep_of_task m.known t) ≡ Some it.goal
    goal = ap m.known.goal (dep_as m.known t it.goal.dep on.dep) ∙ on.current

-- ---- all

pub held_somewhere : (m : Moment) (y : Holder) (a : ℕ) → KnownFacts m → holds_address m y a ≡ true
    → list_any (is_of m.known (dep_of_holder m.known y) a) (held m.known) ≡ true
held_somewhere m (Recorded i) a h is =
    any_left (is_of m.known i.dep a) (held_by_rows m.known ++ held_by_goals m.known ++ held_by_machines m.known)
    (held_by_slots m.known)
    (any_left (is_of m.known i.dep a) (held_by_rows m.known ++ held_by_goals m.known) (held_by_machines m.known)
    (any_left (is_of m.known i.dep a) (held_by_rows m.known) (held_by_goals m.known) (row_held m i a h is)))
held_somewhere m (Wanted i) a h is =
    any_left (is_of m.known i.dep a) (held_by_rows m.known ++ held_by_goals m.known ++ held_by_machines m.known)
    (held_by_slots m.known)
    (any_left (is_of m.known i.dep a) (held_by_rows m.known ++ held_by_goals m.known) (held_by_machines m.known)
    (any_right (is_of m.known i.dep a) (held_by_rows m.known) (held_by_goals m.known) (goal_held m i a h is)))
held_somewhere m (Machine t s) a h is =
    any_left (is_of m.known (dep_of_holder m.known (Machine t s)) a)
    (held_by_rows m.known ++ held_by_goals m.known ++ held_by_machines m.known) (held_by_slots m.known)
    (any_right (is_of m.known (dep_of_holder m.known (Machine t s)) a)
    (held_by_rows m.known ++ held_by_goals m.known) (held_by_machines m.known) (slot_held m t s a h is))
held_somewhere m (Free t s) a h is =
    any_right (is_of m.known (dep_of_task m.known t) a)
    (held_by_rows m.known ++ held_by_goals m.known ++ held_by_machines m.known) (held_by_slots m.known)
    (free_held m t s a h is)

-- where no other deployment holds the address, its holder is of this one
none_elsewhere : (k : Known) (dep own : List ℕ) (a : ℕ) (items : List Held)
    → is_held (filter (λ it. not (bytes_eq (dep_of k it.owner) dep)) items) a ≡ false
    → list_any (is_of k own a) items ≡ true → own ≡ dep
none_elsewhere k dep own a [] none is = absurd cc
none_elsewhere k dep own a (it ∷ items) none is =
    grind (
      arith,
      none,
      is,
      bytes_tells (dep_of k it.owner) dep,
      bytes_tells (dep_of k it.owner) own,
      none_elsewhere k dep own a items,
    )

pub of_this : (m : Moment) (y : Holder) (a : ℕ) (dep : List ℕ) → KnownFacts m → holds_address m y a ≡ true
    → is_held (held_elsewhere m.known dep) a ≡ false → dep_of_holder m.known y ≡ dep
of_this m y a dep h is none =
    none_elsewhere m.known dep (dep_of_holder m.known y) a (held m.known) none (held_somewhere m y a h is)

-- an item of a deployment is held
pub held_of : (k : Known) (dep : List ℕ) (a : ℕ) (items : List Held) → list_any (is_of k dep a) items ≡ true
    → is_held items a ≡ true
held_of k dep a [] is = absurd cc
held_of k dep a (it ∷ items) is = grind (arith, is, held_of k dep a items)
