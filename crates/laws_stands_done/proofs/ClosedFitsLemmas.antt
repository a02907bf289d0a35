-- What is recorded of open tasks goes on to fit once a task is closed: just what it listed had a place, and is cleared.
use Rattle.std.proofs.Common.{◌≡◌, ◌∙◌, ℕ, Bool, true, false, ◌&&◌, ◌||◌, not, List, [], ◌∷◌, filter, Option, Some, None}
use Rattle.std.proofs.Common.{ap, refl, subst, sym}
use Rattle.std.specs.Prelude.{eqb, fold, is_some, nat_le, if◌then◌else◌}
use Rattle.std.specs.BTreeMap.{is_at}
use Rattle.std.specs.Option.{option_and_then, option_map, option_map_or}
use Rattle.std.specs.Ordering.{nat_cmp}
use Rattle.std.specs.Str.{bytes_eq}
use Rattle.std.specs.declared.cmp.Ordering.{Ordering}
use Rattle.std.proofs.lemmas.Bool.{eqb-true, or_parts, true≢false}
use Rattle.std.proofs.lemmas.Slice.Eq.{bytes_eq-Decides}
use Rattle.bosh_base.specs.Inst.{inst_cmp}
use Rattle.bosh_base.specs.declared.inst.Inst.{Inst}
use Rattle.bosh_base.specs.declared.snapshot.CompileRow.{CompileRow}
use Rattle.bosh_base.specs.declared.snapshot.DepRow.{DepRow}
use Rattle.bosh_base.specs.declared.task.TaskEnd.{TaskEnd}
use Rattle.bosh_base.specs.declared.task.TaskRow.{TaskRow}
use Rattle.bosh_fold.specs.Tasks.{cleared, closed_task}
use Rattle.bosh_history.specs.Known.{Known}
use Rattle.bosh_history.specs.Words.{is_among}
use Rattle.bosh_records.specs.Changes.{since_cmp, with_deleting, with_end, with_sweep}
use Rattle.bosh_records.specs.Instances.{with_change, with_leaving, with_ping}
use Rattle.bosh_records.specs.Places.{part_of}
use Rattle.bosh_records.specs.Readers.{machine_cmp}
use Rattle.bosh_records.specs.Recorded.{Recorded}
use Rattle.bosh_records.specs.Table.{altered, found, thing_in}
use Rattle.bosh_records.specs.declared.instances.Instance.{Instance}
use Rattle.bosh_records.specs.declared.machines.Machine.{Machine}
use Rattle.bosh_records.specs.declared.orphans.LooseDisk.{LooseDisk}
use Rattle.bosh_records.specs.declared.records.Since.{Since}
use Rattle.bosh_rows.specs.Same.{same_inst}
use Rattle.bosh_work.specs.Part.{no_part}
use Rattle.bosh_work.specs.declared.part.MachineName.{MachineName}
use Rattle.bosh_work.specs.declared.part.Part.{Part}
use Rattle.bosh_work.specs.declared.work.Work.{Work}
use Rattle.laws_stands.proofs.DeploymentLemmas.{bytes_is}
use Rattle.laws_stands.specs.GroupsStand.{both_places, change_place, names_of}
use Rattle.laws_stands.specs.Linked.{IsLinked, same_machine}
use Rattle.laws_stands.specs.LineStands.{place_of}
use Rattle.laws_stands.specs.Once.{IsOnce}
use Rattle.laws_stands.specs.Reading.{dep_of, instance_of, machine_of, orphan_of, task_of, work_of}
use Rattle.laws_stands.specs.Told.{Told, is_going}
use Rattle.laws_stands_closed.proofs.ClearedLemmas.{each_kept, machine_at}
use Rattle.laws_stands_closed.specs.Closed.{told_ended}
use Rattle.laws_stands_done.proofs.WantLemmas.{each_cleared, inst_as, none_stays}
use Rattle.laws_stands_ends.proofs.DroppedToldLemmas.{none_placed}
use Rattle.laws_stands_fits.specs.Fits.{Fits, HasNoWork, SweepsEnded}
use Rattle.laws_stands_on.proofs.ChangedLemmas.{eqb_flip}
use Rattle.laws_stands_on.proofs.KeyLemmas.{inst_keys, machine_keys}
use Rattle.laws_stands_on.proofs.TableLemmas.{TellsKeys, found_without, nat_at, nat_keys, thing_changed}

-- ---- tables that are cleared

module _ {K X Y : Type 0} (cmp : K → K → Ordering) (tells : TellsKeys cmp) (change : X → X) (read : X → Option Y)
    (clears : (x : X) → read (change x) ≡ None) where
  -- nothing is read at a key once it is cleared, or where nothing was
  pub each_none : (test : K → K → Bool) → ((a b : K) → is_at (cmp a) b ≡ test b a) → (keys : List K)
      → (es : List (K × X)) (k : K)
      → (is_among test k keys ≡ false → option_and_then read (found cmp es k) ≡ None)
      → option_and_then read (found cmp (fold (λ es key. altered cmp key change es) es keys) k) ≡ None
  each_none test same_as keys es k before = by (is_among test k keys) refl
    where
      by : (b : Bool) → is_among test k keys ≡ b
          → option_and_then read (found cmp (fold (λ es key. altered cmp key change es) es keys) k) ≡ None
      by true is = each_cleared cmp tells change read clears test same_as keys es k is
      by false is = none_stays cmp tells change read clears keys es k (before is)

-- .. of a thing in its place
placed_read : {V Y : Type 0} (read : V → Option Y) (o : Option (Option V))
    → option_and_then read (option_and_then (λ place. place) o) ≡ option_and_then (option_and_then read) o
placed_read read (Some place) = refl
placed_read read None = refl

-- ---- what is not listed

none_filtered : (p : Inst → Bool) (i : Inst) (xs : List Inst) → is_among same_inst i xs ≡ false
    → is_among same_inst i (filter p xs) ≡ false
none_filtered p i [] none = refl
none_filtered p i (x ∷ xs) none =
    let parts : (same_inst i x ≡ false) × (is_among same_inst i xs ≡ false) =
    or_parts (same_inst i x) (is_among same_inst i xs) none in
    by (p x) parts.0 (none_filtered p i xs parts.1)
  where
    by : (b : Bool) → same_inst i x ≡ false → is_among same_inst i (filter p xs) ≡ false
        → is_among same_inst i (if b then x ∷ filter p xs else filter p xs) ≡ false
    by true other more = (λ j. other j || is_among same_inst i (filter p xs)) ∙ more
    by false other more = more

none_changing : (i : Inst) (changed : List Inst) → is_among same_inst i changed ≡ false
    → change_place changed i ≡ None
none_changing i changed none =
    ap (both_places (place_of bytes_eq i.group (names_of changed)))
    (none_placed same_inst i (filter (λ it. bytes_eq it.group i.group) changed)
    (none_filtered (λ it. bytes_eq it.group i.group) i changed none))
    ∙ by (place_of bytes_eq i.group (names_of changed))
  where
    by : (o : Option ℕ) → both_places o None ≡ None
    by (Some group) = refl
    by None = refl

-- a deployment is another one or not
by_dep : {P : Type 0} (a b : Option (List ℕ)) → (a ≡ b → P) → ((a ≡ b → ⊥) → P) → P
by_dep None None same apart = same refl
by_dep None (Some d) same apart = apart never
  where
    never : None ≡ Some d → ⊥
    never is = cc
by_dep (Some d) None same apart = apart never
  where
    never : Some d ≡ None → ⊥
    never is = cc
by_dep {P} (Some a) (Some b) same apart = by (bytes_eq a b) refl
  where
    other : bytes_eq a b ≡ false → Some a ≡ Some b → ⊥
    other is both = let e : a ≡ b = cc in true≢false (sym ((bytes_eq-Decides a b).1 e) ∙ is)

    by : (c : Bool) → bytes_eq a b ≡ c → P
    by true is = same (ap Some (bytes_is a b is))
    by false is = apart (other is)

-- the places that are told are those at which open tasks list their owners
pub record AreListed (it : Recorded) : Type 0 where
  pub pings : (t : ℕ) (w : Work) (i : Inst) → work_of it t ≡ Some w → dep_of it t ≡ Some i.dep →
      (part_of it i).ping ≡ place_of same_inst i w.pings.items
  pub leaving : (t : ℕ) (w : Work) (i : Inst) → work_of it t ≡ Some w → dep_of it t ≡ Some i.dep →
      (part_of it i).leaving ≡ place_of same_inst i w.obsolete.items
  pub changes : (t : ℕ) (w : Work) (i : Inst) → work_of it t ≡ Some w → dep_of it t ≡ Some i.dep →
      (part_of it i).change ≡ change_place w.changed i
  pub sweeps : (t : ℕ) (w : Work) (name : MachineName) (machine : Machine) → work_of it t ≡ Some w →
      machine_of it name ≡ Some machine → dep_of it t ≡ Some machine.row.dep →
      machine.sweep ≡ place_of same_machine name w.sweep.items
  pub deletions : (t : ℕ) (w : Work) (d : ℕ) (loose : LooseDisk) → work_of it t ≡ Some w →
      orphan_of it d ≡ Some loose → dep_of it t ≡ None → loose.deleting ≡ place_of eqb d w.disks.items

pub are_listed : (it : Recorded) → IsLinked it → AreListed it
are_listed it linked = record {
  pings = linked.pings;
  leaving = linked.leaving;
  changes = linked.changes;
  sweeps = linked.sweeps;
  deletions = linked.deletions;
}

-- a task has ended, as it is told and as it is recorded
module _ (t : ℕ) (end planned : TaskEnd) (told : Told) (it : Recorded) (once : IsOnce nat_cmp it.works)
    (listed : AreListed it) (fits : Fits told it) where
  abbrev k : Known
  k = told.known

  -- what is told once the task has ended
  abbrev new : Told
  new = told_ended t end told

  -- what is recorded then
  abbrev closed : Recorded
  closed = closed_task t planned it

  -- ---- tasks

  -- a task is open, where it may be the one that ends
  abbrev going_with : ℕ → Bool → Bool
  going_with x b = nat_le 1 x && (nat_le x k.tasks && not (is_some
      (if b then record (k.task t) { end = Some end } else k.task x).end))

  -- a task that has ended has ended
  still_ended : (x : ℕ) → is_going k x ≡ false → is_going new.known x ≡ false
  still_ended x was = by (eqb t x)
    where
      none : (a b : Bool) → (a && (b && false)) ≡ false
      none true true = refl
      none true false = refl
      none false b = refl

      by : (b : Bool) → going_with x b ≡ false
      by true = none (nat_le 1 x) (nat_le x k.tasks)
      by false = was

  dep_same : (x : ℕ) → dep_of closed x ≡ dep_of it x
  dep_same x =
      ap (option_and_then (λ (row : TaskRow). row.dep)) (thing_changed nat_cmp nat_keys t (with_end planned) it.tasks x)
      ∙ by (is_at (nat_cmp t) x) (task_of it x)
    where
      by : (b : Bool) (o : Option TaskRow)
          → option_and_then (λ (row : TaskRow). row.dep) (if b then option_map (with_end planned) o else o)
          ≡ option_and_then (λ (row : TaskRow). row.dep) o
      by true (Some row) = refl
      by true None = refl
      by false o = refl

  -- ---- works

  work_is : (x : ℕ) → work_of closed x ≡ (if eqb t x then None else work_of it x)
  work_is x =
      ap (option_and_then (λ place. place)) (found_without nat_cmp nat_keys t it.works once x)
      ∙ (λ j. option_and_then (λ place. place) (if nat_at t x j then None else found nat_cmp it.works x))
      ∙ by (eqb t x)
    where
      by : (b : Bool) → option_and_then (λ (place : Option Work). place) (if b then None else found nat_cmp it.works x)
          ≡ (if b then None else work_of it x)
      by true = refl
      by false = refl

  was_work : (x : ℕ) (w : Work) → work_of closed x ≡ Some w → work_of it x ≡ Some w
  was_work x w is = by (eqb t x) (sym (work_is x) ∙ is)
    where
      by : (b : Bool) → (if b then None else work_of it x) ≡ Some w → work_of it x ≡ Some w
      by true is = absurd cc
      by false is = is

  -- where nobody works on a deployment, and the task was of another one, nobody did
  had_none : (dep : Option (List ℕ)) → HasNoWork closed dep
      → ((w : Work) → work_of it t ≡ Some w → dep_of it t ≡ dep → ⊥) → HasNoWork it dep
  had_none dep none apart x w is same = by (eqb t x) refl
    where
      by : (b : Bool) → eqb t x ≡ b → ⊥
      by true own =
          apart w (ap (work_of it) (eqb-true t x own) ∙ is) (ap (dep_of it) (eqb-true t x own) ∙ same)
      by false other =
          none x w (work_is x ∙ (λ j. if other j then None else work_of it x) ∙ is) (dep_same x ∙ same)

  -- .. as where it has no work
  no_work : (dep : Option (List ℕ)) → work_of it t ≡ None → (w : Work) → work_of it t ≡ Some w → dep_of it t ≡ dep → ⊥
  no_work dep none w is same = let e : None ≡ Some w = sym none ∙ is in cc

  -- ---- instances

  -- what the task does not list has no place
  pub record NoPlaces (w : Work) (i : Inst) : Type 0 where
    pub ping : is_among same_inst i w.pings.items ≡ false → (part_of it i).ping ≡ None
    pub leaving : is_among same_inst i w.obsolete.items ≡ false → (part_of it i).leaving ≡ None
    pub change : is_among same_inst i w.changed ≡ false → (part_of it i).change ≡ None

  no_places : (w : Work) (i : Inst) → work_of it t ≡ Some w → HasNoWork closed (Some i.dep) → NoPlaces w i
  no_places w i is none = by_dep (dep_of it t) (Some i.dep)
      (λ dep. record {
        ping = λ away. listed.pings t w i is dep ∙ none_placed same_inst i w.pings.items away;
        leaving = λ away. listed.leaving t w i is dep ∙ none_placed same_inst i w.obsolete.items away;
        change = λ away. listed.changes t w i is dep ∙ none_changing i w.changed away;
      })
      (λ apart. let part : part_of it i ≡ no_part =
      fits.parts i (had_none (Some i.dep) none (λ w is same. apart same)) in
      record {
        ping = λ away. ap (λ (part : Part). part.ping) part;
        leaving = λ away. ap (λ (part : Part). part.leaving) part;
        change = λ away. ap (λ (part : Part). part.change) part;
      })

  -- a part of what is known of an instance
  read_part : {Y : Type 0} (read : Part → Option Y) → read no_part ≡ None → (o : Option Instance)
      → option_and_then (λ known. read known.part) o ≡ read (option_map_or (λ known. known.part) o no_part)
  read_part read none (Some known) = refl
  read_part read none None = sym none

  module _ (w : Work) (i : Inst) (places : NoPlaces w i) where
    -- what is known of the instance then
    abbrev now : Option Instance
    now = found inst_cmp (cleared (Some w) it).instances i

    ping_none : option_and_then (λ known. known.part.ping) now ≡ None
    ping_none =
        each_kept inst_cmp inst_keys (with_change None) (λ known. known.part.ping) (λ known. refl) w.changed _ i
        ∙ each_kept inst_cmp inst_keys (with_leaving None) (λ known. known.part.ping) (λ known. refl) w.obsolete.items _ i
        ∙ each_none inst_cmp inst_keys (with_ping None) (λ known. known.part.ping) (λ known. refl) same_inst inst_as
        w.pings.items it.instances i
        (λ away. read_part (λ part. part.ping) refl (instance_of it i) ∙ places.ping away)

    leaving_none : option_and_then (λ known. known.part.leaving) now ≡ None
    leaving_none =
        each_kept inst_cmp inst_keys (with_change None) (λ known. known.part.leaving) (λ known. refl) w.changed _ i
        ∙ each_none inst_cmp inst_keys (with_leaving None) (λ known. known.part.leaving) (λ known. refl) same_inst inst_as
        w.obsolete.items _ i
        (λ away.
        each_kept inst_cmp inst_keys (with_ping None) (λ known. known.part.leaving) (λ known. refl) w.pings.items
        it.instances i
        ∙ read_part (λ part. part.leaving) refl (instance_of it i) ∙ places.leaving away)

    change_none : option_and_then (λ known. known.part.change) now ≡ None
    change_none =
        each_none inst_cmp inst_keys (with_change None) (λ known. known.part.change) (λ known. refl) same_inst inst_as
        w.changed _ i
        (λ away.
        each_kept inst_cmp inst_keys (with_leaving None) (λ known. known.part.change) (λ known. refl) w.obsolete.items _ i
        ∙ each_kept inst_cmp inst_keys (with_ping None) (λ known. known.part.change) (λ known. refl) w.pings.items
        it.instances i
        ∙ read_part (λ part. part.change) refl (instance_of it i) ∙ places.change away)

    none_left : option_map_or (λ known. known.part) now no_part ≡ no_part
    none_left = by now ping_none leaving_none change_none
      where
        by : (o : Option Instance) → option_and_then (λ known. known.part.ping) o ≡ None
            → option_and_then (λ known. known.part.leaving) o ≡ None
            → option_and_then (λ known. known.part.change) o ≡ None
            → option_map_or (λ known. known.part) o no_part ≡ no_part
        by (Some known) ping leaving change =
            λ j. record { ping = ping j; leaving = leaving j; change = change j }
        by None ping leaving change = refl

  parts_fit : (i : Inst) → HasNoWork closed (Some i.dep) → part_of closed i ≡ no_part
  parts_fit i none = by (work_of it t) refl
    where
      by : (o : Option Work) → work_of it t ≡ o
          → option_map_or (λ known. known.part) (found inst_cmp (cleared o it).instances i) no_part ≡ no_part
      by None is = fits.parts i (had_none (Some i.dep) none (no_work (Some i.dep) is))
      by (Some w) is = none_left w i (no_places w i is none)

  -- ---- compile machines

  machine_as : (a b : MachineName) → is_at (machine_cmp a) b ≡ same_machine b a
  machine_as a b = machine_at a b ∙ (λ j. eqb_flip a.task b.task j && eqb_flip a.slot b.slot j)

  -- the place of a machine among those that are swept
  abbrev sweep_of : Option Machine → Option ℕ
  sweep_of place = option_and_then (λ machine. machine.sweep) place

  module _ (w : Work) (is : work_of it t ≡ Some w) (name : MachineName) where
    -- what is recorded of the machine then
    abbrev swept_now : Option Machine
    swept_now = thing_in machine_cmp (cleared (Some w) it).machines name

    row_kept : option_and_then (λ machine. Some machine.row) swept_now
        ≡ option_and_then (λ machine. Some machine.row) (machine_of it name)
    row_kept =
        placed_read (λ machine. Some machine.row) (found machine_cmp (cleared (Some w) it).machines name)
        ∙ each_kept machine_cmp machine_keys (option_map (with_sweep None))
        (option_and_then (λ machine. Some machine.row)) same w.sweep.items it.machines name
        ∙ sym (placed_read (λ machine. Some machine.row) (found machine_cmp it.machines name))
      where
        same : (place : Option Machine) → option_and_then (λ machine. Some machine.row) (option_map (with_sweep None) place)
            ≡ option_and_then (λ machine. Some machine.row) place
        same (Some machine) = refl
        same None = refl

    sweep_none : (old : Machine) → machine_of it name ≡ Some old
        → (is_among same_machine name w.sweep.items ≡ false → old.sweep ≡ None) → sweep_of swept_now ≡ None
    sweep_none old there before =
        placed_read (λ machine. machine.sweep) (found machine_cmp (cleared (Some w) it).machines name)
        ∙ each_none machine_cmp machine_keys (option_map (with_sweep None)) sweep_of clears same_machine machine_as
        w.sweep.items it.machines name
        (λ away. sym (placed_read (λ machine. machine.sweep) (found machine_cmp it.machines name))
        ∙ ap sweep_of there ∙ before away)
      where
        clears : (place : Option Machine) → sweep_of (option_map (with_sweep None) place) ≡ None
        clears (Some machine) = refl
        clears None = refl

    unswept : (old : Machine) → machine_of it name ≡ Some old → HasNoWork closed (Some old.row.dep)
        → is_among same_machine name w.sweep.items ≡ false → old.sweep ≡ None
    unswept old there none away = by_dep (dep_of it t) (Some old.row.dep)
        (λ dep. listed.sweeps t w name old is there dep ∙ none_placed same_machine name w.sweep.items away)
        (λ apart. fits.sweeps name old there (had_none (Some old.row.dep) none (λ w is same. apart same)))

    sweep_fits : (machine : Machine) → swept_now ≡ Some machine → HasNoWork closed (Some machine.row.dep)
        → machine.sweep ≡ None
    sweep_fits machine there none =
        by (machine_of it name) refl (sym row_kept ∙ ap (option_and_then (λ machine. Some machine.row)) there)
      where
        by : (o : Option Machine) → machine_of it name ≡ o
            → option_and_then (λ machine. Some machine.row) o ≡ Some machine.row → machine.sweep ≡ None
        by None was row = absurd cc
        by (Some old) was row =
            let same : old.row ≡ machine.row = cc in
            sym (ap sweep_of there)
            ∙ sweep_none old was
            (unswept old was (subst (λ (row : CompileRow). HasNoWork closed (Some row.dep)) (sym same) none))

  sweeps_fit : (name : MachineName) (machine : Machine) → machine_of closed name ≡ Some machine
      → HasNoWork closed (Some machine.row.dep) → machine.sweep ≡ None
  sweeps_fit name machine there none = by (work_of it t) refl there
    where
      by : (o : Option Work) → work_of it t ≡ o → thing_in machine_cmp (cleared o it).machines name ≡ Some machine
          → machine.sweep ≡ None
      by None is there =
          fits.sweeps name machine there
          (had_none (Some machine.row.dep) none (no_work (Some machine.row.dep) is))
      by (Some w) is there = sweep_fits w is name machine there none

  -- ---- disks

  nat_as : (a b : ℕ) → is_at (nat_cmp a) b ≡ eqb b a
  nat_as a b = nat_at a b ∙ eqb_flip a b

  -- the place of a disk among those that are deleted
  abbrev deleting_of : Option LooseDisk → Option ℕ
  deleting_of place = option_and_then (λ loose. loose.deleting) place

  module _ (w : Work) (is : work_of it t ≡ Some w) (d : ℕ) (none : HasNoWork closed None) where
    -- what is recorded of the disk then
    abbrev loose_now : Option LooseDisk
    loose_now = thing_in nat_cmp (cleared (Some w) it).orphans d

    undeleted : (old : LooseDisk) → orphan_of it d ≡ Some old → is_among eqb d w.disks.items ≡ false
        → old.deleting ≡ None
    undeleted old there away = by_dep (dep_of it t) None
        (λ dep. listed.deletions t w d old is there dep ∙ none_placed eqb d w.disks.items away)
        (λ apart. fits.deletions d old there (had_none None none (λ w is same. apart same)))

    deleting_none : deleting_of loose_now ≡ None
    deleting_none =
        placed_read (λ loose. loose.deleting) (found nat_cmp (cleared (Some w) it).orphans d)
        ∙ each_none nat_cmp nat_keys (option_map (with_deleting None)) deleting_of clears eqb nat_as
        w.disks.items it.orphans d
        (λ away. sym (placed_read (λ loose. loose.deleting) (found nat_cmp it.orphans d))
        ∙ by (orphan_of it d) refl away)
      where
        clears : (place : Option LooseDisk) → deleting_of (option_map (with_deleting None) place) ≡ None
        clears (Some loose) = refl
        clears None = refl

        by : (o : Option LooseDisk) → orphan_of it d ≡ o → is_among eqb d w.disks.items ≡ false → deleting_of o ≡ None
        by None was away = refl
        by (Some old) was away = undeleted old was away

  deletions_fit : (d : ℕ) (loose : LooseDisk) → orphan_of closed d ≡ Some loose → HasNoWork closed None
      → loose.deleting ≡ None
  deletions_fit d loose there none = by (work_of it t) refl there
    where
      by : (o : Option Work) → work_of it t ≡ o → thing_in nat_cmp (cleared o it).orphans d ≡ Some loose
          → loose.deleting ≡ None
      by None is there = fits.deletions d loose there (had_none None none (no_work None is))
      by (Some w) is there = sym (ap deleting_of there) ∙ deleting_none w is d none

  -- ---- all

  same_deployments : (o : Option Work) → (cleared o it).deployments ≡ it.deployments
  same_deployments None = refl
  same_deployments (Some work) = refl

  sweeps_ended : (x : ℕ) (name : MachineName) → SweepsEnded told x name → SweepsEnded new x name
  sweeps_ended x name (before, was) = (before, still_ended name.task was)

  pub closed_fits : Fits (told_ended t end told) (closed_task t planned it)
  closed_fits = record {
    swept = λ x w name is among. sweeps_ended x name (fits.swept x w name (was_work x w is) among);
    parts = parts_fit;
    sweeps = sweeps_fit;
    deletions = deletions_fit;
    since = λ since row is. fits.since since row
        (sym (ap (λ (rows : List (Since × Option DepRow)). thing_in since_cmp rows since)
        (same_deployments (work_of it t))) ∙ is);
  }
