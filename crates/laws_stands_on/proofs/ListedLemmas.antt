-- The work of a task goes on to stand where nothing is told anew of what it lists.
use Rattle.std.proofs.Common.{◌≡◌, ◌∙◌, ℕ, zero, suc, Bool, true, false, ◌&&◌, not, List, [], ◌∷◌, map, filter}
use Rattle.std.proofs.Common.{◌==◌, Some, ap, refl, sym}
use Rattle.std.specs.Prelude.{count_by, is_some, slice_get, if◌then◌else◌}
use Rattle.std.specs.List.{list_all, list_any}
use Rattle.std.specs.Option.{option_map}
use Rattle.std.specs.Str.{bytes_eq}
use Rattle.bosh_base.specs.Cloud.{numbers_to}
use Rattle.bosh_base.specs.declared.inst.Inst.{Inst}
use Rattle.bosh_base.specs.declared.key.Key.{Key}
use Rattle.bosh_base.specs.declared.entry.Begin.{Begin}
use Rattle.bosh_base.specs.declared.owner.Owner.{Owner}
use Rattle.bosh_base.specs.declared.owner.Owner.TheVariants.{Compile, Disk, Instance}
use Rattle.bosh_history.specs.Goals.{changed_in}
use Rattle.bosh_history.specs.Calls.{number_of}
use Rattle.bosh_history.specs.Known.{Known, SlotName, Task}
use Rattle.bosh_history.specs.Slots.{is_compiled, works_for}
use Rattle.bosh_history.specs.Tasks.{end_by}
use Rattle.bosh_history.specs.Words.{holds}
use Rattle.bosh_rows.specs.Same.{same_owner}
use Rattle.bosh_roll.specs.Upd.{is_busy}
use Rattle.bosh_work.specs.declared.groups.GroupWork.{GroupWork}
use Rattle.bosh_work.specs.declared.line.Line.{Line}
use Rattle.bosh_work.specs.declared.part.MachineName.{MachineName}
use Rattle.bosh_work.specs.declared.work.Work.{Work}
use Rattle.laws_stands.specs.GroupsStand.{EachStands, GroupStands, names_of}
use Rattle.laws_stands.specs.LineStands.{LineStands}
use Rattle.laws_stands.specs.Told.{Told, idle_in, is_idle}
use Rattle.laws_stands.specs.WorkStands.{StandsFor, end_of, is_task_call, is_worked_for, keys_in}

-- items of a list with the same marks
marks_at : {T : Type 0} (f g : T → Bool) (xs : List T) → ((j : ℕ) (x : T) → slice_get xs j ≡ Some x → f x ≡ g x)
    → map f xs ≡ map g xs
marks_at f g [] same = refl
marks_at f g (x ∷ xs) same = λ i. same 0 x refl i ∷ marks_at f g xs (λ j y is. same (suc j) y is) i

pub line_on : {T : Type 0} (items : List T) (left idle left' idle' : T → Bool) (line : Line T)
    → ((j : ℕ) (x : T) → slice_get items j ≡ Some x → left' x ≡ left x)
    → ((j : ℕ) (x : T) → slice_get items j ≡ Some x → idle' x ≡ idle x)
    → LineStands items left idle line → LineStands items left' idle' line
line_on items left idle left' idle' line same_left same_idle stands = record {
  items_are = stands.items_are;
  left_are = stands.left_are ∙ sym (marks_at left' left items same_left);
  free_are = stands.free_are
      ∙ sym (marks_at (λ x. left' x && idle' x) (λ x. left x && idle x) items (λ j x is. λ i. same_left j x is i
      && same_idle j x is i));
}

-- an item of a filtered list is one of the list
from_filtered : (p : Inst → Bool) (xs : List Inst) (j : ℕ) (x : Inst) → slice_get (filter p xs) j ≡ Some x → (q : ℕ)
    × (slice_get xs q ≡ Some x)
from_filtered p [] j x is = absurd cc
from_filtered p (y ∷ xs) j x is = by (p y) j is (λ j is. from_filtered p xs j x is)
  where
    by : (b : Bool) (j : ℕ) → slice_get (if b then y ∷ filter p xs else filter p xs) j ≡ Some x
        → ((j : ℕ) → slice_get (filter p xs) j ≡ Some x → (q : ℕ) × (slice_get xs q ≡ Some x)) → (q : ℕ)
        × (slice_get (y ∷ xs) q ≡ Some x)
    by true zero is more = (0, is)
    by true (suc j) is more = let r : (q : ℕ) × (slice_get xs q ≡ Some x) = more j is in (suc r.0, r.1)
    by false j is more = let r : (q : ℕ) × (slice_get xs q ≡ Some x) = more j is in (suc r.0, r.1)

module _ (t : Task) (idle idle' : Inst → Bool) (same : (j : ℕ) (i : Inst) → slice_get t.changed j ≡ Some i → idle' i
    ≡ idle i) where
  group_on : (group : List ℕ) (it : GroupWork) → GroupStands t idle group it → GroupStands t idle' group it
  group_on group it stands = record {
    stage_is = stands.stage_is;
    canaries_are = stands.canaries_are;
    limit_is = stands.limit_is;
    places_are = stands.places_are;
    waiting_are = stands.waiting_are;
    busy_are = stands.busy_are;
    idle_are = stands.idle_are
        ∙ sym (marks_at (λ i. is_busy (t.upd i) && idle' i) (λ i. is_busy (t.upd i) && idle i) (changed_in t group)
        (λ j i is. let at : (q : ℕ) × (slice_get t.changed q ≡ Some i) =
        from_filtered (λ i. bytes_eq i.group group) t.changed j i is in
        ap (λ b. is_busy (t.upd i) && b) (same at.0 i at.1)));
  }

  each_on : (names : List (List ℕ)) (groups : List GroupWork) → EachStands t idle names groups
      → EachStands t idle' names groups
  each_on [] [] each = tt
  each_on (group ∷ names) (it ∷ groups) (here, more) = (group_on group it here, each_on names groups more)
  each_on [] (it ∷ groups) each = absurd each
  each_on (group ∷ names) [] each = absurd each

-- what is told of what a task lists is as before
pub record SameListed (told new : Told) (t : Task) (n : ℕ) (swept : List MachineName) : Type 0 where
  pub pings : (j : ℕ) (i : Inst) → slice_get t.to_ping j ≡ Some i → idle_in new i ≡ idle_in told i
  pub obsolete : (j : ℕ) (i : Inst) → slice_get t.obsolete j ≡ Some i → idle_in new i ≡ idle_in told i
  pub changed : (j : ℕ) (i : Inst) → slice_get t.changed j ≡ Some i → idle_in new i ≡ idle_in told i
  pub disks : (j d : ℕ) → slice_get t.disks j ≡ Some d → is_idle new (Disk d) ≡ is_idle told (Disk d)
  pub orphans : (j d : ℕ) → slice_get t.disks j ≡ Some d → is_some (new.known.orphan d)
      ≡ is_some (told.known.orphan d)
  pub sweep : (j : ℕ) (name : MachineName) → slice_get swept j ≡ Some name →
      is_idle new (Compile name.task name.slot) ≡ is_idle told (Compile name.task name.slot)
  pub slots : (j : ℕ) (name : MachineName) → slice_get swept j ≡ Some name →
      is_some (new.known.slot name.task name.slot) ≡ is_some (told.known.slot name.task name.slot)
  pub compiled : (key : Key) → is_compiled new.known key ≡ is_compiled told.known key
  pub worked : (key : Key) → is_worked_for new.known n key ≡ is_worked_for told.known n key
  pub machines :
      count_by (λ (name : SlotName). name.task == n) new.known.machines
      ≡ count_by (λ (name : SlotName). name.task == n) told.known.machines
  pub failed : option_map (end_of new.known) t.failed ≡ option_map (end_of told.known) t.failed
  pub calls :
      count_by (is_task_call new n) (numbers_to new.known.last_call)
      ≡ count_by (is_task_call told n) (numbers_to told.known.last_call)

pub listed_goes_on : (told new : Told) (t : Task) (n : ℕ) (swept : List MachineName) (work : Work)
    → SameListed told new t n swept
    → StandsFor told t n swept work → StandsFor new t n swept work
listed_goes_on told new t n swept work same stands = record {
  task_is = stands.task_is;
  pings = line_on t.to_ping (λ i. not (t.pinged i)) (idle_in told) (λ i. not (t.pinged i)) (idle_in new) work.pings
      (λ j i is. refl) same.pings stands.pings;
  obsolete = line_on t.obsolete (λ i. not (t.gone i)) (idle_in told) (λ i. not (t.gone i))
      (idle_in new) work.obsolete (λ j i is. refl) same.obsolete stands.obsolete;
  disks =
      line_on t.disks (λ d. is_some (told.known.orphan d)) (λ d. is_idle told (Disk d))
      (λ d. is_some (new.known.orphan d)) (λ d. is_idle new (Disk d)) work.disks
      same.orphans same.disks stands.disks;
  sweep =
      line_on swept (λ name. is_some (told.known.slot name.task name.slot))
      (λ name. is_idle told (Compile name.task name.slot))
      (λ name. is_some (new.known.slot name.task name.slot)) (λ name. is_idle new (Compile name.task name.slot))
      work.sweep
      same.slots same.sweep stands.sweep;
  keys =
      line_on (keys_in t.goal) (λ key. not (is_compiled told.known key))
      (λ key. not (is_worked_for told.known n key))
      (λ key. not (is_compiled new.known key)) (λ key. not (is_worked_for new.known n key)) work.keys
      (λ j key is. ap not (same.compiled key)) (λ j key is. ap not (same.worked key)) stands.keys;
  slots_are = stands.slots_are;
  machines_are = stands.machines_are ∙ sym same.machines;
  changed_are = stands.changed_are;
  groups_stand = each_on t (idle_in told) (idle_in new) same.changed
      (names_of t.changed) work.groups stands.groups_stand;
  failed_is = stands.failed_is ∙ sym same.failed;
  open_are = stands.open_are ∙ sym same.calls;
}

-- .. where only what no task lists is told anew
pub untouched : (told : Told) (known : Known) → known.last_call ≡ told.known.last_call
    → known.orphan ≡ told.known.orphan → known.slot ≡ told.known.slot → known.digest ≡ told.known.digest
    → known.machines ≡ told.known.machines → known.begun ≡ told.known.begun → (t : Task) (n : ℕ)
    → (swept : List MachineName) → SameListed told (record told { known = known }) t n swept
untouched told known last orphan slot digest machines begun t n swept = record {
  pings = λ j i is. idles (Instance i);
  obsolete = λ j i is. idles (Instance i);
  changed = λ j i is. idles (Instance i);
  disks = λ j d is. idles (Disk d);
  orphans = λ j d is. ap (λ orphan. is_some (orphan d)) orphan;
  sweep = λ j name is. idles (Compile name.task name.slot);
  slots = λ j name is. ap (λ slot. is_some (slot name.task name.slot)) slot;
  compiled = λ key. ap (λ digest. is_some (digest key)) digest;
  worked = λ key l. list_any (λ (name : SlotName). name.task == n && works_for key (slot l n name.slot)) (machines l);
  machines = ap (count_by (λ (name : SlotName). name.task == n)) machines;
  failed = λ l. option_map (λ failure. end_by failure (begun l (number_of failure))) t.failed;
  calls = ap (λ last. count_by (is_task_call told n) (numbers_to last)) last;
}
  where
    idles : (owner : Owner) → is_idle (record told { known = known }) owner ≡ is_idle told owner
    idles owner = ap (λ last. list_all (λ c. not (holds (λ (b : Begin). same_owner owner b.owner) (told.calls c)))
        (numbers_to last)) last
