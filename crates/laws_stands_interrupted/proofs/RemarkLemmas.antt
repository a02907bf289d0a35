-- The work of a task whose calls are open no more: the same is listed and left, and what is free is marked anew.
use Rattle.std.proofs.Common.{◌≡◌, ◌∙◌, ℕ, Bool, true, false, ◌&&◌, not, List, [], ◌∷◌, map, Option, Some, None}
use Rattle.std.proofs.Common.{ap, refl, sym}
use Rattle.std.specs.Prelude.{cond, count_by, is_some}
use Rattle.std.specs.BTreeMap.{is_at}
use Rattle.std.specs.Map.{lookup, remove_entry, set_value}
use Rattle.std.specs.Option.{option_map_or}
use Rattle.std.specs.declared.cmp.Ordering.{Ordering}
use Rattle.bosh_base.specs.Cloud.{numbers_to}
use Rattle.bosh_base.specs.declared.inst.Inst.{Inst}
use Rattle.bosh_base.specs.declared.owner.Owner.TheVariants.{Compile, Disk}
use Rattle.bosh_history.specs.Goals.{changed_in}
use Rattle.bosh_history.specs.Known.{Known, Task}
use Rattle.bosh_records.specs.Table.{altered, without}
use Rattle.bosh_roll.specs.Upd.{is_busy}
use Rattle.bosh_work.specs.declared.groups.GroupWork.{GroupWork}
use Rattle.bosh_work.specs.declared.line.Line.{Line}
use Rattle.bosh_work.specs.declared.part.MachineName.{MachineName}
use Rattle.bosh_work.specs.declared.work.Work.{Work}
use Rattle.laws_stands.specs.GroupsStand.{EachStands, names_of}
use Rattle.laws_stands.specs.LineStands.{LineStands}
use Rattle.laws_stands.specs.Told.{Told, idle_in, is_idle}
use Rattle.laws_stands.specs.WorkStands.{StandsFor, is_task_call}
use Rattle.laws_stands_interrupted.specs.Interrupts.{told_without}

-- marks of a line by who is idle
abbrev marked_line : {T : Type 0} → (T → Bool) → (T → Bool) → Line T → Line T
marked_line left idle line = record {
  items = line.items;
  queue = record { left = line.queue.left; free = map (λ x. left x && idle x) line.items };
}

marked_stands : {T : Type 0} (items : List T) (left idle other : T → Bool) (line : Line T)
    → LineStands items left idle line → LineStands items left other (marked_line left other line)
marked_stands items left idle other line stands = record {
  items_are = stands.items_are;
  left_are = stands.left_are;
  free_are = ap (map (λ x. left x && other x)) stands.items_are;
}

-- .. of groups
abbrev marked_groups : Task → (Inst → Bool) → List (List ℕ) → List GroupWork → List GroupWork
marked_groups t idle (group ∷ names) (it ∷ groups) =
    record it { roll = record it.roll { idle = map (λ i. is_busy (t.upd i) && idle i) (changed_in t group) } }
    ∷ marked_groups t idle names groups
marked_groups t idle names groups = []

groups_marked : (t : Task) (idle other : Inst → Bool) (names : List (List ℕ)) (groups : List GroupWork)
    → EachStands t idle names groups → EachStands t other names (marked_groups t other names groups)
groups_marked t idle other [] [] each = tt
groups_marked t idle other (group ∷ names) (it ∷ groups) (here, more) = (
  record {
    stage_is = here.stage_is;
    canaries_are = here.canaries_are;
    limit_is = here.limit_is;
    places_are = here.places_are;
    waiting_are = here.waiting_are;
    busy_are = here.busy_are;
    idle_are = refl;
  },
  groups_marked t idle other names groups more,
)
groups_marked t idle other [] (it ∷ groups) each = absurd each
groups_marked t idle other (group ∷ names) [] each = absurd each

module _ (t : ℕ) (told : Told) where
  abbrev k : Known
  k = told.known

  -- what is told once no call of the task is open
  abbrev new : Told
  new = told_without t told

  -- the work, with what is free and how many calls are open by what is told now
  abbrev pub marked : Work → Work
  marked work = record work {
    pings = marked_line (λ i. not ((k.task t).pinged i)) (idle_in new) work.pings;
    obsolete = marked_line (λ i. not ((k.task t).gone i)) (idle_in new) work.obsolete;
    disks = marked_line (λ d. is_some (k.orphan d)) (λ d. is_idle new (Disk d)) work.disks;
    sweep = marked_line (λ name. is_some (k.slot name.task name.slot))
        (λ name. is_idle new (Compile name.task name.slot)) work.sweep;
    groups = marked_groups (k.task t) (idle_in new) (names_of (k.task t).changed) work.groups;
    «open» = count_by (is_task_call new t) (numbers_to k.last_call);
  }

  -- it stands then
  pub marked_work : (swept : List MachineName) (work : Work) → StandsFor told (k.task t) t swept work
      → StandsFor new (k.task t) t swept (marked work)
  marked_work swept work stands = record {
    task_is = stands.task_is;
    pings = marked_stands (k.task t).to_ping (λ i. not ((k.task t).pinged i)) (idle_in told) (idle_in new) work.pings
        stands.pings;
    obsolete = marked_stands (k.task t).obsolete (λ i. not ((k.task t).gone i)) (idle_in told) (idle_in new)
        work.obsolete stands.obsolete;
    disks = marked_stands (k.task t).disks (λ d. is_some (k.orphan d)) (λ d. is_idle told (Disk d))
        (λ d. is_idle new (Disk d)) work.disks stands.disks;
    sweep = marked_stands swept (λ name. is_some (k.slot name.task name.slot))
        (λ name. is_idle told (Compile name.task name.slot)) (λ name. is_idle new (Compile name.task name.slot))
        work.sweep stands.sweep;
    keys = record {
      items_are = (stands.keys).items_are;
      left_are = (stands.keys).left_are;
      free_are = (stands.keys).free_are;
    };
    slots_are = stands.slots_are;
    machines_are = stands.machines_are;
    changed_are = stands.changed_are;
    groups_stand = groups_marked (k.task t) (idle_in told) (idle_in new) (names_of (k.task t).changed) work.groups
        stands.groups_stand;
    failed_is = stands.failed_is;
    open_are = refl;
  }

-- what changed at a key that goes makes no difference
pub gone_same : {K X : Type 0} (cmp : K → K → Ordering) (key : K) (change : X → X) (es : List (K × X))
    → without cmp key (altered cmp key change es) ≡ without cmp key es
gone_same {K} {X} cmp key change es = by (lookup (is_at (cmp key)) es)
  where
    set_gone : (value : X) (es : List (K × X))
        → remove_entry (is_at (cmp key)) (set_value (is_at (cmp key)) es value) ≡ remove_entry (is_at (cmp key)) es
    set_gone value [] = refl
    set_gone value (e ∷ es) = first (is_at (cmp key) e.0) refl (set_gone value es)
      where
        first : (b : Bool) → is_at (cmp key) e.0 ≡ b
            → remove_entry (is_at (cmp key)) (set_value (is_at (cmp key)) es value) ≡ remove_entry (is_at (cmp key)) es
            → remove_entry (is_at (cmp key)) (set_value (is_at (cmp key)) (e ∷ es) value)
            ≡ remove_entry (is_at (cmp key)) (e ∷ es)
        first true here more =
            (λ j. remove_entry (is_at (cmp key)) (cond (here j) ((e.0, value) ∷ es)
            (e ∷ set_value (is_at (cmp key)) es value)))
            ∙ (λ j. cond (here j) es ((e.0, value) ∷ remove_entry (is_at (cmp key)) es))
            ∙ (λ j. cond (sym here j) es (e ∷ remove_entry (is_at (cmp key)) es))
        first false away more =
            (λ j. remove_entry (is_at (cmp key)) (cond (away j) ((e.0, value) ∷ es)
            (e ∷ set_value (is_at (cmp key)) es value)))
            ∙ (λ j. cond (away j) (set_value (is_at (cmp key)) es value)
            (e ∷ remove_entry (is_at (cmp key)) (set_value (is_at (cmp key)) es value)))
            ∙ ap (λ es. e ∷ es) more ∙ (λ j. cond (sym away j) es (e ∷ remove_entry (is_at (cmp key)) es))

    by : (o : Option X) → remove_entry (is_at (cmp key))
        (option_map_or (λ it. set_value (is_at (cmp key)) es (change it)) o es) ≡ remove_entry (is_at (cmp key)) es
    by (Some it) = set_gone (change it) es
    by None = refl
