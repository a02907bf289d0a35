-- What is recorded once tasks were ended as interrupted, and none goes on, stands for a snapshot of what was told before.
use Rattle.std.proofs.Common.{◌≡◌, ◌∙◌, ◌<◌, ◌≤◌, ℕ, ◌+◌, Bool, true, false, ◌&&◌, not, List, [], ◌∷◌, Option, Some, None}
use Rattle.std.proofs.Common.{ap, arith, length, refl, subst, sym}
use Rattle.std.specs.Prelude.{eqb, filter, find, fold, if◌then◌else◌, is_some, nat_le}
use Rattle.std.specs.List.{filter_map, list_all}
use Rattle.std.specs.Option.{option_and_then, option_eq, option_map}
use Rattle.std.specs.Str.{bytes_eq}
use Rattle.std.specs.declared.cmp.Ordering.{Ordering}
use Rattle.std.specs.declared.cmp.Ordering.TheVariants.{Less}
use Rattle.std.proofs.lemmas.Bool.{and_parts, false≢true, le-leb, leb-true, true≢false}
use Rattle.bosh_base.specs.Cloud.{numbers_to}
use Rattle.bosh_base.specs.declared.digest.Digest.{Digest}
use Rattle.bosh_base.specs.declared.entry.Begin.{Begin}
use Rattle.bosh_base.specs.declared.entry.Entry.TheVariants as entries
use Rattle.bosh_base.specs.declared.inst.Inst.{Inst}
use Rattle.bosh_base.specs.declared.key.Key.{Key}
use Rattle.bosh_base.specs.declared.snapshot.BuiltKey.{BuiltKey}
use Rattle.bosh_base.specs.declared.snapshot.DepRow.{DepRow}
use Rattle.bosh_base.specs.declared.snapshot.Snapshot.{Snapshot}
use Rattle.bosh_base.specs.declared.task.TaskRow.{TaskRow}
use Rattle.bosh_compile.specs.Readiness.{same_key}
use Rattle.bosh_history.specs.Held.{is_open}
use Rattle.bosh_history.specs.Items.{is_finished}
use Rattle.bosh_history.specs.Goals.{is_waiting}
use Rattle.bosh_history.specs.Known.{Known, Slot, Task}
use Rattle.bosh_history.specs.Moments.{Moment}
use Rattle.bosh_history.specs.Snapshots as snapshots
use Rattle.bosh_history.specs.Snapshots.{dep_row, known_by, snapshot_of, task_row}
use Rattle.bosh_history.specs.Words.{is_among}
use Rattle.bosh_records.specs.Arrivals.{Arrivals}
use Rattle.bosh_records.specs.Changes.{since_cmp}
use Rattle.bosh_records.specs.Keys.{built_key}
use Rattle.bosh_records.specs.Recorded.{Recorded, recorded}
use Rattle.bosh_records.specs.Table.{things}
use Rattle.bosh_records.specs.declared.keys.KeyState.{KeyState}
use Rattle.bosh_records.specs.declared.machines.Machine.{Machine}
use Rattle.bosh_records.specs.declared.records.Records.{Records}
use Rattle.bosh_records.specs.declared.records.Since.TheVariants as sinces
use Rattle.bosh_roll.specs.Upd.{is_busy}
use Rattle.bosh_rows.specs.Same.{same_inst}
use Rattle.bosh_rows.specs.SoundSnapshot.{are_distinct}
use Rattle.bosh_rows.specs.Standing.{same_truth}
use Rattle.bosh_views.specs.Snapshot.{IsSnapshot}
use Rattle.bosh_work.specs.declared.part.MachineName.{MachineName}
use Rattle.bosh_work.specs.declared.work.Work.{Work}
use Rattle.laws_facts.specs.KnownFacts.{KnownFacts}
use Rattle.laws_row_facts.specs.Words.{where_any}
use Rattle.laws_runs.proofs.RestLemmas.{Outlasts, keyless}
use Rattle.laws_runs.proofs.SnapshotLemmas.{snapshot_outlasts, task_again}
use Rattle.laws_stands.specs.Agrees.{Agrees}
use Rattle.laws_stands.specs.Reading as reading
use Rattle.laws_stands.specs.Stands.{IsWork, StandsIn, arrivals_of, key_of_slot, key_place, row_of_slot}
use Rattle.laws_stands.specs.Told.{TellsWell, Told, is_going, telling}
use Rattle.laws_stands_fits.specs.Fits.{Fits}
use Rattle.laws_stands_fits.specs.Own.{TellsOwn}
use Rattle.laws_stands_fits.specs.Whole.{StandsWhole}
use Rattle.laws_recovery.proofs.EndedLemmas.{Stays, calls_after, ends_same, none_after, task_stays, tasks_after}
use Rattle.laws_recovery.proofs.EndedLemmas.{told_after, told_ended}
use Rattle.laws_recovery.proofs.OpenLemmas.{every}
use Rattle.laws_recovery.specs.Interrupted.{interruptions, open_at}
use Rattle.laws_stands_snapshots.proofs.AnewLemmas.{deployments_are, things_are}
use Rattle.laws_stands_snapshots.proofs.BuiltLemmas.{built_are}
use Rattle.laws_stands_snapshots.proofs.CanReadLemmas.{can_be_read}
use Rattle.laws_stands_snapshots.proofs.ReadLemmas.{snapshot_is}
use Rattle.laws_stands_snapshots.proofs.TellsLemmas.{own, well}
use Rattle.laws_stands_snapshots.specs.Built.{BuiltStand, built_in}
use Rattle.laws_stands_snapshots.specs.Readable.{IsReadable}

-- ---- what is told without open calls

-- where no task goes on, no call is told as open
none_open : (told : Told) → TellsWell told → ((t : ℕ) → is_going told.known t ≡ false) → told.calls ≡ (λ n. None)
none_open told well none = λ i n. by n (told.calls n) refl i
  where
    by : (n : ℕ) (call : Option Begin) → told.calls n ≡ call → told.calls n ≡ None
    by n None is = is
    by n (Some b) is = absurd (true≢false (sym (well.going n b is) ∙ none b.task))

-- ---- digests

-- what is compiled is listed with its digest
digest_listed : (it : Recorded) (k : Known) → ((key : Key) → reading.digest_of it key ≡ k.digest key) → BuiltStand k.built it
    → (key : Key) → option_map (λ (each : BuiltKey). each.digest) (find (λ each. same_key each.key key) k.built) ≡ k.digest key
digest_listed it k digests built key =
    ap (option_map (λ (each : BuiltKey). each.digest)) (sym (built.same key))
    ∙ by (reading.state_of it key)
    ∙ digests key
  where
    of : (state : KeyState) (digest : Option Digest)
        → option_map (λ (each : BuiltKey). each.digest) (option_map (built_key key state) digest) ≡ digest
    of state (Some digest) = refl
    of state None = refl

    by : (state : Option KeyState)
        → option_map (λ (each : BuiltKey). each.digest)
        (option_and_then (λ (state : KeyState). option_map (built_key key state) state.digest) state)
        ≡ option_and_then (λ (state : KeyState). state.digest) state
    by (Some state) = of state state.digest
    by None = refl

-- ---- the records

module _ (m : Moment) (facts : KnownFacts m) (tasks : List ℕ) (readable : IsReadable (snapshot_of m.known))
    (digests : (key : Key)
    → option_map (λ (each : BuiltKey). each.digest) (find (λ each. same_key each.key key) m.known.built) ≡ m.known.digest key)
    (snapped : ℕ) where
  abbrev k : Known
  k = m.known

  abbrev s : Snapshot
  s = snapshot_of k

  abbrev kept : Known
  kept = known_by s

  lasts : Outlasts k kept
  lasts = snapshot_outlasts m facts.lists

  abbrev one_task : ℕ → Task
  one_task = tasks_after tasks k.task

  abbrev other_task : ℕ → Task
  other_task = tasks_after tasks kept.task

  -- what is told by all entries and the ends
  abbrev one : Told
  one = record { known = record k { task = one_task }; calls = λ n. None; snapped = snapped }

  -- .. and by the snapshot and the ends
  abbrev other : Told
  other = record { known = record kept { task = other_task }; calls = λ n. None; snapped = length s.tasks }

  -- ---- tasks

  row_same : (t : ℕ) → nat_le 1 t ≡ true → nat_le t k.tasks ≡ true
      → task_row (record kept { task = other_task }) t ≡ task_row (record k { task = one_task }) t
  row_same t first within = λ i. record {
    task = t;
    kind = (stays.kind ∙ ap (λ (it : Task). it.kind) again ∙ sym was.kind) i;
    dep = (stays.dep ∙ ap (λ (it : Task). it.dep) again ∙ sym was.dep) i;
    end = (ends_same tasks kept.task k.task t (lasts.end t first within)) i;
    source = (stays.source ∙ ap (λ (it : Task). it.source) again ∙ sym was.source) i;
    calls = (stays.calls ∙ ap (λ (it : Task). it.calls) again ∙ sym was.calls) i;
  }
    where
      stays : Stays (kept.task t) (other_task t)
      stays = task_stays tasks kept.task t

      was : Stays (k.task t) (one_task t)
      was = task_stays tasks k.task t

      again : kept.task t ≡ snapshots.task s (task_row k t)
      again = task_again m facts.lists t first within

  going_same : (t : ℕ) → is_going one.known t ≡ false → is_going other.known t ≡ false
  going_same t none =
      (λ i. nat_le 1 t && (nat_le t (lasts.tasks i) && is_open other.known t))
      ∙ by (nat_le 1 t) refl (nat_le t k.tasks) refl none
    where
      by : (a : Bool) → nat_le 1 t ≡ a → (b : Bool) → nat_le t k.tasks ≡ b → (a && (b && is_open one.known t)) ≡ false
          → (a && (b && is_open other.known t)) ≡ false
      by true first true within none =
          ap (λ end. not (is_some end)) (ends_same tasks kept.task k.task t (lasts.end t first within)) ∙ none
      by true first false beyond none = refl
      by false none_first b is none = refl

  -- ---- compile machines

  blind : (t n : ℕ) (slot : Option Slot) → option_map (row_of_slot t n) slot
      ≡ option_map (row_of_slot t n) (option_map keyless slot)
  blind t n (Some it) = refl
  blind t n None = refl

  slot_same : (t n : ℕ) → option_map (row_of_slot t n) (k.slot t n) ≡ option_map (row_of_slot t n) (kept.slot t n)
  slot_same t n = blind t n (k.slot t n) ∙ ap (option_map (row_of_slot t n)) (sym (lasts.slot t n)) ∙ sym (blind t n (kept.slot t n))

  -- one of a task that is not opened is not there
  no_slot : (t n : ℕ) → length s.tasks < t → k.slot t n ≡ None
  no_slot t n beyond = by (k.slot t n) refl
    where
      past : k.tasks < t
      past = subst (λ (tasks : ℕ). tasks < t) lasts.tasks beyond

      by : (slot : Option Slot) → k.slot t n ≡ slot → slot ≡ None
      by None is = refl
      by (Some it) is =
          let (low, rest) = and_parts (nat_le 1 t) _ (sym (λ j. where_any (λ (it : Slot). nat_le 1 t
          && (nat_le t k.tasks && option_eq bytes_eq (Some it.dep) (k.task t).dep)) (is j)) ∙ facts.numbers.of_tasks t n) in
          let (high, own_dep) = and_parts (nat_le t k.tasks) _ rest in
          let within : t ≤ k.tasks = leb-true t k.tasks high in
          let far : k.tasks < t = past in
          absurd (omega arith)

  -- ---- it stands

  module _ (it : Recorded) (stands : StandsIn one it) (fits : Fits one it)
      (none : (t : ℕ) → is_going one.known t ≡ false) where
    no_work : (t : ℕ) (work : Option Work) → IsWork one t work → work ≡ None
    no_work t None is = refl
    no_work t (Some work) is = absurd (false≢true (sym (none t) ∙ is.0))

    machine_key : (name : MachineName) → length s.tasks < name.task
        → option_and_then (λ (machine : Machine). machine.key) (reading.machine_of it name) ≡ None
    machine_key name beyond = by (reading.machine_of it name)
        (stands.machines name ∙ ap (option_map (row_of_slot name.task name.slot)) (no_slot name.task name.slot beyond))
      where
        by : (machine : Option Machine) → option_map (λ (machine : Machine). machine.row) machine ≡ None
            → option_and_then (λ (machine : Machine). machine.key) machine ≡ None
        by None is = refl
        by (Some machine) is = absurd (let no = is in cc)

    tells : TellsWell other
    tells = record {
      number = λ n b is. absurd (let no = is in cc);
      low = λ n b is. absurd (let no = is in cc);
      past = λ n b is. absurd (let no = is in cc);
      begun = λ n b is. absurd (let no = is in cc);
      begun_past = was.begun_past;
      failed = λ t failure is. was.failed t failure (sym (stays t).failed ∙ is);
      going = λ n b is. absurd (let no = is in cc);
      one_owner = λ c d b e is also same. absurd (let no = is in cc);
      one_key = λ c d b e key is also same again. absurd (let no = is in cc);
      recorded = λ n b i is own_call. absurd (let no = is in cc);
      counted = λ t c is. was.counted t c (sym (stays t).calls ∙ is);
      disks_apart = λ t. ap (are_distinct eqb) (stays t).disks ∙ was.disks_apart t;
      updates = λ t i.
          ap (λ upd. is_finished (upd i)) (stays t).upd ∙ was.updates t i
          ∙ sym (ap (λ upd. not (is_waiting (upd i)) && not (is_busy (upd i))) (stays t).upd);
    }
      where
        was : TellsWell (telling one (entries.Snapshot s))
        was = well one s readable

        stays : (t : ℕ) → Stays (kept.task t) (other_task t)
        stays = task_stays tasks kept.task

    stands_so : StandsIn other it
    stands_so = record {
      uploads = stands.uploads ∙ (λ i. record (arrivals_of k) { opened = sym lasts.tasks i });
      deployments = stands.deployments ∙ sym (things_are s readable) ∙ deployments_are s readable;
      rows = λ i. stands.rows i
          ∙ (λ j. if is_among same_inst i (sym lasts.instances j) then Some (sym (lasts.row i) j) else None);
      row_calls = stands.row_calls;
      machines = λ name. stands.machines name ∙ slot_same name.task name.slot;
      machine_keys = λ name beyond. machine_key name beyond ∙ unkeyed name beyond;
      machine_calls = stands.machine_calls;
      orphans = λ d. stands.orphans d ∙ sym (lasts.orphan d);
      orphan_calls = stands.orphan_calls;
      digests = λ key. stands.digests key ∙ sym (digests key);
      compiling = stands.compiling;
      tasks = λ t. stands.tasks t ∙ told_row t;
      calls = stands.calls;
      works = λ t. idle t (reading.work_of it t) (stands.works t);
      linked = stands.linked;
      ordered = stands.ordered;
      tells_well = tells;
    }
      where
        unkeyed : (name : MachineName) → length s.tasks < name.task → None ≡ key_place other.known name.task
            (key_of_slot (kept.slot name.task name.slot))
        unkeyed name beyond = by (kept.slot name.task name.slot)
            (lasts.slot name.task name.slot ∙ ap (option_map keyless) (no_slot name.task name.slot beyond))
          where
            by : (slot : Option Slot) → option_map keyless slot ≡ None
                → None ≡ key_place other.known name.task (key_of_slot slot)
            by None is = refl
            by (Some slot) is = absurd (let no = is in cc)

        told_row : (t : ℕ) → (if nat_le 1 t && nat_le t k.tasks then Some (task_row one.known t) else None)
            ≡ (if nat_le 1 t && nat_le t kept.tasks then Some (task_row other.known t) else None)
        told_row t =
            by (nat_le 1 t) refl (nat_le t k.tasks) refl
            ∙ (λ i. if nat_le 1 t && nat_le t (sym lasts.tasks i) then Some (task_row other.known t) else None)
          where
            by : (a : Bool) → nat_le 1 t ≡ a → (b : Bool) → nat_le t k.tasks ≡ b
                → (if a && b then Some (task_row one.known t) else None)
                ≡ (if a && b then Some (task_row other.known t) else None)
            by true first true within = ap (λ row. Some row) (sym (row_same t first within))
            by true first false beyond = refl
            by false none_first b is = refl

        idle : (t : ℕ) (work : Option Work) → IsWork one t work → IsWork other t work
        idle t None is = λ later. going_same t (none t)
        idle t (Some work) is = absurd (false≢true (sym (none t) ∙ is.0))

    fits_so : Fits other it
    fits_so = record {
      swept = λ t work name is among.
          absurd (let no : Some work ≡ None = sym is ∙ no_work t (reading.work_of it t) (stands.works t) in cc);
      parts = fits.parts;
      sweeps = fits.sweeps;
      deletions = fits.deletions;
      since = λ since row is.
          subst (λ (last : ℕ). since_cmp since (sinces.Task (last + 1)) ≡ Less) (sym lasts.tasks) (fits.since since row is);
    }

    own_so : TellsOwn other
    own_so = record {
      lists = λ t going. absurd (false≢true (sym (going_same t (none t)) ∙ going));
      calls = λ n b is. absurd (let no = is in cc);
      few = was.few;
      unshared = was.unshared;
    }
      where
        was : TellsOwn (telling one (entries.Snapshot s))
        was = own one s readable

-- ---- a snapshot of what is recorded

-- it is that of what is known
pub same_snapshot : (m : Moment) (told : Told) (was : Records) (s : Snapshot) → StandsWhole told was → Agrees m told
    → KnownFacts m → BuiltStand m.known.built (recorded was) → IsSnapshot was s → s ≡ snapshot_of m.known
same_snapshot m told was s whole agrees facts built is =
    snapshot_is m told was s whole.stands agrees.known_is facts.lists is
    (built_are (recorded was) s.built_keys m.known.built whole.stands.ordered.keys built is.built_keys is.order)

-- it tells as many tasks, of which the same are open
pub record HasSameTasks (k : Known) : Type 0 where
  pub tasks : length (snapshot_of k).tasks ≡ k.tasks
  pub open_same : open_at (known_by (snapshot_of k)) ≡ open_at k

pub same_ends : (m : Moment) → KnownFacts m → HasSameTasks m.known
same_ends m facts = record {
  tasks = lasts.tasks;
  open_same = (λ i. filter (is_open (known_by (snapshot_of m.known))) (numbers_to (lasts.tasks i)))
      ∙ alike (numbers_to m.known.tasks)
      (every (λ t. same_truth (is_open (known_by (snapshot_of m.known)) t) (is_open m.known t)) m.known.tasks
      (λ t low high. ap (λ end. same_truth (not (is_some end)) (is_open m.known t))
      (lasts.end t (le-leb 1 t low) (le-leb t m.known.tasks high)) ∙ itself (is_open m.known t)));
}
  where
    lasts : Outlasts m.known (known_by (snapshot_of m.known))
    lasts = snapshot_outlasts m facts.lists

    itself : (b : Bool) → same_truth b b ≡ true
    itself true = refl
    itself false = refl

    alike : (xs : List ℕ)
        → list_all (λ t. same_truth (is_open (known_by (snapshot_of m.known)) t) (is_open m.known t)) xs ≡ true
        → filter (is_open (known_by (snapshot_of m.known))) xs ≡ filter (is_open m.known) xs
    alike [] all = refl
    alike (t ∷ xs) all =
        let (first, rest) = and_parts (same_truth (is_open (known_by (snapshot_of m.known)) t) (is_open m.known t)) _ all in
        by (is_open (known_by (snapshot_of m.known)) t) (is_open m.known t) first (alike xs rest)
      where
        by : (a b : Bool) → same_truth a b ≡ true
            → filter (is_open (known_by (snapshot_of m.known))) xs ≡ filter (is_open m.known) xs
            → (if a then t ∷ filter (is_open (known_by (snapshot_of m.known))) xs
            else filter (is_open (known_by (snapshot_of m.known))) xs)
            ≡ (if b then t ∷ filter (is_open m.known) xs else filter (is_open m.known) xs)
        by true true first rest = ap (λ ys. t ∷ ys) rest
        by false false first rest = rest
        by true false first rest = absurd (false≢true first)
        by false true first rest = absurd (false≢true first)

-- ---- the law

pub stands_shortened : (m : Moment) (told : Told) (was now : Records) (s : Snapshot) (tasks : List ℕ) → StandsWhole told was
    → Agrees m told → KnownFacts m → BuiltStand m.known.built (recorded was) → IsSnapshot was s
    → StandsWhole (fold telling told (interruptions tasks)) now
    → ((t : ℕ) → is_going (fold telling told (interruptions tasks)).known t ≡ false)
    → StandsWhole (fold telling (telling told (entries.Snapshot s)) (interruptions tasks)) now
stands_shortened m told was now s tasks whole agrees facts built is ended none =
    subst (λ (it : Told). StandsWhole it now) (sym other_is) (record {
      stands = stands_so m facts tasks readable digests told.snapped (recorded now) ended_so.stands ended_so.fits none_so;
      fits = fits_so m facts tasks readable digests told.snapped (recorded now) ended_so.stands ended_so.fits none_so;
      own = own_so m facts tasks readable digests told.snapped (recorded now) ended_so.stands ended_so.fits none_so;
    })
  where
    readable : IsReadable (snapshot_of m.known)
    readable = can_be_read m facts told agrees whole.stands.tells_well whole.own built.in_order

    digests : (key : Key)
        → option_map (λ (each : BuiltKey). each.digest) (find (λ each. same_key each.key key) m.known.built)
        ≡ m.known.digest key
    digests = digest_listed (recorded was) m.known
        (λ key. whole.stands.digests key ∙ ap (λ (known : Known). known.digest key) agrees.known_is) built

    same : s ≡ snapshot_of m.known
    same = same_snapshot m told was s whole agrees facts built is

    one_is : fold telling told (interruptions tasks) ≡ one m facts tasks readable digests told.snapped
    one_is =
        told_ended tasks told
        ∙ (λ i. record {
          known = record (agrees.known_is i) { task = tasks_after tasks (agrees.known_is i).task };
          calls = (ap (λ (it : Told). it.calls) (sym (told_ended tasks told))
              ∙ none_open (fold telling told (interruptions tasks)) ended.stands.tells_well none) i;
          snapped = told.snapped;
        })

    ended_so : StandsWhole (one m facts tasks readable digests told.snapped) now
    ended_so = subst (λ (it : Told). StandsWhole it now) one_is ended

    none_so : (t : ℕ) → is_going (one m facts tasks readable digests told.snapped).known t ≡ false
    none_so = subst (λ (it : Told). (t : ℕ) → is_going it.known t ≡ false) one_is none

    other_is : fold telling (telling told (entries.Snapshot s)) (interruptions tasks)
        ≡ other m facts tasks readable digests told.snapped
    other_is =
        told_ended tasks (telling told (entries.Snapshot s))
        ∙ (λ i. record {
          known = record (known_by (same i)) { task = tasks_after tasks (known_by (same i)).task };
          calls = none_after tasks i;
          snapped = length (same i).tasks;
        })
