-- What is asked of the calls in doubt, and holds of none, is left by each entry but the beginning of a call.
use Rattle.std.proofs.Common.{◌≡◌, ◌∙◌, ℕ, Bool, true, false, Option, Some, None, List, [], ◌∷◌, ap, sym, arith}
use Rattle.std.specs.Prelude.{eqb, if◌then◌else◌}
use Rattle.std.specs.Option.{option_map}
use Rattle.std.proofs.lemmas.Bool.{false≢true}
use Rattle.std.proofs.lemmas.Bool.Decides.{eqb_tells}
use Rattle.bosh_base.specs.declared.answer.Answer.{Answer}
use Rattle.bosh_base.specs.declared.call.Call.{Call}
use Rattle.bosh_base.specs.declared.call.Call.TheVariants.{CreateVm, DeleteVm, DeleteDisk}
use Rattle.bosh_base.specs.declared.entry.Begin.{Begin}
use Rattle.bosh_base.specs.declared.entry.Entry.{Entry}
use Rattle.bosh_base.specs.declared.entry.Entry.TheVariants as entries
use Rattle.bosh_base.specs.declared.goal.Goal.{Goal}
use Rattle.bosh_base.specs.declared.goal.GoalRow.{GoalRow}
use Rattle.bosh_base.specs.declared.inst.Inst.{Inst}
use Rattle.bosh_base.specs.declared.key.Key.{Key}
use Rattle.bosh_base.specs.declared.owner.Owner.{Owner}
use Rattle.bosh_base.specs.declared.owner.Owner.TheVariants.{Instance, Compile, Disk}
use Rattle.bosh_base.specs.declared.row.DiskRow.{DiskRow}
use Rattle.bosh_base.specs.declared.row.Doubt.{Doubt}
use Rattle.bosh_base.specs.declared.row.Row.{Row}
use Rattle.bosh_base.specs.declared.snapshot.Orphan.{Orphan}
use Rattle.bosh_base.specs.declared.task.TaskKind.{TaskKind}
use Rattle.bosh_history.specs.Calls.{begins, call_ended, ends_of, key_for, orphan_after, orphan_begun, orphan_told}
use Rattle.bosh_history.specs.Calls.{shows_gone, shows_there, slot_answered}
use Rattle.bosh_history.specs.Known.{Known, Slot, dep_of_task, want_in}
use Rattle.bosh_history.specs.Learn.{learn}
use Rattle.bosh_history.specs.Moments.{Moment}
use Rattle.bosh_history.specs.Notes.{MayNote, Outside}
use Rattle.bosh_history.specs.Slots.{slot_after, slot_begun}
use Rattle.bosh_history.specs.Tasks.{settles}
use Rattle.bosh_history.specs.Updates.{orphan_of, orphans_after, update_done}
use Rattle.bosh_history.specs.Words.{at, without}
use Rattle.bosh_rows.proofs.SameLemmas.{same_inst_tells}
use Rattle.bosh_rows.specs.After.{after, begun_row, leaves_doubt, left_behind}
use Rattle.laws_facts.proofs.DoubtLemmas.{orphan_doubt, slot_doubt}
use Rattle.laws_facts.proofs.FrameLemmas.{compiled_orphans, compiled_rows, compiled_slots, slot_orphans, slot_rows}
use Rattle.laws_facts.specs.Owners.{doubt_of}
use Rattle.laws_items.proofs.RowFrames.{is_beginning}

module _ (P : Owner → Option Doubt → Bool) (none : (owner : Owner) → P owner None ≡ true) where
  -- it holds of all owners
  pub record Meet (k : Known) : Type 0 where
    pub rows : (i : Inst) → P (Instance i) (k.row i).doubt ≡ true
    pub slots : (t s : ℕ) → P (Compile t s) (slot_doubt (k.slot t s)) ≡ true
    pub orphans : (d : ℕ) → P (Disk d) (orphan_doubt (k.orphan d)) ≡ true

  -- ---- a call begins

  row_begun : (owner : Owner) (n : ℕ) (call : Call) (row : Row)
      → P owner (Some (record { n = n; call = call })) ≡ true → P owner row.doubt ≡ true
      → P owner (begun_row n call row).doubt ≡ true
  row_begun owner n call row now is = by (leaves_doubt call)
    where
      by : (leaves : Bool) → P owner (if leaves then Some (record { n = n; call = call }) else row.doubt) ≡ true
      by true = now
      by false = is

  slot_begins : (owner : Owner) (n : ℕ) (call : Call) (dep : List ℕ) (key : Option Key) (it : Option Slot)
      → P owner (Some (record { n = n; call = call })) ≡ true → P owner (slot_doubt it) ≡ true
      → P owner (slot_doubt (slot_begun n call dep key it)) ≡ true
  slot_begins owner n (CreateVm make disks) dep key it now is = now
  slot_begins owner n (DeleteVm vm) dep key (Some it) now is = now
  slot_begins owner n (DeleteVm vm) dep key None now is = is
  slot_begins owner n call dep key it now is = is

  orphan_begins : (owner : Owner) (n : ℕ) (call : Call) (it : Option Orphan)
      → P owner (Some (record { n = n; call = call })) ≡ true → P owner (orphan_doubt it) ≡ true
      → P owner (orphan_doubt (option_map (orphan_begun n call) it)) ≡ true
  orphan_begins owner n (DeleteDisk disk) (Some it) now is = now
  orphan_begins owner n call (Some it) now is = is
  orphan_begins owner n call None now is = is

  begun : (b : Begin) (owner : Owner) (k : Known) → P owner (Some (record { n = b.n; call = b.call })) ≡ true → Meet k
      → Meet (begins b owner k)
  begun b (Instance j) k now is = record {
    rows = λ i. grind
        (arith, same_inst_tells j i, is.rows i, row_begun (Instance j) b.n b.call (k.row j) now (is.rows j));
    slots = is.slots;
    orphans = is.orphans;
  }
  begun b (Compile task slot) k now is = record {
    rows = is.rows;
    slots = λ t s. grind (
      arith,
      eqb_tells task t,
      eqb_tells slot s,
      is.slots t s,
      slot_begins (Compile task slot) b.n b.call (dep_of_task k task) (key_for k task slot) (k.slot task slot) now
          (is.slots task slot),
    );
    orphans = is.orphans;
  }
  begun b (Disk it) k now is = record {
    rows = is.rows;
    slots = is.slots;
    orphans = λ d. grind
        (arith, eqb_tells it d, is.orphans d, orphan_begins (Disk it) b.n b.call (k.orphan it) now (is.orphans it));
  }

  -- ---- a call is answered

  row_after : (owner : Owner) (n : ℕ) (call : Call) (answer : Answer) (row : Row) → P owner row.doubt ≡ true
      → P owner (after n call answer row).doubt ≡ true
  row_after owner n call answer row is = grind (arith, is, none owner)

  slot_ends : (owner : Owner) (n : ℕ) (call : Call) (answer : Answer) (it : Option Slot)
      → P owner (slot_doubt it) ≡ true → P owner (slot_doubt (slot_after n call answer it)) ≡ true
  slot_ends owner n call answer (Some it) is = grind (arith, is, none owner)
  slot_ends owner n call answer None is = is

  slot_kept : (k : Known) (task slot : ℕ) (it : Option Slot) → Meet k
      → P (Compile task slot) (slot_doubt it) ≡ true
      → (t s : ℕ) → P (Compile t s) (slot_doubt ((slot_answered task slot it k).slot t s)) ≡ true
  slot_kept k task slot (Some it) is new t s =
      grind (arith, eqb_tells task t, eqb_tells slot s, is.slots t s, new)
  slot_kept k task slot None is new t s =
      grind (arith, eqb_tells task t, eqb_tells slot s, is.slots t s, new)

  orphan_kept : (k : Known) (it : ℕ) (call : Call) (answer : Answer) → Meet k
      → (d : ℕ) → P (Disk d) (orphan_doubt ((orphan_after it call answer k).orphan d)) ≡ true
  orphan_kept k it call answer is d = by (shows_gone call answer)
    where
      told : (b : Bool) (o : Option Orphan) → P (Disk it) (orphan_doubt o) ≡ true
          → P (Disk it) (orphan_doubt (option_map (orphan_told b) o)) ≡ true
      told true (Some o) old = none (Disk it)
      told false (Some o) old = old
      told b None old = old

      by : (gone : Bool)
          → P (Disk d) (orphan_doubt
          ((if gone then record k { orphans = without eqb it k.orphans; orphan = at eqb it None k.orphan }
          else record k {
            orphan = at eqb it
                (option_map (orphan_told (shows_there call answer)) (k.orphan it)) k.orphan;
          }).orphan d))
          ≡ true
      by true = grind (arith, eqb_tells it d, is.orphans d, none (Disk d))
      by false =
          grind (arith, eqb_tells it d, is.orphans d, told (shows_there call answer) (k.orphan it) (is.orphans it))

  answered : (b : Begin) (answer : Answer) (owner : Owner) (k : Known) → Meet k → Meet (ends_of b answer owner k)
  answered b answer (Instance j) k is = record {
    rows = λ i. grind
        (arith, same_inst_tells j i, is.rows i, row_after (Instance j) b.n b.call answer (k.row j) (is.rows j));
    slots = is.slots;
    orphans = is.orphans;
  }
  answered b answer (Compile task slot) k is = record {
    rows = λ i. ap (λ (row : Inst → Row). P (Instance i) (row i).doubt)
        (slot_rows task slot (slot_after b.n b.call answer (k.slot task slot)) k) ∙ is.rows i;
    slots = slot_kept k task slot (slot_after b.n b.call answer (k.slot task slot)) is
        (slot_ends (Compile task slot) b.n b.call answer (k.slot task slot) (is.slots task slot));
    orphans = λ d. ap (λ (orphan : ℕ → Option Orphan). P (Disk d) (orphan_doubt (orphan d)))
        (slot_orphans task slot (slot_after b.n b.call answer (k.slot task slot)) k).orphan ∙ is.orphans d;
  }
  answered b answer (Disk it) k is = record {
    rows = λ i. grind (arith, is.rows i);
    slots = λ t s. grind (arith, is.slots t s);
    orphans = orphan_kept k it b.call answer is;
  }

  ended : (answer : Answer) (b : Option Begin) (k : Known) → Meet k → Meet (call_ended answer b k)
  ended answer (Some b) k is =
      let told : Meet (ends_of b answer b.owner k) = answered b answer b.owner k is in
      record {
        rows = λ i. ap (λ (row : Inst → Row). P (Instance i) (row i).doubt)
            (compiled_rows b.call answer (ends_of b answer b.owner k)) ∙ told.rows i;
        slots = λ t s. ap (λ (slot : ℕ → ℕ → Option Slot). P (Compile t s) (slot_doubt (slot t s)))
            (compiled_slots b.call answer (ends_of b answer b.owner k)).slot ∙ told.slots t s;
        orphans = λ d. ap (λ (orphan : ℕ → Option Orphan). P (Disk d) (orphan_doubt (orphan d)))
            (compiled_orphans b.call answer (ends_of b answer b.owner k)).orphan ∙ told.orphans d;
      }
  ended answer None k is = record { rows = is.rows; slots = is.slots; orphans = is.orphans }

  -- ---- disks are orphaned without a doubt

  orphaned : (i : Inst) (disks : List DiskRow) (orphan : ℕ → Option Orphan)
      → ((d : ℕ) → P (Disk d) (orphan_doubt (orphan d)) ≡ true)
      → (d : ℕ) → P (Disk d) (orphan_doubt (orphans_after i disks orphan d)) ≡ true
  orphaned i [] orphan has = has
  orphaned i (it ∷ disks) orphan has =
      orphaned i disks (at eqb it.disk (Some (orphan_of i it)) orphan) one_more
    where
      one_more : (d : ℕ) → P (Disk d) (orphan_doubt (at eqb it.disk (Some (orphan_of i it)) orphan d)) ≡ true
      one_more d = grind (arith, eqb_tells it.disk d, has d, none (Disk d))

  updated : (want : Option GoalRow) (j : Inst) (k : Known) → Meet k → Meet (update_done want j k)
  updated (Some want) j k is = record {
    rows = λ i. grind (arith, same_inst_tells j i, is.rows i, is.rows j);
    slots = is.slots;
    orphans = orphaned j (left_behind want (k.row j)) k.orphan is.orphans;
  }
  updated None j k is = record { rows = is.rows; slots = is.slots; orphans = is.orphans }

  settled : (kind : TaskKind) (goal : Option Goal) (dep : List ℕ) (k : Known) → Meet k → Meet (settles kind goal dep k)
  settled kind goal dep k is = record {
    rows = λ i. grind (arith, is.rows i);
    slots = λ t s. grind (arith, is.slots t s);
    orphans = λ d. grind (arith, is.orphans d);
  }

  -- ---- entries

  met_note : (outside : Outside) (m : Moment) (e : Entry) → MayNote outside m e → is_beginning e ≡ false → Meet m.known
      → Meet (learn m.known e)
  met_note outside m (entries.Begin b) may other is = absurd (false≢true (sym other))
  met_note outside m (entries.End e) may other is = ended e.answer (m.known.begun e.n) m.known is
  met_note outside m (entries.UpdDone u) may other is =
      let all : Meet (update_done (want_in (m.known.task u.task).goal u.inst) u.inst m.known) =
      updated (want_in (m.known.task u.task).goal u.inst) u.inst m.known is in
      record { rows = all.rows; slots = all.slots; orphans = all.orphans }
  met_note outside m (entries.Gone u) may other is = record {
    rows = λ i. grind (arith, same_inst_tells u.inst i, is.rows i, none (Instance i));
    slots = is.slots;
    orphans = orphaned u.inst (m.known.row u.inst).disks m.known.orphan is.orphans;
  }
  met_note outside m (entries.TaskDone t) may other is =
      let all : Meet (settles (m.known.task t).kind (m.known.task t).goal (dep_of_task m.known t) m.known) =
      settled (m.known.task t).kind (m.known.task t).goal (dep_of_task m.known t) m.known is in
      record { rows = all.rows; slots = all.slots; orphans = all.orphans }
  met_note outside m (entries.Snapshot s) may other is = absurd may
  met_note outside m entry may other is = record { rows = is.rows; slots = is.slots; orphans = is.orphans }

  -- of each owner
  met_all : (k : Known) → ((owner : Owner) → P owner (doubt_of k owner) ≡ true) → Meet k
  met_all k all = record {
    rows = λ i. all (Instance i);
    slots = λ t s. all (Compile t s);
    orphans = λ d. all (Disk d);
  }

  all_met : (k : Known) → Meet k → (owner : Owner) → P owner (doubt_of k owner) ≡ true
  all_met k met (Instance i) = met.rows i
  all_met k met (Compile t s) = met.slots t s
  all_met k met (Disk d) = met.orphans d

  pub doubts_note : (outside : Outside) (m : Moment) (e : Entry) → MayNote outside m e → is_beginning e ≡ false
      → ((owner : Owner) → P owner (doubt_of m.known owner) ≡ true)
      → (owner : Owner) → P owner (doubt_of (learn m.known e) owner) ≡ true
  doubts_note outside m e may other all = all_met (learn m.known e) (met_note outside m e may other (met_all m.known all))

  -- .. and by the beginning of a call, where it holds of that call
  pub doubts_begin : (m : Moment) (b : Begin) → P b.owner (Some (record { n = b.n; call = b.call })) ≡ true
      → ((owner : Owner) → P owner (doubt_of m.known owner) ≡ true)
      → (owner : Owner) → P owner (doubt_of (learn m.known (entries.Begin b)) owner) ≡ true
  doubts_begin m b now all =
      let met : Meet (begins b b.owner m.known) = begun b b.owner m.known now (met_all m.known all) in
      all_met (learn m.known (entries.Begin b))
      (record { rows = met.rows; slots = met.slots; orphans = met.orphans })
