-- Calls in doubt: that none is of a call to come is kept by each move.
use Rattle.std.proofs.Common.{◌≡◌, ℕ, ◌≤◌, Bool, true, false, Option, Some, None, List, [], ◌∷◌, refl, ap, ◌∙◌, arith}
use Rattle.std.specs.Prelude.{eqb, nat_le, if◌then◌else◌}
use Rattle.std.specs.Option.{option_and_then, option_map}
use Rattle.std.proofs.lemmas.Bool.Decides.{eqb_tells}
use Rattle.bosh_base.specs.declared.answer.Answer.{Answer}
use Rattle.bosh_base.specs.declared.call.Call.{Call}
use Rattle.bosh_base.specs.declared.call.Call.TheVariants.{CreateVm, DeleteVm, DeleteDisk}
use Rattle.bosh_base.specs.declared.entry.Begin.{Begin}
use Rattle.bosh_base.specs.declared.entry.Entry.{Entry}
use Rattle.bosh_base.specs.declared.entry.Entry.TheVariants as entries
use Rattle.bosh_base.specs.declared.goal.GoalRow.{GoalRow}
use Rattle.bosh_base.specs.declared.inst.Inst.{Inst}
use Rattle.bosh_base.specs.declared.key.Key.{Key}
use Rattle.bosh_base.specs.declared.moves.Move.{Move}
use Rattle.bosh_base.specs.declared.owner.Owner.{Owner}
use Rattle.bosh_base.specs.declared.owner.Owner.TheVariants.{Instance, Compile, Disk}
use Rattle.bosh_base.specs.declared.row.DiskRow.{DiskRow}
use Rattle.bosh_base.specs.declared.row.Doubt.{Doubt}
use Rattle.bosh_base.specs.declared.row.Row.{Row}
use Rattle.bosh_base.specs.declared.snapshot.Orphan.{Orphan}
use Rattle.bosh_base.specs.declared.goal.Goal.{Goal}
use Rattle.bosh_base.specs.declared.task.TaskKind.{TaskKind}
use Rattle.laws_facts.proofs.FrameLemmas.{compiled_orphans, compiled_rows, compiled_slots, numbers_done, numbers_end, numbers_updated, slot_orphans, slot_rows}
use Rattle.laws_facts.proofs.MoveLemmas.{by_note}
use Rattle.laws_facts.specs.KnownFacts.{KnownFacts}
use Rattle.laws_facts.specs.Kept.{AreDoubtsPast}
use Rattle.laws_row_facts.specs.Words.{where_any}
use Rattle.bosh_history.specs.Calls.{begins, call_ended, ends_of, key_for, orphan_after, orphan_begun, orphan_told, shows_gone, shows_there, slot_answered}
use Rattle.bosh_history.specs.Known.{Known, Slot, dep_of_task, want_in}
use Rattle.bosh_history.specs.Learn.{learn}
use Rattle.bosh_history.specs.Moments.{Moment, later}
use Rattle.bosh_history.specs.Notes.{MayNote, Outside}
use Rattle.bosh_history.specs.Permitted.{IsPermitted}
use Rattle.bosh_history.specs.Slots.{slot_after, slot_begun}
use Rattle.bosh_history.specs.Tasks.{settles}
use Rattle.bosh_history.specs.Updates.{orphan_of, orphans_after, update_done}
use Rattle.bosh_history.specs.Words.{at, without}
use Rattle.bosh_rows.proofs.SameLemmas.{same_inst_tells}
use Rattle.bosh_rows.specs.After.{after, begun_row, left_behind}

-- a doubt has a number up to this one
abbrev pub up_to : ℕ → Option Doubt → Bool
up_to last doubt = where_any (λ d. nat_le d.n last) doubt

abbrev pub slot_doubt : Option Slot → Option Doubt
slot_doubt it = option_and_then (λ slot. slot.doubt) it

abbrev pub orphan_doubt : Option Orphan → Option Doubt
orphan_doubt it = option_and_then (λ orphan. orphan.doubt) it

rises : (old new : ℕ) (doubt : Option Doubt) → old ≤ new → up_to old doubt ≡ true → up_to new doubt ≡ true
rises old new (Some d) more is = grind (arith, more, is)
rises old new None more is = refl

-- ---- a call begins

row_begun : (n last : ℕ) (call : Call) (row : Row) → last ≤ n → up_to last row.doubt ≡ true
    → up_to n (begun_row n call row).doubt ≡ true
row_begun n last call row more is = grind (arith, rises last n row.doubt more is)

slot_begins : (n last : ℕ) (call : Call) (dep : List ℕ) (key : Option Key) (it : Option Slot) → last ≤ n
    → up_to last (slot_doubt it) ≡ true → up_to n (slot_doubt (slot_begun n call dep key it)) ≡ true
slot_begins n last (CreateVm make disks) dep key it more is = grind (arith)
slot_begins n last (DeleteVm vm) dep key (Some it) more is = grind (arith)
slot_begins n last (DeleteVm vm) dep key None more is = refl
slot_begins n last call dep key it more is = rises last n (slot_doubt it) more is

orphan_begins : (n last : ℕ) (call : Call) (it : Option Orphan) → last ≤ n
    → up_to last (orphan_doubt it) ≡ true → up_to n (orphan_doubt (option_map (orphan_begun n call) it)) ≡ true
orphan_begins n last (DeleteDisk disk) (Some it) more is = grind (arith)
orphan_begins n last call (Some it) more is = rises last n it.doubt more is
orphan_begins n last call None more is = refl

-- ---- a call is answered

row_after : (last n : ℕ) (call : Call) (answer : Answer) (row : Row) → up_to last row.doubt ≡ true
    → up_to last (after n call answer row).doubt ≡ true
row_after last n call answer row is = grind (arith, is)

slot_ends : (last n : ℕ) (call : Call) (answer : Answer) (it : Option Slot) → up_to last (slot_doubt it) ≡ true
    → up_to last (slot_doubt (slot_after n call answer it)) ≡ true
slot_ends last n call answer (Some it) is = grind (arith, is)
slot_ends last n call answer None is = refl

-- ---- disks are orphaned without a doubt

orphaned : (last : ℕ) (i : Inst) (disks : List DiskRow) (orphan : ℕ → Option Orphan)
    → ((d : ℕ) → up_to last (orphan_doubt (orphan d)) ≡ true)
    → (d : ℕ) → up_to last (orphan_doubt (orphans_after i disks orphan d)) ≡ true
orphaned last i [] orphan has = has
orphaned last i (it ∷ disks) orphan has =
    orphaned last i disks (at eqb it.disk (Some (orphan_of i it)) orphan) one_more
  where
    one_more : (d : ℕ) → up_to last (orphan_doubt (at eqb it.disk (Some (orphan_of i it)) orphan d)) ≡ true
    one_more d = grind (arith, eqb_tells it.disk d, has d)

-- ---- all owners

-- up to a number, of rows, compile machines and orphaned disks
pub record AreUpTo (last : ℕ) (k : Known) : Type 0 where
  pub rows : (i : Inst) → up_to last (k.row i).doubt ≡ true
  pub slots : (t s : ℕ) → up_to last (slot_doubt (k.slot t s)) ≡ true
  pub orphans : (d : ℕ) → up_to last (orphan_doubt (k.orphan d)) ≡ true

of_all : (k : Known) → AreDoubtsPast k → AreUpTo k.last_call k
of_all k past = record {
  rows = λ i. past (Instance i);
  slots = λ t s. past (Compile t s);
  orphans = λ d. past (Disk d);
}

to_all : (k : Known) → AreUpTo k.last_call k → AreDoubtsPast k
to_all k is (Instance i) = is.rows i
to_all k is (Compile t s) = is.slots t s
to_all k is (Disk d) = is.orphans d

all_rise : (old new : ℕ) (k : Known) → old ≤ new → AreUpTo old k → AreUpTo new k
all_rise old new k more is = record {
  rows = λ i. rises old new (k.row i).doubt more (is.rows i);
  slots = λ t s. rises old new (slot_doubt (k.slot t s)) more (is.slots t s);
  orphans = λ d. rises old new (orphan_doubt (k.orphan d)) more (is.orphans d);
}

all_begun : (b : Begin) (owner : Owner) (last : ℕ) (k : Known) → last ≤ b.n → AreUpTo last k
    → AreUpTo b.n (begins b owner k)
all_begun b (Instance j) last k more is =
    let risen : AreUpTo b.n k = all_rise last b.n k more is in
    record {
      rows = λ i. grind
          (arith, same_inst_tells j i, risen.rows i, row_begun b.n last b.call (k.row j) more (is.rows j));
      slots = risen.slots;
      orphans = risen.orphans;
    }
all_begun b (Compile task slot) last k more is =
    let risen : AreUpTo b.n k = all_rise last b.n k more is in
    record {
      rows = risen.rows;
      slots = λ t s. grind (
        arith,
        eqb_tells task t,
        eqb_tells slot s,
        risen.slots t s,
        slot_begins b.n last b.call (dep_of_task k task) (key_for k task slot) (k.slot task slot) more
            (is.slots task slot),
      );
      orphans = risen.orphans;
    }
all_begun b (Disk it) last k more is =
    let risen : AreUpTo b.n k = all_rise last b.n k more is in
    record {
      rows = risen.rows;
      slots = risen.slots;
      orphans = λ d. grind
          (arith, eqb_tells it d, risen.orphans d, orphan_begins b.n last b.call (k.orphan it) more (is.orphans it));
    }

slot_kept : (last : ℕ) (k : Known) (task slot : ℕ) (it : Option Slot) → AreUpTo last k
    → up_to last (slot_doubt it) ≡ true
    → (t s : ℕ) → up_to last (slot_doubt ((slot_answered task slot it k).slot t s)) ≡ true
slot_kept last k task slot (Some it) is new t s = grind (arith, eqb_tells task t, eqb_tells slot s, is.slots t s, new)
slot_kept last k task slot None is new t s = grind (arith, eqb_tells task t, eqb_tells slot s, is.slots t s)

orphan_kept : (last : ℕ) (k : Known) (it : ℕ) (call : Call) (answer : Answer) → AreUpTo last k
    → (d : ℕ) → up_to last (orphan_doubt ((orphan_after it call answer k).orphan d)) ≡ true
orphan_kept last k it call answer is d = by (shows_gone call answer)
  where
    told : (b : Bool) (o : Option Orphan) → up_to last (orphan_doubt o) ≡ true
        → up_to last (orphan_doubt (option_map (orphan_told b) o)) ≡ true
    told true (Some o) old = refl
    told false (Some o) old = old
    told b None old = refl

    by : (gone : Bool)
        → up_to last (orphan_doubt
        ((if gone then record k { orphans = without eqb it k.orphans; orphan = at eqb it None k.orphan }
        else record k {
          orphan = at eqb it
              (option_map (orphan_told (shows_there call answer)) (k.orphan it)) k.orphan;
        }).orphan d))
        ≡ true
    by true = grind (arith, eqb_tells it d, is.orphans d)
    by false = grind (arith, eqb_tells it d, is.orphans d, told (shows_there call answer) (k.orphan it) (is.orphans it))

all_answered : (b : Begin) (answer : Answer) (owner : Owner) (last : ℕ) (k : Known) → AreUpTo last k
    → AreUpTo last (ends_of b answer owner k)
all_answered b answer (Instance j) last k is = record {
  rows = λ i. grind (arith, same_inst_tells j i, is.rows i, row_after last b.n b.call answer (k.row j) (is.rows j));
  slots = is.slots;
  orphans = is.orphans;
}
all_answered b answer (Compile task slot) last k is = record {
  rows = λ i. ap (λ (row : Inst → Row). up_to last (row i).doubt)
      (slot_rows task slot (slot_after b.n b.call answer (k.slot task slot)) k) ∙ is.rows i;
  slots = slot_kept last k task slot (slot_after b.n b.call answer (k.slot task slot)) is
      (slot_ends last b.n b.call answer (k.slot task slot) (is.slots task slot));
  orphans = λ d. ap (λ (orphan : ℕ → Option Orphan). up_to last (orphan_doubt (orphan d)))
      (slot_orphans task slot (slot_after b.n b.call answer (k.slot task slot)) k).orphan ∙ is.orphans d;
}
all_answered b answer (Disk it) last k is = record {
  rows = λ i. grind (arith, is.rows i);
  slots = λ t s. grind (arith, is.slots t s);
  orphans = orphan_kept last k it b.call answer is;
}

all_ended : (answer : Answer) (b : Option Begin) (last : ℕ) (k : Known) → AreUpTo last k
    → AreUpTo last (call_ended answer b k)
all_ended answer (Some b) last k is =
    let told : AreUpTo last (ends_of b answer b.owner k) = all_answered b answer b.owner last k is in
    record {
      rows = λ i. ap (λ (row : Inst → Row). up_to last (row i).doubt)
          (compiled_rows b.call answer (ends_of b answer b.owner k)) ∙ told.rows i;
      slots = λ t s. ap (λ (slot : ℕ → ℕ → Option Slot). up_to last (slot_doubt (slot t s)))
          (compiled_slots b.call answer (ends_of b answer b.owner k)).slot ∙ told.slots t s;
      orphans = λ d. ap (λ (orphan : ℕ → Option Orphan). up_to last (orphan_doubt (orphan d)))
          (compiled_orphans b.call answer (ends_of b answer b.owner k)).orphan ∙ told.orphans d;
    }
all_ended answer None last k is = record { rows = is.rows; slots = is.slots; orphans = is.orphans }

all_updated : (want : Option GoalRow) (j : Inst) (last : ℕ) (k : Known) → AreUpTo last k
    → AreUpTo last (update_done want j k)
all_updated (Some want) j last k is = record {
  rows = λ i. grind (arith, same_inst_tells j i, is.rows i, is.rows j);
  slots = is.slots;
  orphans = orphaned last j (left_behind want (k.row j)) k.orphan is.orphans;
}
all_updated None j last k is = record { rows = is.rows; slots = is.slots; orphans = is.orphans }

all_settled : (kind : TaskKind) (goal : Option Goal) (dep : List ℕ) (last : ℕ) (k : Known) → AreUpTo last k
    → AreUpTo last (settles kind goal dep k)
all_settled kind goal dep last k is = record {
  rows = λ i. grind (arith, is.rows i);
  slots = λ t s. grind (arith, is.slots t s);
  orphans = λ d. grind (arith, is.orphans d);
}

-- ---- entries

doubts_note : (outside : Outside) (m : Moment) (e : Entry) → MayNote outside m e → AreDoubtsPast m.known → AreDoubtsPast
    (learn m.known e)
doubts_note outside m (entries.Begin b) may past =
    let all : AreUpTo b.n (begins b b.owner m.known) =
    all_begun b b.owner m.known.last_call m.known (grind (arith, may.number)) (of_all m.known past) in
    to_all (learn m.known (entries.Begin b)) (record { rows = all.rows; slots = all.slots; orphans = all.orphans })
doubts_note outside m (entries.End e) may past =
    to_all (learn m.known (entries.End e))
    (all_rise m.known.last_call (learn m.known (entries.End e)).last_call (learn m.known (entries.End e))
    (grind (arith, (numbers_end m e.n e.answer).last_call))
    (all_ended e.answer (m.known.begun e.n) m.known.last_call m.known (of_all m.known past)))
doubts_note outside m (entries.UpdDone u) may past =
    let all : AreUpTo m.known.last_call (update_done (want_in (m.known.task u.task).goal u.inst) u.inst m.known) =
    all_updated (want_in (m.known.task u.task).goal u.inst) u.inst m.known.last_call m.known
    (of_all m.known past) in
    to_all (learn m.known (entries.UpdDone u))
    (all_rise m.known.last_call (learn m.known (entries.UpdDone u)).last_call (learn m.known (entries.UpdDone u))
    (grind (arith, (numbers_updated m u.task u.inst).last_call))
    (record { rows = all.rows; slots = all.slots; orphans = all.orphans }))
doubts_note outside m (entries.Gone u) may past =
    let all : AreUpTo m.known.last_call m.known = of_all m.known past in
    to_all (learn m.known (entries.Gone u)) (record {
      rows = λ i. grind (arith, same_inst_tells u.inst i, all.rows i);
      slots = all.slots;
      orphans = orphaned m.known.last_call u.inst (m.known.row u.inst).disks m.known.orphan all.orphans;
    })
doubts_note outside m (entries.TaskDone t) may past =
    let all : AreUpTo m.known.last_call
    (settles (m.known.task t).kind (m.known.task t).goal (dep_of_task m.known t) m.known) =
    all_settled (m.known.task t).kind (m.known.task t).goal (dep_of_task m.known t) m.known.last_call m.known
    (of_all m.known past) in
    to_all (learn m.known (entries.TaskDone t))
    (all_rise m.known.last_call (learn m.known (entries.TaskDone t)).last_call (learn m.known (entries.TaskDone t))
    (grind (arith, (numbers_done m t).last_call))
    (record { rows = all.rows; slots = all.slots; orphans = all.orphans }))
doubts_note outside m (entries.Snapshot s) may past = absurd may
doubts_note outside m entry may past =
    to_all (learn m.known entry)
    (record {
      rows = (of_all m.known past).rows;
      slots = (of_all m.known past).slots;
      orphans = (of_all m.known past).orphans;
    })

pub doubts_kept : (outside : Outside) (m : Moment) (move : Move) → IsPermitted outside m move
    → KnownFacts m → AreDoubtsPast (later m move).known
doubts_kept outside m move may h =
    by_note outside AreDoubtsPast m
    (λ e also. doubts_note outside m e also h.numbers.doubts_past) h.numbers.doubts_past move may
