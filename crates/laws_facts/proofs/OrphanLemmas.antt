-- Orphaned disks: that they are listed, in order, is kept by each move.
use Rattle.std.proofs.Common.{◌≡◌, ℕ, Bool, true, false, ◌==◌, ◌&&◌, Option, Some, None, List, [], ◌∷◌, refl, ap, ◌∙◌, arith}
use Rattle.std.specs.Prelude.{eqb, is_some, if◌then◌else◌, map}
use Rattle.std.specs.Option.{option_map}
use Rattle.std.specs.Ordering.{nat_cmp}
use Rattle.std.proofs.lemmas.Bool.Decides.{eqb_tells}
use Rattle.std.proofs.lemmas.Cmp.{nat_cmp_total}
use Rattle.std.proofs.lemmas.Map.Lookups.{exact_unsigned}
use Rattle.bosh_base.specs.declared.answer.Answer.{Answer}
use Rattle.bosh_base.specs.declared.call.Call.{Call}
use Rattle.bosh_base.specs.declared.entry.Begin.{Begin}
use Rattle.bosh_base.specs.declared.entry.Entry.{Entry}
use Rattle.bosh_base.specs.declared.entry.Entry.TheVariants as entries
use Rattle.bosh_base.specs.declared.inst.Inst.{Inst}
use Rattle.bosh_base.specs.declared.goal.GoalRow.{GoalRow}
use Rattle.bosh_base.specs.declared.moves.Move.{Move}
use Rattle.bosh_base.specs.declared.owner.Owner.{Owner}
use Rattle.bosh_base.specs.declared.owner.Owner.TheVariants.{Instance, Compile, Disk}
use Rattle.bosh_base.specs.declared.row.DiskRow.{DiskRow}
use Rattle.bosh_base.specs.declared.snapshot.Orphan.{Orphan}
use Rattle.laws_facts.proofs.FrameLemmas.{compiled_orphans, orphans_done, slot_orphans}
use Rattle.laws_facts.proofs.ListLemmas.{Tells, among_without}
use Rattle.laws_facts.proofs.MoveLemmas.{by_note}
use Rattle.laws_facts.proofs.OrderLemmas.{among_inserted, ascending_inserted, ascending_without}
use Rattle.laws_facts.specs.KnownFacts.{KnownFacts}
use Rattle.laws_facts.specs.Kept.{AreOrphansInOrder, AreOrphansListed}
use Rattle.laws_facts.specs.Lists.{is_orphan_listed}
use Rattle.laws_row_facts.specs.Words.{are_ascending, where_any}
use Rattle.bosh_history.specs.Calls.{begins, call_ended, compiles, ends_of, orphan_after, orphan_begun, orphan_told, shows_gone, shows_there}
use Rattle.bosh_history.specs.Known.{Known, want_in}
use Rattle.bosh_history.specs.Learn.{learn}
use Rattle.bosh_history.specs.Moments.{Moment, later}
use Rattle.bosh_history.specs.Notes.{MayNote, Outside}
use Rattle.bosh_history.specs.Permitted.{IsPermitted}
use Rattle.bosh_history.specs.Updates.{orphan_of, orphans_after, update_done}
use Rattle.bosh_history.specs.Words.{all_inserted, at, inserted, is_among, without}
use Rattle.bosh_history.specs.Slots.{slot_after}
use Rattle.bosh_rows.specs.After.{left_behind}
use Rattle.bosh_rows.specs.Standing.{same_truth}

-- ---- a list and a function

-- the list has just those of which the function knows, and each is known by its number
abbrev pub lists : List ℕ → (ℕ → Option Orphan) → ℕ → Bool
lists numbers orphan d = same_truth (is_among eqb d numbers) (is_some (orphan d)) && where_any (λ it. it.disk == d)
    (orphan d)

-- the test of natural numbers tells
nat_tells : (a b : ℕ) → Tells eqb a b
nat_tells a b = eqb_tells a b

lists_one_more : (numbers : List ℕ) (orphan : ℕ → Option Orphan) (it : Orphan)
    → ((d : ℕ) → lists numbers orphan d ≡ true)
    → (d : ℕ) → lists (inserted nat_cmp it.disk numbers) (at eqb it.disk (Some it) orphan) d ≡ true
lists_one_more numbers orphan it has d =
    grind (
      arith,
      has d,
      eqb_tells it.disk d,
      eqb_tells d it.disk,
      among_inserted nat_cmp nat_cmp_total eqb nat_tells exact_unsigned d it.disk numbers,
    )

lists_orphaned : (i : Inst) (disks : List DiskRow) (numbers : List ℕ) (orphan : ℕ → Option Orphan)
    → ((d : ℕ) → lists numbers orphan d ≡ true)
    → (d : ℕ) → lists (all_inserted nat_cmp (map (λ d. d.disk) disks) numbers) (orphans_after i disks orphan) d ≡ true
lists_orphaned i [] numbers orphan has = has
lists_orphaned i (it ∷ disks) numbers orphan has =
    lists_orphaned i disks (inserted nat_cmp it.disk numbers) (at eqb it.disk (Some (orphan_of i it)) orphan)
    (lists_one_more numbers orphan (orphan_of i it) has)

lists_gone : (numbers : List ℕ) (orphan : ℕ → Option Orphan) (it : ℕ) → ((d : ℕ) → lists numbers orphan d ≡ true)
    → (d : ℕ) → lists (without eqb it numbers) (at eqb it None orphan) d ≡ true
lists_gone numbers orphan it has d = grind (arith, has d, eqb_tells it d, among_without eqb nat_tells d it numbers)

lists_changed : (numbers : List ℕ) (orphan : ℕ → Option Orphan) (it : ℕ) (change : Orphan → Orphan)
    → ((o : Orphan) → (change o).disk ≡ o.disk) → ((d : ℕ) → lists numbers orphan d ≡ true)
    → (d : ℕ) → lists numbers (at eqb it (option_map change (orphan it)) orphan) d ≡ true
lists_changed numbers orphan it change same has d = by (orphan it) refl
  where
    by : (o : Option Orphan) → orphan it ≡ o → lists numbers (at eqb it (option_map change o) orphan) d ≡ true
    by (Some o) is = grind (arith, has d, has it, is, same o, eqb_tells it d)
    by None is = grind (arith, has d, has it, is, eqb_tells it d)

-- ---- entries

listed_same : (old new : Known) → new.orphans ≡ old.orphans → new.orphan ≡ old.orphan → AreOrphansListed old
    → AreOrphansListed new
listed_same old new orphans orphan has d = (λ i. lists (orphans i) (orphan i) d) ∙ has d

begun_same : (n : ℕ) (call : Call) (o : Orphan) → (orphan_begun n call o).disk ≡ o.disk
begun_same n call o = grind (arith)

told_same : (b : Bool) (o : Orphan) → (orphan_told b o).disk ≡ o.disk
told_same true o = refl
told_same false o = refl

listed_begin : (b : Begin) (owner : Owner) (k : Known) → AreOrphansListed k → AreOrphansListed (begins b owner k)
listed_begin b (Instance i) k has d = has d
listed_begin b (Compile t s) k has d = has d
listed_begin b (Disk it) k has d = lists_changed k.orphans k.orphan it (orphan_begun b.n b.call)
    (begun_same b.n b.call) has d

listed_after : (it : ℕ) (call : Call) (answer : Answer) (k : Known) → AreOrphansListed k
    → AreOrphansListed (orphan_after it call answer k)
listed_after it call answer k has d = by (shows_gone call answer)
  where
    by : (gone : Bool)
        → is_orphan_listed
        (if gone then record k { orphans = without eqb it k.orphans; orphan = at eqb it None k.orphan }
        else record k
        { orphan = at eqb it (option_map (orphan_told (shows_there call answer)) (k.orphan it)) k.orphan }) d
        ≡ true
    by true = lists_gone k.orphans k.orphan it has d
    by false = lists_changed k.orphans k.orphan it (orphan_told (shows_there call answer))
        (told_same (shows_there call answer)) has d

listed_answered : (b : Begin) (answer : Answer) (owner : Owner) (k : Known) → AreOrphansListed k
    → AreOrphansListed (ends_of b answer owner k)
listed_answered b answer (Instance i) k has d = has d
listed_answered b answer (Compile t s) k has d =
    listed_same k (ends_of b answer (Compile t s) k)
    (slot_orphans t s (slot_after b.n b.call answer (k.slot t s)) k).orphans
    (slot_orphans t s (slot_after b.n b.call answer (k.slot t s)) k).orphan has d
listed_answered b answer (Disk it) k has d = listed_after it b.call answer k has d

listed_ended : (answer : Answer) (b : Option Begin) (k : Known) → AreOrphansListed k
    → AreOrphansListed (call_ended answer b k)
listed_ended answer (Some b) k has d =
    listed_same (ends_of b answer b.owner k) (compiles b.call answer (ends_of b answer b.owner k))
    (compiled_orphans b.call answer (ends_of b answer b.owner k)).orphans
    (compiled_orphans b.call answer (ends_of b answer b.owner k)).orphan
    (listed_answered b answer b.owner k has) d
listed_ended answer None k has d = has d

listed_updated : (want : Option GoalRow) (i : Inst) (k : Known) → AreOrphansListed k
    → AreOrphansListed (update_done want i k)
listed_updated (Some want) i k has d = lists_orphaned i (left_behind want (k.row i)) k.orphans k.orphan has d
listed_updated None i k has d = has d

listed_note : (outside : Outside) (m : Moment) (e : Entry) → MayNote outside m e → AreOrphansListed m.known
    → AreOrphansListed (learn m.known e)
listed_note outside m (entries.Begin b) may has d = listed_begin b b.owner m.known has d
listed_note outside m (entries.End e) may has d = listed_ended e.answer (m.known.begun e.n) m.known has d
listed_note outside m (entries.UpdDone u) may has d =
    listed_updated (want_in (m.known.task u.task).goal u.inst) u.inst m.known has d
listed_note outside m (entries.Gone u) may has d =
    lists_orphaned u.inst (m.known.row u.inst).disks m.known.orphans m.known.orphan has d
listed_note outside m (entries.TaskDone t) may has d =
    listed_same m.known (learn m.known (entries.TaskDone t)) (orphans_done m t).orphans (orphans_done m t).orphan has d
listed_note outside m (entries.Snapshot s) may has d = absurd may
listed_note outside m entry may has d = has d

pub listed_kept : (outside : Outside) (m : Moment) (move : Move) → IsPermitted outside m move
    → KnownFacts m → AreOrphansListed (later m move).known
listed_kept outside m move may h =
    by_note outside AreOrphansListed m (λ e also. listed_note outside m e also h.lists.orphan_listed)
    h.lists.orphan_listed move may

-- ---- in order

order_orphaned : (disks numbers : List ℕ) → are_ascending nat_cmp numbers ≡ true
    → are_ascending nat_cmp (all_inserted nat_cmp disks numbers) ≡ true
order_orphaned [] numbers order = order
order_orphaned (d ∷ disks) numbers order =
    order_orphaned disks (inserted nat_cmp d numbers)
    (ascending_inserted nat_cmp nat_cmp_total eqb nat_tells exact_unsigned d numbers order)

order_after : (it : ℕ) (call : Call) (answer : Answer) (k : Known) → AreOrphansInOrder k
    → AreOrphansInOrder (orphan_after it call answer k)
order_after it call answer k order = by (shows_gone call answer)
  where
    by : (gone : Bool)
        → are_ascending nat_cmp
        (if gone then record k { orphans = without eqb it k.orphans; orphan = at eqb it None k.orphan }
        else record k
        { orphan = at eqb it (option_map (orphan_told (shows_there call answer)) (k.orphan it)) k.orphan }).orphans
        ≡ true
    by true = ascending_without nat_cmp nat_cmp_total eqb nat_tells exact_unsigned it k.orphans order
    by false = order

order_answered : (b : Begin) (answer : Answer) (owner : Owner) (k : Known) → AreOrphansInOrder k
    → AreOrphansInOrder (ends_of b answer owner k)
order_answered b answer (Instance i) k order = order
order_answered b answer (Compile t s) k order =
    ap (are_ascending nat_cmp) (slot_orphans t s (slot_after b.n b.call answer (k.slot t s)) k).orphans ∙ order
order_answered b answer (Disk it) k order = order_after it b.call answer k order

order_begin : (b : Begin) (owner : Owner) (k : Known) → AreOrphansInOrder k → AreOrphansInOrder (begins b owner k)
order_begin b (Instance i) k order = order
order_begin b (Compile t s) k order = order
order_begin b (Disk it) k order = order

order_ended : (answer : Answer) (b : Option Begin) (k : Known) → AreOrphansInOrder k
    → AreOrphansInOrder (call_ended answer b k)
order_ended answer (Some b) k order =
    ap (are_ascending nat_cmp) (compiled_orphans b.call answer (ends_of b answer b.owner k)).orphans
    ∙ order_answered b answer b.owner k order
order_ended answer None k order = order

order_updated : (want : Option GoalRow) (i : Inst) (k : Known) → AreOrphansInOrder k
    → AreOrphansInOrder (update_done want i k)
order_updated (Some want) i k order = order_orphaned (map (λ d. d.disk) (left_behind want (k.row i))) k.orphans order
order_updated None i k order = order

order_note : (outside : Outside) (m : Moment) (e : Entry) → MayNote outside m e → AreOrphansInOrder m.known
    → AreOrphansInOrder (learn m.known e)
order_note outside m (entries.Begin b) may order = order_begin b b.owner m.known order
order_note outside m (entries.End e) may order = order_ended e.answer (m.known.begun e.n) m.known order
order_note outside m (entries.UpdDone u) may order =
    order_updated (want_in (m.known.task u.task).goal u.inst) u.inst m.known order
order_note outside m (entries.Gone u) may order =
    order_orphaned (map (λ d. d.disk) (m.known.row u.inst).disks) m.known.orphans order
order_note outside m (entries.TaskDone t) may order = ap (are_ascending nat_cmp) (orphans_done m t).orphans ∙ order
order_note outside m (entries.Snapshot s) may order = absurd may
order_note outside m entry may order = order

pub order_kept : (outside : Outside) (m : Moment) (move : Move) → IsPermitted outside m move
    → KnownFacts m → AreOrphansInOrder (later m move).known
order_kept outside m move may h =
    by_note outside AreOrphansInOrder m (λ e also. order_note outside m e also h.lists.orphans_in_order)
    h.lists.orphans_in_order move may
