-- Recorded instances: that they are listed, in order, is kept by each move.
use Rattle.std.proofs.Common.{◌≡◌, ℕ, true, false, Option, Some, None, List, refl, ap, sym, ◌∙◌, inl, inr, arith}
use Rattle.std.specs.Prelude.{◌⊎◌, ◌≢◌, if◌then◌else◌}
use Rattle.std.specs.Cmp.{IsTotalOrder}
use Rattle.std.specs.Cmp.Lexicographic.{slice_cmp}
use Rattle.std.specs.Ordering.{nat_cmp, ordering_then}
use Rattle.std.specs.declared.cmp.Ordering.{Ordering}
use Rattle.std.specs.declared.cmp.Ordering.TheVariants.{Less, Equal, Greater}
use Rattle.std.proofs.lemmas.Cmp.{nat_cmp_total, nat_list_cmp_total, on_total, then_total}
use Rattle.std.proofs.lemmas.Map.Lookups.{exact_bytes, exact_unsigned}
use Rattle.bosh_base.specs.Inst.{inst_cmp}
use Rattle.bosh_base.specs.declared.answer.Answer.{Answer}
use Rattle.bosh_base.specs.declared.call.Call.{Call}
use Rattle.bosh_base.specs.declared.entry.Begin.{Begin}
use Rattle.bosh_base.specs.declared.entry.End.{End}
use Rattle.bosh_base.specs.declared.entry.Entry.{Entry}
use Rattle.bosh_base.specs.declared.entry.Entry.TheVariants as entries
use Rattle.bosh_base.specs.declared.goal.GoalRow.{GoalRow}
use Rattle.bosh_base.specs.declared.inst.Inst.{Inst}
use Rattle.bosh_base.specs.declared.moves.Move.{Move}
use Rattle.bosh_base.specs.declared.owner.Owner.{Owner}
use Rattle.bosh_base.specs.declared.owner.Owner.TheVariants.{Instance, Compile, Disk}
use Rattle.bosh_base.specs.declared.row.Row.{Row}
use Rattle.bosh_base.specs.declared.task.TaskKind.{TaskKind}
use Rattle.bosh_base.specs.declared.task.TaskKind.TheVariants as kinds
use Rattle.laws_facts.proofs.FrameLemmas.{compiled_instances, compiled_rows, slot_instances, slot_rows}
use Rattle.laws_facts.proofs.ListLemmas.{among_without}
use Rattle.laws_facts.proofs.MoveLemmas.{by_note}
use Rattle.laws_facts.proofs.OrderLemmas.{among_inserted, ascending_inserted, ascending_without, distinct_ascending}
use Rattle.laws_facts.specs.KnownFacts.{KnownFacts}
use Rattle.laws_facts.specs.Kept.{AreInstancesInOrder, AreOthersBare, HaveOwnRows}
use Rattle.bosh_rows.specs.SoundSnapshot.{are_distinct}
use Rattle.laws_row_facts.specs.Words.{are_ascending}
use Rattle.bosh_history.specs.Calls.{begins, call_ended, ends_of}
use Rattle.bosh_history.specs.Known.{Known, dep_of_task, want_in}
use Rattle.bosh_history.specs.Learn.{learn}
use Rattle.bosh_history.specs.Moments.{Moment, OpenCall, later}
use Rattle.bosh_history.specs.Notes.{EndsCall, MayNote, Outside}
use Rattle.bosh_history.specs.Permitted.{IsPermitted}
use Rattle.bosh_history.specs.Slots.{slot_after}
use Rattle.bosh_history.specs.Tasks.{settles}
use Rattle.bosh_history.specs.Updates.{update_done}
use Rattle.bosh_history.specs.Words.{at, is_among}
use Rattle.bosh_rows.proofs.SameLemmas.{same_inst_tells}
use Rattle.bosh_rows.specs.After.{after, bare, updated_row}
use Rattle.bosh_rows.specs.Same.{same_inst}
use Rattle.laws_facts.proofs.BareLemmas.{listed_open}

-- ---- the order of instances

pub then_equal : (a b : Ordering) → ordering_then a b ≡ Equal → (a ≡ Equal) × (b ≡ Equal)
then_equal Less b is = absurd cc
then_equal Equal b is = (refl, is)
then_equal Greater b is = absurd cc

pub inst_total : IsTotalOrder inst_cmp
inst_total =
    then_total (on_total (λ (i : Inst). i.dep) nat_list_cmp_total)
    (then_total (on_total (λ (i : Inst). i.group) nat_list_cmp_total) (on_total (λ (i : Inst). i.index) nat_cmp_total))

pub inst_equal : (a b : Inst) → inst_cmp a b ≡ Equal → a ≡ b
inst_equal a b is =
    let parts : (slice_cmp nat_cmp a.dep b.dep ≡ Equal) ×
    (ordering_then (slice_cmp nat_cmp a.group b.group) (nat_cmp a.index b.index) ≡ Equal) =
    then_equal (slice_cmp nat_cmp a.dep b.dep)
    (ordering_then (slice_cmp nat_cmp a.group b.group) (nat_cmp a.index b.index)) is in
    let more : (slice_cmp nat_cmp a.group b.group ≡ Equal) × (nat_cmp a.index b.index ≡ Equal) =
    then_equal (slice_cmp nat_cmp a.group b.group) (nat_cmp a.index b.index) parts.1 in
    let dep : a.dep ≡ b.dep = exact_bytes a.dep b.dep parts.0 in
    let group : a.group ≡ b.group = exact_bytes a.group b.group more.0 in
    let index : a.index ≡ b.index = exact_unsigned a.index b.index more.1 in
    λ i. record { dep = dep i; group = group i; index = index i }

-- no recorded instance stands twice
pub instances_apart : (instances : List Inst) → are_ascending inst_cmp instances ≡ true
    → are_distinct same_inst instances ≡ true
instances_apart = distinct_ascending inst_cmp inst_total same_inst same_inst_tells inst_equal

-- ---- own rows

pub after_own : (n : ℕ) (call : Call) (answer : Answer) (row : Row) → (after n call answer row).inst ≡ row.inst
after_own n call answer row = grind (arith)

own_note : (outside : Outside) (m : Moment) (e : Entry) → MayNote outside m e → HaveOwnRows m.known → HaveOwnRows
    (learn m.known e)
own_note outside m (entries.Begin b) may own i = by b.owner
  where
    by : (owner : Owner) → ((begins b owner m.known).row i).inst ≡ i
    by (Instance j) = grind (arith, same_inst_tells j i, own i, own j)
    by (Compile t s) = own i
    by (Disk d) = own i
own_note outside m (entries.End e) may own i = by (m.known.begun e.n)
  where
    answered : (b : Begin) (owner : Owner) → ((ends_of b e.answer owner m.known).row i).inst ≡ i
    answered b (Instance j) =
        grind (arith, same_inst_tells j i, own i, own j, after_own b.n b.call e.answer (m.known.row j))
    answered b (Compile t s) = ap (λ (row : Inst → Row). (row i).inst)
        (slot_rows t s (slot_after b.n b.call e.answer (m.known.slot t s)) m.known) ∙ own i
    answered b (Disk d) = grind (arith, own i)

    by : (b : Option Begin) → ((call_ended e.answer b m.known).row i).inst ≡ i
    by (Some b) = ap (λ (row : Inst → Row). (row i).inst)
        (compiled_rows b.call e.answer (ends_of b e.answer b.owner m.known)) ∙ answered b b.owner
    by None = own i
own_note outside m (entries.UpdDone u) may own i = by (want_in (m.known.task u.task).goal u.inst)
  where
    by : (want : Option GoalRow) → ((update_done want u.inst m.known).row i).inst ≡ i
    by (Some want) = grind (arith, same_inst_tells u.inst i, own i, own u.inst)
    by None = own i
own_note outside m (entries.Gone u) may own i = grind (arith, same_inst_tells u.inst i, own i)
own_note outside m (entries.TaskDone t) may own i = grind (arith, own i)
own_note outside m (entries.Snapshot s) may own i = absurd may
own_note outside m entry may own i = own i

pub own_kept : (outside : Outside) (m : Moment) (move : Move) → IsPermitted outside m move
    → KnownFacts m → HaveOwnRows (later m move).known
own_kept outside m move may h =
    by_note outside HaveOwnRows m (λ e also. own_note outside m e also h.lists.own_row) h.lists.own_row move may

-- ---- nothing is recorded of another

bare_begin : (b : Begin) (owner : Owner) (k : Known) → AreOthersBare k → AreOthersBare (begins b owner k)
bare_begin b (Instance j) k has i other =
    grind (
      arith,
      same_inst_tells j i,
      same_inst_tells i j,
      has i,
      among_inserted inst_cmp inst_total same_inst same_inst_tells inst_equal i j k.instances,
      other,
    )
bare_begin b (Compile t s) k has i other = has i other
bare_begin b (Disk d) k has i other = has i other

bare_answered : (b : Begin) (answer : Answer) (owner : Owner) (k : Known) → AreOthersBare k
    → ((j : Inst) → owner ≡ Instance j → is_among same_inst j k.instances ≡ true)
    → AreOthersBare (ends_of b answer owner k)
bare_answered b answer (Instance j) k has listed i other =
    grind (arith, same_inst_tells j i, has i, listed j refl, other)
bare_answered b answer (Compile t s) k has listed i other =
    ap (λ (row : Inst → Row). row i) (slot_rows t s (slot_after b.n b.call answer (k.slot t s)) k)
    ∙ has i (sym (ap (is_among same_inst i) (slot_instances t s (slot_after b.n b.call answer (k.slot t s)) k)) ∙ other)
bare_answered b answer (Disk d) k has listed i other = grind (arith, has i, other)

bare_ended : (m : Moment) → KnownFacts m → (e : End) → EndsCall e (m.calls e.n) → AreOthersBare
    (learn m.known (entries.End e))
bare_ended m h e may i other = by (m.calls e.n) refl may
  where
    after_call : (call : OpenCall) → m.calls e.n ≡ Some call
        → is_among same_inst i (call_ended e.answer (Some call.begin) m.known).instances ≡ false
        → (call_ended e.answer (Some call.begin) m.known).row i ≡ bare i
    after_call call is also =
        ap (λ (row : Inst → Row). row i)
        (compiled_rows call.begin.call e.answer (ends_of call.begin e.answer call.begin.owner m.known))
        ∙ bare_answered call.begin e.answer call.begin.owner m.known h.lists.bare
        (λ j own. listed_open m h e.n call j is own) i
        (sym (ap (is_among same_inst i)
        (compiled_instances call.begin.call e.answer (ends_of call.begin e.answer call.begin.owner m.known))) ∙ also)

    by : (call : Option OpenCall) → m.calls e.n ≡ call → EndsCall e call
        → (learn m.known (entries.End e)).row i ≡ bare i
    by (Some call) is ends =
        let begun : m.known.begun e.n ≡ Some call.begin = (h.calls e.n call is).begun in
        (λ j. (call_ended e.answer (begun j) m.known).row i)
        ∙ after_call call is (sym (λ j. is_among same_inst i (call_ended e.answer (begun j) m.known).instances) ∙ other)
    by None is ends = absurd ends

bare_note : (outside : Outside) (m : Moment) → KnownFacts m → (e : Entry) → MayNote outside m e → AreOthersBare
    (learn m.known e)
bare_note outside m h (entries.Begin b) may i other = bare_begin b b.owner m.known h.lists.bare i other
bare_note outside m h (entries.End e) may i other = bare_ended m h e may i other
bare_note outside m h (entries.UpdDone u) may i other = by (want_in (m.known.task u.task).goal u.inst) other
  where
    by : (want : Option GoalRow) → is_among same_inst i (update_done want u.inst m.known).instances ≡ false
        → (update_done want u.inst m.known).row i ≡ bare i
    by (Some want) also = here (same_inst_tells u.inst i)
      where
        here : ((same_inst u.inst i ≡ true) × (u.inst ≡ i)) ⊎ ((same_inst u.inst i ≡ false) × (u.inst ≢ i))
            → at same_inst u.inst (updated_row want (m.known.row u.inst)) m.known.row i ≡ bare i
        here (inl equal) =
            let bare_row : m.known.row i ≡ bare i = h.lists.bare i also in
            let own_row : m.known.row u.inst ≡ bare i = ap m.known.row equal.1 ∙ bare_row in
            (λ j. if equal.0 j then updated_row want (own_row j) else m.known.row i)
        here (inr apart) = (λ j. if apart.0 j then updated_row want (m.known.row u.inst) else m.known.row i)
            ∙ h.lists.bare i also
    by None also = h.lists.bare i also
bare_note outside m h (entries.Gone u) may i other =
    grind (
      arith,
      same_inst_tells u.inst i,
      h.lists.bare i,
      among_without same_inst same_inst_tells i u.inst
          m.known.instances,
      other,
    )
bare_note outside m h (entries.TaskDone t) may i other = by (m.known.task t).kind other
  where
    by : (kind : TaskKind)
        → is_among same_inst i (settles kind (m.known.task t).goal (dep_of_task m.known t) m.known).instances ≡ false
        → (settles kind (m.known.task t).goal (dep_of_task m.known t) m.known).row i ≡ bare i
    by kinds.Deploy also = h.lists.bare i also
    by kinds.Fix also = h.lists.bare i also
    by kinds.DeleteDeployment also = h.lists.bare i also
    by kind also = h.lists.bare i also
bare_note outside m h (entries.Snapshot s) may i other = absurd may
bare_note outside m h entry may i other = h.lists.bare i other

pub bare_kept : (outside : Outside) (m : Moment) (move : Move) → IsPermitted outside m move
    → KnownFacts m → AreOthersBare (later m move).known
bare_kept outside m move may h =
    by_note outside AreOthersBare m (λ e also. bare_note outside m h e also) h.lists.bare move may

-- ---- in order

order_answered : (b : Begin) (answer : Answer) (owner : Owner) (k : Known) → AreInstancesInOrder k
    → AreInstancesInOrder (ends_of b answer owner k)
order_answered b answer (Instance i) k order = order
order_answered b answer (Compile t s) k order =
    ap (are_ascending inst_cmp) (slot_instances t s (slot_after b.n b.call answer (k.slot t s)) k) ∙ order
order_answered b answer (Disk d) k order = grind (arith, order)

order_note : (outside : Outside) (m : Moment) (e : Entry) → MayNote outside m e → AreInstancesInOrder m.known
    → AreInstancesInOrder (learn m.known e)
order_note outside m (entries.Begin b) may order = by b.owner
  where
    by : (owner : Owner) → AreInstancesInOrder (begins b owner m.known)
    by (Instance i) = ascending_inserted inst_cmp inst_total same_inst same_inst_tells inst_equal i
        m.known.instances order
    by (Compile t s) = order
    by (Disk d) = order
order_note outside m (entries.End e) may order = by (m.known.begun e.n)
  where
    by : (b : Option Begin) → AreInstancesInOrder (call_ended e.answer b m.known)
    by (Some b) =
        ap (are_ascending inst_cmp) (compiled_instances b.call e.answer (ends_of b e.answer b.owner m.known))
        ∙ order_answered b e.answer b.owner m.known order
    by None = order
order_note outside m (entries.UpdDone u) may order = by (want_in (m.known.task u.task).goal u.inst)
  where
    by : (want : Option GoalRow) → AreInstancesInOrder (update_done want u.inst m.known)
    by (Some want) = order
    by None = order
order_note outside m (entries.Gone u) may order =
    ascending_without inst_cmp inst_total same_inst same_inst_tells inst_equal u.inst m.known.instances order
order_note outside m (entries.TaskDone t) may order = grind (arith, order)
order_note outside m (entries.Snapshot s) may order = absurd may
order_note outside m entry may order = order

pub order_kept : (outside : Outside) (m : Moment) (move : Move) → IsPermitted outside m move
    → KnownFacts m → AreInstancesInOrder (later m move).known
order_kept outside m move may h =
    by_note outside AreInstancesInOrder m (λ e also. order_note outside m e also h.lists.instances_in_order)
    h.lists.instances_in_order move may
