-- A permit that is current stays so as the records get room for more.
use Rattle.std.proofs.Common.{◌≡◌, ◌∙◌, ℕ, Bool, true, false, List, [], ◌∷◌, ◌++◌, Option, Some, None, ap, refl, sym}
use Rattle.std.specs.Prelude.{cond, is_some, if◌then◌else◌}
use Rattle.std.specs.BTreeMap.{is_at}
use Rattle.std.specs.Option.{option_and_then, option_map}
use Rattle.std.specs.Ordering.{nat_cmp}
use Rattle.bosh_base.specs.declared.entry.Entry.{Entry}
use Rattle.bosh_base.specs.declared.owner.Owner.{Owner}
use Rattle.bosh_base.specs.declared.owner.Owner.TheVariants.{Compile, Disk, Instance}
use Rattle.bosh_base.specs.declared.task.TaskRow.{TaskRow}
use Rattle.bosh_book.specs.Current.{IsOpenCall, dep_of}
use Rattle.bosh_book.specs.declared.granted.Granted.{Granted}
use Rattle.bosh_fold.specs.Learns.{IsAlike, LearnsAll}
use Rattle.bosh_records.specs.Ordered.{AreInOrder, AreOrdered}
use Rattle.bosh_records.specs.Recorded.{Recorded, recorded, taken_places}
use Rattle.bosh_records.specs.Table.{found, thing_in}
use Rattle.bosh_records.specs.declared.orphans.LooseDisk.{LooseDisk}
use Rattle.bosh_records.specs.declared.records.Records.{Records}
use Rattle.laws_stands.proofs.OrderLemmas.{once_in}
use Rattle.laws_stands.specs.Once.{IsOnce}
use Rattle.laws_stands_on.proofs.TableLemmas.{nat_keys}

-- ---- keys in order

-- they stand in order after entries that are learned, where they did before
pub still_ordered : (was now : Records) (noted : List Entry) → AreOrdered (recorded was) → LearnsAll was noted now
    → AreOrdered (recorded now)
still_ordered was now [] ordered alike = alike.ordered ordered
still_ordered was now (e ∷ noted) ordered (roomy, mid, alike, learns, others) =
    still_ordered mid now noted learns.ordered others

-- .. and after one entry at least, whatever was before
pub ordered_after : (was now : Records) (noted : List Entry) (last : Entry) → LearnsAll was (noted ++ last ∷ []) now
    → AreOrdered (recorded now)
ordered_after was now [] last (roomy, mid, alike, learns, others) = still_ordered mid now [] learns.ordered others
ordered_after was now (e ∷ noted) last (roomy, mid, alike, learns, others) =
    still_ordered mid now (noted ++ last ∷ []) learns.ordered others

-- ---- what is read

-- a place that is free is read as none, also where it is left out
taken_read : {V : Type 0} (es : List (ℕ × Option V)) → IsOnce nat_cmp es → (n : ℕ)
    → thing_in nat_cmp (taken_places es) n ≡ thing_in nat_cmp es n
taken_read [] once n = refl
taken_read {V} (e ∷ es) (none, once) n = by e.1 (is_at (nat_cmp n) e.0) refl (taken_read es once n)
  where
    thing : Option (Option V) → Option V
    thing place = option_and_then (λ (it : Option V). it) place

    by : (o : Option V) (c : Bool) → is_at (nat_cmp n) e.0 ≡ c
        → thing_in nat_cmp (taken_places es) n ≡ thing_in nat_cmp es n
        → thing (found nat_cmp (if is_some o then (e.0, o) ∷ taken_places es else taken_places es) n)
        ≡ thing (cond (is_at (nat_cmp n) e.0) (Some o) (found nat_cmp es n))
    by (Some v) true here more =
        (λ i. thing (cond (here i) (Some (Some v)) (found nat_cmp (taken_places es) n)))
        ∙ (λ i. thing (cond (sym here i) (Some (Some v)) (found nat_cmp es n)))
    by (Some v) false away more =
        (λ i. thing (cond (away i) (Some (Some v)) (found nat_cmp (taken_places es) n))) ∙ more
        ∙ (λ i. thing (cond (sym away i) (Some (Some v)) (found nat_cmp es n)))
    by None true here more =
        more ∙ ap (λ q. thing (found nat_cmp es q)) (nat_keys n e.0 here) ∙ ap thing none
        ∙ (λ i. thing (cond (sym here i) (Some None) (found nat_cmp es n)))
    by None false away more = more ∙ (λ i. thing (cond (sym away i) (Some None) (found nat_cmp es n)))

same_read : {V : Type 0} (was now : List (ℕ × Option V)) → AreInOrder nat_cmp was → AreInOrder nat_cmp now
    → taken_places now ≡ taken_places was → (n : ℕ) → thing_in nat_cmp now n ≡ thing_in nat_cmp was n
same_read was now order order_now same n =
    sym (taken_read now (once_in nat_cmp now order_now) n) ∙ ap (λ places. thing_in nat_cmp places n) same
    ∙ taken_read was (once_in nat_cmp was order) n

-- ---- the call of a permit

pub open_still : (was now : Records) (permit : Granted) → AreOrdered (recorded was) → IsAlike was now
    → IsOpenCall was permit → IsOpenCall now permit
open_still was now permit order alike it = record {
  begun = it.begun;
  is_open =
      same_read (recorded was).calls (recorded now).calls order.calls ordered.calls
      (ap (λ (all : Recorded). all.calls) alike.same) permit.n ∙ it.is_open;
  is_for = it.is_for;
  of_dep = by it.begun.owner ∙ it.of_dep;
}
  where
    ordered : AreOrdered (recorded now)
    ordered = alike.ordered order

    by : (owner : Owner) → dep_of now owner ≡ dep_of was owner
    by (Instance i) = refl
    by (Compile t s) = ap (option_and_then (λ (row : TaskRow). row.dep))
        (same_read (recorded was).tasks (recorded now).tasks order.tasks ordered.tasks
        (ap (λ (all : Recorded). all.tasks) alike.same) t)
    by (Disk d) = ap (option_map (λ (it : LooseDisk). it.orphan.inst.dep))
        (same_read (recorded was).orphans (recorded now).orphans order.orphans ordered.orphans
        (ap (λ (all : Recorded). all.orphans) alike.same) d)
