-- Where the keys of tables stand in order, none stands twice.
use Rattle.std.proofs.Common.{◌≡◌, ◌∙◌, List, [], ◌∷◌, Some, None, refl}
use Rattle.std.specs.Prelude.{cond}
use Rattle.std.specs.List.{AllByRecursion}
use Rattle.std.specs.List.Sorted.{IsStrictlySortedBy}
use Rattle.std.specs.Map.{keys_of}
use Rattle.std.specs.Ordering.{is_eq, nat_cmp}
use Rattle.std.specs.declared.cmp.Ordering.{Ordering}
use Rattle.std.specs.declared.cmp.Ordering.TheVariants.{Less}
use Rattle.bosh_base.specs.Inst.{inst_cmp}
use Rattle.bosh_records.specs.Keys.{key_cmp}
use Rattle.bosh_records.specs.Ordered.{AreInOrder, AreOrdered}
use Rattle.bosh_records.specs.Readers.{machine_cmp}
use Rattle.bosh_records.specs.Recorded.{Recorded}
use Rattle.bosh_records.specs.Table.{found}
use Rattle.laws_stands.specs.Once.{AreOnce, IsOnce}

-- what stands below all keys of a table is none of them
below_all : {K X : Type 0} (cmp : K → K → Ordering) (k : K) (es : List (K × X))
    → AllByRecursion (λ y. cmp k y ≡ Less) (keys_of es) → found cmp es k ≡ None
below_all cmp k [] below = refl
below_all cmp k (e ∷ es) (first, rest) =
    (λ i. cond (is_eq (first i)) (Some e.1) (found cmp es k)) ∙ below_all cmp k es rest

pub once_in : {K X : Type 0} (cmp : K → K → Ordering) (es : List (K × X)) → AreInOrder cmp es → IsOnce cmp es
unfolding IsStrictlySortedBy
once_in cmp [] order = tt
once_in cmp (e ∷ es) (below, order) = (below_all cmp e.0 es below, once_in cmp es order)

pub once_of : {it : Recorded} → AreOrdered it → AreOnce it
once_of {it} ordered = record {
  instances = once_in inst_cmp it.instances ordered.instances;
  machines = once_in machine_cmp it.machines ordered.machines;
  orphans = once_in nat_cmp it.orphans ordered.orphans;
  keys = once_in key_cmp it.keys ordered.keys;
  tasks = once_in nat_cmp it.tasks ordered.tasks;
  works = once_in nat_cmp it.works ordered.works;
  calls = once_in nat_cmp it.calls ordered.calls;
}
