-- Tables stay in order where something is said anew at a key, or a key goes.
use Rattle.std.proofs.Common.{◌≡◌, Bool, true, false, List, [], ◌∷◌, None, subst, sym}
use Rattle.std.specs.Prelude.{cond}
use Rattle.std.specs.BTreeMap.{is_at}
use Rattle.std.specs.List.{AllByRecursion}
use Rattle.std.specs.List.Sorted.{IsStrictlySortedBy}
use Rattle.std.specs.Map.{keys_of, remove_entry}
use Rattle.std.specs.declared.cmp.Ordering.{Ordering}
use Rattle.std.specs.declared.cmp.Ordering.TheVariants.{Less}
use Rattle.bosh_base.specs.Inst.{inst_cmp}
use Rattle.bosh_base.specs.declared.goal.GoalRow.{GoalRow}
use Rattle.bosh_base.specs.declared.inst.Inst.{Inst}
use Rattle.bosh_fold.specs.Tasks.{wants_forgotten, with_want}
use Rattle.bosh_records.specs.Ordered.{AreInOrder}
use Rattle.bosh_records.specs.Table.{altered, without}
use Rattle.bosh_records.specs.declared.instances.Instance.{Instance}
use Rattle.laws_stands_on.proofs.TableLemmas.{altered_keys}

pub altered_in_order : {K X : Type 0} (cmp : K → K → Ordering) (key : K) (change : X → X) (es : List (K × X))
    → AreInOrder cmp es → AreInOrder cmp (altered cmp key change es)
altered_in_order cmp key change es order = subst (IsStrictlySortedBy cmp) (sym (altered_keys cmp key change es)) order

pub forgotten_in_order : (rows : List GoalRow) (es : List (Inst × Instance)) → AreInOrder inst_cmp es
    → AreInOrder inst_cmp (wants_forgotten rows es)
forgotten_in_order [] es order = order
forgotten_in_order (want ∷ rows) es order =
    forgotten_in_order rows (altered inst_cmp want.inst (with_want None) es)
    (altered_in_order inst_cmp want.inst (with_want None) es order)

-- what is left stands above the same key
still_above : {K X : Type 0} (cmp : K → K → Ordering) (test : K → Bool) (k : K) (es : List (K × X))
    → AllByRecursion (λ y. cmp k y ≡ Less) (keys_of es)
    → AllByRecursion (λ y. cmp k y ≡ Less) (keys_of (remove_entry test es))
still_above cmp test k [] above = above
still_above cmp test k (e ∷ es) (first, rest) = by (test e.0) (still_above cmp test k es rest)
  where
    by : (b : Bool) → AllByRecursion (λ y. cmp k y ≡ Less) (keys_of (remove_entry test es))
        → AllByRecursion (λ y. cmp k y ≡ Less) (keys_of (cond b es (e ∷ remove_entry test es)))
    by true more = rest
    by false more = (first, more)

pub removed_in_order : {K X : Type 0} (cmp : K → K → Ordering) (test : K → Bool) (es : List (K × X))
    → AreInOrder cmp es → AreInOrder cmp (remove_entry test es)
unfolding IsStrictlySortedBy
removed_in_order cmp test [] order = order
removed_in_order cmp test (e ∷ es) (above, order) = by (test e.0) (removed_in_order cmp test es order)
  where
    by : (b : Bool) → AreInOrder cmp (remove_entry test es) → AreInOrder cmp (cond b es (e ∷ remove_entry test es))
    by true more = order
    by false more = (still_above cmp test e.0 es above, more)

pub without_in_order : {K X : Type 0} (cmp : K → K → Ordering) (key : K) (es : List (K × X)) → AreInOrder cmp es
    → AreInOrder cmp (without cmp key es)
without_in_order cmp key es order = removed_in_order cmp (is_at (cmp key)) es order
