use Rattle.std.proofs.Common.{rules, subst, sym}
use Rattle.std.specs.Cmp.{IsTotalOrder}
use Rattle.std.specs.List.Sorted.{IsSorted}
use Rattle.std.specs.Ordering.{is_lt}
use Rattle.std.proofs.lemmas.Cmp.{nat_list_cmp_total, on_total, then_total}
use Rattle.std.proofs.lemmas.List.Sorted.{answers_always, ranks_by}
use Rattle.bosh_base.specs.declared.key.Key.{Key}
use Rattle.bosh_base.specs.declared.snapshot.BuiltKey.{BuiltKey}
use Rattle.bosh_rows.specs.SoundSnapshot.{built_cmp}
use Rattle.bosh_records.proofs.keys.Keys.built.Goals as goal

-- the order by name, then key, tells any two apart
built_total : IsTotalOrder built_cmp
built_total =
    then_total (on_total (λ (it : BuiltKey). it.name) nat_list_cmp_total)
    (on_total (λ (it : BuiltKey). it.key)
    (then_total (on_total (λ (key : Key). key.fingerprint.0) nat_list_cmp_total)
    (then_total (on_total (λ (key : Key). key.os) nat_list_cmp_total)
    (on_total (λ (key : Key). key.version) nat_list_cmp_total))))

pub returns-clause-sorted : goal.returns-clause-sorted
returns-clause-sorted c =
    subst (IsSorted built_cmp) (sym c.from.ensures)
    (c.in_ok-sort_by.ensures.sorted (λ x y. is_lt (built_cmp x y)) (ranks_by built_total (λ it. it))
    (answers_always _ _ _ (λ f a r g h. search rules)))
