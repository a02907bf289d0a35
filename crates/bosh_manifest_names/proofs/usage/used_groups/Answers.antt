use Rattle.std.proofs.Common.{◌≡◌, ◌∙◌, ◌⊎◌, [], ◌∷◌, ◌++◌, Err, ap, inl, inr, rules}
use Rattle.bosh_manifest_names.specs.Answer.{each}
use Rattle.bosh_manifest_names.specs.Uses.{used_group}
use Rattle.bosh_manifest_names.specs.declared.fault.GoalFault.TheVariants.{Memory}
use Rattle.bosh_manifest_names.proofs.EachLemmas.{Are, stands-more, stands-refused}
use Rattle.bosh_manifest_names.proofs.usage.used_groups.Goals as goal

pub returns-in_err-used_group : goal.returns-in_err-used_group
returns-in_err-used_group c = λ listed h.
    let fault = c.in_err-used_group.field-0.0 in
    let step = used_group c.args.config.now listed.0 listed.1 in
    let refused = stands-refused Are step c.args.groups.now c.loop-group.group-index c.group-item.result c.loop-group.used.items fault c.loop-group-test.true c.group-item.is (c.loop-group.invariant listed h) in
    let told : (fault ≡ Memory) ⊎ (each step c.args.groups.now ≡ Err fault) =
    elim (c.in_err-used_group.ensures listed h) [ inl m ↦ inl m | inr t ↦ inr (refused t) ] in
    search (rules, told)

pub loop-group-preserved : goal.loop-group-preserved
loop-group-preserved c = λ listed h.
    let group = c.in_ok-used_group.field-0 in
    stands-more Are (used_group c.args.config.now listed.0 listed.1) c.args.groups.now c.loop-group.group-index c.group-item.result group
    c.loop-group.used.items c.push.new.self.items c.loop-group-test.true c.group-item.is (c.loop-group.invariant listed h) (c.in_ok-used_group.ensures listed h)
    (λ done same. c.in_ok-push.ensures.items ∙ ap (λ used. used ++ group ∷ []) same)
