-- The row of one more instance is taken.
use Rattle.std.proofs.Common.{◌≡◌, ◌⊎◌, ◌<◌, ◌≤◌, ℕ, List, Result, ◌∙◌, Err, ap, inl, inr, length, rules, subst, sym}
use Rattle.bosh_base.specs.declared.goal.GoalRow.{GoalRow}
use Rattle.bosh_manifest.specs.declared.group.Group.{Group}
use Rattle.bosh_manifest_names.specs.Used.{UsedGroup}
use Rattle.bosh_manifest_names.specs.declared.fault.GoalFault.{GoalFault}
use Rattle.bosh_manifest_names.specs.declared.fault.GoalFault.TheVariants.{Memory}
use Rattle.bosh_files.specs.Gathered.{gather}
use Rattle.bosh_files.proofs.TakenLemmas.{AreGathered-none, AreGathered-more, AreGathered-fault, AreGathered-end}
use Rattle.bosh_instances.specs.Rows.{instance_row, row_bytes}
use Rattle.bosh_instances.proofs.BelowLemmas.{below-at, below-length}
use Rattle.bosh_wants.specs.Wants.{below}
use Rattle.bosh_instances.proofs.listing.add_rows.Goals as goal

pub loop-index-init : goal.loop-index-init
loop-index-init c =
    AreGathered-none (instance_row c.args.scene.now c.args.company.now.group.now c.args.company.now.jobs.now) row_bytes
    (below c.args.company.now.group.now.used.group.instances) c.args.budget.now c.args.rows.now.items

pub loop-index-preserved : goal.loop-index-preserved
loop-index-preserved c =
    let of : ℕ → Result (List GoalRow) GoalFault = instance_row c.args.scene.now c.args.company.now.group.now c.args.company.now.jobs.now in
    let n = c.args.company.now.group.now.used.group.instances in
    let i = c.loop-index.index in
    let count : c.group.result.now.instances ≡ n = ap (λ (g : Group). g.instances) (c.group.ensures ∙ ap (λ (u : UsedGroup). u.group) c.used.ensures) in
    let less : i < n = subst (λ (m : ℕ). i < m) count c.loop-index-test.true in
    let within : i < length (below n) = subst (λ (m : ℕ). i < m) (sym (below-length n)) less in
    AreGathered-more Memory c.in_ok-add_row.field-0 of row_bytes (below n) i i
    c.args.budget.now c.loop-index.budget c.add_row.new.budget c.args.rows.now.items c.loop-index.rows.items c.add_row.new.rows.items
    c.loop-index.invariant within (sym (below-at n i i less)) c.in_ok-add_row.ensures

pub returns-in_err-add_row : goal.returns-in_err-add_row
returns-in_err-add_row c =
    let of : ℕ → Result (List GoalRow) GoalFault = instance_row c.args.scene.now c.args.company.now.group.now c.args.company.now.jobs.now in
    let n = c.args.company.now.group.now.used.group.instances in
    let i = c.loop-index.index in
    let count : c.group.result.now.instances ≡ n = ap (λ (g : Group). g.instances) (c.group.ensures ∙ ap (λ (u : UsedGroup). u.group) c.used.ensures) in
    let less : i < n = subst (λ (m : ℕ). i < m) count c.loop-index-test.true in
    let within : i < length (below n) = subst (λ (m : ℕ). i < m) (sym (below-length n)) less in
    let fault = c.in_err-add_row.field-0.0 in
    let told : (fault ≡ Memory) ⊎ (gather of (below n) ≡ Err fault) =
    elim c.in_err-add_row.ensures [
      | inl memory ↦ inl memory
      | inr refused ↦
          inr (AreGathered-fault of row_bytes (below n) i i c.args.budget.now c.loop-index.budget c.args.rows.now.items c.loop-index.rows.items fault
          c.loop-index.invariant within (sym (below-at n i i less)) refused)
    ] in
    search (rules, told)

pub returns : goal.returns
returns c =
    let of : ℕ → Result (List GoalRow) GoalFault = instance_row c.args.scene.now c.args.company.now.group.now c.args.company.now.jobs.now in
    let n = c.args.company.now.group.now.used.group.instances in
    let i = c.loop-index.index in
    let count : c.group.result.now.instances ≡ n = ap (λ (g : Group). g.instances) (c.group.ensures ∙ ap (λ (u : UsedGroup). u.group) c.used.ensures) in
    let past : length (below n) ≤ i = subst (λ (m : ℕ). m ≤ i) (sym (below-length n)) (subst (λ (m : ℕ). m ≤ i) count c.loop-index-test.false) in
    AreGathered-end {T = Unit {0}} Memory tt of row_bytes (below n) i
    c.args.budget.now c.loop-index.budget c.args.rows.now.items c.loop-index.rows.items c.loop-index.invariant past
