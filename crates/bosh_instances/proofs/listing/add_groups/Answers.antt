-- The rows of one more group are taken.
use Rattle.std.proofs.Common.{◌≡◌, ◌⊎◌, Err, inl, inr, rules}
use Rattle.bosh_manifest_names.specs.declared.fault.GoalFault.TheVariants.{Memory}
use Rattle.bosh_files.specs.Gathered.{gather}
use Rattle.bosh_files.proofs.TakenLemmas.{AreGathered-none, AreGathered-more, AreGathered-fault, AreGathered-end}
use Rattle.bosh_instances.specs.Rows.{group_rows, row_bytes}
use Rattle.bosh_instances.proofs.listing.add_groups.Goals as goal

pub loop-group-init : goal.loop-group-init
loop-group-init c = AreGathered-none (group_rows c.args.scene.now) row_bytes c.args.groups.now c.args.budget.now c.args.rows.now.items

pub loop-group-preserved : goal.loop-group-preserved
loop-group-preserved c =
    AreGathered-more Memory c.in_ok-add_group.field-0 (group_rows c.args.scene.now) row_bytes c.args.groups.now c.loop-group.group-index c.group-item.result
    c.args.budget.now c.loop-group.budget c.add_group.new.budget c.args.rows.now.items c.loop-group.rows.items c.add_group.new.rows.items
    c.loop-group.invariant c.loop-group-test.true c.group-item.is c.in_ok-add_group.ensures

pub returns-in_err-add_group : goal.returns-in_err-add_group
returns-in_err-add_group c =
    let fault = c.in_err-add_group.field-0.0 in
    let told : (fault ≡ Memory) ⊎ (gather (group_rows c.args.scene.now) c.args.groups.now ≡ Err fault) =
    elim c.in_err-add_group.ensures [
      | inl memory ↦ inl memory
      | inr refused ↦
          inr (AreGathered-fault (group_rows c.args.scene.now) row_bytes c.args.groups.now c.loop-group.group-index c.group-item.result
          c.args.budget.now c.loop-group.budget c.args.rows.now.items c.loop-group.rows.items fault
          c.loop-group.invariant c.loop-group-test.true c.group-item.is refused)
    ] in
    search (rules, told)

pub returns : goal.returns
returns c =
    AreGathered-end {T = Unit {0}} Memory tt (group_rows c.args.scene.now) row_bytes c.args.groups.now c.loop-group.group-index
    c.args.budget.now c.loop-group.budget c.args.rows.now.items c.loop-group.rows.items c.loop-group.invariant c.loop-group-test.false
