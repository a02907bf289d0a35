-- The row of an instance is kept where its files are.
use Rattle.std.proofs.Common.{◌≡◌, ◌∙◌, true, true≢false, List, [], ◌∷◌, ◌++◌, Ok, ap, sym, subst}
use Rattle.bosh_base.specs.declared.goal.GoalRow.{GoalRow}
use Rattle.bosh_base.specs.declared.spec.Placed.{Placed}
use Rattle.bosh_files.specs.Budget.{Takes, is_kept}
use Rattle.bosh_files.specs.Files.{bytes_of}
use Rattle.bosh_manifest_names.specs.declared.fault.GoalFault.TheVariants.{Memory}
use Rattle.bosh_instances.specs.Rows.{placed}
use Rattle.bosh_instances.proofs.RowLemmas.{row-taken}
use Rattle.bosh_instances.proofs.row.add_row.Goals as goal
use Rattle.bosh_instances.proofs.row.add_row.Goals.{then-is_kept+in_ok-goal_row+in_ok-push, else-is_kept}

pub returns : goal.returns
returns c =
    let group = c.args.company.now.group.now in
    let files = placed c.args.scene.now group c.args.company.now.jobs.now c.args.index in
    let kept = c.add_files.new.kept.items in
    let later = c.add_files.new.budget in
    let taken : Takes {T = Unit {0}} Memory bytes_of (Ok tt) c.args.budget.now later [] kept files =
    subst (λ (old : List Placed). Takes {T = Unit {0}} Memory bytes_of (Ok tt) c.args.budget.now later old kept files) c.new-placed.ensures.items c.in_ok-add_files.ensures in
    row-taken c.args.scene.now group c.args.index files c.args.budget.now later kept c.args.rows.now.items c.if-is_kept.rows.items taken
    (λ (e : is_kept later ≡ true). elim c.if-is_kept.branch [
      | then-is_kept+in_ok-goal_row+in_ok-push w ↦
          ap (λ v. v.items) w.rows-is
          ∙ (w.in_ok-push.ensures.items ∙ ap (λ (r : GoalRow). c.args.rows.now.items ++ r ∷ []) w.in_ok-goal_row.ensures)
      | else-is_kept w ↦ absurd (true≢false (sym e ∙ sym w.if-is_kept.ensures))
    ])
