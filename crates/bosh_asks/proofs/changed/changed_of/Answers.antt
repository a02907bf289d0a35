use Rattle.std.proofs.Common.{◌∙◌, ap, ◌||◌, Option}
use Rattle.std.proofs.lemmas.List.{length-map}
use Rattle.bosh_base.specs.declared.goal.GoalRow.{GoalRow}
use Rattle.bosh_base.specs.declared.row.Row.{Row}
use Rattle.bosh_records.specs.Readers.{row_at}
use Rattle.bosh_asks.specs.Changed.{does_not_stand}
use Rattle.bosh_asks.specs.Known.{rows_at}
use Rattle.bosh_asks.proofs.ChangeLemmas.{all_changed, are_changed, changed_more}
use Rattle.bosh_asks.proofs.changed.changed_of.Goals as goal

pub loop-want-preserved : goal.loop-want-preserved
loop-want-preserved c =
    c.in_ok-push_where.ensures
    ∙ changed_more c.args.all c.args.wants.now (λ (want : GoalRow). row_at c.args.records.now want.inst)
    c.loop-want.want-index c.want-item.result c.loop-want.changed.items c.is_changed-is_changed.result
    c.loop-want-test.true c.want-item.is
    (c.is_changed-is_changed.ensures
    ∙ ap (λ (row : Option Row). c.args.all || does_not_stand c.want-item.result row) c.row-row.ensures)
    c.loop-want.invariant

pub loop-want-init : goal.loop-want-init
loop-want-init c = c.new-changed.ensures.items

pub returns-clause-over : goal.returns-clause-over
returns-clause-over c =
    c.from.ensures
    ∙ all_changed c.args.all c.args.wants.now (λ (want : GoalRow). row_at c.args.records.now want.inst)
    c.loop-want.want-index c.loop-want.changed.items c.loop-want-test.false c.loop-want.invariant

pub returns-clause-ok : goal.returns-clause-ok
returns-clause-ok c =
    are_changed c.args.all c.args.wants.now (rows_at c.args.records.now c.args.wants.now) _
    (length-map c.args.wants.now (λ (want : GoalRow). row_at c.args.records.now want.inst))
    (c.from.ensures
    ∙ all_changed c.args.all c.args.wants.now (λ (want : GoalRow). row_at c.args.records.now want.inst)
    c.loop-want.want-index c.loop-want.changed.items c.loop-want-test.false c.loop-want.invariant)
