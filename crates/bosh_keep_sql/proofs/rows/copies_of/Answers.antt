use Rattle.std.proofs.Common.{◌∙◌}
use Rattle.bosh_ports.proofs.ContentsLemmas.{contents-copy_more}
use Rattle.bosh_keep_sql.proofs.rows.copies_of.Goals as goal

pub loop-body-preserved : goal.loop-body-preserved
loop-body-preserved c =
    rw c.in_ok-push.ensures.items
    (contents-copy_more c.loop-body.copies.items c.args.bodies.now c.loop-body.body-index c.body-item.result c.in_ok-to_vec.field-0
    c.loop-body.invariant c.loop-body-test.true c.body-item.is
    (c.in_ok-to_vec.ensures.items_if_clones_equal (λ _ _ e. e) ∙ c.deref.ensures.value))
