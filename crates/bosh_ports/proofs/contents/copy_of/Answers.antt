use Rattle.std.proofs.Common.{◌∙◌}
use Rattle.bosh_ports.proofs.ContentsLemmas.{contents-copy_more}
use Rattle.bosh_ports.proofs.contents.copy_of.Goals as goal

pub loop-item-preserved : goal.loop-item-preserved
loop-item-preserved c =
    rw c.in_ok-push.ensures.items
    (contents-copy_more c.loop-item.copies.items c.args.items.now c.loop-item.item-index c.item-item.result c.in_ok-to_vec.field-0
    c.loop-item.invariant c.loop-item-test.true c.item-item.is
    (c.in_ok-to_vec.ensures.items_if_clones_equal (λ _ _ e. e) ∙ c.deref.ensures.value))
