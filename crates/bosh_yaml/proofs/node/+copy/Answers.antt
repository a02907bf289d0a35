use Rattle.std.proofs.Common.{◌<◌, arith, length}
use Rattle.bosh_yaml.proofs.PlaceLemmas.{copies_new}
use Rattle.bosh_yaml.proofs.node.+copy.Goals as goal

pub copy_pairs-push_copy-requires : goal.copy_pairs-push_copy-requires
copy_pairs-push_copy-requires t c =
    let keys = c.deref-key-items.result.now in
    let within : c.loop-key.key-index < length keys = omega (arith, c.loop-key-test.true, c.deref-key-items.ensures.len) in
    copies_new c.pairs.inside.entries.items keys c.loop-key.key-index c.loop-key-item.result c.loop-key.copied c.pairs.invariant.0 c.deref-key-items.ensures.value within c.loop-key-item.is c.loop-key.invariant
