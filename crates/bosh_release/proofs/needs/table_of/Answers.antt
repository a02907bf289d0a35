use Rattle.std.proofs.Common.{◌∙◌, ap}
use Rattle.bosh_release.proofs.TableLemmas.{table_more}
use Rattle.bosh_release.proofs.needs.table_of.Goals as goal

pub loop-place-preserved : goal.loop-place-preserved
loop-place-preserved c =
    table_more c.args.packages.now c.loop-place.place c.index-packages-place.result c.loop-place.table
    c.add_place.new.table c.as_bytes.result.now c.loop-place-test.true
    (c.as_bytes.ensures.bytes ∙ ap (λ pack. pack.name) c.index-packages-place.is)
    c.in_ok-add_place.ensures.added c.loop-place.invariant
