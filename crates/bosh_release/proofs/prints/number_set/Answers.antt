use Rattle.std.proofs.Common.{◌∙◌, ap, sym, get_or}
use Rattle.std.specs.BTreeSet.{insert_key}
use Rattle.std.specs.Ordering.{nat_cmp}
use Rattle.bosh_release.proofs.PrintLemmas.{numbers_more}
use Rattle.bosh_release.proofs.prints.number_set.Goals as goal

pub loop-number-preserved : goal.loop-number-preserved
loop-number-preserved c =
    let number = get_or c.args.numbers.now c.loop-number.number-index 0 in
    c.in_ok-insert.ensures.keys
    ∙ ap (λ keys. insert_key nat_cmp keys number) c.loop-number.invariant
    ∙ sym (numbers_more c.args.numbers.now c.loop-number.number-index 0 c.loop-number-test.true)
