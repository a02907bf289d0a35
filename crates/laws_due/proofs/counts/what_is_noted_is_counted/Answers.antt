use Rattle.laws_due.proofs.CountLemmas.{counted_on}
use Rattle.laws_due.proofs.counts.what_is_noted_is_counted.Goals as goal

pub returns : goal.returns
returns g c = λ outside o more fit good kept running counted comes going read.
    counted_on outside g.K.Keeper.bodies g.L.Keeper.bodies o c.args.was.now c.args.now.now more fit good kept running counted comes going
    read
