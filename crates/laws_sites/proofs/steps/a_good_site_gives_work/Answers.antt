use Rattle.laws_sites.proofs.ClaimLemmas.{claimed_good}
use Rattle.laws_sites.proofs.ClaimStoppedLemmas.{claim_stopped_good}
use Rattle.laws_sites.proofs.NumberLemmas.{numbers_left}
use Rattle.laws_sites.proofs.steps.a_good_site_gives_work.Goals as goal
use Rattle.laws_stands_kept.proofs.KeptLemmas.{one_more_stands}

pub returns-clause-given : goal.returns-clause-given
returns-clause-given g c = λ outside o task worker claim fit good claims calls.
    claimed_good one_more_stands g.K.Keeper.bodies g.L.Keeper.bodies g.K.Keeper.faults outside o c.args.was.now
    c.args.now.now task worker claim fit good (numbers_left outside g.K.Keeper.bodies g.L.Keeper.bodies o
    c.args.was.now good claims.notes.running claims.has_room) claims calls

pub returns-clause-refused : goal.returns-clause-refused
returns-clause-refused g c = λ outside o task worker fault.
    claim_stopped_good one_more_stands g.K.Keeper.bodies g.L.Keeper.bodies g.K.Keeper.faults outside o c.args.was.now
    c.args.now.now task worker fault
