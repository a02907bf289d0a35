use Rattle.bosh_lock.proofs.Following.{one_holder_follows, one_list_follows, whole_follows}
use Rattle.bosh_lock.proofs.laws.what_all_have.Goals as goal

pub returns-clause-shares : goal.returns-clause-shares
returns-clause-shares g c = whole_follows g.S.Chronicle.items

pub returns-clause-holder : goal.returns-clause-holder
returns-clause-holder g c = one_holder_follows g.S.Chronicle.items

pub returns-clause-list : goal.returns-clause-list
returns-clause-list g c = one_list_follows g.S.Chronicle.items
