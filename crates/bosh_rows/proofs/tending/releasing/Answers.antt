-- The active disks are those of the rule.
use Rattle.bosh_rows.proofs.tending.releasing.Goals as goal

pub returns : goal.returns
returns c = rw c.as_slice.ensures at c.letting_go.ensures
