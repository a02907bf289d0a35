use Rattle.bosh_progress.proofs.tree.Tree.+filled.Given as goal

abbrev pub decreases-filled : goal.decreases-filled
decreases-filled l = l.len
