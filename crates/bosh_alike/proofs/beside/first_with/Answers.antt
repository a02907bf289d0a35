use Rattle.std.proofs.Common.{sym, ◌∙◌}
use Rattle.bosh_alike.proofs.AlikeLemmas.{first_in_new, still_first}
use Rattle.bosh_alike.proofs.beside.first_with.Goals as goal

pub returns-in-Some : goal.returns-in-Some
returns-in-Some c = still_first c.args.releases.now c.args.release.now c.args.print _ c.in-Some.ensures

pub returns-in-None : goal.returns-in-None
returns-in-None c = c.find_in.ensures ∙ sym (first_in_new c.args.releases.now c.args.release.now c.args.print c.in-None.ensures)
