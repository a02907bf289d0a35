use Rattle.std.proofs.Common.{◌≡◌, true, false, sym, ◌∙◌}
use Rattle.bosh_alike.specs.Search.{goes_with}
use Rattle.bosh_alike.proofs.AlikeLemmas.{agrees, goes}
use Rattle.bosh_alike.proofs.beside.stay_alike.Goals as goal

pub returns-clause-alike : goal.returns-clause-alike
returns-clause-alike c = λ yes_result. goes c.args.recorded.now c.args.release.now c.requires (sym c.goes_with.ensures ∙ yes_result)

pub returns-clause-unlike : goal.returns-clause-unlike
returns-clause-unlike c = λ no_result alike.
    let all : goes_with c.args.recorded.now c.args.release.now ≡ true = agrees c.args.recorded.now c.args.release.now alike in
    let none : goes_with c.args.recorded.now c.args.release.now ≡ false = sym c.goes_with.ensures ∙ no_result in
    absurd cc
