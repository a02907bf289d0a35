use Rattle.std.proofs.Common.{◌≡◌, ◌∙◌, ◌++◌, List, ap}
use Rattle.bosh_base.specs.declared.problem.Problem.{Problem}
use Rattle.bosh_rows.specs.Standing.{is_empty}
use Rattle.bosh_cck.specs.Problems.{all_row_problems, loose_disks, problems}
use Rattle.bosh_cck.specs.Tables.{all_there}
use Rattle.bosh_cck.proofs.AgreeLemmas.{none-differs}
use Rattle.bosh_cck.proofs.examination.examine.Goals as goal

pub returns-clause-none : goal.returns-clause-none
returns-clause-none c = λ apart.
    let dep = c.args.dep.now in
    let rows = c.args.rows.now in
    let orphans = c.args.orphans.now in
    let machines = all_there c.args.machines.now in
    let disks = all_there c.args.disks.now in
    let listed : c.from.result ≡ problems dep rows orphans machines disks =
    c.from.ensures
    ∙ (c.in_ok-examine_disks.ensures
    ∙ ap (λ (all : List Problem). all ++ loose_disks dep rows orphans disks)
    (c.in_ok-examine_rows.ensures ∙ ap (λ (all : List Problem). all ++ all_row_problems rows machines disks) c.new-problems.ensures.items)) in
    ap is_empty listed ∙ none-differs dep rows orphans machines disks apart
