-- The tables have what is owned and what is there.
use Rattle.std.proofs.Common.{◌≡◌, ◌++◌, List, OnOk, subst}
use Rattle.std.specs.List.{flat_map}
use Rattle.bosh_base.specs.declared.problem.Problem.{Problem}
use Rattle.bosh_base.specs.declared.row.Row.{Row}
use Rattle.bosh_history.specs.Agrees.{its_machines}
use Rattle.bosh_cck.specs.Problems.{is_disk, row_problems}
use Rattle.bosh_cck.specs.Tables.{all_there, has, owned_by}
use Rattle.bosh_cck.proofs.examination.examine_rows.Goals as goal

pub returns : goal.returns
returns c =
    let found : Row → List Problem = λ row. row_problems (owned_by c.in_ok-owned.owned row.inst) (has c.in_ok-there.there) row in
    let meant : Row → List Problem = λ row.
    row_problems (its_machines row (all_there c.args.machines.now)) (is_disk (all_there c.args.disks.now)) row in
    let same : found ≡ meant = λ i row. row_problems (c.in_ok-owned.ensures row.inst i) (λ n. c.in_ok-there.ensures n i) row in
    subst (λ (f : Row → List Problem). OnOk c.add_rows.result
    (c.add_rows.new.problems.items ≡ c.args.problems.now.items ++ flat_map f c.args.rows.now))
    same c.add_rows.ensures
