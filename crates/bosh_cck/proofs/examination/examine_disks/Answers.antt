-- The tables have what is recorded and what is in doubt.
use Rattle.std.proofs.Common.{◌≡◌, ◌++◌, Bool, OnOk, subst}
use Rattle.bosh_base.specs.declared.machine.Disk.{Disk}
use Rattle.bosh_cck.specs.Loose.{is_loose, is_loose_beside}
use Rattle.bosh_cck.specs.Problems.{loose_among}
use Rattle.bosh_cck.specs.Tables.{all_there, has}
use Rattle.bosh_cck.proofs.examination.examine_disks.Goals as goal

pub returns : goal.returns
returns c =
    let found : Disk → Bool = is_loose_beside c.args.dep.now (has c.in_ok-recorded.recorded) (has c.in_ok-doubted.doubted) in
    let meant : Disk → Bool = is_loose c.args.dep.now c.args.rows.now c.args.orphans.now in
    let same : found ≡ meant = λ i it.
    is_loose_beside c.args.dep.now (λ n. c.in_ok-recorded.ensures n i) (λ n. c.in_ok-doubted.ensures n i) it in
    subst (λ (test : Disk → Bool). OnOk c.add_loose.result
    (c.add_loose.new.problems.items ≡ c.args.problems.now.items ++ loose_among test (all_there c.args.disks.now)))
    same c.add_loose.ensures
