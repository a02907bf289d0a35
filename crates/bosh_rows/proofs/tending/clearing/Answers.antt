-- The spare disks are those of the rule.
use Rattle.std.proofs.Common.{◌≡◌, ◌∙◌, ap}
use Rattle.bosh_rows.specs.Group.{is_in}
use Rattle.bosh_rows.specs.NextStep.{letting_go}
use Rattle.bosh_rows.proofs.tending.clearing.Goals as goal

pub returns : goal.returns
returns c =
    let disks = c.args.row.now.disks in
    let made : c.letting_go.result ≡ letting_go (is_in c.spare_disks.result) disks =
    rw c.as_slice.ensures at c.letting_go.ensures in
    made ∙ ap (λ test. letting_go test disks) c.spare_disks.ensures
