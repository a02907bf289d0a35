-- The disks are looked at once.
use Rattle.std.proofs.Common.{◌≡◌, ◌∙◌, ◌&&◌, ◌||◌, Bool, not, ap, arith}
use Rattle.std.specs.List.{list_any}
use Rattle.bosh_base.specs.declared.row.DiskRow.{DiskRow}
use Rattle.bosh_rows.proofs.DiskLemmas.{list_any-or}
use Rattle.bosh_rows.specs.Disks.{is_active, is_spare}
use Rattle.bosh_rows.specs.Group.{is_in}
use Rattle.bosh_rows.proofs.tending.has_to_stop.Goals as goal

pub returns-else-not-is_disk_settled : goal.returns-else-not-is_disk_settled
returns-else-not-is_disk_settled c =
    let disks = c.args.row.now.disks in
    let spare = is_spare c.args.want.now.disk disks in
    let moved : DiskRow → Bool = λ d. not (is_active d) && d.mounted in
    let seen : c.shows_others.result ≡ list_any (λ d. (is_in c.spare_disks.result d && d.attached) || moved d) disks =
    rw c.as_slice-else-not-is_disk_settled.ensures at c.shows_others.ensures in
    let shown : c.shows_others.result ≡ (list_any (λ d. spare d && d.attached) disks || list_any moved disks) =
    seen
    ∙ (ap (λ test. list_any (λ d. (test d && d.attached) || moved d) disks) c.spare_disks.ensures
    ∙ list_any-or (λ d. spare d && d.attached) moved disks) in
    grind (arith)
