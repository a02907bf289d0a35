-- Every disk was looked at.
use Rattle.std.proofs.Common.{◌≡◌, ◌∙◌}
use Rattle.std.specs.Option.{option_or, option_copied}
use Rattle.bosh_base.specs.declared.method.Method.TheVariants.{UnmountDisk, DetachDisk}
use Rattle.bosh_rows.proofs.StepLemmas.{let_go}
use Rattle.bosh_rows.specs.NextStep.{on}
use Rattle.bosh_rows.proofs.group.Group.letting_go.Goals as goal

pub returns : goal.returns
returns c =
    let unmounting = on UnmountDisk (option_copied c.loop-disk.mounted) in
    let detaching = on DetachDisk (option_copied c.loop-disk.attached) in
    let made : c.or.result ≡ option_or unmounting detaching = cc in
    made ∙ let_go _ _ _ c.loop-disk-test.false _ _ c.loop-disk.invariant.0 c.loop-disk.invariant.1
