-- The machine is at rest.
use Rattle.std.proofs.Common.{◌≡◌, ◌∙◌, sym, true, Some}
use Rattle.std.specs.Option.{option_or}
use Rattle.bosh_base.specs.declared.method.Method.TheVariants.{DeleteVm}
use Rattle.bosh_rows.proofs.StepLemmas.{removal_at_rest}
use Rattle.bosh_rows.specs.NextStep.{letting_go, plain}
use Rattle.bosh_rows.proofs.removal.removal.Goals as goal

pub returns : goal.returns
returns c =
    let made : c.or.result ≡ option_or (letting_go (λ d. true) c.args.row.now.disks) (Some (plain DeleteVm)) = cc in
    made ∙ sym (removal_at_rest c.args.row.now c.if-row-2.false)
