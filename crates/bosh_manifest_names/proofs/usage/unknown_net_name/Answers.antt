use Rattle.std.proofs.Common.{◌∙◌, not, ap, sym}
use Rattle.std.specs.Option.{option_copied, option_map}
use Rattle.bosh_base.specs.Plan.{is_listed}
use Rattle.bosh_manifest_names.specs.Uses.{net_name}
use Rattle.bosh_manifest_names.proofs.FindLemmas.{find-map}
use Rattle.bosh_manifest_names.proofs.usage.unknown_net_name.Goals as goal

pub returns-in-Some : goal.returns-in-Some
returns-in-Some c =
    ap (λ found. option_map net_name (option_copied found)) (sym c.in-Some.is)
    ∙ (ap (option_map net_name) c.unknown_network.ensures
    ∙ sym (find-map (λ name. not (is_listed name c.args.config.now.networks)) net_name c.args.networks.now))

pub returns-in-None : goal.returns-in-None
returns-in-None c =
    ap (λ found. option_map net_name (option_copied found)) (sym c.in-None.is)
    ∙ (ap (option_map net_name) c.unknown_network.ensures
    ∙ sym (find-map (λ name. not (is_listed name c.args.config.now.networks)) net_name c.args.networks.now))
