use Rattle.std.proofs.Common.{◌≡◌, ◌∙◌, ap, subst}
use Rattle.std.specs.Option.{option_copied}
use Rattle.bosh_base.specs.declared.stemcell.Stemcell.{Stemcell}
use Rattle.bosh_manifest_names.specs.Answer.{IsAnswerSeen}
use Rattle.bosh_lookup.specs.Table.{found_at}
use Rattle.bosh_manifest_names.specs.Uses.{or_unknown, stemcell_of_alias}
use Rattle.bosh_manifest_names.specs.declared.fault.Kind.TheVariants as kinds
use Rattle.bosh_manifest_names.proofs.sources.Sources.stemcell.Goals as goal

pub returns : goal.returns
returns c = λ stemcells h.
    let alias = c.args.alias.now in
    let found : option_copied c.copied-found.result ≡ stemcell_of_alias stemcells alias =
    ap (λ found. option_copied {T = Stemcell} found) (c.copied-found.ensures ∙ (c.get.ensures.value ∙ ap (found_at c.args.self.now.stemcells) c.as_bytes.ensures.bytes))
    ∙ h alias in
    subst (λ found. IsAnswerSeen (λ stemcell. stemcell.now) c.known.result (or_unknown kinds.Stemcell alias found)) found c.known.ensures
