-- A table finds the first two of the candidates that a consumer is answered by.
use Rattle.std.proofs.Common.{◌≡◌, ap, sym, subst, ◌∙◌}
use Rattle.std.specs.List.{filter}
use Rattle.std.specs.Str.{bytes_eq}
use Rattle.bosh_links.specs.Links.{outcome_from, IsAnswer}
use Rattle.bosh_links.specs.Table.{providers_in, found_at}
use Rattle.bosh_links.proofs.candidates.Candidates.tie.Goals as goal

pub returns-in-Implicit : goal.returns-in-Implicit
returns-in-Implicit c = λ ps tables.
    let found : c.copied-found.result ≡ found_at c.args.self.now.by_kind c.args.consumer.now.kind =
    (c.copied-found.ensures ∙ c.get.ensures.value) ∙ ap (found_at c.args.self.now.by_kind) c.as_slice.ensures in
    subst (λ from. IsAnswer c.implicit.result (outcome_from ps c.args.consumer.now from)) (sym c.in-Implicit.is)
    (c.implicit.ensures (filter (λ p. bytes_eq p.kind c.args.consumer.now.kind) ps) (ap providers_in found ∙ tables.kinds c.args.consumer.now.kind))

pub returns-in-Named : goal.returns-in-Named
returns-in-Named c = λ ps tables.
    let found : c.copied-found-in-Named.result ≡ found_at c.args.self.now.by_name c.in-Named.name =
    (c.copied-found-in-Named.ensures ∙ c.get-in-Named.ensures.value) ∙ ap (found_at c.args.self.now.by_name) c.as_slice-in-Named.ensures in
    subst (λ from. IsAnswer c.named.result (outcome_from ps c.args.consumer.now from)) (sym c.in-Named.is)
    (c.named.ensures (filter (λ p. bytes_eq p.public_name c.in-Named.name) ps) (ap providers_in found ∙ tables.names c.in-Named.name))
