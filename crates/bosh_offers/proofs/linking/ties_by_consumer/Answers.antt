use Rattle.std.proofs.Common.{◌∙◌, [], List, append-nil, ap, find, rules}
use Rattle.bosh_base.specs.declared.link.Tie.{Tie}
use Rattle.bosh_offers.specs.Tied.{AreBySocket, is_consumer}
use Rattle.bosh_offers.proofs.linking.ties_by_consumer.Goals as goal

pub returns : goal.returns
returns c = λ joint kind.
    let empty : AreBySocket (λ (tie : Tie). tie.consumer) (λ (tie : Tie). tie.kind) [] c.new-table.result = search (rules, c.new-table.ensures.empty) in
    c.in_ok-put_all.ensures [] empty joint kind ∙ ap (λ (ties : List Tie). find (is_consumer joint kind) ties) (append-nil c.args.ties.now)
