use Rattle.std.proofs.Common.{◌∙◌, Option, Bor, ap}
use Rattle.std.specs.Option.{option_copied}
use Rattle.bosh_offers.proofs.SocketLemmas.{same_found}
use Rattle.bosh_offers.proofs.socket.first_of.Goals as goal

pub returns : goal.returns
returns g c = λ all joint kind stands are.
    ap (λ (found : Option (Bor g.row.T.Denot)). option_copied {T = g.row.T.Denot} found)
    (c.copied.ensures ∙ (c.get.ensures.value ∙ same_found c.args.socket joint kind c.args.table.now stands))
    ∙ are joint kind
