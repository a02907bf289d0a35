-- A tie is found by its consumer, and its offer by the provider.
use Rattle.std.proofs.Common.{◌≡◌, ◌∙◌, Option, Bor, Some, None, ap, find, sym}
use Rattle.std.specs.Option.{option_copied}
use Rattle.bosh_base.specs.declared.link.Tie.{Tie}
use Rattle.bosh_ties.specs.Spot.{spot_joint}
use Rattle.bosh_offers.specs.Tied.{Offered, all_offers, is_consumer, offer_at, provided_by}
use Rattle.bosh_offers.proofs.linking.Offered.of_link.Goals as goal

pub returns-in-None : goal.returns-in-None
returns-in-None c =
    let ties = c.self.inside.ties.now in
    let joint = spot_joint c.args.spot in
    let kind = c.args.spot.link.now.kind in
    let none : find (is_consumer joint kind) ties ≡ None =
    sym (c.first_of.ensures ties joint kind c.socket_at.ensures c.self.invariant.0)
    ∙ ap (λ (found : Option (Bor Tie)). option_copied {T = Tie} found) c.in-None.is in
    sym (ap (provided_by (all_offers c.self.inside.own.now c.self.inside.known.now)) none)
    ∙ ap (λ (offered : Offered). offer_at offered joint kind) c.self.view_is

pub returns-in-Some : goal.returns-in-Some
returns-in-Some c =
    let ties = c.self.inside.ties.now in
    let offers = all_offers c.self.inside.own.now c.self.inside.known.now in
    let joint = spot_joint c.args.spot in
    let kind = c.args.spot.link.now.kind in
    let tie = c.in-Some.tie.now in
    let there : find (is_consumer joint kind) ties ≡ Some tie =
    sym (c.first_of.ensures ties joint kind c.socket_at.ensures c.self.invariant.0)
    ∙ ap (λ (found : Option (Bor Tie)). option_copied {T = Tie} found) c.in-Some.is in
    c.first_of-in-Some.ensures offers tie.provider tie.kind c.socket_of.ensures c.self.invariant.1
    ∙ (sym (ap (provided_by offers) there) ∙ ap (λ (offered : Offered). offer_at offered joint kind) c.self.view_is)
