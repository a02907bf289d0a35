use Rattle.std.proofs.Common.{◌≡◌, ◌∙◌, [], ◌++◌, option_map, ap}
use Rattle.std.specs.Option.{option_to_list}
use Rattle.bosh_ties.specs.Spot.{spot_joint}
use Rattle.bosh_ties.proofs.LinksLemmas.{filtered-more}
use Rattle.bosh_offers.specs.Tied.{env_of, link_env, offer_at}
use Rattle.bosh_offers.proofs.linking.links.Goals as goal

pub loop-link-preserved : goal.loop-link-preserved
loop-link-preserved c =
    let offered = c.args.offered.now in
    let gathered = link_env offered c.args.dep.now c.args.group.now c.args.used.now in
    let link = c.link-item.result in
    let spot = c.of-spot.result in
    let items = c.loop-link.links.items in
    let found : c.in_ok-link_env.field-0 ≡ gathered link =
    c.in_ok-link_env.ensures
    ∙ (ap (λ l. option_map (env_of l) (offer_at offered (spot_joint spot) l.kind)) c.of-spot.ensures.link
    ∙ ap (λ joint. option_map (env_of link) (offer_at offered joint link.kind)) c.of-spot.ensures.joint) in
    filtered-more gathered c.as_slice-consumed.result.now c.loop-link.link-index link [] items c.push_some.new.items.items
    c.loop-link-test.true c.link-item.is c.loop-link.invariant
    (c.in_ok-push_some.ensures ∙ ap (λ item. items ++ option_to_list item) found)
