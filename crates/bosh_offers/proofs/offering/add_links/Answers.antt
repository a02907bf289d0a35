-- One more link is offered, or is not.
use Rattle.std.proofs.Common.{◌≡◌, ◌∙◌, ◌++◌, Option, None, cond, option_map, ap}
use Rattle.std.specs.Option.{option_copied, option_to_list}
use Rattle.bosh_base.specs.declared.link.Joint.{Joint}
use Rattle.bosh_base.specs.declared.release.LinkSpec.{LinkSpec}
use Rattle.bosh_lookup.specs.Table.{first_named}
use Rattle.bosh_manifest.specs.declared.group.Group.{Group}
use Rattle.bosh_manifest_parts.specs.declared.link.Provide.{Provide}
use Rattle.bosh_template.specs.Environment.{JobEnv}
use Rattle.bosh_ties.specs.Links.{joint_of, provide_of, provider}
use Rattle.bosh_ties.specs.Spot.{spot_joint}
use Rattle.bosh_ties.proofs.LinksLemmas.{filtered-more}
use Rattle.bosh_offers.specs.Offers.{chosen, giving, is_chosen, offer_of}
use Rattle.bosh_offers.proofs.offering.add_links.Goals as goal

pub loop-link-preserved : goal.loop-link-preserved
loop-link-preserved c =
    let choice = c.args.choice in
    let dep = c.args.dep.now in
    let group = c.args.group.now in
    let used = c.args.used.now in
    let link = c.link-item.result in
    let spot = c.of-spot.result in
    let items = c.loop-link.offers.items in
    let told = λ (job : JobEnv) (joint : Joint) (l : LinkSpec) (said : Option Provide).
    cond (is_chosen choice said) (option_map (offer_of group job l) (provider joint l said)) None in
    let name : c.group.result.now ≡ group.used.group = c.group.ensures ∙ ap (λ u. u.group) c.used.ensures in
    let joint : spot_joint spot ≡ joint_of dep group.used.group.name used link =
    c.of-spot.ensures.joint ∙ ap (λ (g : Group). joint_of dep g.name used link) name in
    let said : option_copied c.find-provide.result ≡ provide_of used link =
    c.find-provide.ensures used.job.provides c.requires.said
    ∙ ap (first_named (λ (provide : Provide). provide.link) used.job.provides) c.as_bytes.ensures.bytes in
    let found : c.in_ok-chosen.field-0 ≡ chosen choice dep group used link =
    c.in_ok-chosen.ensures
    ∙ (ap (λ (job : JobEnv). told job (spot_joint spot) spot.link.now (option_copied c.find-provide.result)) c.requires.job
    ∙ (ap (λ (l : LinkSpec). told (giving dep group.used.group.name used) (spot_joint spot) l (option_copied c.find-provide.result)) c.of-spot.ensures.link
    ∙ (ap (λ (j : Joint). told (giving dep group.used.group.name used) j link (option_copied c.find-provide.result)) joint
    ∙ ap (λ (s : Option Provide). told (giving dep group.used.group.name used) (joint_of dep group.used.group.name used link) link s) said))) in
    filtered-more (chosen choice dep group used) c.as_slice-links.result.now c.loop-link.link-index link c.args.offers.now.items items c.push_some.new.items.items
    c.loop-link-test.true c.link-item.is c.loop-link.invariant
    (c.in_ok-push_some.ensures ∙ ap (λ item. items ++ option_to_list item) found)
