use Rattle.std.proofs.Common.{◌∙◌, [], ◌++◌, ap}
use Rattle.std.specs.Option.{option_to_list}
use Rattle.bosh_ties.proofs.LinksLemmas.{filtered-more}
use Rattle.bosh_offers.specs.Offers.{prop_of}
use Rattle.bosh_offers.proofs.properties.link_props.Goals as goal

pub loop-name-preserved : goal.loop-name-preserved
loop-name-preserved c =
    let items = c.loop-name.props.items in
    filtered-more (prop_of c.args.job.now) c.as_slice-listed.result.now c.loop-name.name-index c.name-item.result [] items c.push_some.new.items.items
    c.loop-name-test.true c.name-item.is c.loop-name.invariant
    (c.in_ok-push_some.ensures ∙ ap (λ item. items ++ option_to_list item) c.in_ok-prop_of.ensures)
