use Rattle.std.proofs.Common.{◌≡◌, ◌∙◌, ◌++◌, ap}
use Rattle.std.specs.Option.{option_copied, option_to_list}
use Rattle.bosh_base.specs.declared.release.LinkSpec.{LinkSpec}
use Rattle.bosh_lookup.specs.Table.{first_named}
use Rattle.bosh_ties.specs.Links.{across, consume_of, joint_of}
use Rattle.bosh_ties.proofs.LinksLemmas.{filtered-more}
use Rattle.bosh_ties.proofs.linked_jobs.AcrossOfJob.add_of_job.Goals as goal

pub loop-link-preserved : goal.loop-link-preserved
loop-link-preserved c =
    let job = c.args.job.now in
    let link = c.link-item.result in
    let spot = c.of-spot.result in
    let joint = joint_of c.args.dep.now c.args.group.now job link in
    let gathered = λ (l : LinkSpec). across (joint_of c.args.dep.now c.args.group.now job l) l (consume_of job l) in
    let said : option_copied c.find.result ≡ consume_of job link =
    c.find.ensures c.as_slice.result.now c.in_ok-said.ensures
    ∙ (ap (first_named (λ consume. consume.link) c.as_slice.result.now) c.as_bytes.ensures.bytes
    ∙ ap (λ all. first_named (λ consume. consume.link) all link.name) (c.as_slice.ensures ∙ ap (λ j. j.consumes) c.job.ensures)) in
    let found : c.in_ok-across.field-0 ≡ gathered link =
    c.in_ok-across.ensures
    ∙ (ap (λ j. across j spot.link.now (option_copied c.find.result)) c.of-spot.ensures.joint
    ∙ (ap (λ l. across joint l (option_copied c.find.result)) c.of-spot.ensures.link
    ∙ ap (λ s. across joint link s) said)) in
    let items = c.loop-link.items.items in
    filtered-more gathered c.as_slice-links.result.now c.loop-link.link-index link c.args.items.now.items items c.push_some.new.items.items
    c.loop-link-test.true c.link-item.is c.loop-link.invariant (c.in_ok-push_some.ensures.ok ∙ ap (λ item. items ++ option_to_list item) found)
