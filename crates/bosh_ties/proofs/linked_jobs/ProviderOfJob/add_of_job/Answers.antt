use Rattle.std.proofs.Common.{◌≡◌, ◌∙◌, ◌++◌, ap, filter_map, take, arith}
use Rattle.std.specs.Option.{option_copied, option_to_list}
use Rattle.std.proofs.lemmas.Grind.{common_steps}
use Rattle.bosh_base.specs.declared.release.LinkSpec.{LinkSpec}
use Rattle.bosh_lookup.specs.Table.{first_named}
use Rattle.bosh_ties.specs.Links.{joint_of, provide_of, provider}
use Rattle.bosh_ties.proofs.LinksLemmas.{filtered-more}
use Rattle.bosh_ties.proofs.linked_jobs.ProviderOfJob.add_of_job.Goals as goal

pub loop-link-preserved : goal.loop-link-preserved
loop-link-preserved c =
    let job = c.args.job.now in
    let link = c.link-item.result in
    let spot = c.of-spot.result in
    let joint = joint_of c.args.dep.now c.args.group.now job link in
    let gathered = λ (l : LinkSpec). provider (joint_of c.args.dep.now c.args.group.now job l) l (provide_of job l) in
    let said : option_copied c.find.result ≡ provide_of job link =
    c.find.ensures c.as_slice.result.now c.in_ok-said.ensures
    ∙ (ap (first_named (λ provide. provide.link) c.as_slice.result.now) c.as_bytes.ensures.bytes
    ∙ ap (λ all. first_named (λ provide. provide.link) all link.name) (c.as_slice.ensures ∙ ap (λ j. j.provides) c.job.ensures)) in
    let found : c.in_ok-provider.field-0 ≡ gathered link =
    c.in_ok-provider.ensures
    ∙ (ap (λ j. provider j spot.link.now (option_copied c.find.result)) c.of-spot.ensures.joint
    ∙ (ap (λ l. provider joint l (option_copied c.find.result)) c.of-spot.ensures.link
    ∙ ap (λ s. provider joint link s) said)) in
    let items = c.loop-link.items.items in
    filtered-more gathered c.as_slice-links.result.now c.loop-link.link-index link c.args.items.now.items items c.push_some.new.items.items
    c.loop-link-test.true c.link-item.is c.loop-link.invariant (c.in_ok-push_some.ensures.ok ∙ ap (λ item. items ++ option_to_list item) found)

pub returns-clause-ok : goal.returns-clause-ok
returns-clause-ok c =
    let job = c.args.job.now in
    let links = c.as_slice-links.result.now in
    let gathered = λ (l : LinkSpec). provider (joint_of c.args.dep.now c.args.group.now job l) l (provide_of job l) in
    let all : take c.loop-link.link-index links ≡ links = grind (arith, common_steps) in
    c.loop-link.invariant ∙ ap (λ ls. c.args.items.now.items ++ filter_map gathered ls) (all ∙ (c.as_slice-links.ensures ∙ ap (λ spec. spec.provides) c.spec.ensures))
