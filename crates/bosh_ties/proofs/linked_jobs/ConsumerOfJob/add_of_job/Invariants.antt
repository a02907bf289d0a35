use Rattle.std.proofs.Common.{◌≡◌, ◌++◌, filter_map, take}
use Rattle.bosh_ties.specs.Links.{consume_of, consumer, joint_of}
use Rattle.bosh_ties.proofs.linked_jobs.ConsumerOfJob.add_of_job.Given as goal

abbrev pub invariant-loop-link : goal.invariant-loop-link
invariant-loop-link l =
    l.items.items ≡ l.initial.items.items
    ++ filter_map (λ link. consumer (joint_of l.dep l.group l.job link) link (consume_of l.job link)) (take l.link-index l.links)
