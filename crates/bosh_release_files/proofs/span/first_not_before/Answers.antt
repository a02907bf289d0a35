use Rattle.std.proofs.Common.{rules}
use Rattle.std.proofs.lemmas.List.Sorted.{IsPartitionPoint-from_clause}
use Rattle.bosh_release_files.specs.Sources.{path_of}
use Rattle.bosh_release_files.specs.Span.{comes_before}
use Rattle.bosh_release_files.proofs.OrderLemmas.{before_falls, partitioned}
use Rattle.bosh_release_files.proofs.span.first_not_before.Goals as goal

pub returns-clause-point : goal.returns-clause-point
returns-clause-point c =
    let files = c.args.files.now in
    let front = c.args.front.now in
    IsPartitionPoint-from_clause (λ file. comes_before front (path_of file)) files c.partition_point.result
    c.partition_point.ensures.partitioned (partitioned files (comes_before front) (before_falls front) c.requires) (λ a r q k. search rules)
