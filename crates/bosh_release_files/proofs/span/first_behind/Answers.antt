use Rattle.std.proofs.Common.{rules}
use Rattle.std.proofs.lemmas.List.Sorted.{IsPartitionPoint-from_clause}
use Rattle.bosh_release_files.specs.Sources.{path_of}
use Rattle.bosh_release_files.specs.Span.{comes_up_to}
use Rattle.bosh_release_files.proofs.OrderLemmas.{up_to_falls, partitioned}
use Rattle.bosh_release_files.proofs.span.first_behind.Goals as goal

pub returns-clause-point : goal.returns-clause-point
returns-clause-point c =
    let files = c.args.files.now in
    let front = c.args.front.now in
    IsPartitionPoint-from_clause (λ file. comes_up_to front (path_of file)) files c.partition_point.result
    c.partition_point.ensures.partitioned (partitioned files (comes_up_to front) (up_to_falls front) c.requires) (λ a r q k. search rules)
