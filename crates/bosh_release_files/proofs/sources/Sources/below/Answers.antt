-- The files stand by their paths.
use Rattle.std.proofs.Common.{subst, sym, map}
use Rattle.std.specs.List.{filter_map}
use Rattle.std.specs.Map.{keys_of}
use Rattle.bosh_release_files.specs.Files.{digest_after}
use Rattle.bosh_release_files.specs.Sources.{IsInOrder, digest_seen}
use Rattle.bosh_release_files.proofs.IndexLemmas.{by_path_is_in_order, paths_seen}
use Rattle.bosh_release_files.proofs.sources.Sources.below.Goals as goal

pub indexed-requires : goal.indexed-requires
indexed-requires c =
    subst IsInOrder (sym (paths_seen c.in_ok-stamps_of.field-0.items (map digest_seen c.in_ok-table.table.entries) c.in_ok-stamps_of.ensures.files))
    (subst (λ table. IsInOrder (keys_of table)) (sym c.in_ok-table.ensures.table)
    (by_path_is_in_order (filter_map (digest_after c.args.front.now) c.args.files.now)))
