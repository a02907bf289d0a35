use Rattle.std.proofs.Common.{◌≡◌, ◌++◌, map, take}
use Rattle.std.specs.List.{filter_map}
use Rattle.bosh_lookup.specs.Table.{first_named}
use Rattle.bosh_instances.specs.Applied.{package_name}
use Rattle.bosh_instances.proofs.applied.add_packages.Given as goal

abbrev pub invariant-loop-name : goal.invariant-loop-name
invariant-loop-name l =
    map (λ pack. pack.now) l.packages.items
    ≡ map (λ pack. pack.now) l.initial.packages.items
    ++ filter_map (first_named package_name l.used.release.packages) (take l.name-index l.names)
