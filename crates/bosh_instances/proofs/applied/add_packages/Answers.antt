-- One more package is found.
use Rattle.std.proofs.Common.{◌≡◌, ◌∙◌, ◌++◌, Option, ap, map}
use Rattle.std.specs.Option.{option_copied, option_to_list}
use Rattle.bosh_base.specs.declared.release.PackageSpec.{PackageSpec}
use Rattle.bosh_base.specs.declared.release.Release.{Release}
use Rattle.bosh_lookup.specs.Table.{first_named}
use Rattle.bosh_ties.proofs.LinksLemmas.{filtered-more}
use Rattle.bosh_instances.specs.Applied.{package_name}
use Rattle.bosh_instances.proofs.applied.add_packages.Goals as goal

pub loop-name-preserved : goal.loop-name-preserved
loop-name-preserved c =
    let look = first_named package_name c.args.used.now.release.packages in
    let before = map (λ pack. pack.now) c.loop-name.packages.items in
    let packs : c.as_slice.result.now ≡ c.args.used.now.release.packages = c.as_slice.ensures ∙ ap (λ (r : Release). r.packages) c.release.ensures in
    let found : option_copied c.find.result ≡ look c.name-item.result =
    c.find.ensures c.as_slice.result.now c.in_ok-table.ensures ∙ (λ j. first_named package_name (packs j) (c.as_bytes.ensures.bytes j)) in
    filtered-more look c.as_slice-names.result.now c.loop-name.name-index c.name-item.result (map (λ pack. pack.now) c.args.packages.now.items)
    before (map (λ pack. pack.now) c.add_found.new.packages.items)
    c.loop-name-test.true c.name-item.is c.loop-name.invariant
    (c.in_ok-add_found.ensures ∙ ap (λ (o : Option PackageSpec). before ++ option_to_list o) found)
