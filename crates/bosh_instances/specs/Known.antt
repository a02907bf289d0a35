-- Which packages came before.
use Rattle.std.specs.Prelude.{◌≡◌, List, is_some}
use Rattle.std.specs.List.{list_any}
use Rattle.std.specs.BTreeMap.{BTreeMap, get_by}
use Rattle.std.specs.Cmp.Lexicographic.{slice_cmp}
use Rattle.std.specs.Ordering.{nat_cmp, ordering_then}
use Rattle.std.specs.declared.cmp.Ordering.{Ordering}
use Rattle.bosh_base.specs.declared.release.PackageSpec.{PackageSpec}
use Rattle.bosh_instances.specs.Applied.{same_package}
use Rattle.bosh_instances.specs.declared.known.PackageId.{PackageId}

-- a key of a table is that of a package
pub record IsPackage (pack : PackageSpec) (id : PackageId) : Type 0 where
  pub name : id.name.now ≡ pack.name
  pub fingerprint : id.fingerprint.now ≡ pack.fingerprint.0

-- how a package stands to a key of a table
abbrev pub package_cmp : PackageSpec → PackageId → Ordering
package_cmp pack id =
    ordering_then (slice_cmp nat_cmp pack.name id.name.now) (slice_cmp nat_cmp pack.fingerprint.0 id.fingerprint.now)

-- a table has those packages
abbrev pub AreKnown : List PackageSpec → BTreeMap PackageId (Unit {0}) → Type 0
AreKnown packages table =
    (pack : PackageSpec)
    → is_some (get_by (package_cmp pack) table) ≡ list_any (λ one. same_package one pack) packages
