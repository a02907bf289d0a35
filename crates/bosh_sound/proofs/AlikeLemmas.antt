-- Some of the releases that go with one another do so.
use Rattle.std.proofs.Common.{ℕ, List, take}
use Rattle.bosh_alike.specs.Alike.{AreAlike, IsOf}
use Rattle.bosh_base.specs.declared.release.PackageSpec.{PackageSpec}
use Rattle.bosh_base.specs.declared.release.Release.{Release}
use Rattle.bosh_sound.proofs.EachLemmas.{of_first}

is_of_first :
    (releases : List Release) (n : ℕ) (release : Release) (pack : PackageSpec) → IsOf (take n releases) release pack
    → IsOf releases release pack
is_of_first releases n release pack of = record {
  release_there = of_first releases n release of.release_there;
  package_there = of.package_there;
}

pub first_alike : (releases : List Release) (n : ℕ) → AreAlike releases → AreAlike (take n releases)
first_alike releases n alike release other_release pack other of other_of =
    alike release other_release pack other
    (is_of_first releases n release pack of) (is_of_first releases n other_release other other_of)
