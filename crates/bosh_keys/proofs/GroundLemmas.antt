-- The works of sound releases that are alike have no cycle: what a package needs stands in its own release, and a work of
-- another release that has its key is the same work.
use Rattle.std.proofs.Common.{◌≡◌, ◌∙◌, ℕ, zero, suc, ◌≤◌, List, Option, Some, None, length, arith, refl, sym, subst, ap}
use Rattle.std.specs.Prelude.{All, Contains, option_map}
use Rattle.bosh_alike.specs.Alike.{AreAlike, IsOf}
use Rattle.bosh_alike.proofs.ElementLemmas.{given_from}
use Rattle.bosh_base.specs.declared.key.Key.{Key}
use Rattle.bosh_base.specs.declared.key.KeyWork.{KeyWork}
use Rattle.bosh_base.specs.declared.release.PackageSpec.{PackageSpec}
use Rattle.bosh_base.specs.declared.release.Release.{Release}
use Rattle.bosh_base.specs.declared.stemcell.Stemcell.{Stemcell}
use Rattle.bosh_compile.specs.Level.{IsAcyclic, IsGrounded, Needs, grounded}
use Rattle.bosh_compile.proofs.GreatestLemmas.{All-from_Contains}
use Rattle.bosh_lookup.specs.Table.{first_named}
use Rattle.bosh_release.specs.Sound.{Depends, IsSound, Lists, at_once, by, names_of}
use Rattle.bosh_release_files.specs.Files.{in_order}
use Rattle.bosh_keys.specs.Works.{key_named, key_of, package_name, work_of}
use Rattle.bosh_keys.proofs.ListLemmas.{kept, shorter, without}
use Rattle.bosh_keys.proofs.NameLemmas.{in_order_from}
use Rattle.bosh_keys.proofs.WorkLemmas.{IsOneOf, dep_known, is_sound, named_at, one_work}

-- what a package needs, at once or by others, is known
depends_known : (release : Release) → IsSound release → {name other : List ℕ} → Depends release.packages name other → Contains (names_of release.packages) other
depends_known release sound (at_once name other l) = dep_known release l.0 other sound l.1 l.3
depends_known release sound (by name next last l d) = depends_known release sound d

key_at : (release : Release) (stemcell : Stemcell) (name : List ℕ) (key : Key) → key_named release stemcell name ≡ Some key
    → (pack : PackageSpec) × Contains release.packages pack × (pack.name ≡ name) × (key_of stemcell pack ≡ key)
key_at release stemcell name key h = at (first_named package_name release.packages name) refl h
  where
    at : (o : Option PackageSpec) → first_named package_name release.packages name ≡ o → option_map (key_of stemcell) o ≡ Some key
        → (pack : PackageSpec) × Contains release.packages pack × (pack.name ≡ name) × (key_of stemcell pack ≡ key)
    at None is h = cc
    at (Some pack) is h = let found = named_at release name pack is in (pack, found.0, found.1, cc)

module _ (releases : List Release) (alike : AreAlike releases) (sound : All IsSound releases)
    (works : List KeyWork) (are : (work : KeyWork) → Contains works work → IsOneOf releases work) where
  module _ (release : Release) (stemcell : Stemcell) (there : Contains releases release) where
    -- a work that a package needs is that of a package of its release, which it lists
    needed_of : (pack : PackageSpec) → Contains release.packages pack → (other : KeyWork) → Contains works other → Needs (work_of release stemcell pack) other
        → (dep : PackageSpec) × Contains release.packages dep × Lists release.packages pack.name dep.name × (work_of release stemcell dep ≡ other)
    needed_of pack within other c needs =
        let (name, listed, found) = given_from (key_named release stemcell) (in_order pack.deps) other.key needs in
        let (dep, known, same_name, same_key) = key_at release stemcell name other.key found in
        let one = are other c in
        let keys : key_of stemcell dep ≡ key_of one.stemcell one.pack = same_key ∙ ap (λ (work : KeyWork). work.key) one.is in
        let of : IsOf releases release dep = record { release_there = there; package_there = known } in
        let lists : Lists release.packages pack.name dep.name =
        (pack, within, refl, subst (Contains pack.deps) (sym same_name) (in_order_from pack.deps name listed)) in
        (dep, known, lists, one_work releases alike sound release one.release stemcell one.stemcell dep one.pack of one.is_of keys ∙ sym one.is)

    grounded_within :
        (fuel : ℕ) (rest : List (List ℕ)) (pack : PackageSpec) → length rest ≤ fuel → Contains release.packages pack
        → ((name : List ℕ) → Depends release.packages pack.name name → Contains rest name)
        → IsGrounded works (work_of release stemcell pack)
    grounded_within zero rest pack short within all = grounded (work_of release stemcell pack) (λ other c needs.
        let (dep, known, lists, is) = needed_of pack within other c needs in
        let less = shorter dep.name rest (all dep.name (at_once pack.name dep.name lists)) in
        absurd (omega arith))
    grounded_within (suc fuel) rest pack short within all = grounded (work_of release stemcell pack) (λ other c needs.
        let (dep, known, lists, is) = needed_of pack within other c needs in
        let less = shorter dep.name rest (all dep.name (at_once pack.name dep.name lists)) in
        subst (IsGrounded works) is
        (grounded_within fuel (without dep.name rest) dep (omega arith) known (λ name d.
        kept dep.name rest name
        (λ same. (is_sound releases alike sound release there).no_cycle dep.name (subst (Depends release.packages dep.name) same d))
        (all name (by pack.name dep.name name lists d)))))

    pub package_grounded : (pack : PackageSpec) → Contains release.packages pack → IsGrounded works (work_of release stemcell pack)
    package_grounded pack within =
        grounded_within (length (names_of release.packages)) (names_of release.packages) pack (omega arith) within
        (λ name d. depends_known release (is_sound releases alike sound release there) d)

  pub works_acyclic : IsAcyclic works
  works_acyclic = All-from_Contains (IsGrounded works) works (λ work c.
      let one = are work c in
      subst (IsGrounded works) (sym one.is) (package_grounded one.release one.stemcell one.is_of.release_there one.pack one.is_of.package_there))
