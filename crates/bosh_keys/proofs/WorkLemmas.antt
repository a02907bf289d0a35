-- Packages of one key are one work.
use Rattle.std.proofs.Common.{◌≡◌, ◌∙◌, ℕ, List, Option, Some, None, refl, sym, subst, ap}
use Rattle.std.specs.Prelude.{All, Contains, option_map}
use Rattle.std.specs.Str.{bytes_eq}
use Rattle.std.proofs.lemmas.List.Elements.{All-contains}
use Rattle.std.proofs.lemmas.Slice.Eq.{bytes_eq-Decides}
use Rattle.bosh_alike.specs.Alike.{AreAlike, AreOne, IsOf, print_in}
use Rattle.bosh_alike.proofs.ElementLemmas.{find_at, find_none, given_from, given_into}
use Rattle.bosh_base.specs.declared.digest.Digest.{Digest}
use Rattle.bosh_base.specs.declared.key.Key.{Key}
use Rattle.bosh_base.specs.declared.key.KeyWork.{KeyWork}
use Rattle.bosh_base.specs.declared.release.PackageSpec.{PackageSpec}
use Rattle.bosh_base.specs.declared.release.Release.{Release}
use Rattle.bosh_base.specs.declared.stemcell.Stemcell.{Stemcell}
use Rattle.bosh_lookup.specs.Table.{first_named}
use Rattle.bosh_release.specs.Sound.{IsSound, names_of}
use Rattle.bosh_release_files.specs.Files.{in_order}
use Rattle.bosh_manifest_names.specs.Used.{UsedGroup, UsedJob}
use Rattle.bosh_keys.specs.Works.{all_works, group_releases, group_works, job_works, key_named, key_of, keys_named, package_name, releases_of, work_of}
use Rattle.bosh_keys.proofs.ListLemmas.{flat_from, flat_into, given_same, mapped_from, mapped_into}
use Rattle.bosh_keys.proofs.NameLemmas.{in_order_from, same_in_order}

-- ---- packages by name

-- the package of a name is one of the release
pub named_at : (release : Release) (name : List ℕ) (pack : PackageSpec) → first_named package_name release.packages name ≡ Some pack
    → Contains release.packages pack × (pack.name ≡ name)
named_at release name pack h =
    let found = find_at (λ (pack : PackageSpec). bytes_eq (package_name pack) name) release.packages pack h in
    (found.0, (bytes_eq-Decides pack.name name).0 found.1)

-- a name of the release is that of a package
pub named_known : (release : Release) (name : List ℕ) → Contains (names_of release.packages) name
    → (pack : PackageSpec) × (first_named package_name release.packages name ≡ Some pack)
named_known release name known = at (first_named package_name release.packages name) refl
  where
    at : (o : Option PackageSpec) → first_named package_name release.packages name ≡ o → (pack : PackageSpec) × (first_named package_name release.packages name ≡ Some pack)
    at (Some pack) is = (pack, is)
    at None is =
        let (pack, there, same) = mapped_from (λ (pack : PackageSpec). pack.name) release.packages name known in
        absurd (find_none (λ (pack : PackageSpec). bytes_eq (package_name pack) name) release.packages pack is there ((bytes_eq-Decides pack.name name).1 same))

print_of_named : (release : Release) (name : List ℕ) (pack : PackageSpec) → first_named package_name release.packages name ≡ Some pack
    → print_in release name ≡ Some pack.fingerprint
print_of_named release name pack h = ap (option_map (λ (pack : PackageSpec). pack.fingerprint)) h

-- the package behind a fingerprint
behind : (release : Release) (name : List ℕ) (print : Digest) → print_in release name ≡ Some print
    → (pack : PackageSpec) × Contains release.packages pack × (pack.name ≡ name) × (pack.fingerprint ≡ print)
behind release name print h = at (first_named package_name release.packages name) refl h
  where
    at : (o : Option PackageSpec) → first_named package_name release.packages name ≡ o → option_map (λ (pack : PackageSpec). pack.fingerprint) o ≡ Some print
        → (pack : PackageSpec) × Contains release.packages pack × (pack.name ≡ name) × (pack.fingerprint ≡ print)
    at None is h = cc
    at (Some pack) is h = let found = named_at release name pack is in (pack, found.0, found.1, cc)

-- what a package lists is known
pub dep_known : (release : Release) (pack : PackageSpec) (name : List ℕ) → IsSound release → Contains release.packages pack → Contains pack.deps name
    → Contains (names_of release.packages) name
dep_known release pack name sound there listed =
    All-contains (Contains (names_of release.packages)) pack.deps name
    (All-contains (λ (pack : PackageSpec). All (Contains (names_of release.packages)) pack.deps) release.packages pack sound.packages_name there)
    listed

-- ---- keys by fingerprint

key_with : Stemcell → Digest → Key
key_with stemcell print = record { fingerprint = print; os = stemcell.os; version = stemcell.version }

key_by_print : (stemcell : Stemcell) (o : Option PackageSpec)
    → option_map (key_of stemcell) o ≡ option_map (key_with stemcell) (option_map (λ (pack : PackageSpec). pack.fingerprint) o)
unfolding key_with
key_by_print stemcell None = refl
key_by_print stemcell (Some pack) = refl

same_stemcell : (stemcell other : Stemcell) (one two : PackageSpec) → key_of stemcell one ≡ key_of other two → (print : Digest)
    → key_with stemcell print ≡ key_with other print
unfolding key_with
same_stemcell stemcell other one two same print = λ i. record { fingerprint = print; os = (same i).os; version = (same i).version }

-- ---- one work

-- a package of one of the releases, for a stemcell
pub record IsOneOf (releases : List Release) (work : KeyWork) : Type 0 where
  pub release : Release
  pub stemcell : Stemcell
  pub pack : PackageSpec
  pub is_of : IsOf releases release pack
  pub is : work ≡ work_of release stemcell pack

module _ (releases : List Release) (alike : AreAlike releases) (sound : All IsSound releases) where
  pub is_sound : (release : Release) → Contains releases release → IsSound release
  is_sound release there = All-contains IsSound releases release sound there

  -- what one of two packages of one fingerprint lists, the other lists as well, and under that name both releases have one
  -- fingerprint
  one_dep :
      (release other_release : Release) (pack other : PackageSpec) → IsOf releases release pack → IsOf releases other_release other
      → AreOne release pack other_release other → (name : List ℕ) → Contains pack.deps name
      → Contains other.deps name × (print_in release name ≡ print_in other_release name)
  one_dep release other_release pack other p q one name listed =
      let known = named_known release name (dep_known release pack name (is_sound release p.release_there) p.package_there listed) in
      let found = named_at release name known.0 known.1 in
      let print = known.0.fingerprint in
      let mine : print_in release name ≡ Some print = print_of_named release name known.0 known.1 in
      let (name', listed', prints) = given_from (print_in other_release) other.deps print
      ((one.deps print).0 (given_into (print_in release) pack.deps name print listed mine)) in
      let (pack', there', named', printed') = behind other_release name' print prints in
      let both = alike release other_release known.0 pack'
      (record { release_there = p.release_there; package_there = found.0 }) (record { release_there = q.release_there; package_there = there' }) (sym printed') in
      let same : name' ≡ name = sym named' ∙ (sym both.name ∙ found.1) in
      (subst (Contains other.deps) same listed', mine ∙ sym (subst (λ n. print_in other_release n ≡ Some print) same prints))

  one_deps :
      (release other_release : Release) (stemcell other_stemcell : Stemcell) (pack other : PackageSpec) → IsOf releases release pack → IsOf releases other_release other
      → AreOne release pack other_release other → AreOne other_release other release pack
      → ((print : Digest) → key_with stemcell print ≡ key_with other_stemcell print)
      → keys_named release stemcell (in_order pack.deps) ≡ keys_named other_release other_stemcell (in_order other.deps)
  one_deps release other_release stemcell other_stemcell pack other p q one turned same_with =
      given_same (key_named release stemcell) (key_named other_release other_stemcell) (in_order pack.deps) each
      ∙ ap (keys_named other_release other_stemcell)
      (same_in_order pack.deps other.deps
      (λ n c. (one_dep release other_release pack other p q one n c).0)
      (λ n c. (one_dep other_release release other pack q p turned n c).0))
    where
      with_same : (o : Option Digest) → option_map (key_with stemcell) o ≡ option_map (key_with other_stemcell) o
      with_same None = refl
      with_same (Some print) = ap Some (same_with print)

      each : (n : List ℕ) → Contains (in_order pack.deps) n → key_named release stemcell n ≡ key_named other_release other_stemcell n
      each n c =
          let prints = (one_dep release other_release pack other p q one n (in_order_from pack.deps n c)).1 in
          key_by_print stemcell (first_named package_name release.packages n)
          ∙ (with_same (print_in release n)
          ∙ (ap (option_map (key_with other_stemcell)) prints
          ∙ sym (key_by_print other_stemcell (first_named package_name other_release.packages n))))

  -- packages of one key are one work
  pub one_work :
      (release other_release : Release) (stemcell other_stemcell : Stemcell) (pack other : PackageSpec) → IsOf releases release pack → IsOf releases other_release other
      → key_of stemcell pack ≡ key_of other_stemcell other → work_of release stemcell pack ≡ work_of other_release other_stemcell other
  one_work release other_release stemcell other_stemcell pack other p q same =
      let prints : pack.fingerprint ≡ other.fingerprint = ap (λ (key : Key). key.fingerprint) same in
      let one = alike release other_release pack other p q prints in
      let turned = alike other_release release other pack q p (sym prints) in
      let deps = one_deps release other_release stemcell other_stemcell pack other p q one turned (same_stemcell stemcell other_stemcell pack other same) in
      λ i. record { name = one.name i; key = same i; deps = deps i }

  -- works of one key are one
  pub one_of_key : (one other : KeyWork) → IsOneOf releases one → IsOneOf releases other → one.key ≡ other.key → one ≡ other
  one_of_key one other a b same =
      let keys : key_of a.stemcell a.pack ≡ key_of b.stemcell b.pack =
      sym (ap (λ (work : KeyWork). work.key) a.is) ∙ (same ∙ ap (λ (work : KeyWork). work.key) b.is) in
      a.is ∙ (one_work a.release b.release a.stemcell b.stemcell a.pack b.pack a.is_of b.is_of keys ∙ sym b.is)

-- ---- the works of groups

pub works_are_of : (groups : List UsedGroup) (work : KeyWork) → Contains (all_works groups) work → IsOneOf (releases_of groups) work
works_are_of groups work c =
    let (group, there, in_group) = flat_from group_works groups work c in
    let (used, listed, in_job) = flat_from (job_works group.stemcell) group.jobs work in_group in
    let (pack, within, is) = mapped_from (work_of used.release group.stemcell) used.release.packages work in_job in
    record {
      release = used.release;
      stemcell = group.stemcell;
      pack = pack;
      is_of = record {
        release_there = flat_into group_releases groups group used.release there (mapped_into (λ (used : UsedJob). used.release) group.jobs used listed);
        package_there = within;
      };
      is = sym is;
    }
