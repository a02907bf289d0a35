-- Packages that agree with the first of their fingerprint are one package.
use Rattle.std.proofs.Common.{◌≡◌, ℕ, true, ◌&&◌, List, [], ◌∷◌, ◌++◌, Option, Some, None, refl, sym, subst, ap, ◌∙◌, inl, inr, ◌⊎◌}
use Rattle.std.specs.Prelude.{Contains, find, option_map}
use Rattle.std.specs.List.{list_any}
use Rattle.std.specs.Str.{bytes_eq}
use Rattle.std.proofs.lemmas.Bool.{and_parts, and_from}
use Rattle.std.proofs.lemmas.Slice.Eq.{bytes_eq-Decides}
use Rattle.bosh_base.specs.declared.digest.Digest.{Digest}
use Rattle.bosh_base.specs.declared.release.PackageSpec.{PackageSpec}
use Rattle.bosh_base.specs.declared.release.Release.{Release}
use Rattle.bosh_alike.specs.Alike.{AreAlike, AreOne, IsOf, dep_prints, print_in}
use Rattle.bosh_alike.specs.Search.{Found, agree, agrees_with, covers, find_in, first_found, first_of, goes_with, has_print, is_print, needs, needs_also}
use Rattle.bosh_alike.proofs.ElementLemmas.{all_at, all_from, at_end, before_or_last, find_at, find_none, first_or_other, given_from, given_into, here, none_in, some_at, some_from, there}

same_bytes : (xs ys : List ℕ) → bytes_eq xs ys ≡ true → xs ≡ ys
same_bytes xs ys = (bytes_eq-Decides xs ys).0

equal_bytes : (xs ys : List ℕ) → xs ≡ ys → bytes_eq xs ys ≡ true
equal_bytes xs ys = (bytes_eq-Decides xs ys).1

same_print : (one other : Digest) → is_print one other ≡ true → one ≡ other
same_print one other h = ap (λ (bytes : List ℕ). the_digest bytes) (same_bytes one.0 other.0 h)
  where
    the_digest : List ℕ → Digest
    the_digest bytes = record { 0 = bytes }

equal_print : (one other : Digest) → one ≡ other → is_print one other ≡ true
equal_print one other same = equal_bytes one.0 other.0 (ap (λ (d : Digest). d.0) same)

-- ---- what a package needs

-- the package behind a fingerprint
behind : (release : Release) (name : List ℕ) (print : Digest) → print_in release name ≡ Some print
    → (pack : PackageSpec) × Contains release.packages pack × (pack.name ≡ name) × (pack.fingerprint ≡ print)
behind release name print h = by (find (λ pack. bytes_eq pack.name name) release.packages) refl h
  where
    by : (o : Option PackageSpec) → find (λ pack. bytes_eq pack.name name) release.packages ≡ o → option_map (λ pack. pack.fingerprint) o ≡ Some print
        → (pack : PackageSpec) × Contains release.packages pack × (pack.name ≡ name) × (pack.fingerprint ≡ print)
    by None e h = cc
    by (Some pack) e h =
        let found = find_at (λ pack. bytes_eq pack.name name) release.packages pack e in
        (pack, found.0, same_bytes pack.name name found.1, cc)

has : (print : Digest) (o : Option Digest) → has_print print o ≡ true → o ≡ Some print
has print None h = cc
has print (Some other) h = ap Some (same_print other print h)

hasnt : (print : Digest) (o : Option Digest) → o ≡ Some print → has_print print o ≡ true
hasnt print None h = cc
hasnt print (Some other) h = equal_print other print cc

needed : (release : Release) (pack : PackageSpec) (name : List ℕ) (print : Digest) → needs release pack name print ≡ true → Contains (dep_prints release pack) print
needed release pack name print h =
    let parts = and_parts (list_any (λ dep. bytes_eq dep name) pack.deps) (has_print print (print_in release name)) h in
    let listed = some_at (λ dep. bytes_eq dep name) pack.deps parts.0 in
    let same : listed.0 ≡ name = same_bytes listed.0 name listed.2 in
    given_into (print_in release) pack.deps listed.0 print listed.1 (ap (print_in release) same ∙ has print (print_in release name) parts.1)

covered : (release : Release) (pack : PackageSpec) (other_release : Release) (other : PackageSpec) (print : Digest)
    → covers release pack other_release other ≡ true → Contains (dep_prints release pack) print → Contains (dep_prints other_release other) print
covered release pack other_release other print h c =
    let from = given_from (print_in release) pack.deps print c in
    let one : needs_also other_release other from.0 (print_in release from.0) ≡ true = all_at (λ name. needs_also other_release other name (print_in release name)) pack.deps from.0 h from.1 in
    needed other_release other from.0 print (subst (λ o. needs_also other_release other from.0 o ≡ true) from.2 one)

-- packages that agree are one
agreed : (release : Release) (pack : PackageSpec) (other_release : Release) (other : PackageSpec)
    → agree release pack other_release other ≡ true → AreOne release pack other_release other
agreed release pack other_release other h =
    let parts = and_parts (bytes_eq pack.name other.name) (covers release pack other_release other && covers other_release other release pack) h in
    let both = and_parts (covers release pack other_release other) (covers other_release other release pack) parts.1 in
    record {
      name = same_bytes pack.name other.name parts.0;
      deps = λ print. (covered release pack other_release other print both.0, covered other_release other release pack print both.1);
    }

-- where packages of one fingerprint are one, they agree
covering : (releases : List Release) (release : Release) (pack : PackageSpec) (other_release : Release) (other : PackageSpec)
    → AreAlike releases → Contains releases release → Contains releases other_release
    → ((print : Digest) → Contains (dep_prints release pack) print → Contains (dep_prints other_release other) print)
    → covers release pack other_release other ≡ true
covering releases release pack other_release other alike r s deps = all_from (λ name. needs_also other_release other name (print_in release name)) pack.deps one
  where
    by : (name : List ℕ) → Contains pack.deps name → (o : Option Digest) → print_in release name ≡ o → needs_also other_release other name o ≡ true
    by name listed None e = refl
    by name listed (Some print) e =
        let mine = given_into (print_in release) pack.deps name print listed e in
        let theirs = given_from (print_in other_release) other.deps print (deps print mine) in
        let first = behind release name print e in
        let second = behind other_release theirs.0 print theirs.2 in
        let is_one = alike release other_release first.0 second.0 (record { release_there = r; package_there = first.1 }) (record { release_there = s; package_there = second.1 }) (first.3 ∙ sym second.3) in
        let same : theirs.0 ≡ name = sym second.2 ∙ (sym is_one.name ∙ first.2) in
        and_from (list_any (λ dep. bytes_eq dep name) other.deps) (has_print print (print_in other_release name))
        (some_from (λ dep. bytes_eq dep name) other.deps theirs.0 theirs.1 (equal_bytes theirs.0 name same))
        (hasnt print (print_in other_release name) (ap (print_in other_release) (sym same) ∙ theirs.2))

    one : (name : List ℕ) → Contains pack.deps name → needs_also other_release other name (print_in release name) ≡ true
    one name listed = by name listed (print_in release name) refl

agreeing : (releases : List Release) (release : Release) (pack : PackageSpec) (other_release : Release) (other : PackageSpec)
    → AreAlike releases → IsOf releases release pack → IsOf releases other_release other → pack.fingerprint ≡ other.fingerprint
    → agree release pack other_release other ≡ true
agreeing releases release pack other_release other alike p q same =
    let one = alike release other_release pack other p q same in
    and_from (bytes_eq pack.name other.name) (covers release pack other_release other && covers other_release other release pack)
    (equal_bytes pack.name other.name one.name)
    (and_from (covers release pack other_release other) (covers other_release other release pack)
    (covering releases release pack other_release other alike p.release_there q.release_there (λ print. (one.deps print).0))
    (covering releases other_release other release pack alike q.release_there p.release_there (λ print. (one.deps print).1)))

-- ---- the first of a fingerprint

found_in_one : (release : Release) (print : Digest) (found : Found) → find_in release print ≡ Some found
    → (found.0 ≡ release) × Contains release.packages found.1 × (found.1.fingerprint ≡ print)
found_in_one release print found h = by (find (λ pack. is_print pack.fingerprint print) release.packages) refl h
  where
    by : (o : Option PackageSpec) → find (λ pack. is_print pack.fingerprint print) release.packages ≡ o → option_map {U = Found} (λ pack. (release, pack)) o ≡ Some found
        → (found.0 ≡ release) × Contains release.packages found.1 × (found.1.fingerprint ≡ print)
    by None e h = cc
    by (Some pack) e h =
        let there = find_at (λ pack. is_print pack.fingerprint print) release.packages pack e in
        let same : ◌≡◌ {A = Found} (release, pack) found = cc in
        (sym (ap (λ (f : Found). f.0) same), subst (λ (f : Found). Contains release.packages f.1) same there.0, subst (λ (f : Found). f.1.fingerprint ≡ print) same (same_print pack.fingerprint print there.1))

-- it is one of those, and of that fingerprint
pub first_is : (releases : List Release) (print : Digest) (found : Found) → first_of releases print ≡ Some found
    → IsOf releases found.0 found.1 × (found.1.fingerprint ≡ print)
first_is [] print found h = cc
first_is (release ∷ releases) print found h = by (find_in release print) refl h (first_is releases print found)
  where
    by : (o : Option Found) → find_in release print ≡ o → first_found o (first_of releases print) ≡ Some found
        → (first_of releases print ≡ Some found → IsOf releases found.0 found.1 × (found.1.fingerprint ≡ print)) → IsOf (release ∷ releases) found.0 found.1 × (found.1.fingerprint ≡ print)
    by (Some one) e h more =
        let same : find_in release print ≡ Some found = e ∙ h in
        let in_one = found_in_one release print found same in
        let at : Contains (release ∷ releases) found.0 = subst (λ r. Contains (release ∷ releases) r) (sym in_one.0) (here release releases) in
        (record { release_there = at; package_there = subst (λ (r : Release). Contains r.packages found.1) (sym in_one.0) in_one.1 }, in_one.2)
    by None e h more =
        let later = more h in
        (record { release_there = there release found.0 releases later.0.release_there; package_there = later.0.package_there }, later.1)

unfound_in_one : (release : Release) (print : Digest) (pack : PackageSpec) → find_in release print ≡ None → Contains release.packages pack → pack.fingerprint ≡ print → ⊥
unfound_in_one release print pack h c same = by (find (λ pack. is_print pack.fingerprint print) release.packages) refl h
  where
    by : (o : Option PackageSpec) → find (λ pack. is_print pack.fingerprint print) release.packages ≡ o → option_map {U = Found} (λ pack. (release, pack)) o ≡ None → ⊥
    by None e h = find_none (λ pack. is_print pack.fingerprint print) release.packages pack e c (equal_print pack.fingerprint print same)
    by (Some p) e h = cc

-- where there is one of the fingerprint, one is found
unfound : (releases : List Release) (print : Digest) (release : Release) (pack : PackageSpec) → first_of releases print ≡ None → IsOf releases release pack → pack.fingerprint ≡ print → ⊥
unfound [] print release pack h p same = none_in release p.release_there
unfound (first ∷ releases) print release pack h p same =
    by (find_in first print) refl h (λ h c. unfound releases print release pack h (record { release_there = c; package_there = p.package_there }) same) (first_or_other first release releases p.release_there)
  where
    by : (o : Option Found) → find_in first print ≡ o → first_found o (first_of releases print) ≡ None
        → (first_of releases print ≡ None → Contains releases release → ⊥) → (first ≡ release) ⊎ Contains releases release → ⊥
    by (Some one) e h more c = cc
    by None e h more (inl is) = unfound_in_one first print pack e (subst (λ (r : Release). Contains r.packages pack) (sym is) p.package_there) same
    by None e h more (inr c) = more h c

first-append : (xs ys : List Release) (print : Digest) → first_of (xs ++ ys) print ≡ first_found (first_of xs print) (first_of ys print)
first-append [] ys print = refl
first-append (x ∷ xs) ys print = by (find_in x print) (first-append xs ys print)
  where
    by : (o : Option Found) → first_of (xs ++ ys) print ≡ first_found (first_of xs print) (first_of ys print)
        → first_found o (first_of (xs ++ ys) print) ≡ first_found (first_found o (first_of xs print)) (first_of ys print)
    by (Some one) more = refl
    by None more = more

-- ---- all

AreOne-turned : (r s : Release) (p q : PackageSpec) → AreOne r p s q → AreOne s q r p
AreOne-turned r s p q one = record { name = sym one.name; deps = λ print. ((one.deps print).1, (one.deps print).0) }

AreOne-by : (r s t : Release) (p q w : PackageSpec) → AreOne r p t w → AreOne s q t w → AreOne r p s q
AreOne-by r s t p q w first second = record {
  name = first.name ∙ sym second.name;
  deps = λ print. (λ c. (second.deps print).1 ((first.deps print).0 c), λ c. (first.deps print).1 ((second.deps print).0 c));
}

-- each package is one with the first of its fingerprint
with_first : (releases : List Release) (new release : Release) (pack : PackageSpec) (found : Found)
    → AreAlike releases → goes_with releases new ≡ true → IsOf (releases ++ new ∷ []) release pack
    → first_of (releases ++ new ∷ []) pack.fingerprint ≡ Some found → AreOne release pack found.0 found.1
with_first releases new release pack found alike goes p first = by (before_or_last releases new release p.release_there)
  where
    recorded : Contains releases release → (o : Option Found) → first_of releases pack.fingerprint ≡ o → first_found o (first_of (new ∷ []) pack.fingerprint) ≡ Some found → AreOne release pack found.0 found.1
    recorded c None e h = absurd (unfound releases pack.fingerprint release pack e (record { release_there = c; package_there = p.package_there }) refl)
    recorded c (Some one) e h =
        let is = first_is releases pack.fingerprint found (e ∙ h) in
        alike release found.0 pack found.1 (record { release_there = c; package_there = p.package_there }) is.0 (sym is.1)

    by : Contains releases release ⊎ (new ≡ release) → AreOne release pack found.0 found.1
    by (inl c) = recorded c (first_of releases pack.fingerprint) refl (sym (first-append releases (new ∷ []) pack.fingerprint) ∙ first)
    by (inr is) =
        let mine : Contains new.packages pack = subst (λ (r : Release). Contains r.packages pack) (sym is) p.package_there in
        let agrees : agrees_with new pack (first_of (releases ++ new ∷ []) pack.fingerprint) ≡ true = all_at (λ pack. agrees_with new pack (first_of (releases ++ new ∷ []) pack.fingerprint)) new.packages pack goes mine in
        let agrees' : agree new pack found.0 found.1 ≡ true = subst (λ o. agrees_with new pack o ≡ true) first agrees in
        subst (λ (r : Release). AreOne r pack found.0 found.1) is (agreed new pack found.0 found.1 agrees')

-- a release whose packages agree goes with those that go with one another
pub goes : (releases : List Release) (new : Release) → AreAlike releases → goes_with releases new ≡ true → AreAlike (releases ++ new ∷ [])
goes releases new alike h = λ release other_release pack other p q same. by release other_release pack other p q same (first_of (releases ++ new ∷ []) pack.fingerprint) refl
  where
    by : (release other_release : Release) (pack other : PackageSpec) → IsOf (releases ++ new ∷ []) release pack → IsOf (releases ++ new ∷ []) other_release other
        → pack.fingerprint ≡ other.fingerprint → (o : Option Found) → first_of (releases ++ new ∷ []) pack.fingerprint ≡ o → AreOne release pack other_release other
    by release other_release pack other p q same None e = absurd (unfound (releases ++ new ∷ []) pack.fingerprint release pack e p refl)
    by release other_release pack other p q same (Some found) e =
        let first = with_first releases new release pack found alike h p e in
        let second = with_first releases new other_release other found alike h q (ap (first_of (releases ++ new ∷ [])) (sym same) ∙ e) in
        AreOne-by release other_release found.0 pack other found.1 first second

-- one that goes with them has packages that agree
pub agrees : (releases : List Release) (new : Release) → AreAlike (releases ++ new ∷ []) → goes_with releases new ≡ true
agrees releases new alike = all_from (λ pack. agrees_with new pack (first_of (releases ++ new ∷ []) pack.fingerprint)) new.packages one
  where
    by : (pack : PackageSpec) → Contains new.packages pack → (o : Option Found) → first_of (releases ++ new ∷ []) pack.fingerprint ≡ o → agrees_with new pack o ≡ true
    by pack c None e = refl
    by pack c (Some found) e =
        let is = first_is (releases ++ new ∷ []) pack.fingerprint found e in
        agreeing (releases ++ new ∷ []) new pack found.0 found.1 alike (record { release_there = at_end releases new; package_there = c }) is.0 (sym is.1)

    one : (pack : PackageSpec) → Contains new.packages pack → agrees_with new pack (first_of (releases ++ new ∷ []) pack.fingerprint) ≡ true
    one pack c = by pack c (first_of (releases ++ new ∷ []) pack.fingerprint) refl

-- ---- the first of a fingerprint among releases and a further one

pub still_first : (releases : List Release) (new : Release) (print : Digest) (found : Found) → ◌≡◌ {A = Option Found} (Some found) (first_of releases print) → ◌≡◌ {A = Option Found} (Some found) (first_of (releases ++ new ∷ []) print)
still_first releases new print found h = sym (first-append releases (new ∷ []) print ∙ ap (λ o. first_found o (first_of (new ∷ []) print)) (sym h))

pub first_in_new : (releases : List Release) (new : Release) (print : Digest) → ◌≡◌ {A = Option Found} None (first_of releases print) → first_of (releases ++ new ∷ []) print ≡ find_in new print
first_in_new releases new print h = first-append releases (new ∷ []) print ∙ (ap (λ o. first_found o (first_of (new ∷ []) print)) (sym h) ∙ alone (find_in new print))
  where
    alone : (o : Option Found) → first_found o None ≡ o
    alone (Some one) = refl
    alone None = refl
