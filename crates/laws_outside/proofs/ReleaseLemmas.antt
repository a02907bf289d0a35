-- The tests of releases tell when one is sound, and when it goes with others.
use Rattle.std.proofs.Common.{◌≡◌, ap, refl, sym, subst, ℕ, Bool, true, ◌&&◌, List, [], ◌∷◌, ◌++◌, map, append_assoc, append-nil}
use Rattle.std.specs.Prelude.{◌↔◌, All, Contains}
use Rattle.std.specs.Cmp.Lexicographic.{slice_cmp}
use Rattle.std.specs.List.{list_all}
use Rattle.std.specs.Ordering.{is_lt, nat_cmp}
use Rattle.std.specs.declared.cmp.Ordering.{Ordering}
use Rattle.std.specs.declared.cmp.Ordering.TheVariants.{Less, Equal, Greater}
use Rattle.std.proofs.lemmas.Bool.{and_parts, and_from}
use Rattle.bosh_alike.proofs.AlikeLemmas.{agrees, goes}
use Rattle.bosh_alike.proofs.ElementLemmas.{in_front, none_in}
use Rattle.bosh_alike.specs.Alike.{AreAlike}
use Rattle.bosh_alike.specs.Search as search
use Rattle.bosh_base.specs.declared.release.JobSpec.{JobSpec}
use Rattle.bosh_base.specs.declared.release.PackageSpec.{PackageSpec}
use Rattle.bosh_base.specs.declared.release.Release.{Release}
use Rattle.bosh_release.specs.Sound.{Depends, IsSound, names_of}
use Rattle.bosh_release_files.specs.Sources.{IsInOrder}
use Rattle.laws_outside.specs.Packages.{has_no_cycle, is_one_of}
use Rattle.laws_outside.specs.Releases.{agree_after, are_alike, are_in_order, are_sound, goes_with, is_before, is_job_among, is_package_among, is_sound}
use Rattle.laws_outside.proofs.CycleLemmas.{none_is_left, none_needs_itself}
use Rattle.laws_outside.proofs.ListLemmas.{all_of, of_all, of_one, one_of}

-- ---- order

is_less : (o : Ordering) → is_lt o ≡ true → o ≡ Less
is_less Less h = refl
is_less Equal h = absurd cc
is_less Greater h = absurd cc

less_is : (o : Ordering) → o ≡ Less → is_lt o ≡ true
less_is o h = ap is_lt h

pub in_order : (texts : List (List ℕ)) → are_in_order texts ≡ true → IsInOrder texts
in_order [] h = tt
in_order (text ∷ texts) h =
    let parts = and_parts (list_all (is_before text) texts) (are_in_order texts) h in
    (all_of (is_before text) (λ later. slice_cmp nat_cmp text later ≡ Less) (λ later. is_less (slice_cmp nat_cmp text later)) texts parts.0, in_order texts parts.1)

pub of_order : (texts : List (List ℕ)) → IsInOrder texts → are_in_order texts ≡ true
of_order [] h = refl
of_order (text ∷ texts) h =
    and_from (list_all (is_before text) texts) (are_in_order texts)
    (of_all (is_before text) (λ later. slice_cmp nat_cmp text later ≡ Less) (λ later. less_is (slice_cmp nat_cmp text later)) texts h.0)
    (of_order texts h.1)

-- ---- one release

module _ (release : Release) where
  abbrev names : List (List ℕ)
  names = names_of release.packages

  abbrev in_names : List (List ℕ) → Type 0
  in_names texts = All (Contains names) texts

  known : (texts : List (List ℕ)) → list_all (is_one_of names) texts ≡ true → in_names texts
  known = all_of (is_one_of names) (Contains names) (one_of names)

  of_known : (texts : List (List ℕ)) → in_names texts → list_all (is_one_of names) texts ≡ true
  of_known = of_all (is_one_of names) (Contains names) (of_one names)

  abbrev jobs_order : Bool
  jobs_order = are_in_order (map (λ job. job.name) release.jobs)

  abbrev jobs_known : Bool
  jobs_known = list_all (is_job_among names) release.jobs

  abbrev packages_known : Bool
  packages_known = list_all (is_package_among names) release.packages

  pub sound_by_test : is_sound release ≡ true → IsSound release
  sound_by_test h =
      let first = and_parts jobs_order (are_in_order names && (jobs_known && (packages_known && has_no_cycle release.packages))) h in
      let second = and_parts (are_in_order names) (jobs_known && (packages_known && has_no_cycle release.packages)) first.1 in
      let third = and_parts jobs_known (packages_known && has_no_cycle release.packages) second.1 in
      let fourth = and_parts packages_known (has_no_cycle release.packages) third.1 in
      record {
        jobs = in_order (map (λ job. job.name) release.jobs) first.0;
        packages = in_order names second.0;
        jobs_name = all_of (is_job_among names) (λ (job : JobSpec). in_names job.packages) (λ job. known job.packages) release.jobs third.0;
        packages_name = all_of (is_package_among names) (λ (pack : PackageSpec). in_names pack.deps) (λ pack. known pack.deps) release.packages fourth.0;
        no_cycle = none_needs_itself release.packages fourth.1;
      }

  pub test_of_sound : IsSound release → is_sound release ≡ true
  test_of_sound sound =
      and_from jobs_order (are_in_order names && (jobs_known && (packages_known && has_no_cycle release.packages)))
      (of_order (map (λ job. job.name) release.jobs) sound.jobs)
      (and_from (are_in_order names) (jobs_known && (packages_known && has_no_cycle release.packages))
      (of_order names sound.packages)
      (and_from jobs_known (packages_known && has_no_cycle release.packages)
      (of_all (is_job_among names) (λ (job : JobSpec). in_names job.packages) (λ job. of_known job.packages) release.jobs sound.jobs_name)
      (and_from packages_known (has_no_cycle release.packages)
      (of_all (is_package_among names) (λ (pack : PackageSpec). in_names pack.deps) (λ pack. of_known pack.deps) release.packages sound.packages_name)
      (none_is_left release.packages sound.no_cycle))))

pub no_cycle_decides : (packages : List PackageSpec) → (has_no_cycle packages ≡ true) ↔ ((name : List ℕ) → ¬ Depends packages name name)
no_cycle_decides packages = (none_needs_itself packages, none_is_left packages)

pub sound_decides : (release : Release) → (is_sound release ≡ true) ↔ IsSound release
sound_decides release = (sound_by_test release, test_of_sound release)

-- ---- several releases

none_alike : AreAlike []
none_alike = λ release other_release pack other p q same. absurd (none_in release p.release_there)

front_alike : (before after : List Release) → AreAlike (before ++ after) → AreAlike before
front_alike before after alike = λ release other_release pack other p q same.
    alike release other_release pack other
    (record { release_there = in_front before after release p.release_there; package_there = p.package_there })
    (record { release_there = in_front before after other_release q.release_there; package_there = q.package_there })
    same

alike_after : (before releases : List Release) → AreAlike before → agree_after before releases ≡ true → AreAlike (before ++ releases)
alike_after before [] alike h = subst AreAlike (sym (append-nil before)) alike
alike_after before (release ∷ releases) alike h =
    let parts = and_parts (search.goes_with before release) (agree_after (before ++ release ∷ []) releases) h in
    subst AreAlike (append_assoc before (release ∷ []) releases)
    (alike_after (before ++ release ∷ []) releases (goes before release alike parts.0) parts.1)

after_alike : (before releases : List Release) → AreAlike (before ++ releases) → agree_after before releases ≡ true
after_alike before [] alike = refl
after_alike before (release ∷ releases) alike =
    let all : AreAlike ((before ++ release ∷ []) ++ releases) = subst AreAlike (sym (append_assoc before (release ∷ []) releases)) alike in
    and_from (search.goes_with before release) (agree_after (before ++ release ∷ []) releases)
    (agrees before release (front_alike (before ++ release ∷ []) releases all))
    (after_alike (before ++ release ∷ []) releases all)

alike_by_test : (releases : List Release) → are_alike releases ≡ true → AreAlike releases
alike_by_test releases h = alike_after [] releases none_alike h

test_of_alike : (releases : List Release) → AreAlike releases → are_alike releases ≡ true
test_of_alike releases alike = after_alike [] releases alike

pub alike_decides : (releases : List Release) → (are_alike releases ≡ true) ↔ AreAlike releases
alike_decides releases = (alike_by_test releases, test_of_alike releases)

pub goes_with_decides : (releases : List Release) (release : Release)
    → (goes_with releases release ≡ true)
    ↔ ((All IsSound releases × AreAlike releases) × (IsSound release × AreAlike (releases ++ release ∷ [])))
goes_with_decides releases release = (to, from)
  where
    to : goes_with releases release ≡ true → (All IsSound releases × AreAlike releases) × (IsSound release × AreAlike (releases ++ release ∷ []))
    to h =
        let both = and_parts (are_sound releases) (is_sound release && are_alike (releases ++ release ∷ [])) h in
        let recorded = and_parts (list_all is_sound releases) (are_alike releases) both.0 in
        let further = and_parts (is_sound release) (are_alike (releases ++ release ∷ [])) both.1 in (
          (all_of is_sound IsSound sound_by_test releases recorded.0, alike_by_test releases recorded.1),
          (sound_by_test release further.0, alike_by_test (releases ++ release ∷ []) further.1),
        )

    from : (All IsSound releases × AreAlike releases) × (IsSound release × AreAlike (releases ++ release ∷ [])) → goes_with releases release ≡ true
    from it =
        and_from (are_sound releases) (is_sound release && are_alike (releases ++ release ∷ []))
        (and_from (list_all is_sound releases) (are_alike releases)
        (of_all is_sound IsSound test_of_sound releases it.0.0) (test_of_alike releases it.0.1))
        (and_from (is_sound release) (are_alike (releases ++ release ∷ [])) (test_of_sound release it.1.0) (test_of_alike (releases ++ release ∷ []) it.1.1))
