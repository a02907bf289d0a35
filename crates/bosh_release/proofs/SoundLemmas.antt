-- What files spell is sound.
use Rattle.std.proofs.Common.{◌≡◌, ⊎_elim, ◌∙◌, ap, refl, sym, subst, arith, ℕ, zero, suc, ◌<◌, ◌≤◌, Bool, true, false, cond, List, [], ◌∷◌, Option, Some, None, Result, Ok, Err, length, get_or, map, fold, codes}
use Rattle.std.specs.BTreeSet.{insert_key}
use Rattle.std.specs.Cmp.Lexicographic.{slice_cmp}
use Rattle.std.specs.List.{All, Contains, filter_map}
use Rattle.std.specs.Option.{option_map}
use Rattle.std.specs.Ordering.{match_ordering, nat_cmp, ordering_reverse}
use Rattle.std.specs.Str.{bytes_eq}
use Rattle.std.specs.declared.cmp.Ordering.{Ordering}
use Rattle.std.specs.declared.cmp.Ordering.TheVariants.{Less, Equal, Greater}
use Rattle.std.proofs.lemmas.Bool.{cases_lt}
use Rattle.std.proofs.lemmas.Cmp.{nat_list_cmp_total}
use Rattle.std.proofs.lemmas.List.{get_or_default, length-map}
use Rattle.std.proofs.lemmas.List.Elements.{All-cons, All-head, All-nil, All-tail, All-weaker, Contains-get_or}
use Rattle.std.proofs.lemmas.Slice.Eq.{bytes_eq-Decides}
use Rattle.bosh_base.specs.declared.digest.Digest.{Digest}
use Rattle.bosh_base.specs.declared.release.JobSpec.{JobSpec}
use Rattle.bosh_base.specs.declared.release.PackageSpec.{PackageSpec}
use Rattle.bosh_base.specs.declared.release.Release.{Release}
use Rattle.bosh_release_listing.specs.Listing.{Stamped}
use Rattle.bosh_release.specs.Collected.{Answers, Collects, IsCollected, package_spec, package_specs}
use Rattle.bosh_release.specs.Draft.{both_files, check_job, draft_of, graph_of, job_of, job_path, job_with, jobs_and_packages, jobs_of, named, needs_of, package_names, package_of, package_path, package_with, packages_of, place_among, place_of, places_of, template_in, with_needs}
use Rattle.bosh_release.specs.Sound.{CollectedIsSound, Depends, IsSound, Lists, at_once, by, names_of}
use Rattle.bosh_release.specs.Spec.{check_name, spec_at}
use Rattle.bosh_release.specs.declared.draft.Draft.{Draft}
use Rattle.bosh_release.specs.declared.drafted_package.PackageDraft.{PackageDraft}
use Rattle.bosh_release_files.specs.Answer.{◌>>=◌, check_each, each, or_fault}
use Rattle.bosh_release_files.specs.Files.{Entry, files_below, folder_after, folder_of_files, folders_below}
use Rattle.bosh_release_files.specs.Pattern.{patterns}
use Rattle.bosh_release_files.specs.Sources.{IsInOrder}
use Rattle.bosh_release_files.specs.declared.fault.ReleaseFault.{ReleaseFault}
use Rattle.bosh_release_files.specs.declared.fault.ReleaseFault.TheVariants as faults
use Rattle.bosh_release_files.specs.declared.folder.File.{File}
use Rattle.bosh_release_files.proofs.OrderLemmas.{ascends}
use Rattle.bosh_release_order.specs.Graph.{HasNoCycle, Needs, Reaches}
use Rattle.bosh_release_order.specs.Graph as graphs
use Rattle.bosh_release_specs.specs.JobSpec.{a_job_spec}
use Rattle.bosh_release_specs.specs.PackageSpec.{a_package_spec}
use Rattle.bosh_release.proofs.FitLemmas.{bind-ok, each_length}

-- ---- names in order

abbrev compare : List ℕ → List ℕ → Ordering
compare = slice_cmp nat_cmp

abbrev Follows : List ℕ → List ℕ → Type 0
Follows text later = compare text later ≡ Less

all_inserted : (P : List ℕ → Type 0) (ks : List (List ℕ)) (k : List ℕ) → All P ks → P k → All P (insert_key compare ks k)
all_inserted P [] k all p = All-cons P k [] p (All-nil P)
all_inserted P (x ∷ xs) k all p = at (all_inserted P xs k (All-tail P x xs all) p) (compare k x)
  where
    at :
        All P (insert_key compare xs k) → (o : Ordering)
        → All P (match_ordering o (k ∷ x ∷ xs) (x ∷ xs) (x ∷ insert_key compare xs k))
    at below Less = All-cons P k (x ∷ xs) p all
    at below Equal = all
    at below Greater = All-cons P x (insert_key compare xs k) (All-head P x xs all) below

key_in_order : (ks : List (List ℕ)) (k : List ℕ) → IsInOrder ks → IsInOrder (insert_key compare ks k)
key_in_order [] k h = (All-nil (Follows k), tt)
key_in_order (x ∷ xs) k h = at (key_in_order xs k h.1) (compare k x) refl
  where
    at :
        IsInOrder (insert_key compare xs k) → (o : Ordering) → compare k x ≡ o
        → IsInOrder (match_ordering o (k ∷ x ∷ xs) (x ∷ xs) (x ∷ insert_key compare xs k))
    at below Less is = (
      All-cons (Follows k) x xs is
          (All-weaker (Follows x) (Follows k) (λ later more. nat_list_cmp_total.trans k x later is more) xs h.0),
      h,
    )
    at below Equal is = h
    at below Greater is =
        (all_inserted (Follows x) xs k h.0 (nat_list_cmp_total.antisymm x k ∙ ap ordering_reverse is), below)

all_in_order : (ks names : List (List ℕ)) → IsInOrder ks → IsInOrder (fold (insert_key compare) ks names)
all_in_order ks [] h = h
all_in_order ks (name ∷ names) h = all_in_order (insert_key compare ks name) names (key_in_order ks name h)

folders_in_order : (front : List ℕ) (files : List File) → IsInOrder (folders_below front files)
folders_in_order front files = all_in_order [] (filter_map (folder_after front) files) tt

never_itself : (x : List ℕ) → Follows x x → ⊥
never_itself x h =
    let turned : Less ≡ Greater = sym h ∙ nat_list_cmp_total.antisymm x x ∙ ap ordering_reverse h in
    cc

-- one name stands at one place
one_place :
    (names : List (List ℕ)) (i j : ℕ) (d : List ℕ) → IsInOrder names → i < length names → j < length names
    → get_or names i d ≡ get_or names j d → i ≡ j
one_place names i j d h low high same =
    ⊎_elim
    (λ (less : i < j). absurd (never_itself (get_or names j d) (subst (λ x. Follows x (get_or names j d)) same (ascends names i j d h less high))))
    (λ (le : j ≤ i).
    ⊎_elim
    (λ (less : j < i). absurd (never_itself (get_or names i d) (subst (λ x. Follows x (get_or names i d)) (sym same) (ascends names j i d h less low))))
    (λ (ge : i ≤ j). omega arith)
    (cases_lt j i))
    (cases_lt i j)

-- ---- steps for several

each_names :
    {B : Type 0} (step : List ℕ → Result B ReleaseFault) (name : B → List ℕ)
    → ((x : List ℕ) (y : B) → step x ≡ Ok y → name y ≡ x) → (xs : List (List ℕ)) (ys : List B) → each step xs ≡ Ok ys
    → map name ys ≡ xs
each_names step name good [] ys h = let e : [] ≡ ys = cc in ap (map name) (sym e)
each_names step name good (x ∷ xs) ys h =
    let (first, read, more) = bind-ok (step x) (λ first. each step xs >>= λ others. Ok (first ∷ others)) ys h in
    let (others, rest, last) = bind-ok (each step xs) (λ others. Ok (first ∷ others)) ys more in
    let e : first ∷ others ≡ ys = cc in
    ap (map name) (sym e) ∙ ap (λ n. n ∷ map name others) (good x first read)
    ∙ ap (λ ns. x ∷ ns) (each_names step name good xs others rest)

each_given :
    {A B : Type 0} (step : A → Result B ReleaseFault) (Q : A → Type 0) → ((x : A) (y : B) → step x ≡ Ok y → Q x)
    → (xs : List A) (ys : List B) → each step xs ≡ Ok ys → All Q xs
each_given step Q good [] ys h = All-nil Q
each_given step Q good (x ∷ xs) ys h =
    let (first, read, more) = bind-ok (step x) (λ first. each step xs >>= λ others. Ok (first ∷ others)) ys h in
    let (others, rest, last) = bind-ok (each step xs) (λ others. Ok (first ∷ others)) ys more in
    All-cons Q x xs (good x first read) (each_given step Q good xs others rest)

each_at :
    {A B : Type 0} (step : A → Result B ReleaseFault) (xs : List A) (ys : List B) (i : ℕ) (d : A) (e : B)
    → each step xs ≡ Ok ys → i < length xs → step (get_or xs i d) ≡ Ok (get_or ys i e)
each_at step [] ys i d e h lt = absurd (omega arith)
each_at step (x ∷ xs) ys zero d e h lt =
    let (first, read, more) = bind-ok (step x) (λ first. each step xs >>= λ others. Ok (first ∷ others)) ys h in
    let (others, rest, last) = bind-ok (each step xs) (λ others. Ok (first ∷ others)) ys more in
    let is : first ∷ others ≡ ys = cc in
    read ∙ ap (λ all. Ok (get_or all 0 e)) is
each_at step (x ∷ xs) ys (suc i) d e h lt =
    let (first, read, more) = bind-ok (step x) (λ first. each step xs >>= λ others. Ok (first ∷ others)) ys h in
    let (others, rest, last) = bind-ok (each step xs) (λ others. Ok (first ∷ others)) ys more in
    let is : first ∷ others ≡ ys = cc in
    each_at step xs others i d e rest (omega arith) ∙ ap (λ all. Ok (get_or all (suc i) e)) is

checked_all :
    {A : Type 0} (test : A → Result Bool ReleaseFault) (Q : A → Type 0) → ((x : A) (b : Bool) → test x ≡ Ok b → Q x)
    → (xs : List A) (b : Bool) → check_each test xs ≡ Ok b → All Q xs
checked_all test Q good [] b h = All-nil Q
checked_all test Q good (x ∷ xs) b h =
    let (passed, was, more) = bind-ok (test x) (λ passed. check_each test xs) b h in
    All-cons Q x xs (good x passed was) (checked_all test Q good xs b more)

-- ---- names of jobs and packages

same_name : (path folder name : List ℕ) (b : Bool) → check_name path folder name ≡ Ok b → name ≡ folder
same_name path folder name b h = at (bytes_eq name folder) refl h
  where
    at :
        (t : Bool) → bytes_eq name folder ≡ t
        → cond {A = Result Bool ReleaseFault} t (Ok true) (Err (faults.NameDiffers path)) ≡ Ok b → name ≡ folder
    at true is e = (bytes_eq-Decides name folder).0 is
    at false is e = absurd cc

job_name : (folder : List Entry) (name : List ℕ) (job : JobSpec) → job_of folder name ≡ Ok job → job.name ≡ name
unfolding job_of
job_name folder name job h =
    let (texts, a, h1) = bind-ok (both_files folder (job_path name (codes "/spec")) (job_path name (codes "/monit"))) _ job h in
    let (it, b, h2) = bind-ok (spec_at a_job_spec (job_path name (codes "/spec")) texts.0) _ job h1 in
    let (templates, c, h3) = bind-ok (each (template_in folder name) it.templates) _ job h2 in
    let (same, d, h4) = bind-ok (check_name (job_path name (codes "/spec")) name it.name) _ job h3 in
    let e : job_with it templates texts.0 texts.1 ≡ job = cc in
    ap (λ j. j.name) (sym e) ∙ same_name (job_path name (codes "/spec")) name it.name same d

package_name :
    (folder : List Entry) (sources : List Stamped) (name : List ℕ) (pack : PackageDraft)
    → package_of folder sources name ≡ Ok pack → pack.name ≡ name
unfolding package_of
package_name folder sources name pack h =
    let (texts, a, h1) = bind-ok (both_files folder (package_path name (codes "/spec")) (package_path name (codes "/packaging"))) _ pack h in
    let (it, b, h2) = bind-ok (spec_at a_package_spec (package_path name (codes "/spec")) texts.0) _ pack h1 in
    let (same, d, h3) = bind-ok (check_name (package_path name (codes "/spec")) name it.name) _ pack h2 in
    let (taken, c, h4) = bind-ok (patterns sources it.files) _ pack h3 in
    let e : package_with it texts.1 taken ≡ pack = cc in
    ap (λ p. p.name) (sym e) ∙ same_name (package_path name (codes "/spec")) name it.name same d

-- ---- places of names

among_at : (names : List (List ℕ)) (name : List ℕ) (p : ℕ) → place_among names name ≡ Some p → (p < length names) × (get_or names p [] ≡ name)
among_at [] name p h = absurd cc
among_at (first ∷ names) name p h = at (among_at names name) (bytes_eq name first) (place_among names name) refl refl h
  where
    at :
        ((p : ℕ) → place_among names name ≡ Some p → (p < length names) × (get_or names p [] ≡ name))
        → (t : Bool) (o : Option ℕ) → bytes_eq name first ≡ t → place_among names name ≡ o
        → cond {A = Option ℕ} t (Some 0) (option_map suc o) ≡ Some p
        → (p < suc (length names)) × (get_or (first ∷ names) p [] ≡ name)
    at below true o same is e =
        let none : 0 ≡ p = cc in
        subst (λ q. (q < suc (length names)) × (get_or (first ∷ names) q [] ≡ name)) none
        (omega arith, sym ((bytes_eq-Decides name first).0 same))
    at below false (Some q) same is e =
        let next : suc q ≡ p = cc in
        let it = below q is in
        subst (λ q. (q < suc (length names)) × (get_or (first ∷ names) q [] ≡ name)) next (omega (arith, it.0), it.1)
    at below false None same is e = absurd cc

place_at : (names : List (List ℕ)) (name : List ℕ) (p : ℕ) → place_of names name ≡ Ok p → (p < length names) × (get_or names p [] ≡ name)
place_at names name p h = at (place_among names name) refl h
  where
    at :
        (o : Option ℕ) → place_among names name ≡ o → or_fault (faults.UnknownPackage name) o ≡ Ok p
        → (p < length names) × (get_or names p [] ≡ name)
    at (Some q) is e = let same : q ≡ p = cc in among_at names name p (is ∙ ap Some same)
    at None is e = absurd cc

known : (names : List (List ℕ)) (name : List ℕ) (p : ℕ) → place_of names name ≡ Ok p → Contains names name
known names name p h =
    let it = place_at names name p h in
    (p, it.0, get_or_default names p name [] it.0 ∙ it.1)

all_known : (names needs : List (List ℕ)) (places : List ℕ) → places_of names needs ≡ Ok places → All (Contains names) needs
all_known names needs places h = each_given (place_of names) (Contains names) (known names) needs places h

-- ---- the specs of packages

no_package : PackageDraft
no_package = record { name = []; script = record { 0 = [] }; patterns = []; dependencies = [] }

specs_names :
    (packages : List PackageDraft) (prints : List Digest) → length prints ≡ length packages
    → names_of (package_specs packages prints) ≡ package_names packages
specs_names [] prints same = refl
specs_names (pack ∷ packages) [] same = absurd (omega arith)
specs_names (pack ∷ packages) (print ∷ prints) same = ap (λ names. pack.name ∷ names) (specs_names packages prints (omega arith))

specs_all :
    (Q : PackageSpec → Type 0) (R : PackageDraft → Type 0) → ((pack : PackageDraft) (print : Digest) → R pack → Q (package_spec pack print))
    → (packages : List PackageDraft) (prints : List Digest) → All R packages → All Q (package_specs packages prints)
specs_all Q R good [] prints all = All-nil Q
specs_all Q R good (pack ∷ packages) [] all = All-nil Q
specs_all Q R good (pack ∷ packages) (print ∷ prints) all =
    All-cons Q (package_spec pack print) (package_specs packages prints) (good pack print (All-head R pack packages all))
    (specs_all Q R good packages prints (All-tail R pack packages all))

specs_at :
    (packages : List PackageDraft) (prints : List Digest) (k : ℕ) (d : PackageSpec) (e : PackageDraft) (f : Digest)
    → length prints ≡ length packages → k < length packages
    → get_or (package_specs packages prints) k d ≡ package_spec (get_or packages k e) (get_or prints k f)
specs_at [] prints k d e f same lt = absurd (omega arith)
specs_at (pack ∷ packages) [] k d e f same lt = absurd (omega arith)
specs_at (pack ∷ packages) (print ∷ prints) zero d e f same lt = refl
specs_at (pack ∷ packages) (print ∷ prints) (suc k) d e f same lt = specs_at packages prints k d e f (omega arith) (omega arith)

specs_length :
    (packages : List PackageDraft) (prints : List Digest) → length prints ≡ length packages
    → length (package_specs packages prints) ≡ length packages
specs_length [] prints same = refl
specs_length (pack ∷ packages) [] same = absurd (omega arith)
specs_length (pack ∷ packages) (print ∷ prints) same = ap suc (specs_length packages prints (omega arith))

name_of : (packages : List PackageDraft) (k : ℕ) (e : PackageDraft) → k < length packages → get_or (package_names packages) k [] ≡ (get_or packages k e).name
name_of [] k e lt = absurd (omega arith)
name_of (pack ∷ packages) zero e lt = refl
name_of (pack ∷ packages) (suc k) e lt = name_of packages k e (omega arith)

-- ---- needs of names are needs of places

module _ (packages : List PackageDraft) (prints : List Digest) (graph : List (List ℕ))
    (same : length prints ≡ length packages) (order : IsInOrder (package_names packages))
    (all : each (needs_of (package_names packages)) packages ≡ Ok graph) where
  abbrev specs : List PackageSpec
  specs = package_specs packages prints

  abbrev names : List (List ℕ)
  names = package_names packages

  abbrev count : length names ≡ length packages
  count = length-map packages (λ (p : PackageDraft). p.name)

  spec_place : (a : List ℕ) (pack : PackageSpec) → Contains specs pack → pack.name ≡ a
      → (k : ℕ) × (k < length packages) × (get_or names k [] ≡ a) × (pack.deps ≡ (get_or packages k no_package).dependencies)
  spec_place a pack (k, lt, is) name =
      let low : k < length packages = (let n = specs_length packages prints same in omega arith) in
      let spec = sym (specs_at packages prints k pack no_package (record { 0 = [] }) same low) ∙ is in (
        k,
        low,
        name_of packages k no_package low ∙ ap (λ (s : PackageSpec). s.name) spec ∙ name,
        sym (ap (λ (s : PackageSpec). s.deps) spec),
      )

  step_place : (a b : List ℕ) → Lists specs a b → (i : ℕ) → i < length names → get_or names i [] ≡ a
      → (p : ℕ) × (p < length names) × (get_or names p [] ≡ b) × Needs graph i p
  step_place a b (pack, within, name, listed) i low at =
      let (k, short, named_k, deps) = spec_place a pack within name in
      let here : k ≡ i = one_place names k i [] order (let n = count in omega arith) low (named_k ∙ sym at) in
      let wanted = (get_or packages k no_package).dependencies in
      let found = each_at (needs_of names) packages graph k no_package [] all short in
      let (m, inside, is) = subst (λ ds. Contains ds b) deps listed in
      let one = each_at (place_of names) wanted (get_or graph k []) m b 0 found inside in
      let p = get_or (get_or graph k []) m 0 in
      let at_p = place_at names b p (ap (place_of names) (sym is) ∙ one) in
      let many = each_length (place_of names) wanted (get_or graph k []) found in (
        p,
        at_p.0,
        at_p.1,
        subst (λ q. Needs graph q p) here (Contains-get_or (get_or graph k []) m 0 (omega arith)),
      )

  walk : {a b : List ℕ} → Depends specs a b → (i : ℕ) → i < length names → get_or names i [] ≡ a
      → (j : ℕ) × (j < length names) × (get_or names j [] ≡ b) × Reaches graph i j
  walk (at_once a b l) i low at =
      let (p, short, name, n) = step_place a b l i low at in
      (p, short, name, graphs.at_once i p n)
  walk (by a next b l r) i low at =
      let (p, short, name, n) = step_place a next l i low at in
      let (j, within, last, more) = walk r p short name in
      (j, within, last, graphs.by i p j n more)

  starts : {a b : List ℕ} → Depends specs a b → (c : List ℕ) × Lists specs a c
  starts (at_once a b l) = (b, l)
  starts (by a next b l r) = (next, l)

  none_depends : HasNoCycle graph → (name : List ℕ) → Depends specs name name → ⊥
  none_depends free name d =
      let (c, listing) = starts d in
      let (pack, within, named_so, listed) = listing in
      let (k, short, at, deps) = spec_place name pack within named_so in
      let low : k < length names = (let n = count in omega arith) in
      let (j, inside, last, round) = walk d k low at in
      let same_place : j ≡ k = one_place names j k [] order inside low (last ∙ sym at) in
      free k (subst (Reaches graph k) same_place round)

-- ---- all

record Parts (files : List File) (draft : Draft) : Type 0 where
  jobs : jobs_of (folder_of_files files) files ≡ Ok draft.jobs
  packages : packages_of (folder_of_files files) files ≡ Ok draft.packages
  needs : graph_of draft.jobs draft.packages ≡ Ok draft.needs

parts_of : (files : List File) (draft : Draft) → draft_of files ≡ Ok draft → Parts files draft
parts_of files draft h =
    let folder = folder_of_files files in
    let (name, was, more) = bind-ok (named folder) (λ name. jobs_and_packages folder files >>= λ both. with_needs name both.0 both.1) draft h in
    let (both, were, last) = bind-ok (jobs_and_packages folder files) (λ both. with_needs name both.0 both.1) draft more in
    let (jobs, read, others) = bind-ok (jobs_of folder files) (λ jobs. packages_of folder files >>= λ packages. Ok (jobs, packages)) both were in
    let (packages, taken, pair) = bind-ok (packages_of folder files) (λ packages. Ok (jobs, packages)) both others in
    let (needs, found, made) = bind-ok (graph_of both.0 both.1) (λ needs. Ok (record { name = name; jobs = both.0; packages = both.1; needs = needs })) draft last in
    let of_parts : Draft = record { name = name; jobs = both.0; packages = both.1; needs = needs } in
    let first : jobs ≡ both.0 = ap (λ (r : Result (List JobSpec × List PackageDraft) ReleaseFault). jobs_in r jobs) pair in
    let second : packages ≡ both.1 = ap (λ (r : Result (List JobSpec × List PackageDraft) ReleaseFault). packages_in r packages) pair in
    let is : of_parts ≡ draft = cc in
    subst (Parts files) is (record { jobs = read ∙ ap Ok first; packages = taken ∙ ap Ok second; needs = found })
  where
    jobs_in : Result (List JobSpec × List PackageDraft) ReleaseFault → List JobSpec → List JobSpec
    jobs_in (Ok both) other = both.0
    jobs_in (Err fault) other = other

    packages_in : Result (List JobSpec × List PackageDraft) ReleaseFault → List PackageDraft → List PackageDraft
    packages_in (Ok both) other = both.1
    packages_in (Err fault) other = other

collected : (files : List File) (version : List ℕ) (release : Release) → Collects files version (Ok release)
    → (draft : Draft) × (draft_of files ≡ Ok draft) × IsCollected files version draft release
collected files version release h = at (draft_of files) refl h
  where
    at :
        (r : Result Draft ReleaseFault) → draft_of files ≡ r → Answers files version r (Ok release)
        → (draft : Draft) × (draft_of files ≡ Ok draft) × IsCollected files version draft release
    at (Ok draft) is it = (draft, is, it)
    at (Err fault) is it = absurd it

pub collected_is_sound : CollectedIsSound
collected_is_sound files version release h =
    let (draft, is, it) = collected files version release h in
    let parts = parts_of files draft is in
    let folder = folder_of_files files in
    let names = package_names draft.packages in
    let (known_jobs, checked, all) = bind-ok (check_each (check_job names) draft.jobs) (λ known. each (needs_of names) draft.packages) draft.needs parts.needs in
    let prints = it.prints in
    let same = it.are_prints.same_length in
    let specs = package_specs draft.packages prints in
    let are : names_of specs ≡ names = specs_names draft.packages prints same in
    let job_names = each_names (job_of folder) (λ (job : JobSpec). job.name) (job_name folder) (folders_below (codes "jobs/") files) draft.jobs parts.jobs in
    let pack_names = each_names (package_of folder (files_below (codes "src/") files)) (λ (pack : PackageDraft). pack.name) (package_name folder (files_below (codes "src/") files)) (folders_below (codes "packages/") files) draft.packages parts.packages in
    let order : IsInOrder names = subst IsInOrder (sym pack_names) (folders_in_order (codes "packages/") files) in
    let sound : IsSound (record { name = draft.name; version = version; jobs = draft.jobs; packages = specs }) = record {
      jobs = subst IsInOrder (sym job_names) (folders_in_order (codes "jobs/") files);
      packages = subst IsInOrder (sym are) order;
      jobs_name = subst (λ ns. All (λ (job : JobSpec). All (Contains ns) job.packages) draft.jobs) (sym are)
          (checked_all (check_job names) (λ (job : JobSpec). All (Contains names) job.packages)
          (λ job b good. let (places, found, last) = bind-ok (places_of names job.packages) (λ places. Ok true) b good in all_known names job.packages places found)
          draft.jobs known_jobs checked);
      packages_name = subst (λ ns. All (λ (pack : PackageSpec). All (Contains ns) pack.deps) specs) (sym are)
          (specs_all (λ (pack : PackageSpec). All (Contains names) pack.deps) (λ (pack : PackageDraft). All (Contains names) pack.dependencies)
          (λ pack print good. good) draft.packages prints
          (each_given (needs_of names) (λ (pack : PackageDraft). All (Contains names) pack.dependencies)
          (λ pack places found. all_known names pack.dependencies places found) draft.packages draft.needs all));
      no_cycle = none_depends draft.packages prints draft.needs same order all it.no_cycle;
    } in
    subst IsSound (sym it.is) sound
