-- A draft's needs are packages; and the specs of its packages.
use Rattle.std.proofs.Common.{◌≡◌, ◌⊎◌, ⊎_elim, ◌∙◌, ap, refl, sym, subst, arith, ℕ, zero, suc, ◌+◌, ◌<◌, ◌≤◌, Bool, true, false, cond, List, [], ◌∷◌, ◌++◌, Option, Some, None, Result, Ok, Err, length, get_or, take, add-one}
use Rattle.std.specs.List.{All, Contains}
use Rattle.std.specs.Option.{option_map}
use Rattle.std.specs.Str.{bytes_eq}
use Rattle.std.proofs.lemmas.Bool.{cases_lt}
use Rattle.std.proofs.lemmas.List.{get_or_past, length-map}
use Rattle.std.proofs.lemmas.List.Elements.{All-cons, All-nil}
use Rattle.bosh_base.specs.declared.digest.Digest.{Digest}
use Rattle.bosh_base.specs.declared.release.JobSpec.{JobSpec}
use Rattle.bosh_base.specs.declared.release.PackageSpec.{PackageSpec}
use Rattle.bosh_base.specs.declared.release.Release.{Release}
use Rattle.bosh_release.specs.Collected.{AnswersDraft, IsDraftFault, exceeded, name_at, package_spec, package_specs, within_limits}
use Rattle.bosh_release.specs.Draft.{check_job, draft_of, graph_of, jobs_and_packages, named, needs_of, package_names, place_among, place_of, with_needs}
use Rattle.bosh_release.specs.Prints.{IsFit}
use Rattle.bosh_release.specs.declared.draft.Draft.{Draft}
use Rattle.bosh_release.specs.declared.drafted_package.PackageDraft.{PackageDraft}
use Rattle.bosh_release_files.specs.Answer.{◌>>=◌, IsAnswer, check_each, each, or_fault}
use Rattle.bosh_release_files.specs.Files.{folder_of_files}
use Rattle.bosh_release_files.specs.declared.fault.ReleaseFault.{ReleaseFault}
use Rattle.bosh_release_files.specs.declared.fault.ReleaseFault.TheVariants as faults
use Rattle.bosh_release_files.specs.declared.folder.File.{File}
use Rattle.bosh_release_order.specs.Graph.{HasNoCycle, IsFirstOnCycle, IsGraph, Needs, Reaches, at_once, by}

-- where a step follows, there was a value
pub bind-ok :
    {A B : Type 0} (r : Result A ReleaseFault) (f : A → Result B ReleaseFault) (b : B) → (r >>= f) ≡ Ok b
    → (a : A) × (r ≡ Ok a) × (f a ≡ Ok b)
bind-ok (Ok a) f b h = (a, refl, h)
bind-ok (Err fault) f b h = absurd cc

pub each_length :
    {A B : Type 0} (step : A → Result B ReleaseFault) (xs : List A) (ys : List B) → each step xs ≡ Ok ys
    → length ys ≡ length xs
each_length step [] ys h = let e : [] ≡ ys = cc in ap length (sym e)
each_length step (x ∷ xs) ys h =
    let (first, read, more) = bind-ok (step x) (λ first. each step xs >>= λ others. Ok (first ∷ others)) ys h in
    let (others, rest, last) = bind-ok (each step xs) (λ others. Ok (first ∷ others)) ys more in
    let e : first ∷ others ≡ ys = cc in
    ap length (sym e) ∙ ap suc (each_length step xs others rest)

each_all :
    {A B : Type 0} (step : A → Result B ReleaseFault) (Q : B → Type 0) → ((x : A) (y : B) → step x ≡ Ok y → Q y)
    → (xs : List A) (ys : List B) → each step xs ≡ Ok ys → All Q ys
each_all step Q good [] ys h = let e : [] ≡ ys = cc in subst (All Q) e (All-nil Q)
each_all step Q good (x ∷ xs) ys h =
    let (first, read, more) = bind-ok (step x) (λ first. each step xs >>= λ others. Ok (first ∷ others)) ys h in
    let (others, rest, last) = bind-ok (each step xs) (λ others. Ok (first ∷ others)) ys more in
    let e : first ∷ others ≡ ys = cc in
    subst (All Q) e (All-cons Q first others (good x first read) (each_all step Q good xs others rest))

among_within : (names : List (List ℕ)) (name : List ℕ) (p : ℕ) → place_among names name ≡ Some p → p < length names
among_within [] name p h = absurd cc
among_within (first ∷ names) name p h = at (among_within names name) (bytes_eq name first) (place_among names name) refl h
  where
    at :
        ((p : ℕ) → place_among names name ≡ Some p → p < length names) → (t : Bool) (o : Option ℕ)
        → place_among names name ≡ o → cond {A = Option ℕ} t (Some 0) (option_map suc o) ≡ Some p
        → p < suc (length names)
    at below true o is e = let zero' : 0 ≡ p = cc in omega arith
    at below false (Some q) is e = let next : suc q ≡ p = cc in let lt = below q is in omega arith
    at below false None is e = absurd cc

place_within : (names : List (List ℕ)) (name : List ℕ) (p : ℕ) → place_of names name ≡ Ok p → p < length names
place_within names name p h = at (place_among names name) refl h
  where
    at : (o : Option ℕ) → place_among names name ≡ o → or_fault (faults.UnknownPackage name) o ≡ Ok p → p < length names
    at (Some q) is e = let same : q ≡ p = cc in among_within names name p (is ∙ ap Some same)
    at None is e = absurd cc

graph_fits :
    (jobs : List JobSpec) (packages : List PackageDraft) (needs : List (List ℕ)) → graph_of jobs packages ≡ Ok needs
    → (length needs ≡ length packages) × IsGraph needs
graph_fits jobs packages needs h =
    let names = package_names packages in
    let (known, checked, all) = bind-ok (check_each (check_job names) jobs) (λ known. each (needs_of names) packages) needs h in
    let same = each_length (needs_of names) packages needs all in
    let count : length names ≡ length needs = length-map packages (λ (p : PackageDraft). p.name) ∙ sym same in (
      same,
      each_all (needs_of names) (λ ns. All (λ need. need < length needs) ns)
          (λ pack ns read.
          each_all (place_of names) (λ need. need < length needs)
          (λ name p found. subst (λ n. p < n) count (place_within names name p found)) pack.dependencies ns read)
          packages needs all,
    )

-- what is drafted fits
pub drafted_fits : (files : List File) (draft : Draft) → draft_of files ≡ Ok draft → IsFit draft
drafted_fits files draft h =
    let folder = folder_of_files files in
    let (name, was, more) = bind-ok (named folder) (λ name. jobs_and_packages folder files >>= λ both. with_needs name both.0 both.1) draft h in
    let (both, were, last) = bind-ok (jobs_and_packages folder files) (λ both. with_needs name both.0 both.1) draft more in
    let (needs, found, made) = bind-ok (graph_of both.0 both.1) (λ needs. Ok (record { name = name; jobs = both.0; packages = both.1; needs = needs })) draft last in
    let fits = graph_fits both.0 both.1 needs found in
    let made_of : Draft = record { name = name; jobs = both.0; packages = both.1; needs = needs } in
    let is : made_of ≡ draft = cc in
    subst IsFit is (record { same_length = fits.0; graph = fits.1 })

-- ---- the specs of packages

specs_more :
    (packages : List PackageDraft) (prints : List Digest) (i : ℕ) (d : PackageDraft) (e : Digest)
    → i < length packages → i < length prints
    → package_specs (take (suc i) packages) (take (suc i) prints)
    ≡ package_specs (take i packages) (take i prints) ++ package_spec (get_or packages i d) (get_or prints i e) ∷ []
specs_more [] prints i d e low short = absurd (omega arith)
specs_more (pack ∷ packages) [] i d e low short = absurd (omega arith)
specs_more (pack ∷ packages) (print ∷ prints) zero d e low short = refl
specs_more (pack ∷ packages) (print ∷ prints) (suc i) d e low short =
    ap (λ more. package_spec pack print ∷ more) (specs_more packages prints i d e (omega arith) (omega arith))

same_ok : {A : Type 0} (a b : A) → ◌≡◌ {A = Result A ReleaseFault} (Ok a) (Ok b) → a ≡ b
same_ok a b h = cc

-- one package more
pub specs_turn :
    (packages : List PackageDraft) (prints : List Digest) (i : ℕ) (pack : PackageDraft) (print : Digest)
    (specs new : List PackageSpec) (spec : PackageSpec) → i < length packages → length prints ≡ length packages
    → pack ≡ get_or packages i pack → print ≡ get_or prints i print
    → ◌≡◌ {A = Result PackageSpec ReleaseFault} (Ok (package_spec pack print)) (Ok spec)
    → specs ≡ package_specs (take i packages) (take i prints) → new ≡ specs ++ spec ∷ []
    → new ≡ package_specs (take (i + 1) packages) (take (i + 1) prints)
specs_turn packages prints i pack print specs new spec low same packed printed made before added =
    added
    ∙ ap (λ all. all ++ spec ∷ []) before
    ∙ ap (λ it. package_specs (take i packages) (take i prints) ++ it ∷ []) (sym (same_ok (package_spec pack print) spec made))
    ∙ ap (λ p. package_specs (take i packages) (take i prints) ++ package_spec p print ∷ []) packed
    ∙ ap (λ d. package_specs (take i packages) (take i prints) ++ package_spec (get_or packages i pack) d ∷ []) printed
    ∙ sym (specs_more packages prints i pack print low (omega arith))
    ∙ ap (λ n. package_specs (take n packages) (take n prints)) (sym (add-one i))

-- ---- faults of a draft

pub memory_fault : (files : List File) (draft : Draft) (fault : ReleaseFault) → fault ≡ faults.Memory → IsDraftFault files draft fault
memory_fault files draft fault is = subst (IsDraftFault files draft) (sym is) tt

pub limit_fault :
    (files : List File) (draft : Draft) (fault : ReleaseFault) → HasNoCycle draft.needs
    → (fault ≡ faults.Memory) ⊎ (within_limits (exceeded files draft) ≡ Err fault) → IsDraftFault files draft fault
limit_fault files draft fault free h =
    ⊎_elim
    (λ (is : fault ≡ faults.Memory). memory_fault files draft fault is)
    (λ (is : within_limits (exceeded files draft) ≡ Err fault). at (exceeded files draft) refl is)
    h
  where
    at :
        (o : Option (List ℕ)) → exceeded files draft ≡ o → within_limits o ≡ Err fault → IsDraftFault files draft fault
    at None was e = absurd cc
    at (Some key) was e =
        let is : faults.Limit key ≡ fault = cc in
        subst (IsDraftFault files draft) is (free, was)

pub within_none :
    (o : Option (List ℕ)) → within_limits o ≡ Ok true → o ≡ None
within_none None h = refl
within_none (Some key) h = absurd cc

pub cycle_answer :
    (files : List File) (version : List ℕ) (draft : Draft) (place : ℕ) (name : List ℕ) (answer : Result Release ReleaseFault)
    → IsFirstOnCycle draft.needs place → name ≡ name_at draft.packages place
    → IsAnswer answer (Err (faults.Cycle name)) → AnswersDraft files version draft answer
cycle_answer files version draft place name (Ok release) first is h = absurd cc
cycle_answer files version draft place name (Err fault) first is h =
    ⊎_elim
    (λ (memory : fault ≡ faults.Memory). memory_fault files draft fault memory)
    (λ (e : Err (faults.Cycle name) ≡ Err fault).
    let same : faults.Cycle name ≡ fault = cc in
    subst (IsDraftFault files draft) same (record { place = place; first = first; is = is }))
    h

-- the name at a place
pub name-at :
    (packages : List PackageDraft) (place : ℕ) (d : PackageDraft) → place < length packages
    → (get_or packages place d).name ≡ name_at packages place
name-at [] place d lt = absurd (omega arith)
name-at (pack ∷ packages) zero d lt = refl
name-at (pack ∷ packages) (suc place) d lt = name-at packages place d (omega arith)

needs_within : (graph : List (List ℕ)) (place other : ℕ) → Needs graph place other → place < length graph
needs_within graph place other n =
    ⊎_elim
    (λ (low : place < length graph). low)
    (λ (high : length graph ≤ place).
    let none : get_or graph place [] ≡ [] = get_or_past graph place [] high in
    let in' : Contains [] other = subst (λ needs. Contains needs other) none n in
    absurd (omega (arith, in'.1)))
    (cases_lt place (length graph))

-- a place that needs another is one of the places
pub reaches_within : (graph : List (List ℕ)) {place other : ℕ} → Reaches graph place other → place < length graph
reaches_within graph (at_once place other n) = needs_within graph place other n
reaches_within graph (by place next last n r) = needs_within graph place next n

pub cycle_within : (draft : Draft) (place : ℕ) → IsFit draft → IsFirstOnCycle draft.needs place → place < length draft.packages
cycle_within draft place fit first = let lt = reaches_within draft.needs first.on_cycle in let same = fit.same_length in omega arith
