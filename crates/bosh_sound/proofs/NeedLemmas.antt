-- Needs by names are needs by places.
use Rattle.std.proofs.Common.{◌≡◌, ⊎_elim, ◌∙◌, ap, refl, sym, subst, arith, ℕ, ◌+◌, ◌<◌, ◌≤◌, List, [], ◌∷◌, ◌++◌, length, get_or, take, map}
use Rattle.std.specs.List.{All, Contains}
use Rattle.std.proofs.lemmas.Bool.{cases_lt}
use Rattle.std.proofs.lemmas.List.{get_or-map, get_or_past, length-map, map-append}
use Rattle.std.proofs.lemmas.List.Elements.{All-append, All-cons, All-nil, Contains-get_or}
use Rattle.bosh_base.specs.declared.release.JobSpec.{JobSpec}
use Rattle.bosh_base.specs.declared.release.PackageSpec.{PackageSpec}
use Rattle.bosh_release.specs.Sound.{Depends, Lists, at_once, by, names_of}
use Rattle.bosh_release_files.specs.Sources.{IsInOrder}
use Rattle.bosh_release_order.specs.Graph.{Graph, HasNoCycle, IsGraph, Needs, Reaches, needs_of}
use Rattle.bosh_release_order.specs.Graph as graphs
use Rattle.bosh_sound.specs.Needs.{AreNeedsSound, JobsKnow, KnowAll}
use Rattle.bosh_sound.specs.Places.{ArePlaces, IsGraphOf, name_at}
use Rattle.bosh_sound.proofs.EachLemmas.{read_more}
use Rattle.bosh_sound.proofs.OrderLemmas.{one_place}

abbrev Texts : Type 0
Texts = List (List ℕ)

-- ---- one more

abbrev deps_of : List PackageSpec → List Texts
deps_of packages = map (λ pack. pack.deps) packages

abbrev Within : Texts → List ℕ → Type 0
Within texts places = All (λ place. place < length texts) places

pub graph_more :
    (texts : Texts) (packages : List PackageSpec) (graph : Graph) (i : ℕ) (pack : PackageSpec) (places : List ℕ)
    → i < length packages → pack ≡ get_or packages i pack → ArePlaces texts pack.deps places
    → IsGraphOf texts (take i packages) graph → IsGraphOf texts (take (i + 1) packages) (graph ++ places ∷ [])
graph_more texts packages graph i pack places low at here before = record {
  named =
      map-append (map (name_at texts)) graph (places ∷ [])
      ∙ ap (λ all. all ++ map (name_at texts) places ∷ []) before.named
      ∙ ap (λ deps. deps_of (take i packages) ++ deps ∷ []) here.named
      ∙ sym (map-append (λ (pack : PackageSpec). pack.deps) (take i packages) (pack ∷ []))
      ∙ ap deps_of (sym (read_more packages i pack low at));
  within =
      All-append (Within texts) graph (places ∷ []) before.within
      (All-cons (Within texts) places [] here.within (All-nil (Within texts)));
}

-- ---- elements of a list that is made by a function

into_map : {X Y : Type 0} (f : X → Y) (xs : List X) (x : X) → Contains xs x → Contains (map f xs) (f x)
into_map f xs x (k, within, is) =
    (k, omega (arith, within, length-map xs f), get_or-map f xs k x (f x) within ∙ ap f is)

from_map :
    {X Y : Type 0} (f : X → Y) (xs : List X) (d : X) (y : Y) → Contains (map f xs) y
    → (x : X) × Contains xs x × (f x ≡ y)
from_map f xs d y (k, within, is) =
    let low : k < length xs = omega (arith, within, length-map xs f) in
    (get_or xs k d, Contains-get_or xs k d low, sym (get_or-map f xs k d y low) ∙ is)

-- ---- needs of names are needs of places

no_package : PackageSpec
no_package = record { name = []; fingerprint = record { 0 = [] }; deps = [] }

module _ (packages : List PackageSpec) (graph : Graph) (of : IsGraphOf (names_of packages) packages graph) where
  abbrev names : Texts
  names = names_of packages

  abbrev count : length names ≡ length packages
  count = length-map packages (λ (pack : PackageSpec). pack.name)

  places_count : length graph ≡ length packages
  places_count =
      sym (length-map graph (map (name_at names))) ∙ ap length of.named
      ∙ length-map packages (λ (pack : PackageSpec). pack.deps)

  pub is_graph : IsGraph graph
  is_graph = subst (λ n. All (λ needs. All (λ need. need < n) needs) graph) (count ∙ sym places_count) of.within

  deps_at :
      (k : ℕ) (d : PackageSpec) → k < length packages
      → map (name_at names) (needs_of graph k) ≡ (get_or packages k d).deps
  deps_at k d low =
      sym (get_or-map (map (name_at names)) graph k [] [] (omega (arith, places_count)))
      ∙ ap (λ all. get_or all k []) of.named ∙ get_or-map (λ (pack : PackageSpec). pack.deps) packages k d [] low

  name_of : (k : ℕ) (d : PackageSpec) → k < length packages → name_at names k ≡ (get_or packages k d).name
  name_of k d low = get_or-map (λ (pack : PackageSpec). pack.name) packages k d [] low

  needs_within : (k j : ℕ) → Needs graph k j → k < length packages
  needs_within k j n =
      ⊎_elim
      (λ (low : k < length packages). low)
      (λ (high : length packages ≤ k).
      let none : needs_of graph k ≡ [] = get_or_past graph k [] (omega (arith, places_count)) in
      let in' : Contains [] j = subst (λ needs. Contains needs j) none n in
      absurd (omega (arith, in'.1)))
      (cases_lt k (length packages))

  listed : (k j : ℕ) → Needs graph k j → Lists packages (name_at names k) (name_at names j)
  listed k j n =
      let low = needs_within k j n in
      let pack = get_or packages k no_package in (
        pack,
        Contains-get_or packages k no_package low,
        sym (name_of k no_package low),
        subst (λ deps. Contains deps (name_at names j)) (deps_at k no_package low)
            (into_map (name_at names) (needs_of graph k) j n),
      )

  depends : {k j : ℕ} → Reaches graph k j → Depends packages (name_at names k) (name_at names j)
  depends (graphs.at_once k j n) = at_once (name_at names k) (name_at names j) (listed k j n)
  depends (graphs.by k next j n r) =
      by (name_at names k) (name_at names next) (name_at names j) (listed k next n) (depends r)

  -- the place of a package that lists another one
  record Step (name other : List ℕ) : Type 0 where
    place : ℕ
    next : ℕ
    within : place < length names
    next_within : next < length names
    named : name_at names place ≡ name
    next_named : name_at names next ≡ other
    needs : Needs graph place next

  step_of : (name other : List ℕ) → Lists packages name other → Step name other
  step_of name other (pack, (k, low, is), named_so, in_deps) =
      let deps : Contains (map (name_at names) (needs_of graph k)) other =
      subst (λ deps. Contains deps other) (sym (deps_at k pack low ∙ ap (λ (p : PackageSpec). p.deps) is)) in_deps in
      let (j, in_needs, is_other) = from_map (name_at names) (needs_of graph k) 0 other deps in
      let inside : All (Within names) graph = of.within in
      let needs_inside : Within names (needs_of graph k) = inside k [] (omega (arith, low, places_count)) in
      let (m, low_m, is_m) = in_needs in
      record {
        place = k;
        next = j;
        within = omega (arith, low, count);
        next_within = subst (λ q. q < length names) is_m (needs_inside m j low_m);
        named = name_of k pack low ∙ ap (λ (p : PackageSpec). p.name) is ∙ named_so;
        next_named = is_other;
        needs = in_needs;
      }

  module _ (order : IsInOrder names) where
    walk :
        {a b : List ℕ} → Depends packages a b → (i : ℕ) → i < length names → name_at names i ≡ a
        → (j : ℕ) × (j < length names) × (name_at names j ≡ b) × Reaches graph i j
    walk (at_once a b l) i low at =
        let s = step_of a b l in
        let here : s.place ≡ i = one_place names s.place i order s.within low (s.named ∙ sym at) in
        (s.next, s.next_within, s.next_named, graphs.at_once i s.next (subst (λ k. Needs graph k s.next) here s.needs))
    walk (by a next b l r) i low at =
        let s = step_of a next l in
        let here : s.place ≡ i = one_place names s.place i order s.within low (s.named ∙ sym at) in
        let (j, within, last, more) = walk r s.next s.next_within s.next_named in
        (j, within, last, graphs.by i s.next j (subst (λ k. Needs graph k s.next) here s.needs) more)

    starts : {a b : List ℕ} → Depends packages a b → (c : List ℕ) × Lists packages a c
    starts (at_once a b l) = (b, l)
    starts (by a next b l r) = (next, l)

    none_depends : HasNoCycle graph → (name : List ℕ) → Depends packages name name → ⊥
    none_depends free name d =
        let (c, listing) = starts d in
        let s = step_of name c listing in
        let (j, inside, last, round) = walk d s.place s.within s.named in
        let same_place : j ≡ s.place = one_place names j s.place order inside s.within (last ∙ sym s.named) in
        free s.place (subst (Reaches graph s.place) same_place round)

    all_known : KnowAll names packages
    all_known k d low =
        subst (λ deps. All (Contains names) deps) (deps_at k d low) (λ m e within.
        let needs = needs_of graph k in
        let low_m : m < length needs = omega (arith, within, length-map needs (name_at names)) in
        let inside : All (Within names) graph = of.within in
        let place = get_or needs m 0 in
        let here : place < length names = inside k [] (omega (arith, low, places_count)) m 0 low_m in
        let is : get_or (map (name_at names) needs) m e ≡ name_at names place =
        get_or-map (name_at names) needs m 0 e low_m in
        subst (Contains names) (sym is) (Contains-get_or names place [] here))

    pub sound : HasNoCycle graph → AreNeedsSound packages
    sound free = record { known = all_known; no_cycle = none_depends free }

  pub free : AreNeedsSound packages → HasNoCycle graph
  free is place r = is.no_cycle (name_at names place) (depends r)

-- ---- the same, of names that are told

pub graph_at :
    (texts : Texts) (packages : List PackageSpec) (graph : Graph) → texts ≡ names_of packages
    → IsGraphOf texts packages graph → IsGraph graph
graph_at texts packages graph is of =
    is_graph packages graph (subst (λ them. IsGraphOf them packages graph) is of)

pub sound_at :
    (texts : Texts) (packages : List PackageSpec) (graph : Graph) → texts ≡ names_of packages → IsInOrder texts
    → IsGraphOf texts packages graph → HasNoCycle graph → AreNeedsSound packages
sound_at texts packages graph is order of =
    sound packages graph (subst (λ them. IsGraphOf them packages graph) is of) (subst IsInOrder is order)

pub free_at :
    (texts : Texts) (packages : List PackageSpec) (graph : Graph) → texts ≡ names_of packages
    → IsGraphOf texts packages graph → AreNeedsSound packages → HasNoCycle graph
free_at texts packages graph is of = free packages graph (subst (λ them. IsGraphOf them packages graph) is of)

pub jobs_know_at :
    (texts others : Texts) (jobs more : List JobSpec) → texts ≡ others → jobs ≡ more → JobsKnow texts jobs
    → JobsKnow others more
jobs_know_at texts others jobs more is same all =
    subst (λ them. JobsKnow them more) is (subst (JobsKnow texts) same all)
