-- The places of packages by their names.
use Rattle.std.proofs.Common.{◌≡◌, ◌∙◌, ap, refl, sym, arith, ℕ, suc, ◌+◌, ◌<◌, Bool, true, false, cond, List, [], ◌∷◌, ◌++◌, Option, Some, None, length, get_or, take, map, is_some}
use Rattle.std.specs.BTreeMap.{BTreeMap, Updates}
use Rattle.std.specs.Cmp.Lexicographic.{slice_cmp}
use Rattle.std.specs.Option.{option_map}
use Rattle.std.specs.Ordering.{is_eq, nat_cmp}
use Rattle.std.specs.Str.{bytes_eq}
use Rattle.std.proofs.lemmas.List.{length-map, length-take, take_more}
use Rattle.std.proofs.lemmas.Map.Text.{is_eq-slice_cmp}
use Rattle.std.proofs.lemmas.Slice.Eq.{bytes_eq-Decides}
use denote.Ref.{Bor}
use Rattle.bosh_release.specs.Draft.{package_names, place_among}
use Rattle.bosh_release.specs.Table.{IsTable, place_in, place_with}
use Rattle.bosh_release.specs.declared.drafted_package.PackageDraft.{PackageDraft}
use Rattle.bosh_release_files.proofs.IndexLemmas.{bytes_eq-sym}

abbrev Table : Type 0
Table = BTreeMap (Bor (List ℕ)) ℕ

abbrev compare_names : Bor (List ℕ) → Bor (List ℕ) → Rattle.std.specs.declared.cmp.Ordering.Ordering
compare_names a b = slice_cmp nat_cmp a.now b.now

-- a name that is new
pub place_added :
    (old new : Table) (name : Bor (List ℕ)) (place : ℕ) → Updates compare_names old new name (Some place)
    → is_some (place_in old name.now) ≡ false → (q : List ℕ)
    → place_in new q ≡ place_with (place_in old q) name.now place q
place_added old new name place updates absent q =
    updates.0 (record { ref_ptr = (0, 0); now = q })
    ∙ ap (λ b. cond b (Some place) (place_in old q)) (is_eq-slice_cmp name.now q ∙ bytes_eq-sym name.now q)
    ∙ at (place_in old q) (bytes_eq q name.now) refl refl
  where
    at :
        (found : Option ℕ) (t : Bool) → place_in old q ≡ found → bytes_eq q name.now ≡ t
        → cond t (Some place) found ≡ place_with found name.now place q
    at (Some p) true is same =
        let e : q ≡ name.now = (bytes_eq-Decides q name.now).0 same in
        let there : is_some (place_in old name.now) ≡ true = ap (λ n. is_some (place_in old n)) (sym e) ∙ ap is_some is in
        let never : true ≡ false = sym there ∙ absent in
        absurd cc
    at (Some p) false is same = refl
    at None true is same = sym (ap (λ t. cond {A = Option ℕ} t (Some place) None) same)
    at None false is same = sym (ap (λ t. cond {A = Option ℕ} t (Some place) None) same)

-- a name that is there
pub place_kept :
    (old : Table) (name : List ℕ) (place : ℕ) → is_some (place_in old name) ≡ true → (q : List ℕ)
    → place_in old q ≡ place_with (place_in old q) name place q
place_kept old name place there q = at (place_in old q) (bytes_eq q name) refl refl
  where
    at :
        (found : Option ℕ) (t : Bool) → place_in old q ≡ found → bytes_eq q name ≡ t
        → found ≡ place_with found name place q
    at (Some p) t is same = refl
    at None true is same =
        let e : q ≡ name = (bytes_eq-Decides q name).0 same in
        let gone : is_some (place_in old name) ≡ false = ap (λ n. is_some (place_in old n)) (sym e) ∙ ap is_some is in
        let never : true ≡ false = sym there ∙ gone in
        absurd cc
    at None false is same = sym (ap (λ t. cond {A = Option ℕ} t (Some place) None) same)

-- one name more
among_more :
    (names : List (List ℕ)) (name q : List ℕ)
    → place_among (names ++ name ∷ []) q ≡ place_with (place_among names q) name (length names) q
among_more [] name q = refl
among_more (first ∷ names) name q = at (among_more names name q) (bytes_eq q first)
  where
    moved :
        (found : Option ℕ)
        → option_map suc (place_with found name (length names) q)
        ≡ place_with (option_map suc found) name (suc (length names)) q
    moved (Some p) = refl
    moved None = last (bytes_eq q name)
      where
        last :
            (t : Bool)
            → option_map suc (cond {A = Option ℕ} t (Some (length names)) None)
            ≡ cond {A = Option ℕ} t (Some (suc (length names))) None
        last true = refl
        last false = refl

    at :
        place_among (names ++ name ∷ []) q ≡ place_with (place_among names q) name (length names) q → (t : Bool)
        → cond {A = Option ℕ} t (Some 0) (option_map suc (place_among (names ++ name ∷ []) q))
        ≡ place_with (cond {A = Option ℕ} t (Some 0) (option_map suc (place_among names q))) name (suc (length names)) q
    at below true = refl
    at below false = ap (option_map suc) below ∙ moved (place_among names q)

map-append : {A B : Type 0} (f : A → B) (xs ys : List A) → map f (xs ++ ys) ≡ map f xs ++ map f ys
map-append f [] ys = refl
map-append f (x ∷ xs) ys = ap (λ zs. f x ∷ zs) (map-append f xs ys)

pub table_more :
    (packages : List PackageDraft) (i : ℕ) (d : PackageDraft) (old new : Table) (name : List ℕ) → i < length packages
    → name ≡ (get_or packages i d).name
    → ((q : List ℕ) → place_in new q ≡ place_with (place_in old q) name i q)
    → IsTable (package_names (take i packages)) old → IsTable (package_names (take (i + 1) packages)) new
table_more packages i d old new name within is added before q =
    let it = get_or packages i d in
    let count : length (package_names (take i packages)) ≡ i =
    length-map (take i packages) (λ (p : PackageDraft). p.name) ∙ (let n = length-take i packages in omega arith) in
    added q
    ∙ ap (λ found. place_with found name i q) (before q)
    ∙ ap (λ n. place_with (place_among (package_names (take i packages)) q) n i q) is
    ∙ ap (λ n. place_with (place_among (package_names (take i packages)) q) it.name n q) (sym count)
    ∙ sym (among_more (package_names (take i packages)) it.name q)
    ∙ ap (λ names. place_among names q) (sym (map-append (λ (p : PackageDraft). p.name) (take i packages) (it ∷ [])))
    ∙ ap (λ ps. place_among (package_names ps) q) (sym (take_more packages i d within))
