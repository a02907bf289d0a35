-- How a table grows.
use Rattle.std.proofs.Common.{◌≡◌, ◌∙◌, ◌||◌, ℕ, Bool, true, false, List, [], ◌∷◌, ◌++◌, Option, Some, None, cond, find, refl, sym, ap}
use Rattle.std.specs.List.{list_any}
use Rattle.std.specs.BTreeMap.{BTreeMap, UpdatesBy}
use Rattle.std.specs.Cmp.Lexicographic.{slice_cmp}
use Rattle.std.specs.Option.{is_some, option_copied, option_map, option_or}
use Rattle.std.specs.Ordering.{nat_cmp}
use Rattle.std.specs.Str.{bytes_eq}
use Rattle.std.proofs.lemmas.List.Folds.{find-append}
use Rattle.std.proofs.lemmas.Map.Text.{btree_map_updates_str}
use Rattle.std.proofs.lemmas.Slice.Eq.{bytes_eq-Decides}
use denote.Ref.{Bor}
use Rattle.bosh_lookup.specs.Table.{IsAdded, IsTable, first_named, found_at}

-- a name that has a value keeps it
pub added-there :
    {V : Type 0} (table : BTreeMap (Bor (List ℕ)) V) (name : List ℕ) (value : V)
    → is_some (found_at {V = V} table name) ≡ true → IsAdded table name value table
added-there {V = V} table name value there = λ key. by key (found_at table key) (bytes_eq name key) refl refl
  where
    by :
        (key : List ℕ) (found : Option V) (same : Bool) → found_at table key ≡ found → bytes_eq name key ≡ same
        → found ≡ option_or found (cond same (Some value) None)
    by key (Some v) same is e = refl
    by key None false is e = refl
    by key None true is e =
        let here : name ≡ key = (bytes_eq-Decides name key).0 e in
        let gone : is_some (found_at {V = V} table name) ≡ false = ap (λ n. is_some (found_at {V = V} table n)) here ∙ ap is_some is in
        let never : true ≡ false = sym there ∙ gone in
        absurd (cc)

-- a name that has none gets the value
pub added-new :
    {V : Type 0} (old new : BTreeMap (Bor (List ℕ)) V) (name : List ℕ) (value : V)
    → is_some (found_at {V = V} old name) ≡ false
    → UpdatesBy (λ x y. slice_cmp nat_cmp x.now y.now) (λ k. slice_cmp nat_cmp name k.now) old new (Some value)
    → IsAdded old name value new
added-new {V = V} old new name value absent updates = λ key.
    btree_map_updates_str name old new (Some value) updates key ∙ by key (found_at old key) (bytes_eq name key) refl refl
  where
    by :
        (key : List ℕ) (found : Option V) (same : Bool) → found_at old key ≡ found → bytes_eq name key ≡ same
        → cond same (Some value) found ≡ option_or found (cond same (Some value) None)
    by key (Some v) false is e = refl
    by key None false is e = refl
    by key None true is e = refl
    by key (Some v) true is e =
        let here : name ≡ key = (bytes_eq-Decides name key).0 e in
        let there : is_some (found_at {V = V} old name) ≡ true = ap (λ n. is_some (found_at {V = V} old n)) here ∙ ap is_some is in
        let never : true ≡ false = sym there ∙ absent in
        absurd (cc)

-- what is found where one more is there
pub named-push :
    {A : Type 0} (name_of : A → List ℕ) (all : List A) (a : A) (key : List ℕ)
    → first_named name_of (all ++ a ∷ []) key ≡ option_or (first_named name_of all key) (cond (bytes_eq (name_of a) key) (Some a) None)
named-push name_of all a key = find-append (λ b. bytes_eq (name_of b) key) all (a ∷ [])

pub mapped-or :
    {A B : Type 0} (f : A → B) (found : Option A) (same : Bool) (a : A)
    → option_map f (option_or found (cond same (Some a) None)) ≡ option_or (option_map f found) (cond same (Some (f a)) None)
mapped-or f (Some b) same a = refl
mapped-or f None true a = refl
mapped-or f None false a = refl

pub IsTable-add :
    {A : Type 0} (name_of : A → List ℕ) (all : List A) (a : Bor A) (name : List ℕ) (old new : BTreeMap (Bor (List ℕ)) (Bor A))
    → name ≡ name_of a.now → IsTable name_of all old → IsAdded old name a new → IsTable name_of (all ++ a.now ∷ []) new
IsTable-add {A = A} name_of all a name old new same before added = λ key.
    ap (λ found. option_copied {T = A} found) (added key)
    ∙ (mapped-or (λ (b : Bor A). b.now) (found_at old key) (bytes_eq name key) a
    ∙ (ap (λ found. option_or found (cond (bytes_eq name key) (Some a.now) None)) (before key)
    ∙ (ap (λ n. option_or (first_named name_of all key) (cond (bytes_eq n key) (Some a.now) None)) same
    ∙ sym (named-push name_of all a.now key))))

copied-some : {A : Type 0} (found : Option (Bor A)) → is_some (option_copied {T = A} found) ≡ is_some found
copied-some (Some a) = refl
copied-some None = refl

some-any : {A : Type 0} (test : A → Bool) (all : List A) → is_some (find test all) ≡ list_any test all
some-any test [] = refl
some-any {A = A} test (a ∷ all) = by (test a) (some-any test all)
  where
    by :
        (is : Bool) → is_some (find test all) ≡ list_any test all
        → is_some (cond is (Some a) (find test all)) ≡ (is || list_any test all)
    by true more = refl
    by false more = more

-- a table has a name that one of the things has
pub has-any :
    {A : Type 0} (name_of : A → List ℕ) (all : List A) (table : BTreeMap (Bor (List ℕ)) (Bor A)) (name : List ℕ)
    → IsTable name_of all table → is_some (found_at table name) ≡ list_any (λ a. bytes_eq (name_of a) name) all
has-any {A = A} name_of all table name is =
    sym (copied-some {A = A} (found_at table name)) ∙ (ap is_some (is name) ∙ some-any (λ a. bytes_eq (name_of a) name) all)
