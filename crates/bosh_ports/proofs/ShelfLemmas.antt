-- Paths below a folder, and files by their paths.
use Rattle.std.proofs.Common.{◌≡◌, ℕ, ◌<◌, ◌≤◌, ◌&&◌, Bool, true, false, cond, List, [], ◌∷◌, length, map, get_or, nat_eq, Vec, Some, option_map, refl, ap, sym, ◌∙◌, arith, All, filter, subst, Result, Ok, Err, IfOk}
use Rattle.std.specs.List.{AllByRecursion}
use Rattle.std.proofs.lemmas.List.Elements.{All-nil, All-cons, All-map, All-filter}
use Rattle.std.proofs.lemmas.Bool.{false≢true}
use Rattle.std.proofs.lemmas.Cmp.{nat_eq_equiv, nat_list_cmp_total}
use Rattle.std.proofs.lemmas.List.Kept.{IsStrictlySortedBy-filter}
use Rattle.bosh_ports.specs.declared.shelf.ShelfFault.{ShelfFault}
use Rattle.std.specs.List.{starts_with}
use Rattle.std.specs.List.Sorted.{IsStrictlySortedBy}
use Rattle.std.specs.Ordering.{is_eq, match_ordering, ordering_reverse}
use Rattle.std.specs.Map.{lookup, keys_of}
use Rattle.std.specs.BTreeMap.{insert_entry}
use Rattle.std.specs.declared.alloc.Global.{Global}
use Rattle.std.specs.declared.cmp.Ordering.TheVariants.{Less, Equal, Greater}
use Rattle.bosh_ports.specs.Contents.{contents}
use Rattle.bosh_ports.specs.MemShelf.{files_of}
use Rattle.bosh_ports.specs.Shelf.{byte_order, key_order, file_at, placed, is_below, has_line_feed, IsListing, AnswersPaths}

and_false : (a : Bool) → (a && false) ≡ false
and_false true = refl
and_false false = refl

and_true : (a : Bool) → (a && true) ≡ a
and_true true = refl
and_true false = refl

and_assoc : (a b c : Bool) → (a && (b && c)) ≡ ((a && b) && c)
and_assoc true b c = refl
and_assoc false b c = refl

-- a path that is no longer than the folder does not lie below it
pub is_below-short : (folder path : List ℕ) → length path ≤ length folder → is_below folder path ≡ false
is_below-short [] [] short = refl
is_below-short [] (b ∷ path) short = absurd (omega (arith, short))
is_below-short (f ∷ folder) [] short = refl
is_below-short (f ∷ folder) (b ∷ path) short =
    ap (λ rest. nat_eq f b && rest) (is_below-short folder path (omega (arith, short))) ∙ and_false (nat_eq f b)

-- a longer one lies below it where it begins with the folder and goes on with a slash
pub is_below-long : (folder path : List ℕ) → length folder < length path →
    is_below folder path ≡ (starts_with nat_eq path folder && nat_eq (get_or path (length folder) 0) 47)
is_below-long [] [] long = absurd (omega (arith, long))
is_below-long [] (b ∷ path) long = and_true (nat_eq 47 b) ∙ nat_eq_equiv.symm 47 b
is_below-long (f ∷ folder) [] long = absurd (omega (arith, long))
is_below-long (f ∷ folder) (b ∷ path) long =
    ap (λ rest. nat_eq f b && rest) (is_below-long folder path (omega (arith, long))) ∙ and_assoc (nat_eq f b) _ _

-- a file put into the map stands among the files
pub files_of-insert_entry : (entries : List (Vec ℕ Global × Vec ℕ Global)) (path bytes : Vec ℕ Global) →
    files_of (insert_entry key_order entries path bytes) ≡ placed (files_of entries) path.items bytes.items
files_of-insert_entry [] path bytes = refl
files_of-insert_entry (e ∷ entries) path bytes =
    elim (byte_order path.items e.0.items) as (λ o.
    files_of (match_ordering o ((path, bytes) ∷ e ∷ entries) ((e.0, bytes) ∷ entries) (e ∷ insert_entry key_order entries path bytes))
    ≡ match_ordering o ((path.items, bytes.items) ∷ files_of (e ∷ entries)) ((e.0.items, bytes.items) ∷ files_of entries) ((e.0.items, e.1.items) ∷ placed (files_of entries) path.items bytes.items)) [
      | Less ↦ refl
      | Equal ↦ refl
      | Greater ↦ ap (λ rest. (e.0.items, e.1.items) ∷ rest) (files_of-insert_entry entries path bytes)
    ]

-- a look-up in the map finds the file
pub file_at-files_of : (entries : List (Vec ℕ Global × Vec ℕ Global)) (path : List ℕ) →
    file_at (files_of entries) path ≡ option_map (λ bytes. bytes.items) (lookup (λ key. is_eq (byte_order path key.items)) entries)
file_at-files_of [] path = refl
file_at-files_of (e ∷ entries) path =
    elim (is_eq (byte_order path e.0.items)) as (λ b.
    cond b (Some e.1.items) (file_at (files_of entries) path)
    ≡ option_map (λ bytes. bytes.items) (cond b (Some e.1) (lookup (λ key. is_eq (byte_order path key.items)) entries))) [
      | true ↦ refl
      | false ↦ file_at-files_of entries path
    ]

-- the paths of the files are the keys of the map
pub paths-files_of : (entries : List (Vec ℕ Global × Vec ℕ Global)) → map (λ file. file.0) (files_of entries) ≡ contents (keys_of entries)
paths-files_of [] = refl
paths-files_of (e ∷ entries) = ap (λ rest. e.0.items ∷ rest) (paths-files_of entries)

-- what a filter keeps passes its test
All-passes : {X : Type 0} (p : X → Bool) (xs : List X) → All (λ x. p x ≡ true) (filter p xs)
All-passes {X} p [] = All-nil (λ x. p x ≡ true)
All-passes {X} p (x ∷ xs) =
    elim (p x) as (λ b. p x ≡ b → All (λ y. p y ≡ true) (cond b (x ∷ filter p xs) (filter p xs))) [
      | true ↦ λ e. All-cons (λ y. p y ≡ true) x (filter p xs) e (All-passes p xs)
      | false ↦ λ e. All-passes p xs
    ] refl

-- the paths of keys in order are in order
ordered-by_recursion : (path : Vec ℕ Global) (keys : List (Vec ℕ Global)) →
    AllByRecursion (λ key. key_order path key ≡ Less) keys → AllByRecursion (λ key. byte_order path.items key ≡ Less) (contents keys)
ordered-by_recursion path [] h = tt
ordered-by_recursion path (key ∷ keys) h = (h.0, ordered-by_recursion path keys h.1)

pub ordered-contents : (keys : List (Vec ℕ Global)) → IsStrictlySortedBy key_order keys → IsStrictlySortedBy byte_order (contents keys)
unfolding IsStrictlySortedBy
ordered-contents [] h = tt
ordered-contents (key ∷ keys) h = (ordered-by_recursion key keys h.0, ordered-contents keys h.1)

-- the paths below a folder, of keys in order and with no line feed, are a listing where there are some and not too many
pub listing-below : (folder : List ℕ) (keys : List (Vec ℕ Global)) (answer : Result (List (List ℕ)) ShelfFault) →
    IsStrictlySortedBy key_order keys → All (λ key. has_line_feed key.items ≡ false) keys →
    AnswersPaths answer (filter (is_below folder) (contents keys)) → IfOk answer (λ paths. IsListing folder paths)
listing-below folder keys (Err fault) ordered one_line answers = tt
listing-below folder keys (Ok paths) ordered one_line answers =
    subst (λ paths. IsListing folder paths) (sym answers.0) (record {
      some = answers.1;
      few = answers.2;
      below = All-passes (is_below folder) (contents keys);
      one_line = All-filter (is_below folder) (λ path. has_line_feed path ≡ false) (contents keys) (All-map (λ path. has_line_feed path ≡ false) (λ key. key.items) keys one_line);
      ordered = IsStrictlySortedBy-filter byte_order (is_below folder) (contents keys) (ordered-contents keys ordered);
    })

again : {A : Type 0} (b : Bool) (x y z : A) → cond b x z ≡ cond b x (cond b y z)
again true x y z = refl
again false x y z = refl

swapped : {A : Type 0} (a b : Bool) (x y z : A) → (a ≡ true → b ≡ false) → cond a x (cond b y z) ≡ cond b y (cond a x z)
swapped true true x y z apart = absurd (false≢true (sym (apart refl)))
swapped true false x y z apart = refl
swapped false b x y z apart = refl

-- a path that ties with one of two paths that are apart does not tie with the other
apart : (path other q : List ℕ) → byte_order path other ≡ Greater → is_eq (byte_order q other) ≡ true → is_eq (byte_order q path) ≡ false
apart path other q greater ties =
    elim (byte_order q path) as (λ o. byte_order q path ≡ o → is_eq o ≡ false) [
      | Less ↦ λ e. refl
      | Equal ↦ λ e. absurd (false≢true (sym (ap is_eq (nat_list_cmp_total.congr q path other e ∙ greater)) ∙ ties))
      | Greater ↦ λ e. refl
    ] refl

-- a path ties with both of two paths that tie
alike : (path other q : List ℕ) → byte_order path other ≡ Equal → byte_order q path ≡ byte_order q other
alike path other q ties =
    nat_list_cmp_total.antisymm q path ∙ ap ordering_reverse (nat_list_cmp_total.congr path other q ties) ∙ sym (nat_list_cmp_total.antisymm q other)

-- after a file was placed its path has its bytes, and every other path what it had
pub file_at-placed : (files : List (List ℕ × List ℕ)) (path bytes q : List ℕ) →
    file_at (placed files path bytes) q ≡ cond (is_eq (byte_order q path)) (Some bytes) (file_at files q)
file_at-placed [] path bytes q = refl
file_at-placed (e ∷ files) path bytes q =
    elim (byte_order path e.0) as (λ o. byte_order path e.0 ≡ o →
    file_at (match_ordering o ((path, bytes) ∷ e ∷ files) ((e.0, bytes) ∷ files) (e ∷ placed files path bytes)) q
    ≡ cond (is_eq (byte_order q path)) (Some bytes) (file_at (e ∷ files) q)) [
      | Less ↦ λ p. refl
      | Equal ↦ λ p.
          again (is_eq (byte_order q e.0)) (Some bytes) (Some e.1) (file_at files q)
          ∙ ap (λ o. cond (is_eq o) (Some bytes) (file_at (e ∷ files) q)) (sym (alike path e.0 q p))
      | Greater ↦ λ p.
          ap (λ rest. cond (is_eq (byte_order q e.0)) (Some e.1) rest) (file_at-placed files path bytes q)
          ∙ swapped (is_eq (byte_order q e.0)) (is_eq (byte_order q path)) (Some e.1) (Some bytes) (file_at files q) (apart path e.0 q p)
    ] refl
