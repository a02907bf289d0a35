-- The files below a front, and what is looked up in them.
use Rattle.std.proofs.Common.{◌≡◌, ◌∙◌, ap, refl, sym, arith, ℕ, ◌+◌, ◌<◌, ◌≤◌, ◌||◌, Bool, true, false, cond, List, [], ◌∷◌, ◌++◌, Option, Some, None, Result, length, get_or, take, drop, map, append-nil, add-one, drop-cons}
use Rattle.std.proofs.Math.Bool.{or_comm}
use Rattle.std.specs.BTreeMap.{insert_entry}
use Rattle.std.specs.BTreeSet.{BTreeSet, Updates}
use Rattle.std.specs.Bool.{Decides}
use Rattle.std.specs.Cmp.Lexicographic.{slice_cmp}
use Rattle.std.specs.List.{cons_option, filter_map, list_any}
use Rattle.std.specs.Map.{keys_of}
use Rattle.std.specs.Ordering.{is_eq, nat_cmp}
use Rattle.std.specs.Str.{bytes_eq}
use Rattle.std.proofs.lemmas.List.{take_more}
use Rattle.std.proofs.lemmas.List.Elements.{filter-append, filter_map-append}
use Rattle.std.proofs.lemmas.List.Folds.{list_any-append}
use Rattle.std.proofs.lemmas.List.Sums.{fold-append}
use Rattle.std.proofs.lemmas.Map.Text.{is_eq-slice_cmp}
use Rattle.std.proofs.lemmas.Slice.Eq.{bytes_eq-Decides}
use denote.Ref.{Bor}
use Rattle.bosh_base.specs.declared.digest.Digest.{Digest}
use Rattle.bosh_release_listing.specs.Listing.{Stamped}
use Rattle.bosh_release_listing.specs.Parts.{stamp_view}
use Rattle.bosh_release_listing.specs.declared.listing.Stamp.{Stamp}
use Rattle.bosh_release_files.specs.Answer.{◌>>=◌, check_each}
use Rattle.bosh_release_files.specs.Files.{by_path, digest_after, digests_below, stamped_by}
use Rattle.bosh_release_files.specs.Pattern.{folder_of, is_taken, is_that, lies_in, matches, taken_files, takes}
use Rattle.bosh_release_files.specs.Sources.{AddsText, IsInOrder, has, path_of, with_file}
use Rattle.bosh_release_files.specs.declared.fault.ReleaseFault.{ReleaseFault}
use Rattle.bosh_release_files.specs.declared.folder.File.{File}
use Rattle.bosh_release_files.specs.declared.pattern.Form.{Form}
use Rattle.bosh_release_files.specs.declared.pattern.Pattern.{Pattern}
use Rattle.bosh_release_files.proofs.OrderLemmas.{in_order-insert}

-- ---- one file more

pub digests_more :
    (front : List ℕ) (files : List File) (i : ℕ) (d : File) → i < length files
    → digests_below front (take (i + 1) files)
    ≡ with_file (digests_below front (take i files)) (digest_after front (get_or files i d))
digests_more front files i d within =
    ap (digests_below front) (take_more files i d within)
    ∙ ap by_path (filter_map-append (digest_after front) (take i files) (get_or files i d ∷ []))
    ∙ put (filter_map (digest_after front) (take i files)) (digest_after front (get_or files i d))
  where
    put :
        (its : List (List ℕ × Digest)) (o : Option (List ℕ × Digest))
        → by_path (its ++ cons_option o []) ≡ with_file (by_path its) o
    put its None = ap by_path (append-nil its)
    put its (Some it) =
        fold-append (λ table it. insert_entry (slice_cmp nat_cmp) table it.0 it.1) [] its (it ∷ [])

-- ---- order

by_path_order :
    {A : Type 0} (table its : List (List ℕ × A)) → IsInOrder (keys_of table)
    → IsInOrder (keys_of (Rattle.std.specs.Prelude.fold (λ table it. insert_entry (slice_cmp nat_cmp) table it.0 it.1) table its))
by_path_order table [] h = h
by_path_order table (it ∷ its) h =
    by_path_order (insert_entry (slice_cmp nat_cmp) table it.0 it.1) its (in_order-insert table it.0 it.1 h)

-- things by their paths stand in order
pub by_path_is_in_order : {A : Type 0} (its : List (List ℕ × A)) → IsInOrder (keys_of (by_path its))
by_path_is_in_order its = by_path_order [] its tt

-- ---- texts that are the same

symmetric : (a b : List ℕ) → bytes_eq a b ≡ bytes_eq b a
symmetric a b = at (bytes_eq a b) (bytes_eq b a) refl refl
  where
    at : (s t : Bool) → bytes_eq a b ≡ s → bytes_eq b a ≡ t → s ≡ t
    at true true p q = refl
    at false false p q = refl
    at true false p q =
        let never : true ≡ false = sym ((bytes_eq-Decides b a).1 (sym ((bytes_eq-Decides a b).0 p))) ∙ q in
        absurd cc
    at false true p q =
        let never : true ≡ false = sym ((bytes_eq-Decides a b).1 (sym ((bytes_eq-Decides b a).0 q))) ∙ p in
        absurd cc

pub bytes_eq-sym : (a b : List ℕ) → bytes_eq a b ≡ bytes_eq b a
bytes_eq-sym = symmetric

-- ---- sets

at_text : List ℕ → Bor (List ℕ)
at_text text = record { ref_ptr = (0, 0); now = text }

abbrev compare_texts : Bor (List ℕ) → Bor (List ℕ) → Rattle.std.specs.declared.cmp.Ordering.Ordering
compare_texts a b = slice_cmp nat_cmp a.now b.now

cond_or : (b c : Bool) → cond b true c ≡ (b || c)
cond_or true c = refl
cond_or false c = refl

-- the set with one text more
pub has_more :
    (old new : BTreeSet (Bor (List ℕ))) (text : Bor (List ℕ)) → Updates compare_texts old new text true → (q : List ℕ)
    → has new q ≡ (bytes_eq q text.now || has old q)
has_more old new text updates q =
    updates.0 (record { ref_ptr = (0, 0); now = q })
    ∙ ap (λ b. cond b true (has old q)) (is_eq-slice_cmp text.now q ∙ symmetric text.now q)
    ∙ cond_or (bytes_eq q text.now) (has old q)

pub any_more :
    {A : Type 0} (test : A → Bool) (xs : List A) (i : ℕ) (d : A) → i < length xs
    → list_any test (take (i + 1) xs) ≡ (test (get_or xs i d) || list_any test (take i xs))
any_more test xs i d within =
    ap (list_any test) (take_more xs i d within)
    ∙ list_any-append test (take i xs) (get_or xs i d ∷ [])
    ∙ or_comm (list_any test (take i xs)) (test (get_or xs i d) || false)
    ∙ ap (λ b. b || list_any test (take i xs)) (or_false (test (get_or xs i d)))
  where
    or_false : (b : Bool) → (b || false) ≡ b
    or_false true = refl
    or_false false = refl

pub any_same :
    {A : Type 0} (p q : A → Bool) (xs : List A) → ((x : A) → p x ≡ q x) → list_any p xs ≡ list_any q xs
any_same p q [] same = refl
any_same p q (x ∷ xs) same = ap (λ b. b || list_any p xs) (same x) ∙ ap (λ b. q x || b) (any_same p q xs same)

pub any-map :
    {A B : Type 0} (test : B → Bool) (f : A → B) (xs : List A) → list_any test (map f xs) ≡ list_any (λ x. test (f x)) xs
any-map test f [] = refl
any-map test f (x ∷ xs) = ap (λ b. test (f x) || b) (any-map test f xs)

-- ---- tests, one after another

pub check_each-next :
    {A : Type 0} (test : A → Result Bool ReleaseFault) (things : List A) (i : ℕ) (thing : A)
    → i < length things → thing ≡ get_or things i thing
    → check_each test (drop i things) ≡ (test thing >>= λ passed. check_each test (drop (i + 1) things))
check_each-next test things i thing within is =
    let e : drop i things ≡ thing ∷ drop (i + 1) things = rw (add-one, drop-cons things i thing, ← is) refl in
    ap (check_each test) e

-- ---- what is seen of a file

pub paths_seen :
    (files : List Stamp) (table : List (List ℕ × Digest)) → map stamp_view files ≡ map stamped_by table
    → map path_of files ≡ keys_of table
paths_seen [] [] e = refl
paths_seen [] (it ∷ table) e = absurd cc
paths_seen (file ∷ files) [] e = absurd cc
paths_seen (file ∷ files) (it ∷ table) e =
    let first : stamp_view file ≡ stamped_by it = cc in
    let more : map stamp_view files ≡ map stamped_by table = cc in
    let name : path_of file ≡ it.0 = ap (λ s. s.name) first in
    let rest = paths_seen files table more in
    cc

-- ---- files at a turn

pub paths_step :
    (files : List Stamp) (i : ℕ) (d : Stamp) (old new : BTreeSet (Bor (List ℕ))) → i < length files
    → Updates compare_texts old new (get_or files i d).name true
    → ((q : List ℕ) → has old q ≡ list_any (λ file. bytes_eq q (path_of file)) (take i files)) → (q : List ℕ)
    → has new q ≡ list_any (λ file. bytes_eq q (path_of file)) (take (i + 1) files)
paths_step files i d old new within updates before q =
    has_more old new (get_or files i d).name updates q
    ∙ ap (λ b. bytes_eq q (path_of (get_or files i d)) || b) (before q)
    ∙ sym (any_more (λ file. bytes_eq q (path_of file)) files i d within)

pub folders_step :
    (files : List Stamp) (i : ℕ) (d : Stamp) (old new : BTreeSet (Bor (List ℕ))) (text : Option (List ℕ))
    → i < length files → AddsText old new text → text ≡ folder_of (path_of (get_or files i d))
    → ((q : List ℕ) → has old q ≡ list_any (λ file. lies_in q (path_of file)) (take i files)) → (q : List ℕ)
    → has new q ≡ list_any (λ file. lies_in q (path_of file)) (take (i + 1) files)
folders_step files i d old new text within adds is before q =
    adds q
    ∙ ap (λ b. is_that q text || b) (before q)
    ∙ ap (λ o. is_that q o || list_any (λ file. lies_in q (path_of file)) (take i files)) is
    ∙ sym (any_more (λ file. lies_in q (path_of file)) files i d within)

-- what is looked for among files is looked for among those that are seen
pub form_matches :
    (files : List Stamp) (sources : List Stamped) (form : Form) → map stamp_view files ≡ sources
    → list_any (λ file. takes form (path_of file)) files ≡ matches sources form
form_matches files sources form is =
    sym (any-map (λ (source : Stamped). takes form source.name) stamp_view files) ∙ ap (λ all. matches all form) is

pub some_files : {A : Type 0} (files : List A) → 1 ≤ length files → list_any (λ _. true) files ≡ true
some_files [] h = absurd (omega arith)
some_files (file ∷ files) h = refl

map-append : {A B : Type 0} (f : A → B) (xs ys : List A) → map f (xs ++ ys) ≡ map f xs ++ map f ys
map-append f [] ys = refl
map-append f (x ∷ xs) ys = ap (λ zs. f x ∷ zs) (map-append f xs ys)

-- one file more, where it is taken
pub taken_step :
    (files : List Stamp) (i : ℕ) (d : Stamp) (patterns : List Pattern) (old new : List Stamp) (test : Bool)
    → i < length files → test ≡ is_taken patterns (path_of (get_or files i d))
    → map stamp_view new ≡ map stamp_view old ++ cond test (stamp_view (get_or files i d) ∷ []) []
    → map stamp_view old ≡ taken_files (map stamp_view (take i files)) patterns
    → map stamp_view new ≡ taken_files (map stamp_view (take (i + 1) files)) patterns
taken_step files i d patterns old new test within tested added before =
    let file = get_or files i d in
    added
    ∙ ap (λ all. all ++ cond test (stamp_view file ∷ []) []) before
    ∙ ap (λ t. taken_files (map stamp_view (take i files)) patterns ++ cond t (stamp_view file ∷ []) []) tested
    ∙ sym (filter-append (λ (source : Stamped). is_taken patterns source.name) (map stamp_view (take i files)) (stamp_view file ∷ []))
    ∙ ap (λ all. taken_files all patterns) (sym (map-append stamp_view (take i files) (file ∷ [])) ∙ ap (map stamp_view) (sym (take_more files i d within)))
