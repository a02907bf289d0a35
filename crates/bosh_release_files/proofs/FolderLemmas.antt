-- The files of a folder, as a map has them.
use Rattle.std.proofs.Common.{◌≡◌, ◌∙◌, ap, refl, ℕ, ◌+◌, ◌<◌, List, [], ◌∷◌, ◌++◌, Option, Some, None, Bool, true, false, cond, length, get_or, take, map, append-nil}
use Rattle.std.specs.BTreeMap.{insert_entry, is_at}
use Rattle.std.specs.Cmp.Lexicographic.{slice_cmp}
use Rattle.std.specs.BTreeSet.{insert_key}
use Rattle.std.specs.List.{cons_option, filter_map}
use Rattle.std.specs.Map.{lookup}
use Rattle.std.specs.Option.{option_map}
use Rattle.std.specs.Ordering.{match_ordering, nat_cmp}
use Rattle.std.specs.declared.cmp.Ordering.{Ordering}
use Rattle.std.specs.declared.cmp.Ordering.TheVariants.{Less, Equal, Greater}
use Rattle.std.specs.Str.{bytes_eq}
use Rattle.std.proofs.lemmas.List.{take_more}
use Rattle.std.proofs.lemmas.List.Elements.{filter_map-append}
use Rattle.std.proofs.lemmas.List.Sums.{fold-append}
use Rattle.std.proofs.lemmas.Map.Text.{is_eq-slice_cmp}
use denote.Ref.{Bor}
use Rattle.bosh_release_files.specs.Files.{by_path, bytes_at, entry_of, folder_after, folder_of_files, folders_below, in_order}
use Rattle.bosh_release_files.specs.Sources.{entry_seen, seen, with_name}
use Rattle.bosh_release_files.specs.declared.folder.File.{File}

-- an entry that is put into a map is put among those that are seen
pub seen-insert :
    {A B : Type 0} (view : A → B) (es : List (Bor (List ℕ) × A)) (key : Bor (List ℕ)) (value : A)
    → map (seen view) (insert_entry (λ a b. slice_cmp nat_cmp a.now b.now) es key value)
    ≡ insert_entry (slice_cmp nat_cmp) (map (seen view) es) key.now (view value)
seen-insert view [] key value = refl
seen-insert view (e ∷ es) key value = at (seen-insert view es key value) (slice_cmp nat_cmp key.now e.0.now)
  where
    at :
        map (seen view) (insert_entry (λ a b. slice_cmp nat_cmp a.now b.now) es key value)
        ≡ insert_entry (slice_cmp nat_cmp) (map (seen view) es) key.now (view value)
        → (o : Ordering)
        → map (seen view) (match_ordering o ((key, value) ∷ e ∷ es) ((e.0, value) ∷ es)
        (e ∷ insert_entry (λ a b. slice_cmp nat_cmp a.now b.now) es key value))
        ≡ match_ordering o ((key.now, view value) ∷ map (seen view) (e ∷ es)) ((e.0.now, view value) ∷ map (seen view) es)
        (seen view e ∷ insert_entry (slice_cmp nat_cmp) (map (seen view) es) key.now (view value))
    at below Less = refl
    at below Equal = refl
    at below Greater = ap (λ more. seen view e ∷ more) below

-- what is looked up in a map is looked up among what is seen
pub seen-lookup :
    (es : List (Bor (List ℕ) × Bor (List ℕ))) (path : List ℕ)
    → option_map (λ bytes. bytes.now) (lookup (is_at (λ k. slice_cmp nat_cmp path k.now)) es)
    ≡ bytes_at (map entry_seen es) path
seen-lookup [] path = refl
seen-lookup (e ∷ es) path = rw (is_eq-slice_cmp path e.0.now) (at (seen-lookup es path) (bytes_eq path e.0.now))
  where
    at :
        option_map (λ bytes. bytes.now) (lookup (is_at (λ k. slice_cmp nat_cmp path k.now)) es)
        ≡ bytes_at (map entry_seen es) path
        → (t : Bool)
        → option_map (λ bytes. bytes.now) (cond t (Some e.1) (lookup (is_at (λ k. slice_cmp nat_cmp path k.now)) es))
        ≡ cond t (Some e.1.now) (bytes_at (map entry_seen es) path)
    at below true = refl
    at below false = below

map-append : {A B : Type 0} (f : A → B) (xs ys : List A) → map f (xs ++ ys) ≡ map f xs ++ map f ys
map-append f [] ys = refl
map-append f (x ∷ xs) ys = ap (λ zs. f x ∷ zs) (map-append f xs ys)

-- one file more
pub folder_more :
    (files : List File) (i : ℕ) (d : File) → i < length files
    → folder_of_files (take (i + 1) files)
    ≡ insert_entry (slice_cmp nat_cmp) (folder_of_files (take i files)) (get_or files i d).path (get_or files i d).bytes
folder_more files i d within =
    ap folder_of_files (take_more files i d within)
    ∙ ap by_path (map-append entry_of (take i files) (get_or files i d ∷ []))
    ∙ fold-append (λ table it. insert_entry (slice_cmp nat_cmp) table it.0 it.1) []
    (map entry_of (take i files)) (entry_of (get_or files i d) ∷ [])

-- the folder of one file more
pub folders_more :
    (front : List ℕ) (files : List File) (i : ℕ) (d : File) → i < length files
    → folders_below front (take (i + 1) files)
    ≡ with_name (folders_below front (take i files)) (folder_after front (get_or files i d))
folders_more front files i d within =
    ap (folders_below front) (take_more files i d within)
    ∙ ap in_order (filter_map-append (folder_after front) (take i files) (get_or files i d ∷ []))
    ∙ named (filter_map (folder_after front) (take i files)) (folder_after front (get_or files i d))
  where
    named : (names : List (List ℕ)) (o : Option (List ℕ)) → in_order (names ++ cons_option o []) ≡ with_name (in_order names) o
    named names None = ap in_order (append-nil names)
    named names (Some name) = fold-append (insert_key (slice_cmp nat_cmp)) [] names (name ∷ [])
