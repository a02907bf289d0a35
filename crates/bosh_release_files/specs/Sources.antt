-- How the files of a release are kept, and what is looked up in them.
use Rattle.std.specs.Prelude.{◌≡◌, ℕ, ◌+◌, ◌<◌, ◌≤◌, ◌||◌, ◌&&◌, Bool, true, false, List, [], ◌∷◌, Option, Some, None, All, is_some, length, map, nat_le, nat_lt, slice_index_or, take}
use Rattle.std.specs.BTreeMap.{insert_entry}
use Rattle.std.specs.BTreeSet.{BTreeSet, contains_by, insert_key}
use Rattle.std.specs.Cmp.Lexicographic.{slice_cmp}
use Rattle.std.specs.List.{list_any}
use Rattle.std.specs.Ordering.{nat_cmp}
use Rattle.std.specs.Str.{bytes_eq}
use Rattle.std.specs.declared.cmp.Ordering.TheVariants.{Less}
use denote.Ref.{Bor}
use Rattle.bosh_base.specs.declared.digest.Digest.{Digest}
use Rattle.bosh_release_listing.specs.declared.listing.Stamp.{Stamp}
use Rattle.bosh_release_files.specs.Files.{after}
use Rattle.bosh_release_files.specs.Pattern.{folder_of, is_that, lies_in}
use Rattle.bosh_release_files.specs.declared.pattern.Form.{Form}
use Rattle.bosh_release_files.specs.declared.pattern.Form.TheVariants.{Every, Below, In, Exact}
use Rattle.bosh_release_files.specs.declared.pattern.Pattern.{Pattern}
use Rattle.bosh_release_files.specs.declared.span.Span.{Span}

-- a path with what it has, as a map has them
abbrev pub seen : {A B : Type 0} → (A → B) → Bor (List ℕ) × A → List ℕ × B
seen view it = (it.0.now, view it.1)

abbrev pub entry_seen : Bor (List ℕ) × Bor (List ℕ) → List ℕ × List ℕ
entry_seen = seen (λ bytes. bytes.now)

abbrev pub digest_seen : Bor (List ℕ) × Digest → List ℕ × Digest
digest_seen = seen (λ digest. digest)

-- names in order with one more, where there is one
abbrev pub with_name : List (List ℕ) → Option (List ℕ) → List (List ℕ)
with_name names (Some name) = insert_key (slice_cmp nat_cmp) names name
with_name names None = names

-- files in order with one more, where there is one
abbrev pub with_file : {A : Type 0} → List (List ℕ × A) → Option (List ℕ × A) → List (List ℕ × A)
with_file files (Some it) = insert_entry (slice_cmp nat_cmp) files it.0 it.1
with_file files None = files

-- each text is less than those after it
abbrev pub IsInOrder : List (List ℕ) → Type 0
IsInOrder [] = Unit {0}
IsInOrder (text ∷ texts) = All (λ later. slice_cmp nat_cmp text later ≡ Less) texts × IsInOrder texts

-- ---- sets of texts

abbrev pub has : BTreeSet (Bor (List ℕ)) → List ℕ → Bool
has texts text = contains_by (λ other. slice_cmp nat_cmp text other.now) texts

-- the set has one text more, where there is one
abbrev pub AddsText : BTreeSet (Bor (List ℕ)) → BTreeSet (Bor (List ℕ)) → Option (List ℕ) → Type 0
AddsText old new text = (q : List ℕ) → has new q ≡ (is_that q text || has old q)

-- ---- files

abbrev pub path_of : Stamp → List ℕ
path_of file = file.name.now

-- the paths of files, and the folders in which they lie
pub record IsIndexed (files : List Stamp) (of_paths of_folders : BTreeSet (Bor (List ℕ))) : Type 0 where
  pub order : IsInOrder (map path_of files)
  pub paths : (q : List ℕ) → has of_paths q ≡ list_any (λ file. bytes_eq q (path_of file)) files
  pub folders : (q : List ℕ) → has of_folders q ≡ list_any (λ file. lies_in q (path_of file)) files

-- ---- what each kind of pattern takes

abbrev pub exact_text : Form → Option (List ℕ)
exact_text (Exact text) = Some text
exact_text form = None

abbrev pub folder_text : Form → Option (List ℕ)
folder_text (In folder) = Some folder
folder_text form = None

-- the path has a folder, which is one of these
abbrev pub is_one : BTreeSet (Bor (List ℕ)) → Option (List ℕ) → Bool
is_one folders (Some folder) = has folders folder
is_one folders None = false

abbrev pub lies_in_some : BTreeSet (Bor (List ℕ)) → List ℕ → Bool
lies_in_some folders path = is_one folders (folder_of path)

-- the files of this kind stand beside one another
abbrev pub spans : Form → List ℕ → Bool
spans Every path = true
spans (Below front) path = is_some (after front path)
spans form path = false

abbrev pub is_within : Span → ℕ → Bool
is_within span place = nat_le span.start place && nat_lt place span.end

-- the files at these places are those that pass the test
pub record IsSpan (files : List Stamp) (test : List ℕ → Bool) (span : Span) : Type 0 where
  pub within : span.end ≤ length files
  pub exact :
      (place : ℕ) (d : Stamp) → place < length files
      → test (path_of (slice_index_or files place d)) ≡ is_within span place

-- ---- places that are reached from a place before

-- from some place up to this one, the reach goes past it
abbrev pub is_reached : List ℕ → ℕ → Bool
is_reached reach place = list_any (λ end. nat_lt place end) (take (place + 1) reach)

-- the places that patterns span
pub record IsReach (files : List Stamp) (patterns : List Pattern) (reach : List ℕ) : Type 0 where
  pub same_length : length reach ≡ length files
  pub reached :
      (place : ℕ) (d : Stamp) → place < length files
      → is_reached reach place ≡ list_any (λ pattern. spans pattern.form (path_of (slice_index_or files place d))) patterns

-- the places that a span has are reached, too
pub record AddsSpan (span : Span) (old new : List ℕ) : Type 0 where
  pub same_length : length new ≡ length old
  pub reached :
      (place : ℕ) → place < length old → is_reached new place ≡ (is_within span place || is_reached old place)

-- for each place whether it is reached
pub record AreReached (reach : List ℕ) (reached : List Bool) : Type 0 where
  pub same_length : length reached ≡ length reach
  pub each :
      (place : ℕ) → place < length reach → slice_index_or reached place false ≡ is_reached reach place
