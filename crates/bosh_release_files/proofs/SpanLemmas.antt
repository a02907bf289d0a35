-- The files that begin with a front stand between two places.
use Rattle.std.proofs.Common.{◌≡◌, ⊎_elim, ◌∙◌, refl, sym, arith, ℕ, ◌<◌, ◌≤◌, ◌||◌, Bool, true, false, List, [], length, get_or, is_some, leb, ltb}
use Rattle.std.specs.List.Sorted.{IsPartitionPoint}
use Rattle.std.specs.List.{list_any}
use Rattle.std.proofs.lemmas.Bool.{cases_lt}
use Rattle.std.proofs.lemmas.List.Folds.{list_any_at, list_any_none}
use Rattle.std.proofs.lemmas.Bool.Decides.{nat_tests}
use Rattle.bosh_release_listing.specs.declared.listing.Stamp.{Stamp}
use Rattle.bosh_release_files.specs.Files.{after}
use Rattle.bosh_release_files.specs.Sources.{IsSpan, is_within, path_of}
use Rattle.bosh_release_files.specs.Span.{comes_before, comes_up_to}
use Rattle.bosh_release_files.specs.declared.span.Span.{Span}
use Rattle.bosh_release_files.proofs.OrderLemmas.{begins_not_before}

not_begins : (front y : List ℕ) → comes_before front y ≡ true → is_some (after front y) ≡ false
not_begins front y h = at (is_some (after front y)) refl
  where
    at : (t : Bool) → is_some (after front y) ≡ t → t ≡ false
    at true is =
        let never : true ≡ false = sym h ∙ begins_not_before front y is in
        absurd cc
    at false is = refl

apart : (b c : Bool) → b ≡ false → (b || c) ≡ c
apart b c h = rw h refl

nothing_left : (b c : Bool) → (b || c) ≡ false → c ≡ false
nothing_left true c h = absurd cc
nothing_left false c h = h

pub spanned :
    (files : List Stamp) (front : List ℕ) (span : Span)
    → span.end ≤ length files
    → IsPartitionPoint (λ file. comes_before front (path_of file) ≡ true)
    (λ file. comes_before front (path_of file) ≡ false) files span.start
    → IsPartitionPoint (λ file. comes_up_to front (path_of file) ≡ true)
    (λ file. comes_up_to front (path_of file) ≡ false) files span.end
    → IsSpan files (λ path. is_some (after front path)) span
spanned files front span bound starts ends = record { within = bound; exact = at }
  where
    at :
        (place : ℕ) (d : Stamp) → place < length files
        → is_some (after front (path_of (get_or files place d))) ≡ is_within span place
    at place d within =
        let path = path_of (get_or files place d) in
        ⊎_elim
        (λ (early : place < span.start).
        let test : leb span.start place ≡ false = grind (arith, nat_tests) in
        not_begins front path (starts.0 place d (omega arith) early) ∙ rw test refl)
        (λ (late : span.start ≤ place).
        let test : leb span.start place ≡ true = grind (arith, nat_tests) in
        let behind : comes_before front path ≡ false = starts.1 place d late within in
        ⊎_elim
        (λ (low : place < span.end).
        let other : ltb place span.end ≡ true = grind (arith, nat_tests) in
        sym (apart (comes_before front path) (is_some (after front path)) behind)
        ∙ ends.0 place d (omega arith) low ∙ rw (test, other) refl)
        (λ (high : span.end ≤ place).
        let other : ltb place span.end ≡ false = grind (arith, nat_tests) in
        nothing_left (comes_before front path) (is_some (after front path)) (ends.1 place d high within)
        ∙ rw (test, other) refl)
        (cases_lt place span.end))
        (cases_lt place span.start)

-- a span that has places has files that pass
pub span_matches :
    (files : List Stamp) (test : List ℕ → Bool) (span : Span) → IsSpan files test span
    → ltb span.start span.end ≡ list_any (λ file. test (path_of file)) files
span_matches files test span h =
    ⊎_elim
    (λ (some : span.start < span.end).
    let below : span.start < length files = (let w = h.within in omega arith) in
    let d : Stamp = record { name = record { ref_ptr = (0, 0); now = [] }; digest = record { 0 = [] } } in
    let first : leb span.start span.start ≡ true = grind (arith, nat_tests) in
    let other : ltb span.start span.end ≡ true = grind (arith, nat_tests) in
    other ∙ sym (list_any_at (λ file. test (path_of file)) files span.start d below
    (h.exact span.start d below ∙ rw (first, other) refl)))
    (λ (none : span.end ≤ span.start).
    let other : ltb span.start span.end ≡ false = grind (arith, nat_tests) in
    other ∙ sym (list_any_none (λ file. test (path_of file)) files
    (λ place d below. h.exact place d below ∙ outside place none)))
    (cases_lt span.start span.end)
  where
    outside : (place : ℕ) → span.end ≤ span.start → is_within span place ≡ false
    outside place none =
        ⊎_elim
        (λ (early : place < span.start).
        let first : leb span.start place ≡ false = grind (arith, nat_tests) in
        rw first refl)
        (λ (late : span.start ≤ place).
        let first : leb span.start place ≡ true = grind (arith, nat_tests) in
        let other : ltb place span.end ≡ false = grind (arith, nat_tests) in
        rw (first, other) refl)
        (cases_lt place span.start)
