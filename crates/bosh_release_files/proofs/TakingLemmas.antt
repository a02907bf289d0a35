-- Which files patterns take.
use Rattle.std.proofs.Common.{◌≡◌, ⊎_elim, ◌∙◌, ap, refl, sym, arith, ℕ, zero, suc, ◌+◌, ◌<◌, ◌≤◌, ◌||◌, ◌&&◌, Bool, true, false, List, [], ◌∷◌, ◌++◌, Option, Some, None, length, length-append, get_or, set, take, max, replicate, leb, ltb}
use Rattle.std.specs.BTreeSet.{BTreeSet}
use Rattle.std.specs.List.{list_any}
use Rattle.std.proofs.lemmas.Bool.{cases_lt}
use Rattle.std.proofs.lemmas.Bool.Decides.{nat_tests}
use Rattle.std.proofs.lemmas.List.{get_or_append_left, get_or_default, length-replicate, length-set}
use Rattle.std.proofs.Math.Bool.{or_comm}
use Rattle.std.proofs.Math.Seq.{get_or-append_seam}
use Rattle.std.proofs.lemmas.List.Elements.{All-replicate, All-take}
use Rattle.std.proofs.lemmas.List.Folds.{list_any_none}
use denote.Ref.{Bor}
use Rattle.bosh_release_listing.specs.declared.listing.Stamp.{Stamp}
use Rattle.bosh_release_files.specs.Pattern.{folder_of, is_taken, is_that, lies_in, takes}
use Rattle.bosh_release_files.specs.Sources.{AddsSpan, AddsText, AreReached, IsReach, IsSpan, exact_text, folder_text, has, is_one, is_reached, lies_in_some, path_of, spans}
use Rattle.bosh_release_files.specs.declared.pattern.Form.{Form}
use Rattle.bosh_release_files.specs.declared.pattern.Form.TheVariants.{Every, Below, In, Exact}
use Rattle.bosh_release_files.specs.declared.pattern.Pattern.{Pattern}
use Rattle.bosh_release_files.specs.declared.span.Span.{Span}
use Rattle.bosh_release_files.proofs.IndexLemmas.{any_more, any_same, bytes_eq-sym}

-- ---- texts of patterns

pub texts_step :
    (pick : Form → Option (List ℕ)) (patterns : List Pattern) (i : ℕ) (pattern : Pattern)
    (old new : BTreeSet (Bor (List ℕ))) (text : Option (List ℕ)) → i < length patterns
    → pattern ≡ get_or patterns i pattern → AddsText old new text → text ≡ pick pattern.form
    → ((q : List ℕ) → has old q ≡ list_any (λ each. is_that q (pick each.form)) (take i patterns)) → (q : List ℕ)
    → has new q ≡ list_any (λ each. is_that q (pick each.form)) (take (i + 1) patterns)
texts_step pick patterns i pattern old new text within is adds picked before q =
    adds q
    ∙ ap (λ b. is_that q text || b) (before q)
    ∙ ap (λ o. is_that q o || list_any (λ each. is_that q (pick each.form)) (take i patterns))
    (picked ∙ ap (λ (p : Pattern). pick p.form) is)
    ∙ sym (any_more (λ (each : Pattern). is_that q (pick each.form)) patterns i pattern within)

-- ---- the kinds of patterns

abbrev is_in : Form → List ℕ → Bool
is_in (In folder) path = lies_in folder path
is_in form path = false

or_false : (b : Bool) → (b || false) ≡ b
or_false true = refl
or_false false = refl

-- each pattern is of one kind
by_kind :
    (form : Form) (path : List ℕ)
    → takes form path ≡ (spans form path || (is_that path (exact_text form) || is_in form path))
by_kind Every path = refl
by_kind (Below front) path = sym (or_false (spans (Below front) path))
by_kind (In folder) path = refl
by_kind (Exact text) path = bytes_eq-sym text path ∙ sym (or_false (is_that path (Some text)))

swap : (a b c d e f : Bool) → ((a || (b || c)) || (d || (e || f))) ≡ ((a || d) || ((b || e) || (c || f)))
swap true b c d e f = refl
swap false b c true e f = or_true (b || c)
  where
    or_true : (t : Bool) → (t || true) ≡ true
    or_true true = refl
    or_true false = refl
swap false true c false e f = refl
swap false false true false true f = refl
swap false false true false false f = refl
swap false false false false e f = refl

any_kinds :
    (patterns : List Pattern) (path : List ℕ)
    → is_taken patterns path
    ≡ (list_any (λ pattern. spans pattern.form path) patterns
    || (list_any (λ pattern. is_that path (exact_text pattern.form)) patterns
    || list_any (λ pattern. is_in pattern.form path) patterns))
any_kinds [] path = refl
any_kinds (pattern ∷ patterns) path =
    ap (λ b. b || is_taken patterns path) (by_kind pattern.form path)
    ∙ ap (λ b. (spans pattern.form path || (is_that path (exact_text pattern.form) || is_in pattern.form path)) || b)
    (any_kinds patterns path)
    ∙ swap (spans pattern.form path) (is_that path (exact_text pattern.form)) (is_in pattern.form path)
    (list_any (λ (each : Pattern). spans each.form path) patterns)
    (list_any (λ (each : Pattern). is_that path (exact_text each.form)) patterns)
    (list_any (λ (each : Pattern). is_in each.form path) patterns)

in_at : (form : Form) (path folder : List ℕ) → folder_of path ≡ Some folder → is_that folder (folder_text form) ≡ is_in form path
in_at Every path folder is = refl
in_at (Below front) path folder is = refl
in_at (In text) path folder is = bytes_eq-sym folder text ∙ ap (is_that text) (sym is)
in_at (Exact text) path folder is = refl

in_none : (form : Form) (path : List ℕ) → folder_of path ≡ None → is_in form path ≡ false
in_none Every path is = refl
in_none (Below front) path is = refl
in_none (In text) path is = ap (is_that text) is
in_none (Exact text) path is = refl

some_folder :
    (patterns : List Pattern) (folders : BTreeSet (Bor (List ℕ))) (path : List ℕ)
    → ((q : List ℕ) → has folders q ≡ list_any (λ pattern. is_that q (folder_text pattern.form)) patterns)
    → lies_in_some folders path ≡ list_any (λ pattern. is_in pattern.form path) patterns
some_folder patterns folders path are = at (folder_of path) refl
  where
    at : (o : Option (List ℕ)) → folder_of path ≡ o → is_one folders o ≡ list_any (λ pattern. is_in pattern.form path) patterns
    at (Some folder) is =
        are folder
        ∙ any_same (λ (pattern : Pattern). is_that folder (folder_text pattern.form))
        (λ (pattern : Pattern). is_in pattern.form path) patterns (λ pattern. in_at pattern.form path folder is)
    at None is =
        sym (list_any_none (λ (pattern : Pattern). is_in pattern.form path) patterns
        (λ k d lt. in_none (get_or patterns k d).form path is))

-- a file is taken where it is reached, is written out, or lies in a folder that is taken
pub test_is_taken :
    (files : List Stamp) (patterns : List Pattern) (reach : List ℕ) (reached : List Bool)
    (texts folders : BTreeSet (Bor (List ℕ))) (place : ℕ) (d : Stamp) (test : Bool) → place < length files
    → IsReach files patterns reach → AreReached reach reached → test ≡ get_or reached place test
    → ((q : List ℕ) → has texts q ≡ list_any (λ pattern. is_that q (exact_text pattern.form)) patterns)
    → ((q : List ℕ) → has folders q ≡ list_any (λ pattern. is_that q (folder_text pattern.form)) patterns)
    → (test || (has texts (path_of (get_or files place d)) || lies_in_some folders (path_of (get_or files place d))))
    ≡ is_taken patterns (path_of (get_or files place d))
test_is_taken files patterns reach reached texts folders place d test within is are read in_texts in_folders =
    let path = path_of (get_or files place d) in
    ap (λ b. b || (has texts path || lies_in_some folders path))
    (read ∙ get_or_default reached place test false (let n = is.same_length in let m = are.same_length in omega arith) ∙ are.each place (let n = is.same_length in omega arith) ∙ is.reached place d within)
    ∙ ap (λ b. list_any (λ (pattern : Pattern). spans pattern.form path) patterns || (b || lies_in_some folders path)) (in_texts path)
    ∙ ap (λ b. list_any (λ (pattern : Pattern). spans pattern.form path) patterns || (list_any (λ (pattern : Pattern). is_that path (exact_text pattern.form)) patterns || b)) (some_folder patterns folders path in_folders)
    ∙ sym (any_kinds patterns path)

-- ---- reach

max_passes : (place a b : ℕ) → ltb place (max a b) ≡ (ltb place a || ltb place b)
max_passes place a b = grind (arith, nat_tests)

first_moves : (a b c : Bool) → ((a || b) || c) ≡ (b || (a || c))
first_moves true true c = refl
first_moves true false c = refl
first_moves false true c = refl
first_moves false false c = refl

second_moves : (a b c : Bool) → (a || (b || c)) ≡ (b || (a || c))
second_moves true true c = refl
second_moves true false c = refl
second_moves false true c = refl
second_moves false false c = refl

any_set :
    (place : ℕ) (xs : List ℕ) (s m e d : ℕ) → s < length xs
    → list_any (λ end. ltb place end) (take m (set xs s (max (get_or xs s d) e)))
    ≡ ((ltb s m && ltb place e) || list_any (λ end. ltb place end) (take m xs))
any_set place [] s m e d lt = absurd (omega arith)
any_set place (x ∷ xs) s zero e d lt =
    let none : ltb s 0 ≡ false = grind (arith, nat_tests) in
    rw none refl
any_set place (x ∷ xs) zero (suc m) e d lt =
    let some : ltb 0 (suc m) ≡ true = grind (arith, nat_tests) in
    let rest = list_any (λ (end : ℕ). ltb place end) (take m xs) in
    ap (λ b. b || rest) (max_passes place x e) ∙ first_moves (ltb place x) (ltb place e) rest
    ∙ ap (λ t. (t && ltb place e) || (ltb place x || rest)) (sym some)
any_set place (x ∷ xs) (suc s) (suc m) e d lt =
    let same : ltb (suc s) (suc m) ≡ ltb s m = grind (arith, nat_tests) in
    let rest = list_any (λ (end : ℕ). ltb place end) (take m xs) in
    ap (λ b. ltb place x || b) (any_set place xs s m e d (omega arith))
    ∙ second_moves (ltb place x) (ltb s m && ltb place e) rest
    ∙ ap (λ t. (t && ltb place e) || (ltb place x || rest)) (sym same)

pub span_added :
    (span : Span) (old : List ℕ) (d : ℕ) → span.start < length old
    → AddsSpan span old (set old span.start (max (get_or old span.start d) span.end))
span_added span old d lt = record {
  same_length = length-set old span.start (max (get_or old span.start d) span.end);
  reached = λ place low.
      let same : ltb span.start (place + 1) ≡ leb span.start place = grind (arith, nat_tests) in
      any_set place old span.start (place + 1) span.end d lt
      ∙ ap (λ t. (t && ltb place span.end) || is_reached old place) same;
}

pub reach_nothing : (files : List Stamp) (reach : List ℕ) → reach ≡ replicate (length files) 0 → IsReach files [] reach
reach_nothing files reach is = record {
  same_length = ap length is ∙ length-replicate (length files) 0;
  reached = λ place d lt.
      ap (λ (r : List ℕ). is_reached r place) is
      ∙ list_any_none (λ end. ltb place end) (take (place + 1) (replicate (length files) 0))
      (All-take (λ end. ltb place end ≡ false) (place + 1) (replicate (length files) 0)
      (All-replicate (λ end. ltb place end ≡ false) (length files) 0 (grind (arith, nat_tests))));
}

pub reach_more :
    (files : List Stamp) (patterns : List Pattern) (i : ℕ) (pattern : Pattern) (span : Span) (old new : List ℕ)
    → i < length patterns → pattern ≡ get_or patterns i pattern → IsSpan files (spans pattern.form) span
    → AddsSpan span old new → IsReach files (take i patterns) old → IsReach files (take (i + 1) patterns) new
reach_more files patterns i pattern span old new lt is spanned adds before = record {
  same_length = adds.same_length ∙ before.same_length;
  reached = λ place d low.
      let path = path_of (get_or files place d) in
      adds.reached place (let n = before.same_length in omega arith)
      ∙ ap (λ b. b || is_reached old place) (sym (spanned.exact place d low))
      ∙ ap (λ b. spans pattern.form path || b) (before.reached place d low)
      ∙ ap (λ (p : Pattern). spans p.form path || list_any (λ (each : Pattern). spans each.form path) (take i patterns)) is
      ∙ sym (any_more (λ (each : Pattern). spans each.form path) patterns i pattern lt);
}

-- ---- far places

pub record IsFar (reach : List ℕ) (n far : ℕ) (reached : List Bool) : Type 0 where
  pub far_is : (k : ℕ) → ltb k far ≡ list_any (λ end. ltb k end) (take n reach)
  pub same_length : length reached ≡ n
  pub each : (k : ℕ) → k < n → get_or reached k false ≡ is_reached reach k

pub far_nothing : (reach : List ℕ) (reached : List Bool) → reached ≡ [] → IsFar reach 0 0 reached
far_nothing reach reached is = record {
  far_is = λ k. grind (arith, nat_tests);
  same_length = ap length is;
  each = λ k lt. absurd (omega arith);
}

pub far_more :
    (reach : List ℕ) (n d far : ℕ) (reached new : List Bool) → n < length reach → IsFar reach n far reached
    → new ≡ reached ++ ltb n (max far (get_or reach n d)) ∷ []
    → IsFar reach (n + 1) (max far (get_or reach n d)) new
far_more reach n d far reached new lt h is = record {
  far_is = further;
  same_length = ap length is ∙ length-append reached (ltb n (max far (get_or reach n d)) ∷ []) ∙ ap (λ m. m + 1) h.same_length;
  each = λ k low. ⊎_elim
      (λ (early : k < n).
      ap (λ (r : List Bool). get_or r k false) is
      ∙ get_or_append_left reached (ltb n (max far (get_or reach n d)) ∷ []) false k (let m = h.same_length in omega arith)
      ∙ h.each k early)
      (λ (late : n ≤ k).
      let same : k ≡ length reached = (let m = h.same_length in omega arith) in
      let at_n : n ≡ k = (let m = h.same_length in omega arith) in
      ap (λ (r : List Bool). get_or r k false) is
      ∙ ap (λ j. get_or (reached ++ ltb n (max far (get_or reach n d)) ∷ []) j false) same
      ∙ get_or-append_seam reached (ltb n (max far (get_or reach n d))) [] false
      ∙ further n
      ∙ ap (λ j. list_any (λ end. ltb j end) (take (j + 1) reach)) at_n)
      (cases_lt k n);
}
  where
    further : (k : ℕ) → ltb k (max far (get_or reach n d)) ≡ list_any (λ end. ltb k end) (take (n + 1) reach)
    further k =
        max_passes k far (get_or reach n d)
        ∙ ap (λ b. b || ltb k (get_or reach n d)) (h.far_is k)
        ∙ or_comm (list_any (λ end. ltb k end) (take n reach)) (ltb k (get_or reach n d))
        ∙ sym (any_more (λ end. ltb k end) reach n d lt)

pub far_end : (reach : List ℕ) (n far : ℕ) (reached : List Bool) → IsFar reach n far reached → length reach ≤ n → n ≤ length reach → AreReached reach reached
far_end reach n far reached h high low = record {
  same_length = h.same_length ∙ omega arith;
  each = λ place lt. h.each place (omega arith);
}
