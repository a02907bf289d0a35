-- A listing's text tells the listing.
use Rattle.std.proofs.Common.{◌≡◌, ◌∙◌, ap, refl, arith, ℕ, List, [], ◌∷◌, ◌++◌, map, codes, drop, get_or}
use Rattle.std.proofs.lemmas.List.{append_cancel_left}
use Rattle.std.proofs.lemmas.List.Elements.{All-cons, All-head, All-nil, All-tail}
use Rattle.std.proofs.lemmas.List.Sums.{AllPass-from_list_all}
use Rattle.std.specs.Prelude.{All}
use Rattle.bosh_base.specs.declared.digest.Digest.{Digest}
use Rattle.bosh_release_listing.specs.Laws.{IsDigest, IsJobListing, IsPackageListing, IsStamped, JobTextTells, PackageTextTells}
use Rattle.bosh_release_listing.specs.Lines.{IsOneLine, hex_of, is_no_lf}
use Rattle.bosh_release_listing.specs.Listing.{JobListing, PackageListing, Stamped, dep_line, digest_line, file_line, job_lines, name_line, package_lines}
use Rattle.bosh_release_listing.proofs.LineLemmas.{lines_tell, one_line_append}
use Rattle.bosh_release_listing.proofs.StampLemmas.{dep_line_is_one, dep_line_tells, digest_line_tells, file_line_is_one, file_line_tells, hex_one_line}

-- ---- words have no LF

closed : (word : List ℕ) → Rattle.std.specs.List.list_all is_no_lf word ≡ Rattle.std.specs.Prelude.true → IsOneLine word
closed word h = AllPass-from_list_all is_no_lf word h

-- ---- lines of files and of packages that are needed

files_are_lines :
    (word : List ℕ) (files : List Stamped) → IsOneLine word → All IsStamped files
    → All IsOneLine (map (file_line word) files)
files_are_lines word [] hw h = All-nil IsOneLine
files_are_lines word (it ∷ files) hw h =
    All-cons IsOneLine (file_line word it) (map (file_line word) files)
    (file_line_is_one word it hw (All-head IsStamped it files h))
    (files_are_lines word files hw (All-tail IsStamped it files h))

deps_are_lines : (deps : List Stamped) → All IsStamped deps → All IsOneLine (map dep_line deps)
deps_are_lines [] h = All-nil IsOneLine
deps_are_lines (it ∷ deps) h =
    All-cons IsOneLine (dep_line it) (map dep_line deps)
    (dep_line_is_one it (closed (codes "dep ") refl) (All-head IsStamped it deps h))
    (deps_are_lines deps (All-tail IsStamped it deps h))

both_are_lines :
    (xs ys : List (List ℕ)) → All IsOneLine xs → All IsOneLine ys → All IsOneLine (xs ++ ys)
both_are_lines [] ys hx hy = hy
both_are_lines (x ∷ xs) ys hx hy =
    All-cons IsOneLine x (xs ++ ys) (All-head IsOneLine x xs hx)
    (both_are_lines xs ys (All-tail IsOneLine x xs hx) hy)

files_tell :
    (word : List ℕ) (xs ys : List Stamped) → All IsStamped xs → All IsStamped ys
    → map (file_line word) xs ≡ map (file_line word) ys → xs ≡ ys
files_tell word [] [] hx hy e = refl
files_tell word [] (y ∷ ys) hx hy e = absurd cc
files_tell word (x ∷ xs) [] hx hy e = absurd cc
files_tell word (x ∷ xs) (y ∷ ys) hx hy e =
    let first : file_line word x ≡ file_line word y = cc in
    let more : map (file_line word) xs ≡ map (file_line word) ys = cc in
    let one =
    file_line_tells word x y (All-head IsStamped x xs hx) (All-head IsStamped y ys hy) first in
    let rest = files_tell word xs ys (All-tail IsStamped x xs hx) (All-tail IsStamped y ys hy) more in
    cc

deps_tell :
    (xs ys : List Stamped) → All IsStamped xs → All IsStamped ys → map dep_line xs ≡ map dep_line ys → xs ≡ ys
deps_tell [] [] hx hy e = refl
deps_tell [] (y ∷ ys) hx hy e = absurd cc
deps_tell (x ∷ xs) [] hx hy e = absurd cc
deps_tell (x ∷ xs) (y ∷ ys) hx hy e =
    let first : dep_line x ≡ dep_line y = cc in
    let more : map dep_line xs ≡ map dep_line ys = cc in
    let one = dep_line_tells x y (All-head IsStamped x xs hx) (All-head IsStamped y ys hy) first in
    let rest = deps_tell xs ys (All-tail IsStamped x xs hx) (All-tail IsStamped y ys hy) more in
    cc

abbrev file_word : List ℕ
file_word = codes "file "

apart : (m n : ℕ) → m ≡ 102 → n ≡ 100 → m ≡ n → ⊥
apart m n hm hn e = omega arith

-- a file's line is no dependency's
kinds_differ : (file dep : Stamped) → file_line file_word file ≡ dep_line dep → ⊥
kinds_differ file dep e =
    apart (get_or (file_line file_word file) 0 0) (get_or (dep_line dep) 0 0) refl refl
    (ap (λ (l : List ℕ). get_or l 0 0) e)

-- files come first, and then what is needed
parts_tell :
    (fs gs ds es : List Stamped) → All IsStamped fs → All IsStamped gs → All IsStamped ds → All IsStamped es
    → map (file_line file_word) fs ++ map dep_line ds ≡ map (file_line file_word) gs ++ map dep_line es
    → (fs ≡ gs) × (ds ≡ es)
parts_tell [] [] ds es hf hg hd he e = (refl, deps_tell ds es hd he e)
parts_tell [] (g ∷ gs) [] es hf hg hd he e = absurd cc
parts_tell [] (g ∷ gs) (d ∷ ds) es hf hg hd he e =
    let first : file_line file_word g ≡ dep_line d = cc in
    absurd (kinds_differ g d first)
parts_tell (f ∷ fs) [] ds [] hf hg hd he e = absurd cc
parts_tell (f ∷ fs) [] ds (d ∷ es) hf hg hd he e =
    let first : file_line file_word f ≡ dep_line d = cc in
    absurd (kinds_differ f d first)
parts_tell (f ∷ fs) (g ∷ gs) ds es hf hg hd he e =
    let first : file_line file_word f ≡ file_line file_word g = cc in
    let more : map (file_line file_word) fs ++ map dep_line ds ≡ map (file_line file_word) gs ++ map dep_line es = cc in
    let one =
    file_line_tells file_word f g (All-head IsStamped f fs hf) (All-head IsStamped g gs hg) first in
    let rest =
    parts_tell fs gs ds es (All-tail IsStamped f fs hf) (All-tail IsStamped g gs hg) hd he more in
    let others = rest.0 in
    (cc, rest.1)

-- ---- all

names_tell : (a b : List ℕ) → name_line a ≡ name_line b → a ≡ b
names_tell a b e = append_cancel_left (codes "name ") a b e

name_is_line : (a : List ℕ) → IsOneLine a → IsOneLine (name_line a)
name_is_line a h = one_line_append (codes "name ") a (closed (codes "name ") refl) h

digest_is_line : (word : List ℕ) (d : Digest) → IsOneLine word → IsDigest d → IsOneLine (digest_line word d)
digest_is_line word d hw h = one_line_append word (hex_of d) hw (hex_one_line d h)

package_is_lines : (a : PackageListing) → IsPackageListing a → All IsOneLine (package_lines a)
package_is_lines a h =
    let parts = map (file_line file_word) a.files ++ map dep_line a.deps in
    let third = digest_line (codes "script ") a.script in
    All-cons IsOneLine (codes "bosh-package 1") (name_line a.name ∷ third ∷ parts)
    (closed (codes "bosh-package 1") refl)
    (All-cons IsOneLine (name_line a.name) (third ∷ parts) (name_is_line a.name h.name)
    (All-cons IsOneLine third parts
    (digest_is_line (codes "script ") a.script (closed (codes "script ") refl) h.script)
    (both_are_lines (map (file_line file_word) a.files) (map dep_line a.deps)
    (files_are_lines file_word a.files (closed file_word refl) h.files)
    (deps_are_lines a.deps h.deps))))

abbrev package_with : List ℕ → Digest → List Stamped → List Stamped → PackageListing
package_with name script files deps =
    record { name = name; script = script; files = files; deps = deps }

pub package_text_tells : PackageTextTells
package_text_tells a b ha hb e =
    let lines = lines_tell (package_lines a) (package_lines b) (package_is_lines a ha) (package_is_lines b hb) e in
    let second : name_line a.name ≡ name_line b.name = ap (λ l. get_or l 1 []) lines in
    let third : digest_line (codes "script ") a.script ≡ digest_line (codes "script ") b.script =
    ap (λ l. get_or l 2 []) lines in
    let names = names_tell a.name b.name second in
    let scripts = digest_line_tells (codes "script ") a.script b.script ha.script hb.script third in
    let parts = parts_tell a.files b.files a.deps b.deps ha.files hb.files ha.deps hb.deps (ap (λ l. drop 3 l) lines) in
    ap (λ x. package_with x a.script a.files a.deps) names
    ∙ ap (λ x. package_with b.name x a.files a.deps) scripts
    ∙ ap (λ x. package_with b.name b.script x a.deps) parts.0
    ∙ ap (λ x. package_with b.name b.script b.files x) parts.1

abbrev template_word : List ℕ
template_word = codes "template "

job_is_lines : (a : JobListing) → IsJobListing a → All IsOneLine (job_lines a)
job_is_lines a h =
    let parts = map (file_line template_word) a.templates in
    let third = digest_line (codes "spec ") a.spec in
    let fourth = digest_line (codes "monit ") a.monit in
    All-cons IsOneLine (codes "bosh-job 1") (name_line a.name ∷ third ∷ fourth ∷ parts)
    (closed (codes "bosh-job 1") refl)
    (All-cons IsOneLine (name_line a.name) (third ∷ fourth ∷ parts) (name_is_line a.name h.name)
    (All-cons IsOneLine third (fourth ∷ parts)
    (digest_is_line (codes "spec ") a.spec (closed (codes "spec ") refl) h.spec)
    (All-cons IsOneLine fourth parts
    (digest_is_line (codes "monit ") a.monit (closed (codes "monit ") refl) h.monit)
    (files_are_lines template_word a.templates (closed template_word refl) h.templates))))

abbrev job_with : List ℕ → Digest → Digest → List Stamped → JobListing
job_with name spec monit templates =
    record { name = name; spec = spec; monit = monit; templates = templates }

pub job_text_tells : JobTextTells
job_text_tells a b ha hb e =
    let lines = lines_tell (job_lines a) (job_lines b) (job_is_lines a ha) (job_is_lines b hb) e in
    let second : name_line a.name ≡ name_line b.name = ap (λ l. get_or l 1 []) lines in
    let third : digest_line (codes "spec ") a.spec ≡ digest_line (codes "spec ") b.spec =
    ap (λ l. get_or l 2 []) lines in
    let fourth : digest_line (codes "monit ") a.monit ≡ digest_line (codes "monit ") b.monit =
    ap (λ l. get_or l 3 []) lines in
    let names = names_tell a.name b.name second in
    let specs = digest_line_tells (codes "spec ") a.spec b.spec ha.spec hb.spec third in
    let monits = digest_line_tells (codes "monit ") a.monit b.monit ha.monit hb.monit fourth in
    let templates =
    files_tell template_word a.templates b.templates ha.templates hb.templates (ap (λ l. drop 4 l) lines) in
    ap (λ x. job_with x a.spec a.monit a.templates) names
    ∙ ap (λ x. job_with b.name x a.monit a.templates) specs
    ∙ ap (λ x. job_with b.name b.spec x a.templates) monits
    ∙ ap (λ x. job_with b.name b.spec b.monit x) templates
