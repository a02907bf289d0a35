-- How the table of the packages that came before grows.
use Rattle.std.proofs.Common.{◌≡◌, ◌∙◌, ℕ, Bool, true, false, ◌&&◌, ◌||◌, List, [], ◌∷◌, ◌++◌, Option, Some, cond, is_some, ap, refl, sym}
use Rattle.std.specs.BTreeMap.{BTreeMap, UpdatesBy, get_by}
use Rattle.std.specs.Cmp.Lexicographic.{slice_cmp}
use Rattle.std.specs.List.{list_any}
use Rattle.std.specs.Ordering.{is_eq, nat_cmp, ordering_then}
use Rattle.std.specs.declared.cmp.Ordering.{Ordering}
use Rattle.std.specs.declared.cmp.Ordering.TheVariants.{Less, Equal, Greater}
use Rattle.std.proofs.lemmas.List.Folds.{list_any-append}
use Rattle.std.proofs.lemmas.Map.Text.{is_eq-slice_cmp}
use denote.Ref.{Bor}
use Rattle.bosh_base.specs.declared.release.PackageSpec.{PackageSpec}
use Rattle.bosh_instances.specs.Applied.{same_package, with_package}
use Rattle.bosh_instances.specs.Known.{AreKnown, IsPackage, package_cmp}
use Rattle.bosh_instances.specs.declared.known.PackageId.{PackageId}

-- the order of keys
abbrev pub key_cmp : PackageId → PackageId → Ordering
key_cmp one other =
    ordering_then (slice_cmp nat_cmp one.name.now other.name.now) (slice_cmp nat_cmp one.fingerprint.now other.fingerprint.now)

is_eq-then : (a b : Ordering) → is_eq (ordering_then a b) ≡ (is_eq a && is_eq b)
is_eq-then Less b = refl
is_eq-then Equal b = refl
is_eq-then Greater b = refl

abbrev at : List ℕ → Bor (List ℕ)
at bytes = record { ref_ptr = (0, 0); now = bytes }

abbrev key_at : PackageSpec → PackageId
key_at pack = record { name = at pack.name; fingerprint = at pack.fingerprint.0 }

same_cmp : (pack : PackageSpec) (id : PackageId) → IsPackage pack id → key_cmp id ≡ package_cmp pack
same_cmp pack id h = λ i other.
    ordering_then (slice_cmp nat_cmp (h.name i) other.name.now) (slice_cmp nat_cmp (h.fingerprint i) other.fingerprint.now)

is_eq-key : (pack other : PackageSpec) (id : PackageId) → IsPackage pack id → is_eq (key_cmp id (key_at other)) ≡ same_package pack other
is_eq-key pack other id h =
    ap (λ (cmp : PackageId → Ordering). is_eq (cmp (key_at other))) (same_cmp pack id h)
    ∙ (is_eq-then (slice_cmp nat_cmp pack.name other.name) (slice_cmp nat_cmp pack.fingerprint.0 other.fingerprint.0)
    ∙ (λ i. is_eq-slice_cmp pack.name other.name i && is_eq-slice_cmp pack.fingerprint.0 other.fingerprint.0 i))

some-cond : (b : Bool) (found : Option (Unit {0})) → is_some (cond b (Some tt) found) ≡ (b || is_some found)
some-cond true found = refl
some-cond false found = refl

or-last : (a b : Bool) → (a || b) ≡ (b || (a || false))
or-last true true = refl
or-last true false = refl
or-last false true = refl
or-last false false = refl

-- what is found by a key is found by the package
same-known : (before : List PackageSpec) (pack : PackageSpec) (id : PackageId) (table : BTreeMap PackageId (Unit {0}))
    → IsPackage pack id → AreKnown before table → is_some (get_by (key_cmp id) table) ≡ list_any (λ one. same_package one pack) before
same-known before pack id table h known = ap (λ (cmp : PackageId → Ordering). is_some (get_by cmp table)) (same_cmp pack id h) ∙ known pack

-- one more is known
pub known-more : (before : List PackageSpec) (pack : PackageSpec) (id : PackageId) (old new : BTreeMap PackageId (Unit {0}))
    → IsPackage pack id → UpdatesBy key_cmp (key_cmp id) old new (Some tt) → AreKnown before old → AreKnown (before ++ pack ∷ []) new
known-more before pack id old new h updates known = λ other.
    let found = get_by (package_cmp other) old in
    ap (λ (o : Option (Unit {0})). is_some o) (updates.0 (key_at other))
    ∙ (ap (λ (b : Bool). is_some (cond b (Some tt) found)) (is_eq-key pack other id h)
    ∙ (some-cond (same_package pack other) found
    ∙ (ap (λ (b : Bool). same_package pack other || b) (known other)
    ∙ (or-last (same_package pack other) (list_any (λ one. same_package one other) before)
    ∙ sym (list_any-append (λ one. same_package one other) before (pack ∷ []))))))

pub with_package-known : (before : List PackageSpec) (pack : PackageSpec) (id : PackageId) (table : BTreeMap PackageId (Unit {0}))
    → IsPackage pack id → AreKnown before table → is_some (get_by (key_cmp id) table) ≡ true → with_package before pack ≡ before
with_package-known before pack id table h known there =
    ap (λ (b : Bool). cond b before (before ++ pack ∷ [])) (sym (same-known before pack id table h known)) ∙ ap (λ (b : Bool). cond b before (before ++ pack ∷ [])) there

pub with_package-new : (before : List PackageSpec) (pack : PackageSpec) (id : PackageId) (table : BTreeMap PackageId (Unit {0}))
    → IsPackage pack id → AreKnown before table → is_some (get_by (key_cmp id) table) ≡ false → with_package before pack ≡ before ++ pack ∷ []
with_package-new before pack id table h known none =
    ap (λ (b : Bool). cond b before (before ++ pack ∷ [])) (sym (same-known before pack id table h known)) ∙ ap (λ (b : Bool). cond b before (before ++ pack ∷ [])) none
