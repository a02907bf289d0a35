-- The order of keys tells them apart.
use Rattle.std.proofs.Common.{◌≡◌, ◌∙◌, Bool, ◌&&◌, refl, ap}
use Rattle.std.specs.Cmp.{IsTotalOrder}
use Rattle.std.specs.Cmp.Lexicographic.{slice_cmp}
use Rattle.std.specs.Ordering.{is_eq, nat_cmp, ordering_then}
use Rattle.std.specs.Str.{bytes_eq}
use Rattle.std.specs.declared.cmp.Ordering.{Ordering}
use Rattle.std.specs.declared.cmp.Ordering.TheVariants.{Less, Equal, Greater}
use Rattle.std.proofs.lemmas.Cmp.{nat_list_cmp_total, on_total, then_total}
use Rattle.std.proofs.lemmas.Map.Text.{is_eq-slice_cmp}
use Rattle.bosh_base.specs.declared.key.Key.{Key}
use Rattle.bosh_compile.specs.CompileOrder.{key_cmp}
use Rattle.bosh_compile.specs.Readiness.{same_key}

is_eq-then : (a b : Ordering) → is_eq (ordering_then a b) ≡ (is_eq a && is_eq b)
is_eq-then Less b = refl
is_eq-then Equal b = refl
is_eq-then Greater b = refl

pub is_eq-key_cmp : (a b : Key) → is_eq (key_cmp a b) ≡ same_key a b
is_eq-key_cmp a b =
    is_eq-then (slice_cmp nat_cmp a.fingerprint.0 b.fingerprint.0) (ordering_then (slice_cmp nat_cmp a.os b.os) (slice_cmp nat_cmp a.version b.version))
    ∙ ap (λ (t : Bool). is_eq (slice_cmp nat_cmp a.fingerprint.0 b.fingerprint.0) && t) (is_eq-then (slice_cmp nat_cmp a.os b.os) (slice_cmp nat_cmp a.version b.version))
    ∙ ap (λ (t : Bool). t && (is_eq (slice_cmp nat_cmp a.os b.os) && is_eq (slice_cmp nat_cmp a.version b.version))) (is_eq-slice_cmp a.fingerprint.0 b.fingerprint.0)
    ∙ ap (λ (t : Bool). bytes_eq a.fingerprint.0 b.fingerprint.0 && (t && is_eq (slice_cmp nat_cmp a.version b.version))) (is_eq-slice_cmp a.os b.os)
    ∙ ap (λ (t : Bool). bytes_eq a.fingerprint.0 b.fingerprint.0 && (bytes_eq a.os b.os && t)) (is_eq-slice_cmp a.version b.version)

pub key_cmp_total : IsTotalOrder key_cmp
key_cmp_total =
    then_total (on_total (λ (key : Key). key.fingerprint.0) nat_list_cmp_total)
    (then_total (on_total (λ (key : Key). key.os) nat_list_cmp_total) (on_total (λ (key : Key). key.version) nat_list_cmp_total))
