-- The test on keys tells them apart.
use Rattle.std.proofs.Common.{◌≡◌, List, refl, ap}
use Rattle.std.specs.Bool.{Decides}
use Rattle.std.specs.List.{All, Contains, list_all}
use Rattle.std.specs.Cmp.Lexicographic.{bytes_decides}
use Rattle.std.proofs.lemmas.Bool.Decides.{Decides-and, Decides-like, Decides-by_and, Decides-by_or}
use Rattle.std.proofs.lemmas.List.Elements.{Decides-contains}
use Rattle.bosh_base.specs.declared.key.Key.{Key}
use Rattle.bosh_compile.specs.Readiness.{same_key, is_among}

pub same_key_decides : (a b : Key) → Decides (same_key a b) (a ≡ b)
same_key_decides a b = Decides-like (same_key a b) (λ p. λ i. record { fingerprint = record { 0 = p.0 i }; os = p.1.0 i; version = p.1.1 i })
    (λ e. (ap (λ (key : Key). key.fingerprint.0) e, (ap (λ (key : Key). key.os) e, ap (λ (key : Key). key.version) e)))
    (Decides-and _ _ (bytes_decides a.fingerprint.0 b.fingerprint.0) (Decides-and _ _ (bytes_decides a.os b.os) (bytes_decides a.version b.version)))

pub is_among_decides : (key : Key) (keys : List Key) → Decides (is_among key keys) (Contains keys key)
is_among_decides key keys = Decides-contains keys key (is_among key keys)
    (Decides-by_or (λ each. same_key each key) (λ each. each ≡ key) (is_among key) (λ each. same_key_decides each key) refl (λ _ _. refl) keys)

pub are_among_decides : (keys among' : List Key) → Decides (list_all (λ key. is_among key among') keys) (All (λ key. Contains among' key) keys)
are_among_decides keys among' =
    Decides-by_and (λ key. is_among key among') (λ key. Contains among' key) (list_all (λ key. is_among key among')) (λ key. is_among_decides key among') refl (λ _ _. refl) keys
