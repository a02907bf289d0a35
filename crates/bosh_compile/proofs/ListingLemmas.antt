-- The lines of digests, one after another.
use Rattle.std.proofs.Common.{◌≡◌, ◌∙◌, ap, ℕ, ◌+◌, ◌<◌, List, [], ◌∷◌, ◌++◌, map, take, length, get_or, append-nil}
use Rattle.std.specs.List.{flat_map}
use Rattle.std.proofs.lemmas.List.{take_more}
use Rattle.std.proofs.lemmas.List.Concat.{flat_map-append}
use Rattle.bosh_base.specs.declared.digest.Digest.{Digest}
use Rattle.bosh_compile.specs.Listing.{line, hex_of}

map-append : (xs ys : List Digest) → map hex_of (xs ++ ys) ≡ map hex_of xs ++ map hex_of ys
map-append [] ys = cc
map-append (x ∷ xs) ys = ap (λ (zs : List (List ℕ)). hex_of x ∷ zs) (map-append xs ys)

-- the lines of one digest more
pub lines_more : (digests : List Digest) (i : ℕ) (d : Digest) → i < length digests → flat_map line (map hex_of (take (i + 1) digests)) ≡ flat_map line (map hex_of (take i digests)) ++ line (hex_of (get_or digests i d))
lines_more digests i d in' =
    ap (λ (xs : List Digest). flat_map line (map hex_of xs)) (take_more digests i d in')
    ∙ ap (flat_map line) (map-append (take i digests) (get_or digests i d ∷ []))
    ∙ flat_map-append line (map hex_of (take i digests)) (hex_of (get_or digests i d) ∷ [])
    ∙ ap (λ (xs : List ℕ). flat_map line (map hex_of (take i digests)) ++ xs) (append-nil (line (hex_of (get_or digests i d))))
