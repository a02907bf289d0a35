-- The canonical text of a map is read back as the map in the order of its keys.
use Rattle.std.proofs.Common.{◌≡◌, ◌≤◌, ℕ, List, Ok, length, refl, ap, sym, ◌∙◌, subst}
use Rattle.bosh_yaml.specs.Canon.{canon_text, data_of}
use Rattle.bosh_yaml.specs.Limits.{depth}
use Rattle.bosh_yaml.specs.Order.{in_key_order, IsInKeyOrder, IsWritable}
use Rattle.bosh_yaml.specs.Reading.{reading}
use Rattle.bosh_yaml.specs.Spelling.{as_json, json_tree, Spells}
use Rattle.bosh_yaml.specs.Tree.{Tree, Fields, map}
use Rattle.bosh_yaml.proofs.CanonicalLemmas.{canonical_integers, data_is_canonical}
use Rattle.bosh_yaml.proofs.OrderLemmas.{data_in_order, depth_in_order, in_order_once, keys_ascend}
use Rattle.bosh_yaml.proofs.SpellingLemmas.{spelled_is_read}
use Rattle.bosh_yaml.proofs.WrittenLemmas.{text_is_json}

canon_spells : (fs : Fields) → IsWritable (map fs) → depth (map fs) ≤ 64 → Spells (canon_text (map fs)) (in_key_order (map fs))
canon_spells fs w shallow =
    let t = map fs in
    let d = data_of t in
    let same : json_tree d ≡ in_key_order t = data_in_order t w in
    let canonical = data_is_canonical t w in
    let ordered = subst (λ u. IsInKeyOrder u) (sym same) (keys_ascend t) in
    let within = subst (λ u. depth u ≤ 64) (sym same) (depth_in_order t 64 shallow) in
    as_json refl (d, text_is_json d canonical ordered within, canonical_integers d canonical, same)

pub canon_is_read : (fs : Fields) → IsWritable (map fs) → depth (map fs) ≤ 64 → length (canon_text (map fs)) ≤ 1048576 → reading (canon_text (map fs)) ≡ Ok (in_key_order (map fs))
canon_is_read fs w shallow size =
    let t = map fs in
    spelled_is_read (canon_text t) (in_key_order t) (canon_spells fs w shallow) (in_order_once (in_key_order t) (keys_ascend t)) size (depth_in_order t 64 shallow)

-- the same of bytes that are its canonical text
pub canon_bytes_are_read : (bytes : List ℕ) (t : Tree) → bytes ≡ canon_text t → IsWritable t → (fs : Fields) → t ≡ map fs → depth t ≤ 64 → length bytes ≤ 1048576 → reading bytes ≡ Ok (in_key_order t)
canon_bytes_are_read bytes t text w fs is shallow size =
    let fits : length (canon_text (map fs)) ≤ 1048576 = subst (λ (b : List ℕ). length b ≤ 1048576) (text ∙ ap canon_text is) size in
    rw (text, is) (canon_is_read fs (subst (λ u. IsWritable u) is w) (subst (λ u. depth u ≤ 64) is shallow) fits)
