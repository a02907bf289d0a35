-- A text that spells a tree in which a key stands twice in its map is refused for it.
use Rattle.std.proofs.Common.{◌≡◌, ◌≤◌, ℕ, List, Err, length, refl}
use Rattle.bosh_yaml.specs.declared.fault.ReadFault.TheVariants.{RepeatedKey}
use Rattle.bosh_yaml.specs.Limits.{HasEachKeyOnce}
use Rattle.bosh_yaml.specs.Reading.{reading}
use Rattle.bosh_yaml.specs.Spelling.{as_json, as_yaml, Spells}
use Rattle.bosh_yaml.specs.Tree.{Tree}
use Rattle.bosh_yaml.proofs.FrameLemmas.{not_less}
use Rattle.bosh_yaml.proofs.JsonOnceLemmas.{json_has_each_once}
use Rattle.bosh_yaml.proofs.MakesLemmas.{repeats_in_whole}
use Rattle.bosh_yaml.proofs.SpellingLemmas.{yaml_is_read}

pub repeated_is_refused : (text : List ℕ) (t : Tree) → Spells text t → (HasEachKeyOnce t → ⊥) → length text ≤ 1048576 → (line : ℕ) × (reading text ≡ Err (RepeatedKey line))
repeated_is_refused text t (as_json b h) twice n = absurd (twice (json_has_each_once text t h))
repeated_is_refused text t (as_yaml b r h) twice n =
    let small = not_less 1048576 (length text) n in
    let y = yaml_is_read text t r h in
    let found = repeats_in_whole y.0 t y.2 twice in
    (found.0, rw (small, b, y.1, found.1) refl)
