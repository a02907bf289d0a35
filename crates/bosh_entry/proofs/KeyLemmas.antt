-- What is read is what was spelled.
use Rattle.std.proofs.Common.{refl}
use Rattle.bosh_base.specs.declared.key.Key.{Key}
use Rattle.bosh_base.specs.declared.key.KeyWork.{KeyWork}
use Rattle.bosh_entry.specs.Key.{key, is_key, key_at, key_work, is_key_work, key_work_at}
use Rattle.bosh_entry.proofs.CodingLemmas.{IsCoding, making_law, struct_law, ◌and◌}
use Rattle.bosh_entry.proofs.ListLemmas.{text_law, list_law}
use Rattle.bosh_entry.proofs.PlainLemmas.{name_law, digest_law}

pub key_law : IsCoding key is_key key_at
unfolding key is_key key_at
key_law = struct_law (λ (k : Key). (((tt, k.fingerprint), k.os), k.version)) (λ p. refl) (λ x. refl) (making_law (λ fingerprint os version. record { fingerprint = fingerprint; os = os; version = version }) and digest_law and text_law and text_law)

pub key_work_law : IsCoding key_work is_key_work key_work_at
unfolding key_work is_key_work key_work_at
key_work_law = struct_law (λ (w : KeyWork). (((tt, w.name), w.key), w.deps)) (λ p. refl) (λ x. refl) (making_law (λ name key deps. record { name = name; key = key; deps = deps }) and name_law and key_law and list_law key_law)
