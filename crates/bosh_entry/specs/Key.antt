-- How keys of compiled packages are spelled.
use Rattle.std.specs.Prelude.{ℕ, Bool, List, ◌&&◌, ◌++◌}
use Rattle.bosh_base.specs.Name.{is_name}
use Rattle.bosh_base.specs.declared.key.Key.{Key}
use Rattle.bosh_base.specs.declared.key.KeyWork.{KeyWork}
use Rattle.bosh_entry.specs.Reading.{Reader, making, ◌with◌}
use Rattle.bosh_entry.specs.List.{text, is_text, text_at, list, is_list, list_at}
use Rattle.bosh_entry.specs.Plain.{name_at, digest, is_digest, digest_at}

-- what a compiled package depends on
unfoldable pub key : Key → List ℕ
key k = digest k.fingerprint ++ text k.os ++ text k.version

unfoldable pub is_key : Key → Bool
is_key k = is_digest k.fingerprint && is_text k.os && is_text k.version

unfoldable pub key_at : Reader Key
key_at =
    making (λ fingerprint os version. record {
      fingerprint = fingerprint;
      os = os;
      version = version;
    })
    with digest_at
    with text_at
    with text_at

-- a package to be compiled
unfoldable pub key_work : KeyWork → List ℕ
key_work w = text w.name ++ key w.key ++ list key w.deps

unfoldable pub is_key_work : KeyWork → Bool
is_key_work w = is_name w.name && is_key w.key && is_list is_key w.deps

unfoldable pub key_work_at : Reader KeyWork
key_work_at =
    making (λ name key deps. record {
      name = name;
      key = key;
      deps = deps;
    })
    with name_at
    with key_at
    with list_at key_at
