-- What is compiled, in JSON (this project's profile).
use Rattle.std.specs.Prelude.{Bool, ◌&&◌, option_map}
use Rattle.bosh_base.specs.Name.{is_name}
use Rattle.bosh_base.specs.declared.key.Key.{Key}
use Rattle.bosh_base.specs.declared.key.KeyWork.{KeyWork}
use Rattle.serde_json.specs.Data.{Data}
use Rattle.cpi_wire.specs.Fields.{three_data, three_from}
use Rattle.cpi_wire.specs.List.{is_list, list_data, list_from}
use Rattle.cpi_wire.specs.Reading.{Reader}
use Rattle.cpi_wire.specs.Text.{digest_data, digest_from, is_digest, is_text, name_from, text_data, text_from}

-- a key
unfoldable pub key_data : Key → Data
key_data k = three_data digest_data text_data text_data k.fingerprint k.os k.version

unfoldable pub is_key : Key → Bool
is_key k = is_digest k.fingerprint && is_text k.os && is_text k.version

unfoldable pub key_from : Reader Key
key_from d = option_map (λ p. record { fingerprint = p.0; os = p.1; version = p.2 }) (three_from digest_from text_from text_from d)

-- a work
unfoldable pub work_data : KeyWork → Data
work_data w = three_data text_data key_data (list_data key_data) w.name w.key w.deps

unfoldable pub is_work : KeyWork → Bool
is_work w = is_name w.name && is_key w.key && is_list is_key w.deps

unfoldable pub work_from : Reader KeyWork
work_from d = option_map (λ p. record { name = p.0; key = p.1; deps = p.2 }) (three_from name_from key_from (list_from key_from) d)
