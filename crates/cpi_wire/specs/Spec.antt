-- What is applied to machines, in JSON (this project's profile).
use Rattle.std.specs.Prelude.{Bool, ◌&&◌, option_map}
use Rattle.bosh_base.specs.Name.{is_name}
use Rattle.bosh_base.specs.declared.spec.Mark.{Mark}
use Rattle.bosh_base.specs.declared.spec.Placed.{Placed}
use Rattle.bosh_base.specs.declared.spec.Spec.{Spec}
use Rattle.serde_json.specs.Data.{Data}
use Rattle.cpi_wire.specs.Fields.{three_data, three_from, two_data, two_from}
use Rattle.cpi_wire.specs.List.{is_list, list_data, list_from}
use Rattle.cpi_wire.specs.Reading.{Reader}
use Rattle.cpi_wire.specs.Text.{digest_data, digest_from, is_digest, is_text, name_from, text_data, text_from}

-- a job or package
unfoldable pub mark_data : Mark → Data
mark_data m = two_data text_data digest_data m.name m.fingerprint

unfoldable pub is_mark : Mark → Bool
is_mark m = is_name m.name && is_digest m.fingerprint

unfoldable pub mark_from : Reader Mark
mark_from d = option_map (λ p. record { name = p.0; fingerprint = p.1 }) (two_from name_from digest_from d)

-- a file
unfoldable pub placed_data : Placed → Data
placed_data p = two_data text_data text_data p.path p.text

unfoldable pub is_placed : Placed → Bool
is_placed p = is_text p.path && is_text p.text

unfoldable pub placed_from : Reader Placed
placed_from d = option_map (λ p. record { path = p.0; text = p.1 }) (two_from text_from text_from d)

-- what is applied
unfoldable pub spec_data : Spec → Data
spec_data s = three_data (list_data mark_data) (list_data mark_data) (list_data placed_data) s.jobs s.packages s.files

unfoldable pub is_spec : Spec → Bool
is_spec s = is_list is_mark s.jobs && is_list is_mark s.packages && is_list is_placed s.files

unfoldable pub spec_from : Reader Spec
spec_from d = option_map (λ p. record { jobs = p.0; packages = p.1; files = p.2 }) (three_from (list_from mark_from) (list_from mark_from) (list_from placed_from) d)
