-- How what is applied to a machine is spelled.
use Rattle.std.specs.Prelude.{ℕ, Bool, List, ◌&&◌, ◌++◌}
use Rattle.bosh_base.specs.Name.{is_name}
use Rattle.bosh_base.specs.declared.spec.Mark.{Mark}
use Rattle.bosh_base.specs.declared.spec.Placed.{Placed}
use Rattle.bosh_base.specs.declared.spec.Spec.{Spec}
use Rattle.bosh_entry.specs.Reading.{Reader, making, ◌with◌}
use Rattle.bosh_entry.specs.List.{text, is_text, text_at, list, is_list, list_at}
use Rattle.bosh_entry.specs.Plain.{name_at, digest, is_digest, digest_at}

-- a job or package with its fingerprint
unfoldable pub mark : Mark → List ℕ
mark m = text m.name ++ digest m.fingerprint

unfoldable pub is_mark : Mark → Bool
is_mark m = is_name m.name && is_digest m.fingerprint

unfoldable pub mark_at : Reader Mark
mark_at =
    making (λ name fingerprint. record {
      name = name;
      fingerprint = fingerprint;
    })
    with name_at
    with digest_at

-- a file and where it lies
unfoldable pub placed : Placed → List ℕ
placed p = text p.path ++ text p.text

unfoldable pub is_placed : Placed → Bool
is_placed p = is_text p.path && is_text p.text

unfoldable pub placed_at : Reader Placed
placed_at = making (λ path text. record { path = path; text = text }) with text_at with text_at

-- what is applied to a machine
unfoldable pub spec : Spec → List ℕ
spec s = list mark s.jobs ++ list mark s.packages ++ list placed s.files

unfoldable pub is_spec : Spec → Bool
is_spec s = is_list is_mark s.jobs && is_list is_mark s.packages && is_list is_placed s.files

unfoldable pub spec_at : Reader Spec
spec_at =
    making (λ jobs packages files. record {
      jobs = jobs;
      packages = packages;
      files = files;
    })
    with list_at mark_at
    with list_at mark_at
    with list_at placed_at
