-- How stemcells are spelled.
use Rattle.std.specs.Prelude.{ℕ, Bool, List, ◌&&◌, ◌++◌}
use Rattle.bosh_base.specs.Name.{is_name}
use Rattle.bosh_base.specs.declared.stemcell.Stemcell.{Stemcell}
use Rattle.bosh_entry.specs.Reading.{Reader, making, ◌with◌}
use Rattle.bosh_entry.specs.List.{text, is_text, text_at}
use Rattle.bosh_entry.specs.Plain.{name_at}

-- an operating system image
unfoldable pub stemcell : Stemcell → List ℕ
stemcell s = text s.os ++ text s.version

unfoldable pub is_stemcell : Stemcell → Bool
is_stemcell s = is_name s.os && is_text s.version

unfoldable pub stemcell_at : Reader Stemcell
stemcell_at = making (λ os version. record { os = os; version = version }) with name_at with text_at
