-- How names and digests are spelled (this project's profile): a name as a text, a digest by its 32 bytes (FIPS 180-4).
use Rattle.std.specs.Prelude.{ℕ, Bool, ◌&&◌, ◌==◌, nat_lt, List, length, take, drop, Some, None, if◌then◌else◌}
use Rattle.std.specs.List.{list_all}
use Rattle.bosh_base.specs.Name.{is_name}
use Rattle.bosh_base.specs.declared.digest.Digest.{Digest}
use Rattle.bosh_entry.specs.Reading.{Reader, only_at}
use Rattle.bosh_entry.specs.Number.{is_byte}
use Rattle.bosh_entry.specs.List.{text_at}

unfoldable pub name_at : Reader (List ℕ)
name_at = only_at is_name text_at

unfoldable pub digest : Digest → List ℕ
digest d = d.0

unfoldable pub is_digest : Digest → Bool
is_digest d = length d.0 == 32 && list_all is_byte d.0

unfoldable pub digest_at : Reader Digest
digest_at bytes = if nat_lt (length bytes) 32 then None else Some (record { 0 = take 32 bytes }, drop 32 bytes)
