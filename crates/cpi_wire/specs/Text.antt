-- Texts in JSON (this project's profile): a text is a string whose characters have the numbers of its bytes, and a digest is one of
-- 64 hexadecimal digits in lower case.
use Rattle.std.specs.Prelude.{ℕ, Bool, ◌&&◌, ◌==◌, nat_lt, List, length, Option, Some, None, Result, Ok, Err, option_and_then, if◌then◌else◌}
use Rattle.std.specs.List.{list_all}
use Rattle.std.specs.Str.{bytes_eq, chars, encode_utf8_all, is_utf8}
use Rattle.bosh_base.specs.Name.{is_name}
use Rattle.bosh_base.specs.declared.digest.Digest.{Digest}
use Rattle.hex.specs.Hex.{decode_sized, encode_lower}
use Rattle.hex.specs.declared.error.FromHexError.{FromHexError}
use Rattle.serde_json.specs.Data.{Data, string}
use Rattle.serde_json.specs.Find.{as_str}
use Rattle.cpi_wire.specs.Reading.{Reader, only}

abbrev pub is_byte : ℕ → Bool
is_byte b = nat_lt b 256

-- a text
abbrev pub text_data : List ℕ → Data
text_data bytes = string (encode_utf8_all bytes)

abbrev pub is_text : List ℕ → Bool
is_text bytes = list_all is_byte bytes

-- the bytes that the characters of a string are the numbers of
unfoldable pub bytes_in : List ℕ → Option (List ℕ)
bytes_in s = if is_utf8 s && is_text (chars s) then Some (chars s) else None

abbrev pub text_from : Reader (List ℕ)
text_from d = option_and_then bytes_in (as_str d)

-- a name, as a text
abbrev pub name_from : Reader (List ℕ)
name_from d = only is_name (text_from d)

-- a digest
abbrev pub digest_data : Digest → Data
digest_data d = string (encode_lower d.0)

abbrev pub is_digest : Digest → Bool
is_digest d = (length d.0 == 32) && is_text d.0

-- the bytes, where the text is their digits in lower case
abbrev pub lower_digits_of : List ℕ → Result (List ℕ) FromHexError → Option Digest
lower_digits_of text (Ok bytes) = if bytes_eq (encode_lower bytes) text then Some (record { 0 = bytes }) else None
lower_digits_of text (Err e) = None

unfoldable pub digest_in : List ℕ → Option Digest
digest_in text = lower_digits_of text (decode_sized text 32)

abbrev pub digest_from : Reader Digest
digest_from d = option_and_then digest_in (as_str d)
