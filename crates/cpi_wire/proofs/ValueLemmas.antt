-- Numbers, texts, names, digests and truth values.
use Rattle.std.proofs.Common.{◌≡◌, ◌<◌, ◌^◌, ℕ, zero, suc, Bool, true, ◌&&◌, ◌==◌, ltb, List, [], ◌∷◌, length, Some, Result, Ok, Err, refl, sym, ap, ◌∙◌, arith}
use Rattle.std.proofs.lemmas.Bool.{and_from, and_parts, eq-eqb, eqb-true, lt-ltb, ltb-true, or_left}
use Rattle.std.proofs.lemmas.Bool.Decides.{nat_tests}
use Rattle.std.proofs.lemmas.Slice.Eq.{bytes_eq-Decides}
use Rattle.std.proofs.lemmas.Str.{chars-encodes, is_utf8-from_IsUtf8, IsUtf8-from_ascii}
use Rattle.std.specs.Char.{is_ascii_alphanumeric}
use Rattle.std.specs.List.{list_all}
use Rattle.std.specs.Str.{all_scalars, bytes_eq, chars, encode_utf8_all, is_utf8, IsAscii}
use Rattle.bosh_base.specs.Name.{is_name, is_name_byte}
use Rattle.bosh_base.specs.declared.addr.Addr.{Addr}
use Rattle.bosh_base.specs.declared.digest.Digest.{Digest}
use Rattle.hex.specs.Hex.{IsBytes, decode_sized, encode_lower, lower_digits}
use Rattle.hex.specs.declared.error.FromHexError.{FromHexError}
use Rattle.hex.proofs.HexLemmas.{IsAscii-encode_with, decode_of-ok, decode_sized-encode_lower, decode_sized-ok, decode_sized-twice}
use Rattle.serde_json.specs.Data.{Data, Num, null, boolean, number, string, array, object, unsigned, negative, float}
use Rattle.cpi_wire.specs.Choice.{flag_data, flag_from, is_flag}
use Rattle.cpi_wire.specs.Number.{addr_data, addr_from, is_addr, is_number, is_small, number_data, number_from, small_from}
use Rattle.cpi_wire.specs.Text.{bytes_in, digest_data, digest_from, digest_in, is_byte, is_digest, is_text, lower_digits_of, name_from, text_data, text_from}
use Rattle.cpi_wire.proofs.CodingLemmas.{IsCoding, chosen, made_law, only_law, some_is}

-- ---- numbers

num_takes : (n : Num) (a : ℕ) → number_from (number n) ≡ Some a → (number n ≡ number_data a) × (is_number a ≡ true)
num_takes (unsigned n) a e = let parts = chosen (is_number n) n a e in (ap number_data parts.1, ap is_number (sym parts.1) ∙ parts.0)
num_takes (negative z) a e = absurd cc
num_takes (float x) a e = absurd cc

number_takes : (d : Data) (a : ℕ) → number_from d ≡ Some a → (d ≡ number_data a) × (is_number a ≡ true)
number_takes null a e = absurd cc
number_takes (boolean b) a e = absurd cc
number_takes (number n) a e = num_takes n a e
number_takes (string s) a e = absurd cc
number_takes (array ds) a e = absurd cc
number_takes (object ms) a e = absurd cc

pub number_law : (levels : ℕ) → IsCoding levels number_data is_number number_from
number_law levels = record { takes = number_takes; again = λ a h. rw h refl; plain = λ a h. ltb-true a (2 ^ 64) h }

pub small_is_number : (n : ℕ) → is_small n ≡ true → is_number n ≡ true
small_is_number n h = let below = ltb-true n (2 ^ 32) h in lt-ltb n (2 ^ 64) (omega arith)

pub small_law : (levels : ℕ) → IsCoding levels number_data is_small small_from
small_law levels = only_law is_small small_is_number (number_law levels)

pub addr_law : (levels : ℕ) → IsCoding levels addr_data is_addr addr_from
addr_law levels = made_law (λ n. record { 0 = n }) (λ (a : Addr). a.0) (λ n. refl) (λ a. refl) (small_law levels)

-- ---- truth values

flag_takes : (d : Data) (a : Bool) → flag_from d ≡ Some a → (d ≡ flag_data a) × (is_flag a ≡ true)
flag_takes null a e = absurd cc
flag_takes (boolean b) a e = (ap boolean (some_is b a e), refl)
flag_takes (number n) a e = absurd cc
flag_takes (string s) a e = absurd cc
flag_takes (array ds) a e = absurd cc
flag_takes (object ms) a e = absurd cc

pub flag_law : (levels : ℕ) → IsCoding levels flag_data is_flag flag_from
flag_law levels = record { takes = flag_takes; again = λ a h. refl; plain = λ a h. tt }

-- ---- texts

bytes_are_scalars : (bytes : List ℕ) → is_text bytes ≡ true → all_scalars bytes ≡ true
bytes_are_scalars [] h = refl
bytes_are_scalars (b ∷ bytes) h =
    let parts = and_parts (is_byte b) (is_text bytes) h in
    let below : b < 256 = ltb-true b 256 parts.0 in
    let low : ltb b 55296 ≡ true = lt-ltb b 55296 (omega arith) in
    rw low (bytes_are_scalars bytes parts.1)

bytes_taken : (s bytes : List ℕ) → bytes_in s ≡ Some bytes → (s ≡ encode_utf8_all bytes) × (is_text bytes ≡ true)
unfolding bytes_in is_utf8
bytes_taken s bytes e =
    let parts = chosen (is_utf8 s && is_text (chars s)) (chars s) bytes e in
    let both = and_parts (is_utf8 s) (is_text (chars s)) parts.0 in
    let spelled = and_parts (all_scalars (chars s)) (bytes_eq (encode_utf8_all (chars s)) s) both.0 in
    let same : encode_utf8_all (chars s) ≡ s = (bytes_eq-Decides (encode_utf8_all (chars s)) s).0 spelled.1 in
    (sym same ∙ ap encode_utf8_all parts.1, ap is_text (sym parts.1) ∙ both.1)

bytes_again : (bytes : List ℕ) → is_text bytes ≡ true → bytes_in (encode_utf8_all bytes) ≡ Some bytes
unfolding bytes_in
bytes_again bytes h =
    let scalars = bytes_are_scalars bytes h in
    let utf8 : is_utf8 (encode_utf8_all bytes) ≡ true = is_utf8-from_IsUtf8 (encode_utf8_all bytes) (bytes, (scalars, refl)) in
    let same : chars (encode_utf8_all bytes) ≡ bytes = chars-encodes bytes scalars in
    rw (utf8, same, h) refl

text_takes : (d : Data) (a : List ℕ) → text_from d ≡ Some a → (d ≡ text_data a) × (is_text a ≡ true)
text_takes null a e = absurd cc
text_takes (boolean b) a e = absurd cc
text_takes (number n) a e = absurd cc
text_takes (string s) a e = let t = bytes_taken s a e in (ap string t.0, t.1)
text_takes (array ds) a e = absurd cc
text_takes (object ms) a e = absurd cc

pub text_law : (levels : ℕ) → IsCoding levels text_data is_text text_from
text_law levels = record { takes = text_takes; again = bytes_again; plain = λ a h. (a, (bytes_are_scalars a h, refl)) }

-- ---- names

name_byte_is_byte : (c : ℕ) → is_name_byte c ≡ true → is_byte c ≡ true
name_byte_is_byte c h = lt-ltb c 256 (grind (arith, nat_tests))

name_bytes_are_bytes : (cs : List ℕ) → list_all is_name_byte cs ≡ true → is_text cs ≡ true
name_bytes_are_bytes [] h = refl
name_bytes_are_bytes (c ∷ cs) h =
    let parts = and_parts (is_name_byte c) (list_all is_name_byte cs) h in
    and_from (is_byte c) (is_text cs) (name_byte_is_byte c parts.0) (name_bytes_are_bytes cs parts.1)

pub name_bytes : (bytes : List ℕ) → is_name bytes ≡ true → list_all is_name_byte bytes ≡ true
name_bytes [] h = absurd cc
name_bytes (c ∷ cs) h =
    let outer = and_parts (ltb (length cs) 64) (is_ascii_alphanumeric c && list_all is_name_byte cs) h in
    let inner = and_parts (is_ascii_alphanumeric c) (list_all is_name_byte cs) outer.1 in
    and_from (is_name_byte c) (list_all is_name_byte cs) (or_left (is_ascii_alphanumeric c) _ inner.0) inner.1

pub name_is_text : (bytes : List ℕ) → is_name bytes ≡ true → is_text bytes ≡ true
name_is_text bytes h = name_bytes_are_bytes bytes (name_bytes bytes h)

pub name_law : (levels : ℕ) → IsCoding levels text_data is_name name_from
name_law levels = only_law is_name name_is_text (text_law levels)

-- ---- digests

each_byte : (bytes : List ℕ) → is_text bytes ≡ true → IsBytes bytes
each_byte [] h i = omega arith
each_byte (b ∷ bytes) h zero = ltb-true b 256 (and_parts (is_byte b) (is_text bytes) h).0
each_byte (b ∷ bytes) h (suc i) = each_byte bytes (and_parts (is_byte b) (is_text bytes) h).1 i

all_of : (bytes : List ℕ) → IsBytes bytes → is_text bytes ≡ true
all_of [] fits = refl
all_of (b ∷ bytes) fits = and_from (is_byte b) (is_text bytes) (lt-ltb b 256 (fits 0)) (all_of bytes (λ i. fits (suc i)))

decoded : (s bytes : List ℕ) → decode_sized s 32 ≡ Ok bytes → is_digest (record { 0 = bytes }) ≡ true
decoded s bytes h =
    let long = decode_sized-ok s 32 bytes h in
    let ok = decode_of-ok s bytes (sym (decode_sized-twice s 32 long) ∙ h) in
    let count : length bytes ≡ 32 = omega (arith, ok.2, long) in
    and_from (length bytes == 32) (is_text bytes) (eq-eqb (length bytes) 32 count) (all_of bytes ok.3)

digits_taken : (s : List ℕ) (r : Result (List ℕ) FromHexError) (d : Digest) → decode_sized s 32 ≡ r → lower_digits_of s r ≡ Some d → (s ≡ encode_lower d.0) × (is_digest d ≡ true)
digits_taken s (Ok bytes) d is e =
    let parts = chosen (bytes_eq (encode_lower bytes) s) (record { 0 = bytes }) d e in
    let same : encode_lower bytes ≡ s = (bytes_eq-Decides (encode_lower bytes) s).0 parts.0 in
    (sym same ∙ ap (λ (x : Digest). encode_lower x.0) parts.1, ap is_digest (sym parts.1) ∙ decoded s bytes is)
digits_taken s (Err x) d is e = absurd cc

digest_takes : (d : Data) (a : Digest) → digest_from d ≡ Some a → (d ≡ digest_data a) × (is_digest a ≡ true)
unfolding digest_in
digest_takes null a e = absurd cc
digest_takes (boolean b) a e = absurd cc
digest_takes (number n) a e = absurd cc
digest_takes (string s) a e = let t = digits_taken s (decode_sized s 32) a refl e in (ap string t.0, t.1)
digest_takes (array ds) a e = absurd cc
digest_takes (object ms) a e = absurd cc

digest_again : (a : Digest) → is_digest a ≡ true → digest_from (digest_data a) ≡ Some a
unfolding digest_in
digest_again a h =
    let parts = and_parts (length a.0 == 32) (is_text a.0) h in
    let read : decode_sized (encode_lower a.0) 32 ≡ Ok a.0 = decode_sized-encode_lower a.0 32 (eqb-true (length a.0) 32 parts.0) (each_byte a.0 parts.1) in
    let same : bytes_eq (encode_lower a.0) (encode_lower a.0) ≡ true = (bytes_eq-Decides (encode_lower a.0) (encode_lower a.0)).1 refl in
    ap (lower_digits_of (encode_lower a.0)) read ∙ rw same refl

-- a text all of whose bytes are ASCII
pub ascii_all : (bytes : List ℕ) → list_all (λ b. ltb b 128) bytes ≡ true → IsAscii bytes
ascii_all [] h i = omega arith
ascii_all (b ∷ bytes) h zero = ltb-true b 128 (and_parts (ltb b 128) (list_all (λ b. ltb b 128) bytes) h).0
ascii_all (b ∷ bytes) h (suc i) = ascii_all bytes (and_parts (ltb b 128) (list_all (λ b. ltb b 128) bytes) h).1 i

digits_ascii : IsAscii lower_digits
digits_ascii = ascii_all lower_digits refl

pub digest_law : (levels : ℕ) → IsCoding levels digest_data is_digest digest_from
digest_law levels = record {
  takes = digest_takes;
  again = digest_again;
  plain = λ a h. IsUtf8-from_ascii (encode_lower a.0) (IsAscii-encode_with lower_digits a.0 digits_ascii);
}
