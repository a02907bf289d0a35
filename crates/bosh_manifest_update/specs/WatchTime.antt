-- How long an update is watched (bosh.io, "Deployment manifest": `canary_watch_time` and `update_watch_time`).
use Rattle.std.specs.Prelude.{ℕ, Bool, false, ◌+◌, ◌==◌, ◌&&◌, nat_le, List, Option, Some, None, Ok, Err, length, position, take, drop, if◌then◌else◌}
use Rattle.std.specs.Char.{is_ascii_digit}
use Rattle.std.specs.List.{list_all}
use Rattle.std.specs.Str.Parse.{digits_value}
use Rattle.bosh_yaml.specs.Tree.{integer, text}
use Rattle.bosh_fields.specs.Kind.{Kind}
use Rattle.bosh_fields.specs.declared.fault.FieldFault.TheVariants.{WrongKind, Malformed}
use Rattle.bosh_manifest_update.specs.declared.watch_time.WatchTime.{WatchTime}
use Rattle.bosh_manifest_update.specs.declared.watch_time.WatchTime.TheVariants.{Fixed, Between}

-- digits, one at least
abbrev pub is_decimal : List ℕ → Bool
is_decimal s = nat_le 1 (length s) && list_all is_ascii_digit s

-- two decimals, the first no greater than the second
abbrev pub are_in_order : List ℕ → List ℕ → Bool
are_in_order from to =
    is_decimal from && (is_decimal to && nat_le (digits_value 10 from) (digits_value 10 to))

-- they stand on both sides of a dash
abbrev pub is_between : List ℕ → Option ℕ → Bool
is_between s None = false
is_between s (Some dash) = are_in_order (take dash s) (drop (dash + 1) s)

-- an integer, or a text `a-b`
abbrev pub a_watch_time : Kind WatchTime
a_watch_time key (integer n) = Ok Fixed
a_watch_time key (text s) =
    if is_between s (position (λ byte. byte == 45) s) then Ok Between else Err (Malformed key)
a_watch_time key t = Err (WrongKind key)
