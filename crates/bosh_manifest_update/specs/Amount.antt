-- Numbers of instances, whole or as shares of a group (bosh.io, "Deployment manifest": `canaries` and `max_in_flight`).
use Rattle.std.specs.Prelude.{ℕ, ℤ, pos, negsuc, ◌+◌, ◌-◌, ◌*◌, ◌^◌, ◌==◌, ◌&&◌, nat_le, nat_lt, List, [], ◌∷◌, Option, Some, None, Result, Ok, Err, codes, if◌then◌else◌}
use Rattle.std.specs.Str.{bytes_eq}
use Rattle.bosh_base.specs.declared.count.Count.{Count}
use Rattle.bosh_base.specs.declared.count.Count.TheVariants.{Whole, Percent}
use Rattle.bosh_yaml.specs.Tree.{integer, text}
use Rattle.bosh_fields.specs.Kind.{Kind}
use Rattle.bosh_fields.specs.declared.fault.FieldFault.{FieldFault}
use Rattle.bosh_fields.specs.declared.fault.FieldFault.TheVariants.{WrongKind, Malformed, Limit}

-- the number that a digit stands for, if it is no less than the least
abbrev pub digit : ℕ → ℕ → Option ℕ
digit least byte = if nat_le (48 + least) byte && nat_le byte 57 then Some (byte - 48) else None

abbrev pub both_digits : Option ℕ → Option ℕ → Option ℕ
both_digits (Some tens) (Some ones) = Some (10 * tens + ones)
both_digits tens ones = None

-- the number of two digits, of which the first is not 0
abbrev pub two_digits : ℕ → ℕ → Option ℕ
two_digits tens ones = both_digits (digit 1 tens) (digit 0 ones)

-- the N of `N%`: 0 to 100, without leading zeros
abbrev pub share_in : List ℕ → Option ℕ
share_in (ones ∷ sign ∷ []) = if sign == 37 then digit 0 ones else None
share_in (tens ∷ ones ∷ sign ∷ []) = if sign == 37 then two_digits tens ones else None
share_in s = if bytes_eq s (codes "100%") then Some 100 else None

abbrev pub share : List ℕ → Option ℕ → Result Count FieldFault
share key None = Err (Malformed key)
share key (Some percent) = Ok (Percent percent)

-- a number that is no less than the least; one beyond 32 bits is past the limit
abbrev pub whole : ℕ → List ℕ → ℤ → Result Count FieldFault
whole least key (pos n) =
    if nat_lt n least then Err (Malformed key)
    else if nat_lt n (2 ^ 32) then Ok (Whole n) else Err (Limit key)
whole least key (negsuc n) = Err (Malformed key)

abbrev pub an_amount : ℕ → Kind Count
an_amount least key (integer n) = whole least key n
an_amount least key (text s) = share key (share_in s)
an_amount least key t = Err (WrongKind key)
