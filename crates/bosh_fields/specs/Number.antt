-- Numbers within bounds.
use Rattle.std.specs.Prelude.{ℕ, ℤ, pos, negsuc, List, Result, Ok, Err, ◌&&◌, nat_le, if◌then◌else◌}
use Rattle.bosh_fields.specs.Answer.{◌>>=◌}
use Rattle.bosh_fields.specs.Kind.{Kind, an_integer}
use Rattle.bosh_fields.specs.declared.fault.FieldFault.{FieldFault}
use Rattle.bosh_fields.specs.declared.fault.FieldFault.TheVariants.{Limit}

-- the number that an integer is, where it is no less than the least and no greater than the most
abbrev pub within : ℕ → ℕ → List ℕ → ℤ → Result ℕ FieldFault
within least most key (pos n) = if nat_le least n && nat_le n most then Ok n else Err (Limit key)
within least most key (negsuc n) = Err (Limit key)

abbrev pub a_number : ℕ → ℕ → Kind ℕ
a_number least most key t = do
  n ← an_integer key t
  within least most key n
