use Rattle.std.proofs.Common.{◌≡◌, true, length, take}
use Rattle.std.specs.Str.{chars}
use Rattle.cpi_wire.specs.Text.{is_text}
use Rattle.cpi_wire.proofs.text.bytes_in.Given as goal

-- the bytes are the characters so far
abbrev pub invariant-loop-c : goal.invariant-loop-c
invariant-loop-c l = (l.bytes.items ≡ take (length l.yielded) (chars l.text)) × (is_text l.bytes.items ≡ true)
