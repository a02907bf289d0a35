use Rattle.std.proofs.Common.{◌≡◌, ◌++◌, take}
use Rattle.std.specs.Char.{encode_utf8}
use Rattle.std.specs.List.{flat_map}
use Rattle.json.specs.Print.{escape}
use Rattle.cpi_wire.proofs.write.add_all_chars.Given as goal

-- the characters so far are added
abbrev pub invariant-loop-byte : goal.invariant-loop-byte
invariant-loop-byte l = l.out.items ≡ l.fn.out.items ++ flat_map (λ b. escape (encode_utf8 b)) (take l.byte-index l.bytes)
