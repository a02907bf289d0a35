use Rattle.std.proofs.Common.{◌≡◌, ◌<◌, ◌^◌, take}
use Rattle.std.specs.Str.Parse.{digits_value}
use Rattle.bosh_base.proofs.version.number_value.Given as goal

abbrev pub invariant-loop-byte : goal.invariant-loop-byte
invariant-loop-byte l = record {
  read : l.value ≡ digits_value 10 (take l.byte-index l.text);
  bound : l.value < 10 ^ l.byte-index;
}
