use Rattle.std.proofs.Common.{arith}
use Rattle.bosh_ip.proofs.NetworkLemmas.{BitsBytes-spelled, SpellsBits-one, SpellsBits-two}
use Rattle.bosh_ip.proofs.network.parse_bits.Goals as goal

pub returns-in-len1 : goal.returns-in-len1
returns-in-len1 c = SpellsBits-one _ _ (omega arith) c.parse_digit.ensures

pub returns-in-len2 : goal.returns-in-len2
returns-in-len2 c = SpellsBits-two _ _ (omega arith) c.parse_two_digits.ensures

pub returns-in_default : goal.returns-in_default
returns-in_default c = λ n h. let b = BitsBytes-spelled c.args.text.now n h in grind arith

pub returns-in_default-2 : goal.returns-in_default-2
returns-in_default-2 c = λ n h. let b = BitsBytes-spelled c.args.text.now n h in grind arith
