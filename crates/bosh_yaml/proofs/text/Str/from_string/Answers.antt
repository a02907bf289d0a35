use Rattle.bosh_yaml.proofs.TextLemmas.{utf8_of_string}
use Rattle.bosh_yaml.proofs.text.Str.from_string.Goals as goal

-- a string is UTF-8
pub invariant_of-result : goal.invariant_of-result
invariant_of-result c = rw c.into_bytes.ensures.value (utf8_of_string _ c.args.text.ok)
