use Rattle.std.proofs.lemmas.Result.{err_from_is_err_and}
use Rattle.bosh_ip.proofs.NetworkLemmas.{SpellsCidr-parts, SpellsCidr-whole}
use Rattle.bosh_ip.proofs.network.parse_cidr.Goals as goal

pub returns-in_err-first-clause-refused : goal.returns-in_err-first-clause-refused
returns-in_err-first-clause-refused c =
    let p = err_from_is_err_and c.from_residual.result c.from_residual.ensures.1 in
    rw (p.1, p.2, c.in_err-first.ensures.refused.is_syntax) λ net h.
    c.in_err-first.ensures.refused.unspelled net.first (SpellsCidr-parts _ _ _ net c.in-Some.ensures.0 c.in-Some.ensures.1 h).0

pub returns-in_default-parse_bits-clause-refused : goal.returns-in_default-parse_bits-clause-refused
returns-in_default-parse_bits-clause-refused c = λ net h.
    c.in_default-parse_bits.ensures net.bits (SpellsCidr-parts _ _ _ net c.in-Some.ensures.0 c.in-Some.ensures.1 h).1

pub returns-then-from-network_size-ne0-clause-refused : goal.returns-then-from-network_size-ne0-clause-refused
returns-then-from-network_size-ne0-clause-refused c = (
  record { first = c.in_ok-first.first; bits = c.in-Some-parse_bits.bits },
  SpellsCidr-whole _ _ _ _ _ c.in-Some.ensures.0 c.in_ok-first.ensures.read c.in-Some-parse_bits.ensures,
  λ e. c.if-from-network_size-ne0.true (rw (c.network_size.ensures, c.from.ensures) e),
)
