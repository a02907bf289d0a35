use Rattle.std.proofs.Common.{refl, arith}
use Rattle.std.proofs.lemmas.Result.{err_from_is_err_and}
use Rattle.bosh_ip.proofs.RangeLemmas.{IsCut, SpellsSpan-parts, SpellsSpan-whole}
use Rattle.bosh_ip.proofs.range.parse_range.Goals as goal

pub returns-in_err-first-clause-refused : goal.returns-in_err-first-clause-refused
returns-in_err-first-clause-refused c =
    let p = err_from_is_err_and c.from_residual-in_err-first.result c.from_residual-in_err-first.ensures.1 in
    let end : IsCut _ _ _ c.trim_end.result.now _ = record { split = c.in-Some.ensures.0; lacks = c.in-Some.ensures.1; first_is = c.trim_end.ensures; last_is = refl } in
    rw (p.1, p.2, c.in_err-first.ensures.refused.is_syntax) (λ span h. c.in_err-first.ensures.refused.unspelled span.first (SpellsSpan-parts _ _ _ _ _ span end h).0)

pub returns-in_err-last-clause-refused : goal.returns-in_err-last-clause-refused
returns-in_err-last-clause-refused c =
    let p = err_from_is_err_and c.from_residual-in_err-last.result c.from_residual-in_err-last.ensures.1 in
    rw (p.1, p.2, c.in_err-last.ensures.refused.is_syntax) (λ span h. c.in_err-last.ensures.refused.unspelled span.last
    (SpellsSpan-parts _ _ _ c.trim_end.result.now _ span (record { split = c.in-Some.ensures.0; lacks = c.in-Some.ensures.1; first_is = c.trim_end.ensures; last_is = c.trim_start.ensures }) h).1)

pub returns-then-last-first-clause-refused : goal.returns-then-last-first-clause-refused
returns-then-last-first-clause-refused c = (
  record { first = c.in_ok-first.first; last = c.in_ok-last.last },
  SpellsSpan-whole _ _ _ c.trim_end.result.now _ _ _ (record { split = c.in-Some.ensures.0; lacks = c.in-Some.ensures.1; first_is = c.trim_end.ensures; last_is = c.trim_start.ensures })
      c.in_ok-first.ensures.read c.in_ok-last.ensures.read,
  c.if-last-first.true,
)

pub returns-clause-read : goal.returns-clause-read
returns-clause-read c = (
  SpellsSpan-whole _ _ _ c.trim_end.result.now _ _ _ (record { split = c.in-Some.ensures.0; lacks = c.in-Some.ensures.1; first_is = c.trim_end.ensures; last_is = c.trim_start.ensures })
      c.in_ok-first.ensures.read c.in_ok-last.ensures.read,
  omega arith,
)
