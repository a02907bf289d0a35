use Rattle.std.proofs.Common.{arith, inl, inr, refl}
use Rattle.examples_replies.proofs.InCalls.{in_first}
use Rattle.examples_replies.proofs.Lines.{neither_asks, one_asks}
use Rattle.examples_replies.proofs.in_calls.stores_fail_in_calls.Goals as goal

pub returns-clause-kept : goal.returns-clause-kept
returns-clause-kept c = (
  omega arith,
  inr (record {
    number = 1;
    call = _;
    is_open = refl;
    not_yet = refl;
    so = inl (refl, refl, ((refl, inr refl), refl));
  }),
)

pub returns-clause-lost : goal.returns-clause-lost
returns-clause-lost c = (
  omega arith,
  inr (record {
    number = 1;
    call = _;
    is_open = refl;
    not_yet = refl;
    so = inl (refl, refl, ((refl, inl refl), refl));
  }),
)

pub returns-clause-no_effect : goal.returns-clause-no_effect
returns-clause-no_effect c now caused =
    neither_asks (λ none. grind (arith, none.0))
    (λ halted.
    neither_asks (λ failed. grind (arith, failed.1)) (λ asked. grind (arith, one_asks _ asked)) (in_first halted))
    caused.1

pub returns-clause-not_failed : goal.returns-clause-not_failed
returns-clause-not_failed c now caused = omega (arith, caused.0)
