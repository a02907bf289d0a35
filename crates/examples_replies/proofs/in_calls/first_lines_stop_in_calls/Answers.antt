use Rattle.std.proofs.Common.{[], ◌∷◌, arith, inr, refl}
use Rattle.bosh_lines.specs.declared.word.When.TheVariants.{After, Before}
use Rattle.examples_replies.proofs.InCalls.{first_asks, in_first}
use Rattle.examples_replies.proofs.Lines.{neither_asks, two_ask}
use Rattle.examples_replies.specs.InCalls.{stops}
use Rattle.examples_replies.proofs.in_calls.first_lines_stop_in_calls.Goals as goal

pub returns-clause-first : goal.returns-clause-first
returns-clause-first c = inr (record {
  number = 1;
  call = _;
  is_open = refl;
  not_yet = refl;
  so = record {
    before = [];
    line = _;
    behind = stops After ∷ [];
    are = refl;
    is_one = refl;
    is_first = refl;
    rest = ((refl, refl), refl);
  };
})

pub returns-clause-not_second : goal.returns-clause-not_second
returns-clause-not_second c now caused =
    neither_asks (two_ask (stops Before) (stops After) refl refl)
    (λ halted.
    let found = first_asks (stops Before) (stops After) refl (in_first halted)
    in grind (arith, found.0.1))
    caused

pub returns-clause-other_order : goal.returns-clause-other_order
returns-clause-other_order c = inr (record {
  number = 1;
  call = _;
  is_open = refl;
  not_yet = refl;
  so = record {
    before = [];
    line = _;
    behind = stops Before ∷ [];
    are = refl;
    is_one = refl;
    is_first = refl;
    rest = ((refl, refl), refl);
  };
})
