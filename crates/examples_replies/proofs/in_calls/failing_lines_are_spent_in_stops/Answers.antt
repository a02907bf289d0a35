use Rattle.std.proofs.Common.{[], ◌∷◌, arith, inr, refl}
use Rattle.bosh_lines.specs.declared.word.When.TheVariants.{After, Before}
use Rattle.examples_replies.proofs.InCalls.{in_first, other_asks}
use Rattle.examples_replies.proofs.Lines.{neither_asks, none_asks, two_ask}
use Rattle.examples_replies.specs.InCalls.{fails, stops}
use Rattle.examples_replies.proofs.in_calls.failing_lines_are_spent_in_stops.Goals as goal

pub returns-clause-spent : goal.returns-clause-spent
returns-clause-spent c = inr (record {
  number = 1;
  call = _;
  is_open = refl;
  not_yet = refl;
  so = record {
    before = fails ∷ [];
    line = _;
    behind = [];
    are = refl;
    is_one = refl;
    is_first = refl;
    rest = ((refl, refl), refl);
  };
})

pub returns-clause-taken_away : goal.returns-clause-taken_away
returns-clause-taken_away c now caused =
    neither_asks (two_ask fails (stops After) refl refl)
    (λ halted.
    let found = other_asks fails (stops After) refl (in_first halted)
    in grind (arith, found.0.1))
    caused

pub returns-clause-not_again : goal.returns-clause-not_again
returns-clause-not_again c now caused =
    neither_asks (two_ask fails (stops After) refl refl)
    (λ halted.
    let found = other_asks fails (stops After) refl (in_first halted)
    in none_asks found.1.1.1)
    caused

pub returns-clause-waits_on : goal.returns-clause-waits_on
returns-clause-waits_on c = inr (record {
  number = 1;
  call = _;
  is_open = refl;
  not_yet = refl;
  so = record {
    before = fails ∷ [];
    line = _;
    behind = [];
    are = refl;
    is_one = refl;
    is_first = refl;
    rest = ((refl, refl), refl);
  };
})

pub returns-clause-then_fails : goal.returns-clause-then_fails
returns-clause-then_fails c = inr (record {
  number = 1;
  call = _;
  is_open = refl;
  not_yet = refl;
  so = record {
    before = fails ∷ [];
    line = _;
    behind = [];
    are = refl;
    is_one = refl;
    is_first = refl;
    rest = (
      (refl, refl),
      (
        refl,
        (
          refl,
          record {
            before = [];
            line = _;
            behind = [];
            are = refl;
            is_one = refl;
            is_first = refl;
            rest = (refl, refl);
          },
        ),
      ),
    );
  };
})

pub returns-clause-not_passed : goal.returns-clause-not_passed
returns-clause-not_passed c now caused =
    neither_asks (two_ask fails (stops Before) refl refl)
    (λ halted.
    let found = other_asks fails (stops Before) refl (in_first halted)
    in grind (arith, found.1.1.1.0))
    caused
