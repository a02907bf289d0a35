use Rattle.std.proofs.Common.{[], ◌≡◌, arith, inr, refl}
use Rattle.std.specs.Prelude.{false, true}
use Rattle.bosh_base.specs.declared.method.Method.TheVariants.{Start}
use Rattle.examples_replies.proofs.Lines.{none_asks, one_asks, one_rests}
use Rattle.examples_replies.specs.Caused.{fail_call, waiting}
use Rattle.examples_replies.proofs.caused.calls_are_counted.Goals as goal

pub returns-clause-failed : goal.returns-clause-failed
returns-clause-failed c built = (
  refl,
  record {
    before = [];
    line = _;
    behind = [];
    are = refl;
    is_one = refl;
    is_first = refl;
    rest = (refl, refl);
  },
)

pub returns-clause-with_effect : goal.returns-clause-with_effect
returns-clause-with_effect c built now caused =
    let rest = one_rests (waiting (fail_call Start 1) 1) caused.1 in
    let lost : true ≡ false = rest.0
    in grind (arith, lost)

pub returns-clause-unasked : goal.returns-clause-unasked
returns-clause-unasked c built now caused = none_asks caused.1

pub returns-clause-other_method : goal.returns-clause-other_method
returns-clause-other_method c built now caused = grind (arith, one_asks _ caused.1)

pub returns-clause-too_soon : goal.returns-clause-too_soon
returns-clause-too_soon c built now caused = grind (arith, one_asks _ caused.1)

pub returns-clause-not_failed : goal.returns-clause-not_failed
returns-clause-not_failed c built now caused = grind (arith, caused.1.0)

pub returns-clause-later : goal.returns-clause-later
returns-clause-later c built = (refl, (refl, refl))

pub returns-clause-stopped : goal.returns-clause-stopped
returns-clause-stopped c built = inr (record {
  number = 6;
  call = _;
  is_open = refl;
  not_yet = refl;
  so = record {
    before = [];
    line = _;
    behind = [];
    are = refl;
    is_one = refl;
    is_first = refl;
    rest = refl;
  };
})

pub returns-clause-not_stopped : goal.returns-clause-not_stopped
returns-clause-not_stopped c built now caused = grind (arith, caused.0)
