use Rattle.std.proofs.Common.{[], ◌∷◌, arith, inl, inr, refl}
use Rattle.examples_replies.proofs.InCalls.{no_call}
use Rattle.examples_replies.proofs.Lines.{neither_asks, none_asks, one_asks, one_rests, second_asks}
use Rattle.examples_replies.specs.Caused.{fail_append, stop_append, waiting}
use Rattle.examples_replies.proofs.caused.halts_have_causes.Goals as goal

pub returns-clause-store_failed : goal.returns-clause-store_failed
returns-clause-store_failed c = inl (omega arith, refl, refl)

pub returns-clause-store_asked : goal.returns-clause-store_asked
returns-clause-store_asked c = inr (record {
  before = [];
  line = _;
  behind = [];
  are = refl;
  is_one = refl;
  is_first = refl;
  rest = inl refl;
})

pub returns-clause-store_unasked : goal.returns-clause-store_unasked
returns-clause-store_unasked c now caused = neither_asks (λ failed. omega (arith, failed.0)) none_asks caused

pub returns-clause-cloud_unasked : goal.returns-clause-cloud_unasked
returns-clause-cloud_unasked c now caused = omega (arith, caused.0)

pub returns-clause-stop_asked : goal.returns-clause-stop_asked
returns-clause-stop_asked c = inl (record {
  before = [];
  line = _;
  behind = [];
  are = refl;
  is_one = refl;
  is_first = refl;
  rest = inl refl;
})

pub returns-clause-stop_unasked : goal.returns-clause-stop_unasked
returns-clause-stop_unasked c now caused = neither_asks none_asks no_call caused

pub returns-clause-other_asked : goal.returns-clause-other_asked
returns-clause-other_asked c now caused = neither_asks (λ asked. grind (arith, one_asks _ asked)) no_call caused

pub returns-clause-too_soon : goal.returns-clause-too_soon
returns-clause-too_soon c now caused = neither_asks (λ asked. grind (arith, one_asks _ asked)) no_call caused

pub returns-clause-no_call : goal.returns-clause-no_call
returns-clause-no_call c now caused = neither_asks (λ asked. grind (arith, one_asks _ asked)) no_call caused

pub returns-clause-first_decides : goal.returns-clause-first_decides
returns-clause-first_decides c = inr (record {
  before = [];
  line = _;
  behind = waiting (stop_append 1) 1 ∷ [];
  are = refl;
  is_one = refl;
  is_first = refl;
  rest = inl refl;
})

pub returns-clause-second_does_not : goal.returns-clause-second_does_not
returns-clause-second_does_not c now caused =
    neither_asks (second_asks (waiting fail_append 1) (waiting (stop_append 1) 1) refl refl) no_call caused

pub returns-clause-not_failed : goal.returns-clause-not_failed
returns-clause-not_failed c now caused =
    neither_asks (λ failed. grind (arith, failed.1)) (λ asked. grind (arith, one_asks _ asked)) caused

-- what is left of a line that loses an append is that its entry is not there
pub returns-clause-not_left : goal.returns-clause-not_left
returns-clause-not_left c now caused =
    neither_asks (λ failed. grind (arith, failed.1))
    (λ asked.
    neither_asks (λ found. grind (arith, found.0.0)) (λ beside. grind (arith, beside.1))
    (one_rests (waiting fail_append 1) asked))
    caused
