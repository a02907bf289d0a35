use Rattle.std.proofs.Common.{◌∙◌, Ok, rules, tests}
use Rattle.std.proofs.lemmas.Iterator.{items_from_collect, YieldsList-from_slice}
use Rattle.std.proofs.lemmas.Iterator.Consumers.{YieldsList-from_filter_map}
use Rattle.bosh_moves.specs.Found.{call_of}
use Rattle.bosh_moves.proofs.found.took.Goals as goal

pub returns : goal.returns
returns c = record {
  calls =
      c.from.ensures
      ∙ items_from_collect {E = Unit {0}} (Ok c.in_ok-calls.calls) c.in_ok-calls.ensures.ran
      (YieldsList-from_filter_map _ call_of (YieldsList-from_slice c.args.effects.now cc) c.filter_map.ensures.closure
      (λ x r q k. search (rules, tests)));
}
