use Rattle.std.proofs.Common.{◌≡◌, [], ◌∷◌}
use Rattle.std.specs.Vec.Iter.{into_iter_items}
use Rattle.bosh_yaml.specs.declared.flow.Nest.TheVariants.{BeforeForm}
use Rattle.bosh_yaml.specs.Flow.{form}
use Rattle.bosh_yaml.specs.Result.{with_front}
use Rattle.bosh_yaml.proofs.flow.take_signs.Given as goal

-- the events so far, before those of the signs that are left
abbrev pub invariant-loop-sign : goal.invariant-loop-sign
invariant-loop-sign l =
    with_front l.events.items (form l.line l.nests.items (into_iter_items l.sign-iterator)) ≡ with_front l.initial.events.items (form l.line (BeforeForm ∷ []) l.fn.signs.items)
