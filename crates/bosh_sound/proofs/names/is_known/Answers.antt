use Rattle.std.proofs.Common.{sym, ◌∙◌}
use Rattle.bosh_sound.proofs.OrderLemmas.{known, unknown}
use Rattle.bosh_sound.specs.Places.{texts_of}
use Rattle.bosh_sound.proofs.names.is_known.Goals as goal

pub returns-clause-yes : goal.returns-clause-yes
returns-clause-yes c = λ yes.
    known (texts_of c.args.names.now) c.args.name.now c.place_of.result (sym c.is_some.ensures ∙ yes)
    c.place_of.ensures.found

pub returns-clause-no : goal.returns-clause-no
returns-clause-no c = λ no.
    unknown (texts_of c.args.names.now) c.args.name.now c.place_of.result (sym c.is_some.ensures ∙ no)
    c.place_of.ensures.missing
