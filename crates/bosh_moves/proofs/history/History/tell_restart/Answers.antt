use Rattle.std.proofs.Common.{◌∙◌, ap, Some, sym}
use Rattle.bosh_moves.proofs.TellLemmas.{of_by, stop_or_not, tells_self}
use Rattle.bosh_moves.proofs.history.History.tell_restart.Goals as goal

pub tell_stop-requires-clause-of : goal.tell_stop-requires-clause-of
tell_stop-requires-clause-of c =
    of_by c.args.self.now c.args.entries.now (Some c.in-Some.kept)
    (sym (ap (λ h. h.restart) c.self.view_is) ∙ c.in-Some.is) c.requires

pub returns-in-Some-clause-tells : goal.returns-in-Some-clause-tells
returns-in-Some-clause-tells c = (stop_or_not c.tell_stop.result c.args.self.now c.tell_stop.new.self c.args.entries.now
    c.args.effects.now c.in-Some.kept (sym (ap (λ h. h.restart) c.self.view_is) ∙ c.in-Some.is) c.requires
    c.tell_stop.ensures.ok c.tell_stop.ensures.refused).0

pub returns-in-Some-clause-told : goal.returns-in-Some-clause-told
returns-in-Some-clause-told c = (stop_or_not c.tell_stop.result c.args.self.now c.tell_stop.new.self c.args.entries.now
    c.args.effects.now c.in-Some.kept (sym (ap (λ h. h.restart) c.self.view_is) ∙ c.in-Some.is) c.requires
    c.tell_stop.ensures.ok c.tell_stop.ensures.refused).1

pub returns-in-None-clause-tells : goal.returns-in-None-clause-tells
returns-in-None-clause-tells c = tells_self c.args.self.now c.args.entries.now c.args.effects.now c.requires
