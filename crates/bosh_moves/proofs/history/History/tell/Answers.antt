use Rattle.std.proofs.Common.{◌∙◌, ap, length}
use Rattle.bosh_moves.proofs.TellLemmas.{halt_told, notes_told, tells_freely, tells_then, told_all, within_on}
use Rattle.bosh_moves.specs.Story.{Tells}
use Rattle.bosh_moves.proofs.history.History.tell.Goals as goal

pub tell_notes-requires-clause-of : goal.tell_notes-requires-clause-of
tell_notes-requires-clause-of c =
    within_on c.tell_restart.new.self c.args.entries.now c.in_ok-tell_restart.ensures.told
    c.tell_restart.ensures.tells.is_of

pub returns-in_err-tell_notes-clause-tells : goal.returns-in_err-tell_notes-clause-tells
returns-in_err-tell_notes-clause-tells c =
    let entries = c.args.entries.now in
    let effects = c.args.effects.now in
    let restarted = c.tell_restart.new.self in
    tells_then c.args.self.now restarted c.tell_notes.new.self entries effects c.tell_restart.ensures.tells
    (notes_told restarted c.tell_notes.new.self entries effects c.in_ok-tell_restart.ensures.told
    c.tell_restart.ensures.tells.is_of c.tell_notes.ensures.notes)

pub returns-in_err-tell_halt-clause-tells : goal.returns-in_err-tell_halt-clause-tells
returns-in_err-tell_halt-clause-tells c =
    let entries = c.args.entries.now in
    let effects = c.args.effects.now in
    let restarted = c.tell_restart.new.self in
    let noted = c.tell_notes.new.self in
    let notes : Tells restarted entries effects noted =
    notes_told restarted noted entries effects c.in_ok-tell_restart.ensures.told c.tell_restart.ensures.tells.is_of
    c.tell_notes.ensures.notes in
    tells_then c.args.self.now restarted c.tell_halt.new.self entries effects c.tell_restart.ensures.tells
    (tells_then restarted noted c.tell_halt.new.self entries effects notes
    (tells_freely noted c.tell_halt.new.self entries effects notes.is_of c.in_err-tell_halt.ensures.refused))

pub returns-clause-tells : goal.returns-clause-tells
returns-clause-tells c =
    let entries = c.args.entries.now in
    let effects = c.args.effects.now in
    let restarted = c.tell_restart.new.self in
    let noted = c.tell_notes.new.self in
    let halted = c.tell_halt.new.self in
    let none = c.in_ok-tell_restart.ensures.told in
    let notes : Tells restarted entries effects noted =
    notes_told restarted noted entries effects none c.tell_restart.ensures.tells.is_of c.tell_notes.ensures.notes in
    let halts : Tells noted entries effects halted =
    halt_told noted halted entries effects (c.tell_notes.ensures.notes.same_restart ∙ none)
    c.in_ok-tell_notes.ensures.told c.in_ok-tell_halt.ensures.ok in
    tells_then c.args.self.now restarted c.reserve.new.self entries effects c.tell_restart.ensures.tells
    (tells_then restarted noted c.reserve.new.self entries effects notes
    (tells_then noted halted c.reserve.new.self entries effects halts
    (tells_freely halted c.reserve.new.self entries effects halts.is_of c.reserve.ensures.same)))

pub returns-clause-told : goal.returns-clause-told
returns-clause-told c =
    told_all c.reserve.result c.tell_halt.new.self c.reserve.new.self (length c.args.entries.now)
    (ap (λ h. h.restart) c.in_ok-tell_halt.ensures.ok ∙ c.tell_notes.ensures.notes.same_restart
    ∙ c.in_ok-tell_restart.ensures.told)
    (ap (λ h. h.halt) c.in_ok-tell_halt.ensures.ok)
    (ap (λ h. h.entries) c.in_ok-tell_halt.ensures.ok ∙ c.in_ok-tell_notes.ensures.told)
    c.reserve.ensures.same c.reserve.ensures.free
