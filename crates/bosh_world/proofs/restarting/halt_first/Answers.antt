use Rattle.bosh_moves.proofs.SilentLemmas.{tells_silent}
use Rattle.bosh_world.proofs.RestartLemmas.{at_halt, halts_first, halts_silent, of_halted, or_halts}
use Rattle.bosh_world.proofs.restarting.halt_first.Goals as goal

pub returns-in_err-tell-clause-silent : goal.returns-in_err-tell-clause-silent
returns-in_err-tell-clause-silent c =
    tells_silent c.args.history.now c.tell.new.self c.args.entries.now c.args.effects.now c.tell.ensures.tells

pub tell-requires-2 : goal.tell-requires-2
tell-requires-2 c =
    of_halted c.tell.new.self c.halt.new.self c.args.entries.now c.tell.ensures.tells.is_of
    (record { running = c.halt.ensures.running; halted = c.halt.ensures.halted })

pub returns-clause-ok : goal.returns-clause-ok
returns-clause-ok c =
    at_halt c.tell-2.result c.args.history.now c.tell-2.new.self c.args.entries.now c.args.effects.now
    (halts_first c.args.history.now c.tell.new.self c.halt.new.self c.tell-2.new.self c.args.entries.now
    c.args.effects.now c.tell.ensures.tells
    (record { running = c.halt.ensures.running; halted = c.halt.ensures.halted })
    c.tell-2.ensures.tells)
    c.tell-2.ensures.told

pub returns-clause-refused : goal.returns-clause-refused
returns-clause-refused c =
    or_halts c.tell-2.result c.args.history.now c.tell-2.new.self c.args.entries.now c.args.effects.now
    (halts_first c.args.history.now c.tell.new.self c.halt.new.self c.tell-2.new.self c.args.entries.now
    c.args.effects.now c.tell.ensures.tells
    (record { running = c.halt.ensures.running; halted = c.halt.ensures.halted })
    c.tell-2.ensures.tells)

pub returns-clause-silent : goal.returns-clause-silent
returns-clause-silent c =
    halts_silent c.args.history.now c.tell.new.self c.halt.new.self c.tell-2.new.self c.args.entries.now
    c.args.effects.now c.tell.ensures.tells
    (record { running = c.halt.ensures.running; halted = c.halt.ensures.halted })
    c.tell-2.ensures.tells
