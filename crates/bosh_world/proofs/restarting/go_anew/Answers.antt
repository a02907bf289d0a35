use Rattle.std.proofs.Common.{◌∙◌}
use Rattle.bosh_moves.proofs.SilentLemmas.{tells_silent}
use Rattle.bosh_world.proofs.RestartLemmas.{anew, anew_silent, goes_anew}
use Rattle.bosh_world.specs.Anew.{halt_after}
use Rattle.bosh_world.proofs.restarting.go_anew.Goals as goal

pub tell-requires : goal.tell-requires
tell-requires c = (anew c.restart-restarted.result c.args.history.now c.restart-restarted.new.self c.args.entries.now
    c.args.effects.now c.args.kept c.args.halt c.requires.halted c.requires.told c.requires.there
    c.restart-restarted.ensures.ok c.restart-restarted.ensures.refused).is_of

pub returns-in-Ok-clause-anew : goal.returns-in-Ok-clause-anew
returns-in-Ok-clause-anew c =
    goes_anew c.args.history.now c.restart-restarted.new.self c.tell.new.self c.args.entries.now c.args.effects.now
    c.args.kept (halt_after c.restart-restarted.result c.args.halt)
    (anew c.restart-restarted.result c.args.history.now c.restart-restarted.new.self c.args.entries.now
    c.args.effects.now c.args.kept c.args.halt c.requires.halted c.requires.told c.requires.there
    c.restart-restarted.ensures.ok c.restart-restarted.ensures.refused)
    c.tell.ensures.tells

pub returns-in-Err-clause-anew : goal.returns-in-Err-clause-anew
returns-in-Err-clause-anew c =
    goes_anew c.args.history.now c.restart-restarted.new.self c.tell.new.self c.args.entries.now c.args.effects.now
    c.args.kept (halt_after c.restart-restarted.result c.args.halt)
    (anew c.restart-restarted.result c.args.history.now c.restart-restarted.new.self c.args.entries.now
    c.args.effects.now c.args.kept c.args.halt c.requires.halted c.requires.told c.requires.there
    c.restart-restarted.ensures.ok c.restart-restarted.ensures.refused)
    c.tell.ensures.tells

pub returns-in-Ok-clause-silent : goal.returns-in-Ok-clause-silent
returns-in-Ok-clause-silent c =
    tells_silent c.restart-restarted.new.self c.tell.new.self c.args.entries.now c.args.effects.now c.tell.ensures.tells
    ∙ anew_silent c.restart-restarted.result c.args.history.now c.restart-restarted.new.self c.args.entries.now
    c.args.effects.now c.args.kept c.args.halt c.restart-restarted.ensures.ok c.restart-restarted.ensures.refused

pub returns-in-Err-clause-silent : goal.returns-in-Err-clause-silent
returns-in-Err-clause-silent c =
    tells_silent c.restart-restarted.new.self c.tell.new.self c.args.entries.now c.args.effects.now c.tell.ensures.tells
    ∙ anew_silent c.restart-restarted.result c.args.history.now c.restart-restarted.new.self c.args.entries.now
    c.args.effects.now c.args.kept c.args.halt c.restart-restarted.ensures.ok c.restart-restarted.ensures.refused
