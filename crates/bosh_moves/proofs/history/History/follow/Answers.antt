use Rattle.bosh_moves.proofs.TellLemmas.{halt_comes, then_told}
use Rattle.bosh_moves.proofs.history.History.follow.Goals as goal

pub tell-requires : goal.tell-requires
tell-requires c = (halt_comes c.args.self.now c.stand.new.self c.args.entries.now c.args.effects.now c.args.halt
    c.requires.of c.requires.running c.stand.ensures).is_of

pub returns-in-Ok-clause-follows : goal.returns-in-Ok-clause-follows
returns-in-Ok-clause-follows c =
    then_told c.args.self.now c.stand.new.self c.tell.new.self c.args.entries.now c.args.effects.now c.args.halt
    (halt_comes c.args.self.now c.stand.new.self c.args.entries.now c.args.effects.now c.args.halt c.requires.of
    c.requires.running c.stand.ensures)
    c.tell.ensures.tells

pub returns-in-Err-clause-follows : goal.returns-in-Err-clause-follows
returns-in-Err-clause-follows c =
    then_told c.args.self.now c.stand.new.self c.tell.new.self c.args.entries.now c.args.effects.now c.args.halt
    (halt_comes c.args.self.now c.stand.new.self c.args.entries.now c.args.effects.now c.args.halt c.requires.of
    c.requires.running c.stand.ensures)
    c.tell.ensures.tells
