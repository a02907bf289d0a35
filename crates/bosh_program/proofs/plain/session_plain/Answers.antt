use Rattle.std.proofs.Common.{refl}
use Rattle.bosh_program.proofs.EndLemmas.{plain_loaded, plain_unloaded}
use Rattle.bosh_program.proofs.HeadlineLemmas.{promised}
use Rattle.bosh_program.proofs.plain.session_plain.Goals as goal

pub returns-in-Ok : goal.returns-in-Ok
returns-in-Ok g c =
    plain_loaded g.I.Source.left g.I.Source.faults g.O.Sink.written g.O.Sink.faults g.K.Keeper.bodies g.K.Keeper.faults
    g.K.Keeper.is_broken g.L.Keeper.bodies g.L.Keeper.faults c.args.input.now c.carry_out_all-status.new.source c.args.out.now
    c.carry_out_all-status.new.out c.args.store c.args.cloud c.in-Ok.site c.carry_out_all-status.new.director.site
    c.carry_out_all-status.result _ c.in-Ok.ensures.loaded c.carry_out_all-status.ensures.session
    (promised g.K.Keeper.bodies g.K.Keeper.faults g.K.Keeper.is_broken g.L.Keeper.bodies g.L.Keeper.faults c.args.store
    c.args.cloud c.in-Ok.site c.carry_out_all-status.new.director.site c.in-Ok.ensures.loaded
    c.carry_out_all-status.ensures.kept) refl refl refl

pub returns-in-Err : goal.returns-in-Err
returns-in-Err g c =
    plain_unloaded g.I.Source.left g.I.Source.faults g.O.Sink.written g.O.Sink.faults g.K.Keeper.bodies g.K.Keeper.faults
    g.K.Keeper.is_broken g.L.Keeper.bodies g.L.Keeper.faults c.args.input.now c.args.out.now c.not_loaded.new.out c.args.store
    c.args.cloud c.in-Err.unloaded c.not_loaded.result c.in-Err.ensures.refused c.not_loaded.ensures.no_site
    c.not_loaded.ensures.refused c.not_loaded.ensures.memory
