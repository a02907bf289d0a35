use Rattle.bosh_keep_sql.proofs.KeeperLemmas.{failed_of, fails_same, rewrite_refused_seen, rewritten_seen, tied_seen}
use Rattle.bosh_keep_sql.proofs.SurvivalLemmas.{same_commit}
use Rattle.sqlite.specs.Held.{state}
use Rattle.std.proofs.Common.{◌≡◌, Err, ap, subst, sym}
use Rattle.bosh_keep_sql.specs.Rewrites.{RefusesRewrite}
use Rattle.bosh_ports.specs.declared.keeper.KeepFault.TheVariants.{Failed}
use Rattle.sqlite.specs.State.{HasCleanDisk}
use Rattle.bosh_keep_sql.proofs.keeper.SqlKeeperKeeper.replace.Goals as goal

pub returns-then-self-clause-whole : goal.returns-then-self-clause-whole
returns-then-self-clause-whole g c = same_commit (state g.S.Store c.args.self.now.connection)

pub returns-in-Ok-clause-rewritten : goal.returns-in-Ok-clause-rewritten
returns-in-Ok-clause-rewritten g c = λ clean.
    rewritten_seen g.S.Store _ c.args.self.now c.args.list.now c.put_all.new.connection c.self.view_is
    (c.in-Ok.ensures.rewritten clean)

pub returns-then-self-clause-tied : goal.returns-then-self-clause-tied
returns-then-self-clause-tied g c = tied_seen g.S.Store _ c.args.self.now c.self.view_is c.self.invariant

pub invariant_of-self : goal.invariant_of-self
invariant_of-self g c = c.put_all.ensures.tied c.self.invariant

pub invariant_of-self-in-Err : goal.invariant_of-self-in-Err
invariant_of-self-in-Err g c = c.put_all.ensures.tied c.self.invariant

pub returns-in-Ok-clause-tied : goal.returns-in-Ok-clause-tied
returns-in-Ok-clause-tied g c = c.put_all.ensures.tied c.self.invariant

pub returns-in-Err-clause-refused : goal.returns-in-Err-clause-refused
returns-in-Err-clause-refused g c = λ clean told.
    let failed : c.in-Err.fault ≡ Failed = failed_of c.fail.result c.in-Err.fault c.fail.ensures.fault told in
    let kept = fails_same c.in-Err.fault _ c.fail.new.self c.fail.ensures.fails in
    subst (λ h. RefusesRewrite g.S.Store c.args.list.now c.args.self.now.connection h Failed) (sym kept)
    (rewrite_refused_seen g.S.Store _ c.args.self.now c.args.list.now c.put_all.new.connection c.self.view_is
    (c.in-Err.ensures.failed (subst (λ h. HasCleanDisk (state g.S.Store h)) kept clean) (ap Err failed)))
