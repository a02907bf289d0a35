use Rattle.std.proofs.Common.{◌∙◌, ◌+◌, ◌≤◌, ap, length, Some, subst, sym, ℕ}
use Rattle.bosh_base.specs.History.{chosen}
use Rattle.bosh_base.specs.declared.moves.Cause.TheVariants as causes
use Rattle.bosh_moves.proofs.RestartLemmas.{chosen_by, least_within, not_restarted, restarted}
use Rattle.bosh_moves.specs.Story.{kept_count}
use Rattle.bosh_moves.proofs.history.History.restart.Goals as goal

pub tell_stop-requires-clause-of : goal.tell_stop-requires-clause-of
tell_stop-requires-clause-of c =
    subst (λ (n : ℕ). n + kept_count (Some c.args.kept) ≤ length c.args.entries.now)
    (sym (ap (λ h. h.entries) c.owe.ensures))
    (least_within c.args.kept c.args.entries.now c.args.self.now.entries c.requires.there)

pub returns-in-Ok-clause-ok : goal.returns-in-Ok-clause-ok
returns-in-Ok-clause-ok c =
    restarted c.args.self.now c.owe.new.self c.tell_stop.new.self c.stand.new.self c.args.entries.now c.args.effects.now
    c.args.kept c.args.halt c.requires.told c.requires.there c.owe.ensures c.in-Ok.ensures.ok c.stand.ensures

pub returns-in-Err-clause-refused : goal.returns-in-Err-clause-refused
returns-in-Err-clause-refused c =
    not_restarted c.args.self.now c.owe.new.self c.tell_stop.new.self c.stand-in-Err.new.self c.args.entries.now
    c.args.kept c.unwrap_or.result (chosen c.args.halt causes.Stop) c.requires.halted
    (c.unwrap_or.ensures ∙ chosen_by c.args.halt causes.Stop) c.owe.ensures c.in-Err.ensures.refused
    c.stand-in-Err.ensures
