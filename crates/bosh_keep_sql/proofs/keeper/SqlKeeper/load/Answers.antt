use Rattle.std.proofs.Common.{inl, inr, refl, rules}
use Rattle.bosh_keep_sql.proofs.HoldingLemmas.{settled_of}
use Rattle.bosh_keep_sql.proofs.RefusalLemmas.{is_inside}
use Rattle.sqlite.specs.Held.{state}
use Rattle.bosh_keep_sql.proofs.keeper.SqlKeeper.load.Goals as goal

pub returns-then-not-is_autocommit-clause-refused : goal.returns-then-not-is_autocommit-clause-refused
returns-then-not-is_autocommit-clause-refused g c = λ clean.
    inl (is_inside c.args.connection.in_transaction c.is_autocommit.result c.is_autocommit.ensures.value (search rules), refl, refl)

pub returns-in-Err-clause-refused : goal.returns-in-Err-clause-refused
returns-in-Err-clause-refused g c = λ clean. inr (c.in-Err.ensures.refused clean)

pub invariant_of-result : goal.invariant_of-result
invariant_of-result g c =
    c.in-Ok.ensures.tied
    (settled_of (state g.S.Store c.args.connection) c.is_autocommit.result c.is_autocommit.ensures.value
    c.is_autocommit.ensures.settled (search rules))

pub returns-in-Ok-clause-tied : goal.returns-in-Ok-clause-tied
returns-in-Ok-clause-tied g c =
    c.in-Ok.ensures.tied
    (settled_of (state g.S.Store c.args.connection) c.is_autocommit.result c.is_autocommit.ensures.value
    c.is_autocommit.ensures.settled (search rules))
