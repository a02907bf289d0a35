-- The director halts in the first turn, since its store failed, and others go on from there.
use Rattle.std.proofs.Common.{[], ◌∷◌, arith, inl, refl}
use Rattle.std.specs.Prelude.{Some}
use Rattle.bosh_base.specs.declared.moves.Cause.TheVariants.{Store}
use Rattle.bosh_base.specs.declared.moves.Move.TheVariants.{Halt}
use Rattle.bosh_due.specs.InTurn.{MakesNextTurn, SessionSoFar, at_first, session_after}
use Rattle.bosh_due.specs.UnderWay.UnderWay.{appending}
use Rattle.bosh_history.specs.Moments.{nothing}
use Rattle.examples_replies.specs.Caused.{none_wait}
use Rattle.examples_replies.specs.TwoTurns.{halts, stemcell, store_fault}

pub halts_first : (Rest : SessionSoFar → Type 0) →
    Rest (session_after (at_first nothing) (halts 1) (appending stemcell) (none_wait)) →
    MakesNextTurn Rest nothing (Some []) (at_first nothing) (halts 1)
halts_first Rest others = record {
  left = appending stemcell;
  waits = none_wait;
  goes_on = record { is_open = refl; has_number = refl; has_kept = refl; has_shelf = refl };
  makes = (
    record { none = refl; goes_on = refl },
    record {
      more = Halt Store ∷ [];
      reply = store_fault;
      is = refl;
      due = record { ends = (refl, refl); is_left = refl };
    },
  );
  causes = record { unread = tt; caused = inl (omega arith, refl, refl) };
  others = others;
}
