-- How a command ends that comes to an outcome of each kind.
use Rattle.std.proofs.Common.{◌≡◌, true, [], ◌∷◌, Option, Some, None, refl}
use Rattle.std.specs.Prelude.{option_map}
use Rattle.bosh_answers.specs.Ends.{told_halt}
use Rattle.bosh_base.specs.declared.entry.Entry.{Entry}
use Rattle.bosh_base.specs.declared.moves.Cause.{Cause}
use Rattle.bosh_base.specs.declared.moves.Move.{Move}
use Rattle.bosh_base.specs.declared.moves.Move.TheVariants as moves
use Rattle.bosh_base.specs.declared.reply.Refusal.{Refusal}
use Rattle.bosh_base.specs.declared.reply.Reply.{Reply}
use Rattle.bosh_base.specs.declared.reply.Reply.TheVariants.{Refused}
use Rattle.bosh_due.specs.Before.{Before}
use Rattle.bosh_due.specs.Ends.{leaves_under_way}
use Rattle.bosh_due.specs.Ends.Makes.{makes_none}
use Rattle.bosh_due.specs.Outcomes.{MakesMove, Outcome, is_clouds_halt, is_directors_halt}
use Rattle.bosh_due.specs.Outcomes.Outcome.{Answers, Changes, Notes, Refuses}
use Rattle.laws_due.specs.Answered.{ComesTo}

module _ (Comes : Outcome → Type 0) (b : Before) where
  -- nothing is done, and that is not told
  pub nothing_due : ComesTo Comes b None [] b.under_way
  nothing_due = makes_none refl refl

  pub refused_due : (why : Option Refusal) (told : Option Reply) → option_map Refused why ≡ told → Comes (Refuses why)
      → ComesTo Comes b told [] b.under_way
  refused_due why None is comes = nothing_due
  refused_due why (Some reply) is comes = record {
    outcome = Refuses why;
    comes = comes;
    ends = record { ends = (refl, is); is_left = refl };
  }

  pub answered_due : (answer : Reply) → Comes (Answers answer) → ComesTo Comes b (Some answer) [] b.under_way
  answered_due answer comes = record {
    outcome = Answers answer;
    comes = comes;
    ends = record { ends = (refl, refl); is_left = refl };
  }

  module _ (entry : Entry) (good : Reply) (comes : Comes (Notes entry good)) where
    -- the entry is noted
    pub noted_due : ComesTo Comes b (Some good) (moves.Note entry ∷ [])
        (leaves_under_way (Notes entry good) b (moves.Note entry ∷ []))
    noted_due = record {
      outcome = Notes entry good;
      comes = comes;
      ends = record { ends = (refl, refl); is_left = refl };
    }

    -- .. or the director's store failed in it
    pub unnoted_due : (cause : Cause) → is_directors_halt cause ≡ true
        → ComesTo Comes b (Some (told_halt cause)) (moves.Halt cause ∷ [])
        (leaves_under_way (Notes entry good) b (moves.Halt cause ∷ []))
    unnoted_due cause is = record {
      outcome = Notes entry good;
      comes = comes;
      ends = record { ends = (is, refl); is_left = refl };
    }

  module _ (move : Move) (done : Entry) (good : Reply) (comes : Comes (Changes move done good)) where
    -- the cloud is changed by a move that is no halt
    pub changed_due : MakesMove is_clouds_halt move good (move ∷ []) good
        → ComesTo Comes b (Some good) (move ∷ []) (leaves_under_way (Changes move done good) b (move ∷ []))
    changed_due makes = record {
      outcome = Changes move done good;
      comes = comes;
      ends = record { ends = makes; is_left = refl };
    }

    -- .. or its store failed in it
    pub unchanged_due : (cause : Cause) → is_clouds_halt cause ≡ true
        → ComesTo Comes b (Some (told_halt cause)) (moves.Halt cause ∷ [])
        (leaves_under_way (Changes move done good) b (moves.Halt cause ∷ []))
    unchanged_due cause is = record {
      outcome = Changes move done good;
      comes = comes;
      ends = record { ends = (is, refl); is_left = refl };
    }
