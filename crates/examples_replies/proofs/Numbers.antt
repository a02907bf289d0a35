-- A line that a director refuses that has halted is told so under its number.
use Rattle.std.proofs.Common.{◌∷◌, [], arith, inl, inr, subst}
use Rattle.std.specs.Prelude.{Some, codes}
use Rattle.bosh_due.specs.Ends.{EndsIn, MayMake}
use Rattle.bosh_due.specs.Ends.Makes.{makes_by, makes_none}
use Rattle.bosh_due.specs.Generating.{AreCarriedUpTo, generated_commands, said_reply}
use Rattle.bosh_due.specs.Outcomes.{Outcome}
use Rattle.bosh_due.specs.Outcomes.Outcome.{Refuses}
use Rattle.bosh_due.specs.UnderWay.{UnderWay}
use Rattle.bosh_refusals.specs.Refused.{bare_refusal}
use Rattle.examples_replies.specs.Kept.{at_a_halt}
use Rattle.examples_replies.specs.Replies.{stopped_reply}

abbrev stops : Outcome
stops = Refuses (Some (bare_refusal (codes "book") (codes "Stopped")))

pub other_number : (now : UnderWay) →
    AreCarriedUpTo (generated_commands 3) at_a_halt 5 (said_reply 6 stopped_reply ∷ []) now → ⊥
other_number now (inl (makes_none none stays)) = grind (arith, none)
other_number now (inl (makes_by outcome comes may)) =
    let makes : MayMake stops at_a_halt (said_reply 6 stopped_reply ∷ []) =
    subst (λ o. MayMake o at_a_halt (said_reply 6 stopped_reply ∷ [])) comes may.may_make
    in grind (arith, makes)
other_number now (inr it) =
    let ends : EndsIn stops at_a_halt it.more it.reply =
    subst (λ o. EndsIn o at_a_halt it.more it.reply) it.comes it.ends
    in grind (arith, ends, it.is)
