-- How tasks are told that have no end after a run (this project's profile).
use Rattle.std.specs.Prelude.{codes, decimal}
use Rattle.bosh_answers.specs.Ends.{stopped_reply, told_halt}
use Rattle.bosh_base.specs.declared.reply.Reply.{Reply}
use Rattle.bosh_base.specs.declared.reply.Reply.TheVariants.{Refused}
use Rattle.bosh_director.specs.declared.left.Left.{Left}
use Rattle.bosh_director.specs.declared.left.Left.TheVariants as left
use Rattle.bosh_refusals.specs.Refused.{bare_refusal, refusal_with}

-- how a task is told that has no end
abbrev pub told_left : Left → Reply
told_left left.Nothing = stopped_reply
told_left (left.Halted cause) = told_halt cause
told_left left.Full = Refused (bare_refusal (codes "book") (codes "Full"))
told_left (left.Waits task) = Refused (refusal_with (codes "book") (codes "Locked") (decimal task))
