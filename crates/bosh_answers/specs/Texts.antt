-- How a text is told that is no manifest (this project's profile).
use Rattle.std.specs.Prelude.{Option, None}
use Rattle.bosh_base.specs.declared.reply.Refusal.{Refusal}
use Rattle.bosh_refusals.specs.Told.{manifest_told, vars_told, yaml_told}
use Rattle.bosh_answers.specs.declared.text_fault.TextFault.{TextFault}
use Rattle.bosh_answers.specs.declared.text_fault.TextFault.TheVariants.{Memory, Unfilled, Unfit, Unread}

abbrev pub text_told : TextFault → Option Refusal
text_told (Unread fault) = yaml_told fault
text_told (Unfilled fault) = vars_told fault
text_told (Unfit fault) = manifest_told fault
text_told Memory = None
