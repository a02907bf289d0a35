-- What is read of a line is what it asks for.
use Rattle.std.specs.Prelude.{IfOk}
use Rattle.bosh_input.specs.declared.fault.InputFault.{InputFault}
use Rattle.std.proofs.Common.{◌≡◌, ◌≢◌, ◌∙◌, ℕ, List, Option, Some, None, Result, Ok, Err, refl, sym, ap}
use Rattle.bosh_line_words.specs.Grammar.{IsRefused, fault_of}
use Rattle.bosh_line_words.specs.Words.{Word}
use Rattle.bosh_line_words.specs.declared.fault.LineFault.{LineFault}
use Rattle.bosh_line_words.specs.declared.fault.LineFault.TheVariants.{UnknownCommand, BadArgument, Missing, Extra, TooLarge, BadTogether, Memory}
use Rattle.bosh_lines.specs.Forms.{Form, IsRead}
use Rattle.bosh_lines.specs.Lines.{Found, Formed, Refused, IsParsed}
use Rattle.bosh_lines.specs.Meaning.{by_fault, meaning}
use Rattle.bosh_lines.specs.declared.command.Command.{Command}

abbrev refusal : LineFault → Result Command LineFault
refusal fault = Err fault

read : (form : Form) (words : List Word) (command : Command) → IsRead form words command → Ok command ≡ by_fault (fault_of form.places form.options words) (form.command words)
read form words command (well, is) = sym (ap (λ (f : Option LineFault). by_fault f (form.command words)) well ∙ ap (by_fault None) is)

pub asked_well : (found : Found) (command : Command) → IsParsed found (Ok command) → Ok command ≡ meaning found
asked_well (Refused fault) command is = is
asked_well (Formed form words) command is = read form words command is

by_refusal : (form : Form) (words : List Word) (fault : LineFault) → fault_of form.places form.options words ≡ Some fault → refusal fault ≡ by_fault (fault_of form.places form.options words) (form.command words)
by_refusal form words fault is = sym (ap (λ (f : Option LineFault). by_fault f (form.command words)) is)

refused : (form : Form) (words : List Word) (fault : LineFault) → (fault ≡ Memory → ⊥) → IsRefused form.places form.options words fault → refusal fault ≡ by_fault (fault_of form.places form.options words) (form.command words)
refused form words Memory other is = absurd (other refl)
refused form words UnknownCommand other is = by_refusal form words UnknownCommand is
refused form words (BadArgument place) other is = by_refusal form words (BadArgument place) is
refused form words Missing other is = by_refusal form words Missing is
refused form words Extra other is = by_refusal form words Extra is
refused form words TooLarge other is = by_refusal form words TooLarge is
refused form words BadTogether other is = by_refusal form words BadTogether is

pub asked_badly : (found : Found) (fault : LineFault) → (fault ≡ Memory → ⊥) → IsParsed found (Err fault) → refusal fault ≡ meaning found
asked_badly (Refused f) fault other is = is
asked_badly (Formed form words) fault other is = refused form words fault other is

-- .. also where a fault is handed on, but for want of memory
pub asked_then : (found : Found) (fault : LineFault) (result : Result (Result Command LineFault) InputFault) → IsParsed found (Err fault) → IfOk result (λ asked. (asked ≡ Err fault) × (fault ≢ Memory)) → IfOk result (λ asked. asked ≡ meaning found)
asked_then found fault (Ok asked) is told = told.0 ∙ asked_badly found fault told.1 is
asked_then found fault (Err other) is told = tt
