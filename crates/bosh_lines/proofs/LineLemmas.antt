-- What a line is read as, by its form.
use Rattle.std.proofs.Common.{◌≡◌, ◌∙◌, ℕ, Bool, true, false, cond, List, [], ◌∷◌, Option, Some, None, Result, Ok, Err, refl, sym, ap, subst}
use Rattle.std.specs.Prelude.{IfErr, IfOk, IsErrAnd}
use Rattle.bosh_base.specs.declared.inst.Inst.{Inst}
use Rattle.bosh_line_words.specs.Grammar.{IsRefused, fault_of, place_fault}
use Rattle.bosh_line_words.specs.Words.{Word}
use Rattle.bosh_line_words.specs.declared.fault.LineFault.{LineFault}
use Rattle.bosh_line_words.specs.declared.fault.LineFault.TheVariants.{BadArgument, Missing}
use Rattle.bosh_line_words.proofs.GrammarLemmas.{fault_placed, fault_taken, none_left}
use Rattle.bosh_lines.specs.Forms.{Form, IsRead, is_inst, is_written}
use Rattle.bosh_lines.specs.Lines.{Formed, IsParsed}
use Rattle.bosh_lines.specs.declared.command.Command.{Command}
use Rattle.bosh_lines.specs.declared.command.Command.TheVariants as command
use Rattle.bosh_lines.specs.declared.variable.Variable.{Variable}

pub parsed : (form : Form) (words : List Word) (result : Result Command LineFault) → IfOk result (IsRead form words) → IfErr result (IsRefused form.places form.options words) → IsParsed (Formed form words) result
parsed form words (Ok command) ok refused = ok
parsed form words (Err fault) ok refused = refused

-- a fault that is handed on is the same
pub passed_on : (P : LineFault → Type 0) (result : Result Command LineFault) (fault : LineFault) → IsErrAnd result (λ f. f ≡ fault) → P fault → IfErr result P
passed_on P (Ok value) fault is holds = tt
passed_on P (Err f) fault is holds = subst P (sym is) holds

-- commands of equal parts are one
pub same_stop : (i j : Inst) (h k : Bool) → j ≡ i → k ≡ h → Some (command.Stop i h) ≡ Some (command.Stop j k)
same_stop i j h k e f = cc

pub same_deploy : (d e p q : List ℕ) (v w : List Variable) (r s f g : Bool) → e ≡ d → q ≡ p → w ≡ v → s ≡ r → g ≡ f → Some (command.Deploy (record { dep = d; path = p; vars = v; recreate = r; fix = f })) ≡ Some (command.Deploy (record { dep = e; path = q; vars = w; recreate = s; fix = g }))
same_deploy d e p q v w r s f g a b c x y = rw (a, b, c, x, y) refl

pub same_write : (i j : Inst) (t s : List ℕ) → j ≡ i → s ≡ t → Some (command.Write i t) ≡ Some (command.Write j s)
same_write i j t s e f = cc

-- the words of a line that writes
abbrev fault_in : List Word → Option LineFault
fault_in words = fault_of (is_inst ∷ is_written ∷ []) [] words

fails : (fits : List ℕ → Bool) (words tail : List Word) (word : Word) → words ≡ word ∷ tail → fits word.text ≡ false → place_fault fits words ≡ Some (BadArgument word.place)
fails fits words tail word is wrong = ap (place_fault fits) is ∙ ap (λ (b : Bool). cond b None (Some (BadArgument word.place))) wrong

pub no_inst : (words : List Word) → words ≡ [] → fault_in words ≡ Some Missing
no_inst words none = fault_placed is_inst (is_written ∷ []) [] words Missing (ap (place_fault is_inst) none)

pub bad_inst : (words tail : List Word) (inst : Word) → words ≡ inst ∷ tail → is_inst inst.text ≡ false → fault_in words ≡ Some (BadArgument inst.place)
bad_inst words tail inst is wrong = fault_placed is_inst (is_written ∷ []) [] words (BadArgument inst.place) (fails is_inst words tail inst is wrong)

after_inst : (words tail : List Word) (inst : Word) → words ≡ inst ∷ tail → is_inst inst.text ≡ true → fault_in words ≡ fault_of (is_written ∷ []) [] tail
after_inst words tail inst is right = fault_taken is_inst (is_written ∷ []) [] words inst tail is right

pub no_text : (words tail : List Word) (inst : Word) → words ≡ inst ∷ tail → is_inst inst.text ≡ true → tail ≡ [] → fault_in words ≡ Some Missing
no_text words tail inst is right none = after_inst words tail inst is right ∙ fault_placed is_written [] [] tail Missing (ap (place_fault is_written) none)

pub long_text : (words tail : List Word) (inst text : Word) → words ≡ inst ∷ tail → is_inst inst.text ≡ true → tail ≡ text ∷ [] → is_written text.text ≡ false → fault_in words ≡ Some (BadArgument text.place)
long_text words tail inst text is right one wrong = after_inst words tail inst is right ∙ fault_placed is_written [] [] tail (BadArgument text.place) (fails is_written tail [] text one wrong)

pub well_written : (words tail : List Word) (inst text : Word) → words ≡ inst ∷ tail → is_inst inst.text ≡ true → tail ≡ text ∷ [] → is_written text.text ≡ true → fault_in words ≡ None
well_written words tail inst text is right one fits = after_inst words tail inst is right ∙ (fault_taken is_written [] [] tail text [] one fits ∙ none_left)
