-- What a call answers, and what the first fault among several answers is.
use Rattle.std.specs.Prelude.{◌≡◌, ◌⊎◌, ℕ, List, ◌++◌, Result, Ok, Err}
use Rattle.bosh_template.specs.declared.fault.TemplateFault.{TemplateFault}
use Rattle.bosh_template.specs.declared.fault.TemplateFault.TheVariants.{Memory}

-- a call's answer is the one that the rules give, or want of memory
abbrev pub IsAnswer : {T : Type 0} → Result T TemplateFault → Result T TemplateFault → Type 0
IsAnswer (Ok value) answer = answer ≡ Ok value
IsAnswer (Err fault) answer = (fault ≡ Memory) ⊎ (answer ≡ Err fault)

-- a text before what others come to: a fault among them decides
abbrev pub after : List ℕ → Result (List ℕ) TemplateFault → Result (List ℕ) TemplateFault
after text (Ok others) = Ok (text ++ others)
after text (Err fault) = Err fault

-- what comes first before what others come to: the first fault decides
abbrev pub joined_texts : Result (List ℕ) TemplateFault → Result (List ℕ) TemplateFault → Result (List ℕ) TemplateFault
joined_texts (Ok text) others = after text others
joined_texts (Err fault) others = Err fault
