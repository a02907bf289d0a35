-- Which provider each consumer is tied to (bosh.io/docs/links and links-manual).
use Rattle.std.specs.Prelude.{◌≡◌, ◌⊎◌, ℕ, List, [], ◌∷◌, ◌++◌, Option, None, Some, Result, Ok, Err, if◌then◌else◌, filter}
use Rattle.std.specs.Option.{option_to_list}
use Rattle.std.specs.Str.{bytes_eq}
use Rattle.bosh_base.specs.declared.link.Tie.{Tie}
use Rattle.bosh_links.specs.declared.consumer.Consumer.{Consumer}
use Rattle.bosh_links.specs.declared.consumer.Source.{Source}
use Rattle.bosh_links.specs.declared.consumer.Source.TheVariants.{Implicit, Named, Blocked}
use Rattle.bosh_links.specs.declared.fault.LinkFault.{LinkFault}
use Rattle.bosh_links.specs.declared.fault.LinkFault.TheVariants.{NoProvider, Ambiguous, UnknownFrom, TypeDiffers, Memory}
use Rattle.bosh_links.specs.declared.provider.Provider.{Provider}

-- a tie has its consumer's type
abbrev pub tie_between : Consumer → Provider → Tie
tie_between c p = record { consumer = c.joint; provider = p.joint; kind = c.kind }

-- an optional consumer may go without a provider, another not
abbrev pub no_tie : Consumer → Result (Option Tie) LinkFault
no_tie c = if c.optional then Ok None else Err (NoProvider c.joint)

-- a consumer without `from`, by the providers of its type: one is taken
abbrev pub implicit_outcome : Consumer → List Provider → Result (Option Tie) LinkFault
implicit_outcome c [] = no_tie c
implicit_outcome c (p ∷ []) = Ok (Some (tie_between c p))
implicit_outcome c (p ∷ q ∷ ps) = Err (Ambiguous p.joint q.joint)

-- a consumer with `from`, by the providers of that public name: one is taken, where its type is the consumer's
abbrev pub named_outcome : Consumer → List ℕ → List Provider → Result (Option Tie) LinkFault
named_outcome c name [] = Err (UnknownFrom name)
named_outcome c name (p ∷ []) = if bytes_eq p.kind c.kind then Ok (Some (tie_between c p)) else Err (TypeDiffers name)
named_outcome c name (p ∷ q ∷ ps) = Err (Ambiguous p.joint q.joint)

-- what a consumer comes to, by where its provider is sought
abbrev pub outcome_from : List Provider → Consumer → Source → Result (Option Tie) LinkFault
outcome_from ps c Implicit = implicit_outcome c (filter (λ p. bytes_eq p.kind c.kind) ps)
outcome_from ps c (Named name) = named_outcome c name (filter (λ p. bytes_eq p.public_name name) ps)
outcome_from ps c Blocked = no_tie c

abbrev pub outcome : List Provider → Consumer → Result (Option Tie) LinkFault
outcome ps c = outcome_from ps c c.from

-- one consumer's answer before those of the others: the first fault decides
abbrev pub joined_ties : {F : Type 0} → Result (Option Tie) F → Result (List Tie) F → Result (List Tie) F
joined_ties (Err fault) others = Err fault
joined_ties (Ok tie) (Err fault) = Err fault
joined_ties (Ok tie) (Ok ties) = Ok (option_to_list tie ++ ties)

-- the ties of all consumers, in their order, or the fault of the first that has one
abbrev pub all_tied : {C F : Type 0} → (C → Result (Option Tie) F) → List C → Result (List Tie) F
all_tied comes_to [] = Ok []
all_tied comes_to (c ∷ cs) = joined_ties (comes_to c) (all_tied comes_to cs)

abbrev pub resolution : List Provider → List Consumer → Result (List Tie) LinkFault
resolution ps = all_tied (outcome ps)

-- a call's answer is the one that the rules give, or want of memory
abbrev pub IsAnswer : {T : Type 0} → Result T LinkFault → Result T LinkFault → Type 0
IsAnswer (Ok value) answer = answer ≡ Ok value
IsAnswer (Err fault) answer = (fault ≡ Memory) ⊎ (answer ≡ Err fault)
