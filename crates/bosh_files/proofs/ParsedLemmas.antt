-- What is read of a text is what it spells.
use Rattle.std.proofs.Common.{◌≡◌, ◌≢◌, ℕ, zero, suc, ◌-◌, ◌≤◌, List, [], ◌∷◌, ◌++◌, Option, Some, None, Result, Ok, Err, length, arith, refl, ap, ◌∙◌}
use Rattle.bosh_template.specs.Grammar.{IsSyntax, Spells}
use Rattle.bosh_template.specs.Reading.{part_at}
use Rattle.bosh_template.specs.declared.fault.TemplateFault.{TemplateFault}
use Rattle.bosh_template.specs.declared.fault.TemplateFault.TheVariants.{Syntax}
use Rattle.bosh_template.specs.declared.template.Part.{Part}
use Rattle.bosh_template.proofs.PartLemmas.{IsReadTo, IsReadTo-start, IsReadTo-more, IsReadTo-end, IsReadTo-refused, IsReadTo-within, part_at-shorter, spelled_once, refused_once, refused_spells_none}
use Rattle.bosh_files.specs.Parsed.{parts_from, parts_in, with_part}

-- what is read of a text agrees with what it spells
abbrev pub Agrees : List ℕ → Result (List Part) TemplateFault → Type 0
Agrees text (Ok parts) = Spells text parts
Agrees text (Err fault) = (place : ℕ) × (fault ≡ Syntax place) × IsSyntax text place

no_rest : (rest : List ℕ) → length rest ≤ 0 → rest ≡ []
no_rest [] h = refl
no_rest (b ∷ rest) h = absurd (omega (arith, h))

some_rest : (b : ℕ) (rest : List ℕ) → b ∷ rest ≢ []
some_rest b rest e = let l : length (b ∷ rest) ≡ 0 = ap length e in omega arith

with_part-agrees : (go : List Part → List ℕ → Result (List Part) TemplateFault) (text : List ℕ) (most : ℕ) (parts : List Part) (rest : List ℕ) (read : Option (Part × List ℕ))
    → ((more : List Part) (later : List ℕ) → IsReadTo text later more → length later ≤ most → Agrees text (go more later))
    → part_at rest ≡ read → IsReadTo text rest parts → rest ≢ [] → length rest ≤ suc most
    → Agrees text (with_part go text parts rest read)
with_part-agrees go text most parts rest None goes e r some h =
    let within = IsReadTo-within text rest parts r in
    (length text - length rest, refl, IsReadTo-refused text rest parts (length text - length rest) r e (omega arith))
with_part-agrees go text most parts rest (Some read) goes e r some h =
    let shorter = part_at-shorter rest read some e in
    goes (parts ++ read.0 ∷ []) read.1 (IsReadTo-more text rest parts read r some e) (omega arith)

parsed_from-agrees : (text : List ℕ) (most : ℕ) (parts : List Part) (rest : List ℕ) → IsReadTo text rest parts → length rest ≤ most → Agrees text (parts_from text most parts rest)
parsed_from-agrees text zero parts rest r h = IsReadTo-end text rest parts r (no_rest rest h)
parsed_from-agrees text (suc most) parts [] r h = IsReadTo-end text [] parts r refl
parsed_from-agrees text (suc most) parts (b ∷ rest) r h =
    with_part-agrees (parts_from text most) text most parts (b ∷ rest) (part_at (b ∷ rest)) (parsed_from-agrees text most) refl r (some_rest b rest) h

parsed-agrees : (text : List ℕ) → Agrees text (parts_in text)
parsed-agrees text = parsed_from-agrees text (length text) [] text (IsReadTo-start text) (omega arith)

agrees-spelled : (text : List ℕ) (answer : Result (List Part) TemplateFault) (parts : List Part) → Agrees text answer → Spells text parts → answer ≡ Ok parts
agrees-spelled text (Ok other) parts a h = ap (λ ps. Ok ps) (spelled_once text other parts a h)
agrees-spelled text (Err fault) parts a h = absurd (refused_spells_none text a.0 parts a.2 h)

agrees-refused : (text : List ℕ) (answer : Result (List Part) TemplateFault) (place : ℕ) → Agrees text answer → IsSyntax text place → answer ≡ Err (Syntax place)
agrees-refused text (Ok parts) place a h = absurd (refused_spells_none text place parts h a)
agrees-refused text (Err fault) place a h = ap (λ f. Err f) (a.1 ∙ ap (λ p. Syntax p) (refused_once text a.0 place a.2 h))

pub parsed-spelled : (text : List ℕ) (parts : List Part) → Spells text parts → parts_in text ≡ Ok parts
parsed-spelled text parts h = agrees-spelled text (parts_in text) parts (parsed-agrees text) h

pub parsed-refused : (text : List ℕ) (place : ℕ) → IsSyntax text place → parts_in text ≡ Err (Syntax place)
parsed-refused text place h = agrees-refused text (parts_in text) place (parsed-agrees text) h
