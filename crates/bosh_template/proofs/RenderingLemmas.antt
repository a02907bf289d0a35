-- How the text of a template adds up.
use Rattle.std.proofs.Common.{◌≡◌, ℕ, ◌+◌, ◌<◌, ◌≤◌, List, [], ◌∷◌, ◌++◌, Result, Ok, Err, length, get_or, take, drop, arith, refl, sym, ap, subst, ◌∙◌, append_assoc, append-nil, add-one, drop-cons}
use Rattle.std.specs.List.{flat_map}
use Rattle.std.proofs.lemmas.Grind.{common_steps}
use Rattle.std.proofs.lemmas.List.{flat_map_more, take_more}
use Rattle.bosh_base.specs.declared.addr.Addr.{Addr}
use Rattle.bosh_template.specs.Environment.{Env}
use Rattle.bosh_template.specs.declared.fault.TemplateFault.{TemplateFault}
use Rattle.bosh_template.specs.declared.output.Output.{Output}
use Rattle.bosh_template.specs.declared.template.Part.{Part}
use Rattle.bosh_template.specs.Answer.{after, joined_texts}
use Rattle.bosh_template.specs.Output.{Holds, Grows, Adds}
use Rattle.bosh_template.specs.Rendering.{part_text, parts_text}

-- nothing is added
pub Grows-none : (out : Output) → Grows out out []
Grows-none out text h = subst (Holds out) (sym (append-nil text)) h

-- one piece is added after another
pub Grows-more : (a b c : Output) (one other : List ℕ) → Grows a b one → Grows b c other → Grows a c (one ++ other)
Grows-more a b c one other h k text holds = subst (Holds c) (append_assoc text one other) (k (text ++ one) (h text holds))

pub after-joined : (text piece : List ℕ) (others : Result (List ℕ) TemplateFault) → after text (joined_texts (Ok piece) others) ≡ after (text ++ piece) others
after-joined text piece (Ok more) = ap (λ t. Ok t) (sym (append_assoc text piece more))
after-joined text piece (Err fault) = refl

-- what the parts from one on come to
pub parts_text-next : (env : Env) (parts : List Part) (i : ℕ) (part : Part) → i < length parts → part ≡ get_or parts i part
    → parts_text env (drop i parts) ≡ joined_texts (part_text env part) (parts_text env (drop (i + 1) parts))
parts_text-next env parts i part within is =
    let e : drop i parts ≡ part ∷ drop (i + 1) parts = rw (add-one, drop-cons parts i part, ← is) refl in
    ap (parts_text env) e

-- what a call that added something came to
pub Adds-ok : {T : Type 0} (done : T) (old new : Output) (answer : Result (List ℕ) TemplateFault) → Adds (Ok done) old new answer → (piece : List ℕ) × (answer ≡ Ok piece) × Grows old new piece
Adds-ok done old new (Ok piece) h = (piece, refl, h)
Adds-ok done old new (Err fault) h = absurd h

pub Adds-from : {T : Type 0} (done : T) (old new : Output) (answer : Result (List ℕ) TemplateFault) (piece : List ℕ) → answer ≡ Ok piece → Grows old new piece → Adds (Ok done) old new answer
Adds-from done old new answer piece is h = subst (Adds (Ok done) old new) (sym is) h

pub after-nil : (answer : Result (List ℕ) TemplateFault) → after [] answer ≡ answer
after-nil (Ok more) = refl
after-nil (Err fault) = refl

-- the parts so far are written
pub record IsWritten (env : Env) (parts : List Part) (i : ℕ) (old out : Output) : Type 0 where
  pub text : List ℕ
  pub grown : Grows old out text
  pub whole : parts_text env parts ≡ after text (parts_text env (drop i parts))

pub IsWritten-more : {T : Type 0} (done : T) (env : Env) (parts : List Part) (i : ℕ) (part : Part) (old out new : Output) → IsWritten env parts i old out → i < length parts → part ≡ get_or parts i part
    → Adds (Ok done) out new (part_text env part) → IsWritten env parts (i + 1) old new
IsWritten-more done env parts i part old out new w within is h =
    let (piece, told, grows) = Adds-ok done out new (part_text env part) h in
    let others = parts_text env (drop (i + 1) parts) in
    record {
      text = w.text ++ piece;
      grown = Grows-more old out new w.text piece w.grown grows;
      whole = w.whole ∙ ap (after w.text) (parts_text-next env parts i part within is ∙ ap (λ a. joined_texts a others) told) ∙ after-joined w.text piece others;
    }

pub IsWritten-fault : (env : Env) (parts : List Part) (i : ℕ) (part : Part) (old out : Output) (fault : TemplateFault) → IsWritten env parts i old out → i < length parts → part ≡ get_or parts i part
    → part_text env part ≡ Err fault → parts_text env parts ≡ Err fault
IsWritten-fault env parts i part old out fault w within is told =
    w.whole ∙ ap (after w.text) (parts_text-next env parts i part within is ∙ ap (λ a. joined_texts a (parts_text env (drop (i + 1) parts))) told)

pub IsWritten-end : {T : Type 0} (done : T) (env : Env) (parts : List Part) (i : ℕ) (old out : Output) → IsWritten env parts i old out → length parts ≤ i → Adds (Ok done) old out (parts_text env parts)
IsWritten-end done env parts i old out w past =
    let none : drop i parts ≡ [] = grind (arith, common_steps) in
    Adds-from done old out (parts_text env parts) w.text (w.whole ∙ ap (λ ps. after w.text (parts_text env ps)) none ∙ ap (λ t. Ok t) (append-nil w.text)) w.grown

-- one more address
pub flat_more : (f : Addr → List ℕ) (xs : List Addr) (i : ℕ) (d : Addr) → i < length xs → flat_map f (take i xs) ++ f (get_or xs i d) ≡ flat_map f (take (i + 1) xs)
flat_more f xs i d within = flat_map_more f [] (take i xs) (get_or xs i d) ∙ ap (flat_map f) (sym (take_more xs i d within))
