-- Reading that may be refused: one step after another, up to the first refusal; and what a function answers where memory may run out.
use Rattle.std.specs.Prelude.{◌≡◌, Result, Ok, Err, List, ◌++◌}
use Rattle.bosh_yaml.specs.declared.fault.ReadFault.{ReadFault}
use Rattle.bosh_yaml.specs.declared.fault.ReadFault.TheVariants.{Syntax, RepeatedKey, TooDeep, TooLarge, Number, Memory}

infixl 10 ◌>>=◌
abbrev pub ◌>>=◌ : {A B : Type 0} → Result A ReadFault → (A → Result B ReadFault) → Result B ReadFault
(Ok x) >>= f = f x
(Err e) >>= f = Err e

-- a refusal is the one that reading gives, unless memory ran out
abbrev pub Refuses : {B : Type 0} → ReadFault → Result B ReadFault → Type 0
Refuses Memory read = Unit {0}
Refuses (Syntax line) read = read ≡ Err (Syntax line)
Refuses (RepeatedKey line) read = read ≡ Err (RepeatedKey line)
Refuses TooDeep read = read ≡ Err TooDeep
Refuses TooLarge read = read ≡ Err TooLarge
Refuses Number read = read ≡ Err Number

-- what a function answered, seen by a view, is what reading gives, unless memory ran out
abbrev pub Gives : {A B : Type 0} → (A → B) → Result A ReadFault → Result B ReadFault → Type 0
Gives view (Ok x) read = read ≡ Ok (view x)
Gives view (Err e) read = Refuses e read

-- a list that is read, behind a front
abbrev pub with_front : {A : Type 0} → List A → Result (List A) ReadFault → Result (List A) ReadFault
with_front front read = read >>= λ xs. Ok (front ++ xs)
