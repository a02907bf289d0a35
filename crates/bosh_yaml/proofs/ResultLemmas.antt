-- Refusals go on through the steps that follow, and fronts add up.
use Rattle.std.proofs.Common.{◌≡◌, List, ◌++◌, Result, Ok, Err, append_assoc, refl, ap}
use Rattle.bosh_yaml.specs.declared.fault.ReadFault.{ReadFault}
use Rattle.bosh_yaml.specs.declared.fault.ReadFault.TheVariants.{Syntax, RepeatedKey, TooDeep, TooLarge, Number, Memory}
use Rattle.bosh_yaml.specs.Result.{◌>>=◌, Refuses, with_front}

pub Refuses-bind : {A B : Type 0} (e : ReadFault) (read : Result A ReadFault) (f : A → Result B ReadFault) → Refuses e read → Refuses e (read >>= f)
Refuses-bind Memory read f h = tt
Refuses-bind (Syntax line) read f h = rw h refl
Refuses-bind (RepeatedKey line) read f h = rw h refl
Refuses-bind TooDeep read f h = rw h refl
Refuses-bind TooLarge read f h = rw h refl
Refuses-bind Number read f h = rw h refl

pub with_front_twice : {A : Type 0} (a b : List A) (read : Result (List A) ReadFault) → with_front (a ++ b) read ≡ with_front a (with_front b read)
with_front_twice a b (Ok xs) = ap (λ t. Ok t) (append_assoc a b xs)
with_front_twice a b (Err e) = refl

pub with_front_bind : {A B : Type 0} (front : List A) (read : Result B ReadFault) (f : B → Result (List A) ReadFault) → with_front front (read >>= f) ≡ (read >>= λ x. with_front front (f x))
with_front_bind front (Ok x) f = refl
with_front_bind front (Err e) f = refl

pub ok_same : {A : Type 0} {x y : A} → ◌≡◌ {A = Result A ReadFault} (Ok x) (Ok y) → x ≡ y
ok_same h = cc

refuses_value : {A B : Type 0} (e : ReadFault) (x : A) (y : B) → Refuses e (Ok x) → Refuses e (Ok y)
refuses_value Memory x y h = tt
refuses_value (Syntax line) x y h = cc
refuses_value (RepeatedKey line) x y h = cc
refuses_value TooDeep x y h = cc
refuses_value TooLarge x y h = cc
refuses_value Number x y h = cc

refuses_fault : (A B : Type 0) (e f : ReadFault) → Refuses {B = A} e (Err f) → Refuses {B = B} e (Err f)
refuses_fault A B Memory f h = tt
refuses_fault A B (Syntax line) f h = cc
refuses_fault A B (RepeatedKey line) f h = cc
refuses_fault A B TooDeep f h = cc
refuses_fault A B TooLarge f h = cc
refuses_fault A B Number f h = cc

-- what refuses a step refuses what the step was made of
pub Refuses-step : {A B : Type 0} (e : ReadFault) (read : Result A ReadFault) (f : A → B) → Refuses e (read >>= λ x. Ok (f x)) → Refuses e read
Refuses-step e (Ok x) f h = refuses_value e (f x) x h
Refuses-step e (Err g) f h = refuses_fault _ _ e g h
