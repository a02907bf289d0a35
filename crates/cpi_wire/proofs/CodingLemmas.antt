-- What a coding is: what is read is the value that is written for it, and how codings are put together.
use Rattle.std.proofs.Common.{◌≡◌, ℕ, suc, Bool, true, false, cond, List, [], ◌∷◌, Option, Some, None, option_map, option_and_then, refl, sym, ap, ap₂, subst, ◌∙◌}
use Rattle.std.proofs.lemmas.Bool.{and_parts, and_from}
use Rattle.serde_json.specs.Data.{Data, null, boolean, number, string, array, object, Items, no_items, item}
use Rattle.cpi_wire.specs.Choice.{is_option, option_data, option_from}
use Rattle.cpi_wire.specs.List.{each_from, is_list, items_data, list_data, list_from}
use Rattle.cpi_wire.specs.Reading.{◌>>=◌, Reader, only}
use Rattle.cpi_wire.proofs.PlainLemmas.{ArePlain, IsPlain}

-- What is read is the value that stands for it, and what stands for a value is read as it, and is plain.
pub record IsCoding {A : Type 0} (levels : ℕ) (image : A → Data) (test : A → Bool) (reader : Reader A) : Type 0 where
  pub takes : (d : Data) (a : A) → reader d ≡ Some a → (d ≡ image a) × (test a ≡ true)
  pub again : (a : A) → test a ≡ true → reader (image a) ≡ Some a
  pub plain : (a : A) → test a ≡ true → IsPlain levels (image a)

-- the value of a step that did not fail
pub bind_some : {A B : Type 0} (o : Option A) (f : A → Option B) (y : B) → (o >>= f) ≡ Some y → (x : A) × (o ≡ Some x) × (f x ≡ Some y)
bind_some (Some x) f y e = (x, refl, e)
bind_some None f y e = absurd cc

pub then_some : {A B : Type 0} (f : A → Option B) (o : Option A) (y : B) → option_and_then f o ≡ Some y → (x : A) × (o ≡ Some x) × (f x ≡ Some y)
then_some f (Some x) y e = (x, refl, e)
then_some f None y e = absurd cc

pub some_is : {A : Type 0} (x y : A) → Some x ≡ Some y → x ≡ y
some_is x y e = cc

pub chosen : {A : Type 0} (b : Bool) (x y : A) → cond b (Some x) None ≡ Some y → (b ≡ true) × (x ≡ y)
chosen true x y e = (refl, cc)
chosen false x y e = absurd cc

pub mapped_some : {A B : Type 0} (f : A → B) (o : Option A) (y : B) → option_map f o ≡ Some y → (x : A) × (o ≡ Some x) × (f x ≡ y)
mapped_some f (Some x) y e = (x, refl, cc)
mapped_some f None y e = absurd cc

pub only_some : {A : Type 0} (test : A → Bool) (o : Option A) (a : A) → only test o ≡ Some a → (o ≡ Some a) × (test a ≡ true)
only_some test (Some x) a e = let parts = chosen (test x) x a e in (ap Some parts.1, ap test (sym parts.1) ∙ parts.0)
only_some test None a e = absurd cc

-- ---- a value that meets a further test

pub only_law : {A : Type 0} {levels : ℕ} {image : A → Data} {test : A → Bool} {reader : Reader A} (more : A → Bool) → ((a : A) → more a ≡ true → test a ≡ true) → IsCoding levels image test reader → IsCoding levels image more (λ d. only more (reader d))
only_law {image = image} {reader = reader} more implies law = record {
  takes = λ d a e. let parts = only_some more (reader d) a e in ((law.takes d a parts.0).0, parts.1);
  again = λ a h. rw (law.again a (implies a h)) (rw h refl);
  plain = λ a h. law.plain a (implies a h);
}

-- ---- a value that is made of parts

pub made_law : {P A : Type 0} {levels : ℕ} {image : P → Data} {test : P → Bool} {reader : Reader P} (make : P → A) (parts : A → P) → ((p : P) → parts (make p) ≡ p) → ((a : A) → make (parts a) ≡ a) → IsCoding levels image test reader → IsCoding levels (λ a. image (parts a)) (λ a. test (parts a)) (λ d. option_map make (reader d))
made_law {image = image} {test = test} {reader = reader} make parts back forth law = record {
  takes = λ d a e.
      let m = mapped_some make (reader d) a e in
      let t = law.takes d m.0 m.1 in
      let same : m.0 ≡ parts a = sym (back m.0) ∙ ap parts m.2 in
      (t.0 ∙ ap image same, ap test (sym same) ∙ t.1);
  again = λ a h. ap (option_map make) (law.again (parts a) h) ∙ ap Some (forth a);
  plain = λ a h. law.plain (parts a) h;
}

-- ---- options

abbrev pub is_null : Data → Bool
is_null null = true
is_null (boolean b) = false
is_null (number n) = false
is_null (string s) = false
is_null (array ds) = false
is_null (object ms) = false

some_from : {A : Type 0} (reader : Reader A) (d : Data) → is_null d ≡ false → option_from reader d ≡ option_map Some (reader d)
some_from reader null h = absurd cc
some_from reader (boolean b) h = refl
some_from reader (number n) h = refl
some_from reader (string s) h = refl
some_from reader (array ds) h = refl
some_from reader (object ms) h = refl

null_from : {A : Type 0} (reader : Reader A) (d : Data) → is_null d ≡ true → (d ≡ null) × (option_from reader d ≡ Some None)
null_from reader null h = (refl, refl)
null_from reader (boolean b) h = absurd cc
null_from reader (number n) h = absurd cc
null_from reader (string s) h = absurd cc
null_from reader (array ds) h = absurd cc
null_from reader (object ms) h = absurd cc

option_takes : {A : Type 0} {levels : ℕ} {image : A → Data} {test : A → Bool} {reader : Reader A} → IsCoding levels image test reader → (d : Data) (a : Option A) (b : Bool) → is_null d ≡ b → option_from reader d ≡ Some a → (d ≡ option_data image a) × (is_option test a ≡ true)
option_takes {A = A} {image = image} {test = test} {reader = reader} law d a true is e =
    let n = null_from reader d is in
    let same : None ≡ a = some_is None a (sym n.1 ∙ e) in
    subst (λ (x : Option A). (d ≡ option_data image x) × (is_option test x ≡ true)) same (n.0, refl)
option_takes {A = A} {image = image} {test = test} {reader = reader} law d a false is e =
    let m = mapped_some Some (reader d) a (sym (some_from reader d is) ∙ e) in
    subst (λ (x : Option A). (d ≡ option_data image x) × (is_option test x ≡ true)) m.2 (law.takes d m.0 m.1)

option_again : {A : Type 0} {levels : ℕ} {image : A → Data} {test : A → Bool} {reader : Reader A} → IsCoding levels image test reader → ((a : A) → is_null (image a) ≡ false) → (a : Option A) → is_option test a ≡ true → option_from reader (option_data image a) ≡ Some a
option_again law some None h = refl
option_again {image = image} {reader = reader} law some (Some a) h = some_from reader (image a) (some a) ∙ ap (option_map Some) (law.again a h)

option_plain : {A : Type 0} {levels : ℕ} {image : A → Data} {test : A → Bool} {reader : Reader A} → IsCoding levels image test reader → (a : Option A) → is_option test a ≡ true → IsPlain levels (option_data image a)
option_plain law None h = tt
option_plain law (Some a) h = law.plain a h

-- an option of what is never null
pub option_law : {A : Type 0} {levels : ℕ} {image : A → Data} {test : A → Bool} {reader : Reader A} → ((a : A) → is_null (image a) ≡ false) → IsCoding levels image test reader → IsCoding levels (option_data image) (is_option test) (option_from reader)
option_law some law = record {
  takes = λ d a e. option_takes law d a (is_null d) refl e;
  again = option_again law some;
  plain = option_plain law;
}

-- ---- lists

each_takes : {A : Type 0} {levels : ℕ} {image : A → Data} {test : A → Bool} {reader : Reader A} → IsCoding levels image test reader → (ds : Items) (items : List A) → each_from reader ds ≡ Some items → (ds ≡ items_data image items) × (is_list test items ≡ true)
each_takes {A = A} {image = image} {test = test} law no_items items e =
    subst (λ (xs : List A). (no_items ≡ items_data image xs) × (is_list test xs ≡ true)) (some_is [] items e) (refl, refl)
each_takes {A = A} {image = image} {test = test} {reader = reader} law (item d ds) items e =
    let first = bind_some (reader d) (λ x. each_from reader ds >>= λ others. Some (x ∷ others)) items e in
    let others = bind_some (each_from reader ds) (λ xs. Some (first.0 ∷ xs)) items first.2 in
    let f = law.takes d first.0 first.1 in
    let o = each_takes law ds others.0 others.1 in
    subst (λ (xs : List A). (item d ds ≡ items_data image xs) × (is_list test xs ≡ true)) (some_is (first.0 ∷ others.0) items others.2)
    (ap₂ item f.0 o.0, and_from (test first.0) (is_list test others.0) f.1 o.1)

each_again : {A : Type 0} {levels : ℕ} {image : A → Data} {test : A → Bool} {reader : Reader A} → IsCoding levels image test reader → (items : List A) → is_list test items ≡ true → each_from reader (items_data image items) ≡ Some items
each_again law [] h = refl
each_again {image = image} {test = test} law (a ∷ items) h =
    let parts = and_parts (test a) (is_list test items) h in
    rw (law.again a parts.0, each_again law items parts.1) refl

each_plain : {A : Type 0} {levels : ℕ} {image : A → Data} {test : A → Bool} {reader : Reader A} → IsCoding levels image test reader → (items : List A) → is_list test items ≡ true → ArePlain levels (items_data image items)
each_plain law [] h = tt
each_plain {test = test} law (a ∷ items) h =
    let parts = and_parts (test a) (is_list test items) h in
    (law.plain a parts.0, each_plain law items parts.1)

list_takes : {A : Type 0} {levels : ℕ} {image : A → Data} {test : A → Bool} {reader : Reader A} → IsCoding levels image test reader → (d : Data) (items : List A) → list_from reader d ≡ Some items → (d ≡ list_data image items) × (is_list test items ≡ true)
list_takes law null items e = absurd cc
list_takes law (boolean b) items e = absurd cc
list_takes law (number n) items e = absurd cc
list_takes law (string s) items e = absurd cc
list_takes law (array ds) items e = let t = each_takes law ds items e in (ap array t.0, t.1)
list_takes law (object ms) items e = absurd cc

pub list_law : {A : Type 0} {levels : ℕ} {image : A → Data} {test : A → Bool} {reader : Reader A} → IsCoding levels image test reader → IsCoding (suc levels) (list_data image) (is_list test) (list_from reader)
list_law law = record { takes = list_takes law; again = each_again law; plain = each_plain law }
