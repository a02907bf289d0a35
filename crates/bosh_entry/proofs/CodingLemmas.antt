-- What a coding is: what is read is what was spelled, and how codings are put together.
use Rattle.std.proofs.Common.{◌≡◌, ℕ, suc, Bool, true, false, ◌&&◌, cond, List, [], ◌∷◌, ◌++◌, Option, Some, None, refl, sym, ap, subst, ◌∙◌, append_assoc}
use Rattle.std.proofs.lemmas.Bool.{lt-ltb, and_parts, and_from}
use Rattle.bosh_entry.specs.Reading.{IsBytes, ◌>>=◌, Reader, byte_at, making, ◌with◌, only_at}
use Rattle.bosh_entry.specs.Number.{byte, is_byte}

-- what a reader took from the front
pub record Takes (bytes text rest : List ℕ) : Type 0 where
  pub parts : bytes ≡ text ++ rest
  pub rest_fits : IsBytes rest

-- What is read is spelled so, and what is spelled so is read.
pub record IsCoding {A : Type 0} (spelling : A → List ℕ) (test : A → Bool) (reading : Reader A) : Type 0 where
  pub takes : (bytes : List ℕ) (x : A × List ℕ) → IsBytes bytes → reading bytes ≡ Some x → Takes bytes (spelling x.0) x.1 × (test x.0 ≡ true)
  pub again : (a : A) (rest : List ℕ) → test a ≡ true → reading (spelling a ++ rest) ≡ Some (a, rest)

-- the value of a step that did not fail
pub bind_some : {A B : Type 0} (o : Option A) (f : A → Option B) (y : B) → (o >>= f) ≡ Some y → (x : A) × (o ≡ Some x) × (f x ≡ Some y)
bind_some (Some x) f y e = (x, refl, e)
bind_some None f y e = absurd cc

pub some_is : {A : Type 0} (x y : A) → Some x ≡ Some y → x ≡ y
some_is x y e = cc

pub chosen : {A : Type 0} (b : Bool) (x y : A) → cond b (Some x) None ≡ Some y → (b ≡ true) × (x ≡ y)
chosen true x y e = (refl, cc)
chosen false x y e = absurd cc

pub Takes-then : (a x b y c : List ℕ) → Takes a x b → Takes b y c → Takes a (x ++ y) c
Takes-then a x b y c p q = record { parts = p.parts ∙ ap (λ (t : List ℕ). x ++ t) q.parts ∙ sym (append_assoc x y c); rest_fits = q.rest_fits }

-- ---- bytes

IsBytes-rest : (b : ℕ) (bytes : List ℕ) → IsBytes (b ∷ bytes) → IsBytes bytes
IsBytes-rest b bytes h i = h (suc i)

pub byte_takes : (bytes : List ℕ) (x : ℕ × List ℕ) → IsBytes bytes → byte_at bytes ≡ Some x → Takes bytes (byte x.0) x.1 × (is_byte x.0 ≡ true)
byte_takes [] x fits e = absurd cc
byte_takes (b ∷ rest) x fits e =
    subst (λ (y : ℕ × List ℕ). Takes (b ∷ rest) (byte y.0) y.1 × (is_byte y.0 ≡ true)) (some_is (b, rest) x e) (record { parts = refl; rest_fits = IsBytes-rest b rest fits }, lt-ltb b 256 (fits 0))

pub byte_law : IsCoding byte is_byte byte_at
byte_law = record { takes = byte_takes; again = λ b rest h. refl }

-- ---- what is made of parts

-- What is read is made of parts that are spelled one after the other: P is the tuple of the parts.
pub record IsMaking {P A : Type 0} (spelling : P → List ℕ) (test : P → Bool) (make : P → A) (reading : Reader A) : Type 0 where
  pub takes : (bytes : List ℕ) (x : A × List ℕ) → IsBytes bytes → reading bytes ≡ Some x → (p : P) × (make p ≡ x.0) × Takes bytes (spelling p) x.1 × (test p ≡ true)
  pub again : (p : P) (rest : List ℕ) → test p ≡ true → reading (spelling p ++ rest) ≡ Some (make p, rest)

pub making_law : {A : Type 0} (make : A) → IsMaking (λ (u : Unit {0}). []) (λ (u : Unit {0}). true) (λ (u : Unit {0}). make) (making make)
making_law {A} make = record {
  takes = λ bytes x fits e. subst (λ (y : A × List ℕ). (p : Unit {0}) × (make ≡ y.0) × Takes bytes [] y.1 × (true ≡ true)) (some_is (make, bytes) x e) (tt, refl, record { parts = refl; rest_fits = fits }, refl);
  again = λ p rest h. refl;
}

-- one more part
infixl 15 ◌and◌
pub ◌and◌ : {P A B : Type 0} {s : P → List ℕ} {f : P → Bool} {make : P → (A → B)} {r : Reader (A → B)} {t : A → List ℕ} {g : A → Bool} {q : Reader A}
    → IsMaking s f make r → IsCoding t g q → IsMaking (λ (p : P × A). s p.0 ++ t p.1) (λ (p : P × A). f p.0 && g p.1) (λ (p : P × A). make p.0 p.1) (r with q)
◌and◌ {P} {A} {B} {s} {f} {make} {r} {t} {g} {q} before law = record {
  takes = λ bytes x fits e.
      let a = bind_some (r bytes) (λ (a : (A → B) × List ℕ). q a.1 >>= λ b. Some (a.0 b.0, b.1)) x e in
      let b = bind_some (q a.0.1) (λ (b : A × List ℕ). Some (a.0.0 b.0, b.1)) x a.2 in
      let one = before.takes bytes a.0 fits a.1 in
      let two = law.takes a.0.1 b.0 one.2.rest_fits b.1 in
      let made : make one.0 b.0.0 ≡ a.0.0 b.0.0 = ap (λ (m : A → B). m b.0.0) one.1 in
      subst (λ (y : B × List ℕ). (p : P × A) × (make p.0 p.1 ≡ y.0) × Takes bytes (s p.0 ++ t p.1) y.1 × ((f p.0 && g p.1) ≡ true)) (some_is (a.0.0 b.0.0, b.0.1) x b.2)
      ((one.0, b.0.0), made, Takes-then bytes (s one.0) a.0.1 (t b.0.0) b.0.1 one.2 two.0, and_from (f one.0) (g b.0.0) one.3 two.1);
  again = λ p rest h.
      let fits = and_parts (f p.0) (g p.1) h in
      rw (append_assoc, before.again p.0 (t p.1 ++ rest) fits.0, law.again p.1 rest fits.1) refl;
}

-- a struct, by its fields
pub struct_law : {S P : Type 0} {s : P → List ℕ} {f : P → Bool} {make : P → S} {r : Reader S} (parts : S → P)
    → ((p : P) → parts (make p) ≡ p) → ((x : S) → make (parts x) ≡ x) → IsMaking s f make r → IsCoding (λ (x : S). s (parts x)) (λ (x : S). f (parts x)) r
struct_law {S} {P} {s} {f} {make} {r} parts there back law = record {
  takes = λ bytes x fits e.
      let one = law.takes bytes x fits e in
      let same : one.0 ≡ parts x.0 = sym (there one.0) ∙ ap parts one.1 in
      subst (λ (p : P). Takes bytes (s p) x.1 × (f p ≡ true)) same (one.2, one.3);
  again = λ x rest h. law.again (parts x) rest h ∙ ap (λ (y : S). Some (y, rest)) (back x);
}

-- ---- values that meet a test

pub only_law : {A : Type 0} {s : A → List ℕ} {f : A → Bool} {r : Reader A} (test : A → Bool) → ((a : A) → test a ≡ true → f a ≡ true) → IsCoding s f r → IsCoding s test (only_at test r)
only_law {A} {s} {f} {r} test implied law = record {
  takes = λ bytes x fits e.
      let a = bind_some (r bytes) (λ (a : A × List ℕ). cond (test a.0) (Some a) None) x e in
      let c = chosen (test a.0.0) a.0 x a.2 in
      subst (λ (y : A × List ℕ). Takes bytes (s y.0) y.1 × (test y.0 ≡ true)) c.1 ((law.takes bytes a.0 fits a.1).0, c.0);
  again = λ a rest h. rw (law.again a rest (implied a h), h) refl;
}
