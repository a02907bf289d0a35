-- What is read field by field is what is made of the same fields, read in pairs of pairs.
use Rattle.std.proofs.Common.{◌≡◌, ℕ, List, Option, Some, None, refl, sym, ap, ◌∙◌}
use Rattle.bosh_entry.specs.Reading.{◌>>=◌, Reader, making, ◌with◌}
use Rattle.bosh_entry.specs.Pair.{pair_at}

-- what is made of what was read
abbrev pub made : {A B : Type 0} → (A → B) → Option (A × List ℕ) → Option (B × List ℕ)
made make None = None
made make (Some x) = Some (make x.0, x.1)

-- What a reader gives is made of what the reader before it gave, and of parts that are read after that.
pub record Adds {M P S : Type 0} (before : Reader M) (parts : Reader P) (after : Reader S) (make : M → P → S) : Type 0 where
  pub same : (bytes : List ℕ) → after bytes ≡ (before bytes >>= λ m. made (make m.0) (parts m.1))

field_is : {A B : Type 0} (make : A → B) (o : Option (A × List ℕ)) → (o >>= λ x. Some (make x.0, x.1)) ≡ made make o
field_is make None = refl
field_is make (Some x) = refl

with_is : {A B : Type 0} (a : Reader A) (o : Option ((A → B) × List ℕ)) → (o >>= λ m. a m.1 >>= λ x. Some (m.0 x.0, x.1)) ≡ (o >>= λ m. made m.0 (a m.1))
with_is a None = refl
with_is a (Some m) = field_is m.0 (a m.1)

-- the first field
pub first : {A B : Type 0} (make : A → B) (a : Reader A) → Adds (making make) a (making make with a) (λ m x. m x)
first make a = record { same = λ bytes. field_is make (a bytes) }

-- one more field
pub field : {A B : Type 0} {before : Reader (A → B)} (a : Reader A) → Adds before a (before with a) (λ m x. m x)
field {A} {B} {before} a = record { same = λ bytes. with_is a (before bytes) }

-- the second of a pair
abbrev both : {P Q : Type 0} → Reader Q → Option (P × List ℕ) → Option ((P × Q) × List ℕ)
both b None = None
both b (Some x) = made (λ y. (x.0, y)) (b x.1)

both_is : {P Q : Type 0} (b : Reader Q) (o : Option (P × List ℕ)) → (made {B = Q → P × Q} (λ x y. (x, y)) o >>= λ m. made m.0 (b m.1)) ≡ both b o
both_is b None = refl
both_is b (Some x) = refl

pair_is : {P Q : Type 0} (a : Reader P) (b : Reader Q) (bytes : List ℕ) → pair_at a b bytes ≡ both b (a bytes)
unfolding pair_at
pair_is {P} {Q} a b bytes =
    let make : P → Q → P × Q = λ x y. (x, y) in
    (field {before = making make with a} b).same bytes
    ∙ ap (λ (o : Option ((Q → P × Q) × List ℕ)). o >>= λ m. made m.0 (b m.1)) ((first make a).same bytes)
    ∙ both_is b (a bytes)

made_twice : {P Q S R : Type 0} (x : P) (s : S) (u : P → S) (v : S → Q → R) (o : Option (Q × List ℕ)) → made (v (u x)) o ≡ made {A = P × Q} (λ z. v (u z.0) z.1) (made (λ y. (x, y)) o)
made_twice x s u v None = refl
made_twice x s u v (Some y) = refl

made_both : {P Q S R : Type 0} (u : P → S) (v : S → Q → R) (b : Reader Q) (o : Option (P × List ℕ)) → (made u o >>= λ s. made (v s.0) (b s.1)) ≡ made {A = P × Q} (λ z. v (u z.0) z.1) (both b o)
made_both u v b None = refl
made_both u v b (Some x) = made_twice x.0 (u x.0) u v (b x.1)

paired : {M P Q S R : Type 0} (u : M → P → S) (v : S → Q → R) (a : Reader P) (b : Reader Q) (o : Option (M × List ℕ))
    → ((o >>= λ m. made (u m.0) (a m.1)) >>= λ s. made (v s.0) (b s.1)) ≡ (o >>= λ m. made {A = P × Q} (λ z. v (u m.0 z.0) z.1) (pair_at a b m.1))
paired u v a b None = refl
paired {M} {P} {Q} {S} {R} u v a b (Some m) =
    made_both (u m.0) v b (a m.1) ∙ ap (made (λ (z : P × Q). v (u m.0 z.0) z.1)) (sym (pair_is a b m.1))

-- these parts, and then those
infixl 15 ◌then◌
pub ◌then◌ : {M P Q S R : Type 0} {before : Reader M} {a : Reader P} {middle : Reader S} {b : Reader Q} {after : Reader R} {u : M → P → S} {v : S → Q → R}
    → Adds before a middle u → Adds middle b after v → Adds before (pair_at a b) after (λ m x. v (u m x.0) x.1)
◌then◌ {M} {P} {Q} {S} {R} {before} {a} {middle} {b} {after} {u} {v} these those = record {
  same = λ bytes.
      those.same bytes
      ∙ ap (λ (o : Option (S × List ℕ)). o >>= λ s. made (v s.0) (b s.1)) (these.same bytes)
      ∙ paired u v a b (before bytes);
}
