-- What is known of values that were read.
use Rattle.std.proofs.Common.{◌≡◌, ℕ, suc, ◌≤◌, false, nat_le, List, [], ◌∷◌, Option, Some, None, Result, Ok, Err, All, length, map, refl, sym, ap, ◌∙◌, cond, subst, inl, inr, arith}
use Rattle.std.proofs.lemmas.Bool.{cases_Bool, leb-true}
use Rattle.std.proofs.lemmas.List.Elements.{All-nil, All-cons}
use Rattle.bosh_base.specs.Plan.{is_listed}
use Rattle.bosh_yaml.specs.Tree.{Tree, Trees, no_trees, tree}
use Rattle.bosh_fields.specs.Answer.{◌>>=◌, both}
use Rattle.bosh_fields.specs.Distinct.{distinct, fresh_name, new_name}
use Rattle.bosh_fields.specs.Field.{required, required_value, value_at}
use Rattle.bosh_fields.specs.Kind.{Kind, items}
use Rattle.bosh_fields.specs.List.{count, items_up_to}
use Rattle.bosh_fields.specs.declared.fault.FieldFault.{FieldFault}
use Rattle.bosh_fields.specs.declared.fault.FieldFault.TheVariants.{Limit, Repeated}
use Rattle.bosh_manifest_parts.specs.Named.{some_items}
use Rattle.bosh_manifest.specs.Sound.{AreNew}

-- where a step follows, there was a value
pub ok-parts : {A B : Type 0} (read : Result A FieldFault) (f : A → Result B FieldFault) (b : B) → (read >>= f) ≡ Ok b → (a : A) × (read ≡ Ok a) × (f a ≡ Ok b)
ok-parts (Ok a) f b h = (a, refl, h)
ok-parts (Err fault) f b h = absurd (cc)

pub same-ok : {A : Type 0} {a b : A} → ◌≡◌ {A = Result A FieldFault} (Ok a) (Ok b) → a ≡ b
same-ok h = cc

-- of two values that were read, each was
pub both-parts : {A B : Type 0} (first : Result A FieldFault) (second : Result B FieldFault) (p : A × B) → both first second ≡ Ok p → (first ≡ Ok p.0) × (second ≡ Ok p.1)
both-parts (Ok a) (Ok b) p h = let e = same-ok h in (ap (λ (q : _). Ok q.0) e, ap (λ (q : _). Ok q.1) e)
both-parts (Ok a) (Err fault) p h = absurd (cc)
both-parts (Err fault) second p h = absurd (cc)

value-ok : {A : Type 0} (kind : Kind A) (key : List ℕ) (value : Option Tree) (a : A) → required_value kind key value ≡ Ok a → (t : Tree) × (kind key t ≡ Ok a)
value-ok kind key None a h = absurd (cc)
value-ok kind key (Some t) a h = (t, h)

-- what was required was read from some tree
pub required-ok : {A : Type 0} (kind : Kind A) (key : List ℕ) (holder : Tree) (a : A) → required kind key holder ≡ Ok a → (t : Tree) × (kind key t ≡ Ok a)
required-ok kind key holder a h = value-ok kind key (value_at key holder) a h

-- a list that was read is no longer than the most
pub up_to-ok : (most : ℕ) (key : List ℕ) (t : Tree) (ts : Trees) → items_up_to most key t ≡ Ok ts → count ts ≤ most
up_to-ok most key t ts h =
    let (us, read, test) = ok-parts (items key t) (λ us. cond (nat_le (count us) most) (Ok us) (Err (Limit key))) ts h in
    elim (cases_Bool (nat_le (count us) most)) [
      | inl within ↦
          let whole : ◌≡◌ {A = Result Trees FieldFault} (Ok us) (Ok ts) = sym (rw within refl) ∙ test in
          subst (λ (vs : Trees). count vs ≤ most) (same-ok whole) (leb-true (count us) most within)
      | inr beyond ↦ let never : ◌≡◌ {A = Result Trees FieldFault} (Err (Limit key)) (Ok ts) = sym (rw beyond refl) ∙ test in absurd (cc)
    ]

-- a name that was taken is new
new_name-ok : (before : List (List ℕ)) (n name : List ℕ) → new_name before n ≡ Ok name → is_listed name before ≡ false
new_name-ok before n name h =
    elim (cases_Bool (is_listed n before)) [
      | inl listed ↦ let never : ◌≡◌ {A = Result (List ℕ) FieldFault} (Err (Repeated n)) (Ok name) = sym (rw listed refl) ∙ h in absurd (cc)
      | inr new ↦
          let whole : ◌≡◌ {A = Result (List ℕ) FieldFault} (Ok n) (Ok name) = sym (rw new refl) ∙ h in
          subst (λ (m : List ℕ). is_listed m before ≡ false) (same-ok whole) new
    ]

pub record Listed {A : Type 0} (title : A → List ℕ) (P : A → Type 0) (before : List (List ℕ)) (ts : Trees) (items : List A) : Type 0 where
  pub names : AreNew before (map title items)
  pub as_many : length items ≡ count ts
  pub each : All P items

-- items with distinct names that were read
pub listed :
    {A : Type 0} (naming : Tree → Result (List ℕ) FieldFault) (item : List ℕ → Tree → Result A FieldFault) (title : A → List ℕ) (P : A → Type 0)
    → ((name : List ℕ) (t : Tree) (a : A) → item name t ≡ Ok a → (title a ≡ name) × P a)
    → (before : List (List ℕ)) (ts : Trees) (items : List A) → distinct naming item before ts ≡ Ok items → Listed title P before ts items
listed {A} naming item title P sound before no_trees read h =
    subst (λ (xs : List A). Listed title P before no_trees xs) (same-ok h) (record { names = tt; as_many = refl; each = All-nil P })
listed {A} naming item title P sound before (tree t ts) read_items h =
    let (name, fresh, after_name) = ok-parts (fresh_name naming before t) (λ name. item name t >>= λ first. distinct naming item (name ∷ before) ts >>= λ others. Ok (first ∷ others)) read_items h in
    let (first, read, after_first) = ok-parts (item name t) (λ first. distinct naming item (name ∷ before) ts >>= λ others. Ok (first ∷ others)) read_items after_name in
    let (others, tail, whole) = ok-parts (distinct naming item (name ∷ before) ts) (λ others. Ok (first ∷ others)) read_items after_first in
    let (n, named, new) = ok-parts (naming t) (new_name before) name fresh in
    let is_new : is_listed name before ≡ false = new_name-ok before n name new in
    let (titled, holds) = sound name t first read in
    let rest = listed naming item title P sound (name ∷ before) ts others tail in
    let head : is_listed (title first) before ≡ false = subst (λ (m : List ℕ). is_listed m before ≡ false) (sym titled) is_new in
    let names : AreNew (title first ∷ before) (map title others) = subst (λ (m : List ℕ). AreNew (m ∷ before) (map title others)) (sym titled) rest.names in
    subst (λ (xs : List A). Listed title P before (tree t ts) xs) (same-ok whole)
    (record { names = (head, names); as_many = ap suc rest.as_many; each = All-cons P first others holds rest.each })

-- a list that has to have an item has one
pub some_items-ok : {A : Type 0} (key : List ℕ) (xs ys : List A) → some_items key xs ≡ Ok ys → (xs ≡ ys) × (1 ≤ length ys)
some_items-ok key [] ys h = absurd (cc)
some_items-ok {A} key (x ∷ xs) ys h =
    let e = same-ok h in
    let some : 1 ≤ length (x ∷ xs) = omega arith in
    (e, subst (λ (zs : List A). 1 ≤ length zs) e some)
