-- What is measured is what is made.
use Rattle.std.proofs.Common.{◌≡◌, ℕ, ◌+◌, ◌≤◌, Bool, true, false, IfOk, List, [], ◌∷◌, ◌++◌, length, Option, Some, None, Result, Ok, Err, ap, sym, ◌∙◌, subst, refl, length-append, arith}
use Rattle.std.proofs.lemmas.Bool.Decides.{nat_tests}
use Rattle.std.specs.Prelude.{nat_le}
use Rattle.bosh_yaml.specs.Tree.{Tree, Trees, Fields, null, boolean, integer, text, list, map, no_trees, tree, no_fields, field}
use Rattle.bosh_yaml.specs.View.{tree_of}
use Rattle.bosh_yaml.specs.declared.node.Node.{Node}
use Rattle.bosh_vars.specs.declared.fault.VarsFault.{VarsFault}
use Rattle.bosh_vars.specs.Filled.{Values, inner_text, text_for, value_for, part_text, joined_text, only_name, filled_from, filled, filled_items, filled_fields}
use Rattle.bosh_vars.specs.Placeholder.{Part, plain, placeholder, parts}
use Rattle.bosh_vars.specs.Result.{◌>>=◌, Gives}
use Rattle.bosh_vars.specs.Size.{node_bytes, most_bytes, fits, size, size_of_items, size_of_fields, text_size, value_size, inner_size, part_size, joined_text_size, size_from, filled_size, filled_items_size, filled_fields_size}

ok_is : {A : Type 0} (a b : A) → ◌≡◌ {A = Result A VarsFault} (Ok a) (Ok b) → a ≡ b
ok_is a b h = cc

-- a step that came to an end
bound : {A B : Type 0} (r : Result A VarsFault) (f : A → Result B VarsFault) (b : B) → (r >>= f) ≡ Ok b → (a : A) × ((r ≡ Ok a) × (f a ≡ Ok b))
bound (Ok a) f b h = (a, (refl, h))
bound (Err e) f b h = cc

text_made : (name s : List ℕ) (o : Option (List ℕ)) (value : Tree) → inner_text value ≡ o → text_for name value ≡ Ok s → text_size o ≡ length s
text_made name s None value is h = cc
text_made name s (Some t) value is h = cc

inner_made : (name s : List ℕ) (o : Option Tree) (values : Values) → values name ≡ o → (value_for values name >>= text_for name) ≡ Ok s → inner_size o ≡ length s
inner_made name s None values is h = cc
inner_made name s (Some value) values is h = text_made name s (inner_text value) value refl cc

part_made : (values : Values) (part : Part) (s : List ℕ) → part_text values part ≡ Ok s → part_size values part ≡ length s
part_made values (plain b) s h = ap length (ok_is (b ∷ []) s h)
part_made values (placeholder name) s h = inner_made name s (values name) values refl h

joined_made : (values : Values) (ps : List Part) (s : List ℕ) → joined_text values ps ≡ Ok s → joined_text_size values ps ≡ length s
joined_made values [] s h = ap length (ok_is [] s h)
joined_made values (part ∷ rest) s h =
    let front = bound (part_text values part) (λ front. joined_text values rest >>= λ more. Ok (front ++ more)) s h in
    let more = bound (joined_text values rest) (λ more. Ok (front.0 ++ more)) s front.1.1 in
    let whole : front.0 ++ more.0 ≡ s = ok_is (front.0 ++ more.0) s more.1.1 in
    ap (λ n. n + joined_text_size values rest) (part_made values part front.0 front.1.0)
    ∙ (ap (λ n. length front.0 + n) (joined_made values rest more.0 more.1.0) ∙ (sym (length-append front.0 more.0) ∙ ap length whole))

value_made : (name : List ℕ) (u : Tree) (o : Option Tree) (values : Values) → values name ≡ o → value_for values name ≡ Ok u → value_size o ≡ size u
value_made name u None values is h = cc
value_made name u (Some value) values is h = cc

text_filled : (values : Values) (o : Option (List ℕ)) (ps : List Part) (u : Tree) → filled_from values o ps ≡ Ok u → size_from values o ps ≡ size u
text_filled values (Some name) ps u h = value_made name u (values name) values refl h
text_filled values None ps u h =
    let s = bound (joined_text values ps) (λ s. Ok (text s)) u h in
    ap (λ n. node_bytes + n) (joined_made values ps s.0 s.1.0) ∙ ap size (ok_is (text s.0) u s.1.1)

mutual
  pub made : (values : Values) (t u : Tree) → filled values t ≡ Ok u → filled_size values t ≡ size u
  made values null u h = ap size (ok_is null u h)
  made values (boolean b) u h = ap size (ok_is (boolean b) u h)
  made values (integer n) u h = ap size (ok_is (integer n) u h)
  made values (text s) u h = text_filled values (only_name (parts s)) (parts s) u h
  made values (list ts) u h =
      let us = bound (filled_items values ts) (λ us. Ok (list us)) u h in
      ap (λ n. node_bytes + n) (items_made values ts us.0 us.1.0) ∙ ap size (ok_is (list us.0) u us.1.1)
  made values (map fs) u h =
      let gs = bound (filled_fields values fs) (λ gs. Ok (map gs)) u h in
      ap (λ n. node_bytes + n) (fields_made values fs gs.0 gs.1.0) ∙ ap size (ok_is (map gs.0) u gs.1.1)

  items_made : (values : Values) (ts us : Trees) → filled_items values ts ≡ Ok us → filled_items_size values ts ≡ size_of_items us
  items_made values no_trees us h = ap size_of_items (ok_is no_trees us h)
  items_made values (tree t ts) us h =
      let u = bound (filled values t) (λ u. filled_items values ts >>= λ us. Ok (tree u us)) us h in
      let more = bound (filled_items values ts) (λ us. Ok (tree u.0 us)) us u.1.1 in
      ap (λ n. n + filled_items_size values ts) (made values t u.0 u.1.0)
      ∙ (ap (λ n. size u.0 + n) (items_made values ts more.0 more.1.0) ∙ ap size_of_items (ok_is (tree u.0 more.0) us more.1.1))

  fields_made : (values : Values) (fs gs : Fields) → filled_fields values fs ≡ Ok gs → filled_fields_size values fs ≡ size_of_fields gs
  fields_made values no_fields gs h = ap size_of_fields (ok_is no_fields gs h)
  fields_made values (field key t fs) gs h =
      let u = bound (filled values t) (λ u. filled_fields values fs >>= λ gs. Ok (field key u gs)) gs h in
      let more = bound (filled_fields values fs) (λ gs. Ok (field key u.0 gs)) gs u.1.1 in
      ap (λ n. (length key + n) + filled_fields_size values fs) (made values t u.0 u.1.0)
      ∙ (ap (λ n. (length key + size u.0) + n) (fields_made values fs more.0 more.1.0) ∙ ap size_of_fields (ok_is (field key u.0 more.0) gs more.1.1))

-- values that are alike take alike
pub fits_alike : (f g : Values) (t : Tree) → ((name : List ℕ) → f name ≡ g name) → fits f t ≡ fits g t
fits_alike f g t same =
    let path : f ≡ g = λ k. λ name. same name k in
    ap (λ values. fits values t) path

pub fits_not : (b : Bool) → b ≡ false → b ≡ true → ⊥
fits_not true h is = cc
fits_not false h is = cc

within : (n : ℕ) → nat_le n most_bytes ≡ true → n ≤ most_bytes
within n fact = grind (arith, nat_tests)

-- what is made of a node that fits takes no more than it may
pub made_fits : (r : Result Node VarsFault) (values : Values) (t : Tree) → Gives tree_of r (filled values t) → fits values t ≡ true → IfOk r (λ n. size (tree_of n) ≤ most_bytes)
made_fits (Ok n) values t gives fit = subst (λ n. n ≤ most_bytes) (made values t (tree_of n) gives) (within (filled_size values t) fit)
made_fits (Err e) values t gives fit = tt
