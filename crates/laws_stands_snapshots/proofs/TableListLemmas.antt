-- What tables in order list: the things at the keys that are known to have one, in the order of these keys.
use Rattle.std.proofs.Common.{◌≡◌, ◌∙◌, Bool, true, false, ◌||◌, List, [], ◌∷◌, filter, map, Option, Some, None}
use Rattle.std.proofs.Common.{ap, inl, inr, refl, sym}
use Rattle.std.specs.Prelude.{cond, is_some, if◌then◌else◌}
use Rattle.std.specs.BTreeMap.{is_at}
use Rattle.std.specs.Cmp.{IsTotalOrder}
use Rattle.std.specs.List.{AllByRecursion, cons_option, filter_map}
use Rattle.std.specs.Option.{option_and_then, option_map, option_map_or}
use Rattle.std.specs.Ordering.{is_eq}
use Rattle.std.specs.declared.cmp.Ordering.{Ordering}
use Rattle.std.specs.declared.cmp.Ordering.TheVariants.{Equal}
use Rattle.std.proofs.lemmas.Bool.{true≢false}
use Rattle.bosh_history.specs.Words.{is_among}
use Rattle.bosh_records.specs.Ordered.{AreInOrder}
use Rattle.bosh_records.specs.Table.{found}
use Rattle.bosh_rows.specs.SoundSnapshot.{are_distinct}
use Rattle.laws_facts.proofs.ListLemmas.{Tells}
use Rattle.laws_facts.proofs.OrderLemmas.{distinct_ascending}
use Rattle.laws_row_facts.specs.Words.{are_ascending}
use Rattle.laws_stands.proofs.OrderLemmas.{once_in}
use Rattle.laws_stands.specs.Once.{IsOnce}
use Rattle.laws_stands_on.proofs.TableLemmas.{TellsKeys}
use Rattle.laws_stands_works.proofs.InOrderLemmas.{among_kept, kept_in_order, kept_keys, same_in_order}

-- an order of keys, and the test that tells whether two are one
pub record TellsApart {K : Type 0} (cmp : K → K → Ordering) (same : K → K → Bool) : Type 0 where
  pub total : IsTotalOrder cmp
  pub keys : TellsKeys cmp
  pub at_is : (a b : K) → is_at (cmp a) b ≡ same a b
  pub own : (a : K) → same a a ≡ true

-- ---- lists

pub mapped_filter : {X A B : Type 0} (f : X → Option A) (g : A → B) (xs : List X)
    → map g (filter_map f xs) ≡ filter_map (λ x. option_map g (f x)) xs
mapped_filter f g [] = refl
mapped_filter {X} {A} {B} f g (x ∷ xs) = by (f x) (mapped_filter f g xs)
  where
    by : (o : Option A) → map g (filter_map f xs) ≡ filter_map (λ x. option_map g (f x)) xs
        → map g (cons_option o (filter_map f xs)) ≡ cons_option (option_map g o) (filter_map (λ x. option_map g (f x)) xs)
    by (Some a) more = ap (λ rest. g a ∷ rest) more
    by None more = more

pub filter_all : {X A : Type 0} (f : X → A) (xs : List X) → filter_map (λ x. Some (f x)) xs ≡ map f xs
filter_all f [] = refl
filter_all f (x ∷ xs) = ap (λ rest. f x ∷ rest) (filter_all f xs)

pub filter_mapped : {X Y A : Type 0} (f : Y → Option A) (g : X → Y) (xs : List X)
    → filter_map f (map g xs) ≡ filter_map (λ x. f (g x)) xs
filter_mapped f g [] = refl
filter_mapped f g (x ∷ xs) = ap (cons_option (f (g x))) (filter_mapped f g xs)

-- ---- lists in order

module _ {K : Type 0} {cmp : K → K → Ordering} {same : K → K → Bool} (order : TellsApart cmp same) where
  pub is_same : (a b : K) → same a b ≡ true → a ≡ b
  is_same a b is = order.keys a b (order.at_is a b ∙ is)

  pub equal : (a b : K) → cmp a b ≡ Equal → a ≡ b
  equal a b is = order.keys a b (ap is_eq is)

  pub tells : (a b : K) → Tells same a b
  tells a b = by (same a b) refl
    where
      by : (c : Bool) → same a b ≡ c → Tells same a b
      by true is = inl (is, is_same a b is)
      by false is = inr (is, λ one. true≢false (sym (ap (same a) (sym one) ∙ order.own a) ∙ is))

  pub ascending_apart : (xs : List K) → are_ascending cmp xs ≡ true → are_distinct same xs ≡ true
  ascending_apart = distinct_ascending cmp order.total same tells equal

-- ---- tables

module _ {K X R : Type 0} (cmp : K → K → Ordering) (same : K → K → Bool) (order : TellsApart cmp same)
    (f : X → Option R) where
  -- each entry is found at its key
  pub all_found : (es : List (K × X)) → IsOnce cmp es → AllByRecursion (λ (e : K × X). found cmp es e.0 ≡ Some e.1) es
  all_found [] once = tt
  all_found (e ∷ es) (none, once) =
      ((λ i. cond ((order.at_is e.0 e.0 ∙ order.own e.0) i) (Some e.1) (found cmp es e.0)), later es (all_found es once))
    where
      later : (ds : List (K × X)) → AllByRecursion (λ (d : K × X). found cmp es d.0 ≡ Some d.1) ds
          → AllByRecursion (λ (d : K × X). found cmp (e ∷ es) d.0 ≡ Some d.1) ds
      later [] all = tt
      later (d ∷ ds) (here, more) = (by (is_at (cmp d.0) e.0) refl, later ds more)
        where
          by : (b : Bool) → is_at (cmp d.0) e.0 ≡ b → found cmp (e ∷ es) d.0 ≡ Some d.1
          by true at = absurd (let e : None ≡ Some d.1 =
              sym none ∙ ap (found cmp es) (sym (order.keys d.0 e.0 at)) ∙ here in cc)
          by false away = (λ i. cond (away i) (Some e.1) (found cmp es d.0)) ∙ here

  abbrev keep : K × X → Bool
  keep e = is_some (f e.1)

  -- what a function of the keys says of each entry
  listed_by : (at : K → Option R) (es : List (K × X)) → AllByRecursion (λ (e : K × X). at e.0 ≡ f e.1) es
      → filter_map (λ (e : K × X). f e.1) es ≡ filter_map at (map (λ (e : K × X). e.0) (filter keep es))
  listed_by at [] all = refl
  listed_by at (e ∷ es) (here, more) = by (f e.1) refl (listed_by at es more)
    where
      by : (o : Option R) → f e.1 ≡ o
          → filter_map (λ (e : K × X). f e.1) es ≡ filter_map at (map (λ (e : K × X). e.0) (filter keep es))
          → cons_option (f e.1) (filter_map (λ (e : K × X). f e.1) es)
          ≡ filter_map at (map (λ (e : K × X). e.0)
          (if is_some (f e.1) then e ∷ filter keep es else filter keep es))
      by (Some r) is rest =
          (λ i. cons_option (is i) (filter_map (λ (e : K × X). f e.1) es))
          ∙ ap (λ more. r ∷ more) rest
          ∙ (λ i. cons_option (sym (here ∙ is) i) (filter_map at (map (λ (e : K × X). e.0) (filter keep es))))
          ∙ (λ i. filter_map at (map (λ (e : K × X). e.0)
          (if is_some (sym is i) then e ∷ filter keep es else filter keep es)))
      by None is rest =
          (λ i. cons_option (is i) (filter_map (λ (e : K × X). f e.1) es))
          ∙ rest
          ∙ (λ i. filter_map at (map (λ (e : K × X). e.0)
          (if is_some (sym is i) then e ∷ filter keep es else filter keep es)))

  within : (at other : K → Option R) (ks : List K) → ((k : K) → is_among same k ks ≡ true → at k ≡ other k)
      → filter_map at ks ≡ filter_map other ks
  within at other [] alike = refl
  within at other (k ∷ ks) alike =
      (λ i. cons_option (alike k (λ j. order.own k j || is_among same k ks) i) (filter_map at ks))
      ∙ ap (cons_option (other k)) (within at other ks (λ x there. alike x (too (same x k) there)))
    where
      too : {c : Bool} (b : Bool) → c ≡ true → (b || c) ≡ true
      too true there = refl
      too false there = there

  -- the things of a table in order
  pub table_lists : (es : List (K × X)) (ks : List K) (at : K → Option R) → AreInOrder cmp es
      → are_ascending cmp ks ≡ true
      → ((k : K) → option_and_then f (found cmp es k) ≡ (if is_among same k ks then at k else None))
      → ((k : K) → is_among same k ks ≡ true → is_some (at k) ≡ true)
      → filter_map (λ (e : K × X). f e.1) es ≡ filter_map at ks
  table_lists es ks at ordered rise says there =
      listed_by (λ k. option_and_then f (found cmp es k)) es (each es (all_found es (once_in cmp es ordered)))
      ∙ ap (filter_map (λ k. option_and_then f (found cmp es k))) kept_are
      ∙ within (λ k. option_and_then f (found cmp es k)) at ks
      (λ k listed. says k ∙ (λ i. if listed i then at k else None))
    where
      each : (ds : List (K × X)) → AllByRecursion (λ (d : K × X). found cmp es d.0 ≡ Some d.1) ds
          → AllByRecursion (λ (d : K × X). option_and_then f (found cmp es d.0) ≡ f d.1) ds
      each [] all = tt
      each (d ∷ ds) (here, more) = (ap (option_and_then f) here, each ds more)

      members : (k : K) → is_among same k (kept_keys cmp order.keys same order.at_is keep es) ≡ is_among same k ks
      members k =
          among_kept cmp order.keys same order.at_is keep es (once_in cmp es ordered) k
          ∙ of (found cmp es k) ∙ ap is_some (says k) ∙ by (is_among same k ks) refl
        where
          of : (o : Option X) → option_map_or (λ x. is_some (f x)) o false ≡ is_some (option_and_then f o)
          of (Some x) = refl
          of None = refl

          by : (b : Bool) → is_among same k ks ≡ b → is_some (if b then at k else None) ≡ b
          by true listed = there k listed
          by false none = refl

      kept_are : kept_keys cmp order.keys same order.at_is keep es ≡ ks
      kept_are = same_in_order cmp order.total same (tells order) (equal order) (is_same order) order.own
          (kept_keys cmp order.keys same order.at_is keep es) ks
          (kept_in_order cmp order.keys same order.at_is keep es ordered) rise members
