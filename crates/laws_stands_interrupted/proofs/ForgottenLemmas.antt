-- Tables once several calls are open no more.
use Rattle.std.proofs.Common.{◌≡◌, ◌∙◌, ℕ, Bool, true, false, ◌||◌, not, ◌==◌, List, [], ◌∷◌, filter, Option}
use Rattle.std.proofs.Common.{Some, None, ap, refl, sym}
use Rattle.std.specs.Prelude.{cond, fold, option_map, if◌then◌else◌}
use Rattle.std.specs.BTreeMap.{is_at}
use Rattle.std.specs.List.{list_any}
use Rattle.std.specs.Option.{option_and_then}
use Rattle.std.specs.Ordering.{nat_cmp}
use Rattle.std.specs.declared.cmp.Ordering.{Ordering}
use Rattle.std.proofs.lemmas.Bool.{eq-eqb, false≢true, true≢false}
use Rattle.bosh_base.specs.declared.call.Call.{Call}
use Rattle.bosh_base.specs.declared.entry.Begin.{Begin}
use Rattle.bosh_base.specs.declared.owner.Owner.{Owner}
use Rattle.bosh_fold.specs.Calls.{closed_call, with_call, with_compiling}
use Rattle.bosh_fold.specs.Tasks.{calls_of, forgotten_call, is_call_of}
use Rattle.bosh_records.specs.Recorded.{Recorded}
use Rattle.bosh_records.specs.Table.{found, thing_in}
use Rattle.laws_stands.specs.Once.{IsOnce}
use Rattle.laws_stands.specs.Told.{of_others}
use Rattle.laws_stands_on.proofs.TableLemmas.{nat_at, nat_keys}

-- ---- what no call changes

pub rest_same : {X : Type 0} (read : Recorded → X)
    → ((owner : Owner) (it : Recorded) → read (with_call owner None it) ≡ read it)
    → ((call : Call) (it : Recorded) → read (with_compiling call None it) ≡ read it) → (begins : List Begin)
    → (it : Recorded) → read (fold forgotten_call it begins) ≡ read it
rest_same read owners keys [] it = refl
rest_same read owners keys (begin ∷ begins) it =
    rest_same read owners keys begins (closed_call begin it)
    ∙ keys begin.call (with_call begin.owner None it) ∙ owners begin.owner it

-- ---- what each changes at its own subject

module _ {K X : Type 0} (cmp : K → K → Ordering) (table : Recorded → List (K × X)) (clear : X → X)
    (twice : (x : X) → clear (clear x) ≡ clear x) (on : K → Begin → Bool)
    (one : (b : Begin) (it : Recorded) (k : K) → found cmp (table (closed_call b it)) k
    ≡ (if on k b then option_map clear (found cmp (table it) k) else found cmp (table it) k)) where
  again : (a b : Bool) (o : Option X)
      → (if a then option_map clear (if b then option_map clear o else o) else (if b then option_map clear o else o))
      ≡ (if b || a then option_map clear o else o)
  again true true (Some x) = ap Some (twice x)
  again true true None = refl
  again true false o = refl
  again false true o = refl
  again false false o = refl

  pub many : (begins : List Begin) (it : Recorded) (k : K) → found cmp (table (fold forgotten_call it begins)) k
      ≡ (if list_any (on k) begins then option_map clear (found cmp (table it) k) else found cmp (table it) k)
  many [] it k = refl
  many (begin ∷ begins) it k =
      many begins (closed_call begin it) k
      ∙ (λ j. if list_any (on k) begins then option_map clear (one begin it k j) else one begin it k j)
      ∙ again (list_any (on k) begins) (on k begin) (found cmp (table it) k)

-- ---- the calls of a task

module _ (t : ℕ) where
  -- one of them is open under its number
  pub record IsOneOf (places : List (ℕ × Option Begin)) (p : Begin → Bool) : Type 0 where
    pub number : ℕ
    pub begin : Begin
    pub there : thing_in nat_cmp places number ≡ Some begin
    pub own : (begin.task == t) ≡ true
    pub passes : p begin ≡ true

  behind : (n : ℕ) (o : Option Begin) (places : List (ℕ × Option Begin)) (p : Begin → Bool)
      → found nat_cmp places n ≡ None → IsOneOf places p → IsOneOf ((n, o) ∷ places) p
  behind n o places p none one = record {
    number = one.number;
    begin = one.begin;
    there = (λ j. option_and_then (λ place. place) (cond (away j) (Some o) (found nat_cmp places one.number))) ∙ one.there;
    own = one.own;
    passes = one.passes;
  }
    where
      away : is_at (nat_cmp one.number) n ≡ false
      away = by (is_at (nat_cmp one.number) n) refl
        where
          by : (b : Bool) → is_at (nat_cmp one.number) n ≡ b → b ≡ false
          by false is = refl
          by true is =
              absurd (let e : None ≡ Some one.begin = sym (ap (option_and_then (λ (place : Option Begin). place))
              (ap (found nat_cmp places) (nat_keys one.number n is) ∙ none)) ∙ one.there in cc)

  pub one_is_open : (p : Begin → Bool) (places : List (ℕ × Option Begin)) → IsOnce nat_cmp places
      → list_any p (calls_of t places) ≡ true → IsOneOf places p
  one_is_open p [] once is = absurd (false≢true is)
  one_is_open p ((n, None) ∷ places) (none, once) is = behind n None places p none (one_is_open p places once is)
  one_is_open p ((n, Some begin) ∷ places) (none, once) is =
      by (begin.task == t) refl (p begin) refl is
      (λ is. behind n (Some begin) places p none (one_is_open p places once is))
    where
      by : (a : Bool) → (begin.task == t) ≡ a → (b : Bool) → p begin ≡ b
          → list_any p (if a then begin ∷ calls_of t places else calls_of t places) ≡ true
          → (list_any p (calls_of t places) ≡ true → IsOneOf ((n, Some begin) ∷ places) p)
          → IsOneOf ((n, Some begin) ∷ places) p
      by true own true passes is more = record {
        number = n;
        begin = begin;
        there = λ j. option_and_then (λ (place : Option Begin). place) (cond ((nat_at n n ∙ eq-eqb n n refl) j)
            (Some (Some begin)) (found nat_cmp places n));
        own = own;
        passes = passes;
      }
      by true own false fails is more = more ((λ j. sym fails j || list_any p (calls_of t places)) ∙ is)
      by false other b passes is more = more is

  -- .. and where none of them passes, none that is open does
  pub none_is_open : (p : Begin → Bool) (places : List (ℕ × Option Begin)) → list_any p (calls_of t places) ≡ false
      → (n : ℕ) (b : Begin) → thing_in nat_cmp places n ≡ Some b → (b.task == t) ≡ true → p b ≡ false
  none_is_open p [] none n b is own = absurd cc
  none_is_open p ((m, None) ∷ places) none n b is own = by (is_at (nat_cmp n) m) is
      (λ is. none_is_open p places none n b is own)
    where
      by : (c : Bool) → option_and_then (λ (place : Option Begin). place) (cond c (Some None) (found nat_cmp places n))
          ≡ Some b → (thing_in nat_cmp places n ≡ Some b → p b ≡ false) → p b ≡ false
      by true is more = absurd cc
      by false is more = more is
  none_is_open p ((m, Some begin) ∷ places) none n b is own =
      by (is_at (nat_cmp n) m) is (begin.task == t) refl none
      (λ none is. none_is_open p places none n b is own)
    where
      both : (a c : Bool) → (a || c) ≡ false → (a ≡ false) × (c ≡ false)
      both false c is = (refl, is)
      both true c is = absurd (true≢false is)

      by : (c : Bool) → option_and_then (λ (place : Option Begin). place) (cond c (Some (Some begin)) (found nat_cmp places n))
          ≡ Some b → (a : Bool) → (begin.task == t) ≡ a
          → list_any p (if a then begin ∷ calls_of t places else calls_of t places) ≡ false
          → (list_any p (calls_of t places) ≡ false → thing_in nat_cmp places n ≡ Some b → p b ≡ false) → p b ≡ false
      by true is true here none more =
          let one : begin ≡ b = cc in
          ap p (sym one) ∙ (both (p begin) (list_any p (calls_of t places)) none).0
      by true is false away none more =
          let one : begin ≡ b = cc in
          absurd (false≢true (sym away ∙ ap (λ (b : Begin). b.task == t) one ∙ own))
      by false is true here none more = more (both (p begin) (list_any p (calls_of t places)) none).1 is
      by false is false away none more = more none is

  -- ---- the calls of others stay

  -- the calls of other tasks
  abbrev others : List (ℕ × Option Begin) → List (ℕ × Option Begin)
  others places = filter (λ place. not (is_call_of t place.1)) places

  pub others_stay : (places : List (ℕ × Option Begin)) → IsOnce nat_cmp places → (n : ℕ)
      → thing_in nat_cmp (others places) n ≡ of_others t (thing_in nat_cmp places n)
  others_stay [] once n = refl
  others_stay ((m, o) ∷ places) (none, once) n =
      by (is_at (nat_cmp n) m) refl (is_call_of t o) refl (others_stay places once n)
    where
      own_gone : (o : Option Begin) → is_call_of t o ≡ true → of_others t o ≡ None
      own_gone (Some b) is = λ j. if is j then None else Some b
      own_gone None is = refl

      other_kept : (o : Option Begin) → is_call_of t o ≡ false → o ≡ of_others t o
      other_kept (Some b) is = λ j. if sym is j then None else Some b
      other_kept None is = refl

      by : (a : Bool) → is_at (nat_cmp n) m ≡ a → (c : Bool) → is_call_of t o ≡ c
          → thing_in nat_cmp (others places) n ≡ of_others t (thing_in nat_cmp places n)
          → thing_in nat_cmp (if not c then (m, o) ∷ others places else others places) n
          ≡ of_others t (option_and_then (λ place. place) (cond (is_at (nat_cmp n) m) (Some o) (found nat_cmp places n)))
      by true here true own more =
          more ∙ ap (λ place. of_others t (option_and_then (λ (place : Option Begin). place) place))
          (ap (found nat_cmp places) (nat_keys n m here) ∙ none)
          ∙ sym (own_gone o own)
          ∙ (λ j. of_others t (option_and_then (λ place. place) (cond (sym here j) (Some o) (found nat_cmp places n))))
      by true here false other more =
          (λ j. option_and_then (λ place. place) (cond (here j) (Some o) (found nat_cmp (others places) n)))
          ∙ other_kept o other
          ∙ (λ j. of_others t (option_and_then (λ place. place) (cond (sym here j) (Some o) (found nat_cmp places n))))
      by false away true own more =
          more ∙ (λ j. of_others t (option_and_then (λ place. place) (cond (sym away j) (Some o) (found nat_cmp places n))))
      by false away false other more =
          (λ j. option_and_then (λ place. place) (cond (away j) (Some o) (found nat_cmp (others places) n))) ∙ more
          ∙ (λ j. of_others t (option_and_then (λ place. place) (cond (sym away j) (Some o) (found nat_cmp places n))))
