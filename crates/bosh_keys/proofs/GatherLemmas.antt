-- How what is gathered grows.
use Rattle.std.proofs.Common.{◌≡◌, ◌∙◌, ℕ, ◌+◌, ◌<◌, Bool, true, false, ◌||◌, cond, List, [], ◌∷◌, ◌++◌, length, map, take, get_or, Option, refl, sym, subst, ap, append-nil, append_assoc}
use Rattle.std.specs.Prelude.{filter_map}
use Rattle.std.specs.BTreeSet.{UpdatesBy, contains, insert_key}
use Rattle.std.specs.Cmp.Lexicographic.{slice_cmp}
use Rattle.std.specs.List.{flat_map}
use Rattle.std.specs.Ordering.{is_eq, match_ordering, nat_cmp}
use Rattle.std.specs.declared.cmp.Ordering.{Ordering}
use Rattle.std.specs.declared.cmp.Ordering.TheVariants.{Less, Equal, Greater}
use Rattle.std.proofs.lemmas.List.{map-append, take_more}
use Rattle.std.proofs.lemmas.List.Concat.{flat_map-append}
use Rattle.std.proofs.lemmas.List.Elements.{filter_map-append}
use Rattle.std.proofs.lemmas.List.Folds.{list_any-append}
use Rattle.std.proofs.lemmas.List.Sums.{fold-append}
use denote.Ref.{Bor}
use Rattle.bosh_base.specs.declared.key.Key.{Key}
use Rattle.bosh_base.specs.declared.key.KeyWork.{KeyWork}
use Rattle.bosh_compile.specs.CompileOrder.{key_cmp}
use Rattle.bosh_compile.specs.Readiness.{same_key}
use Rattle.bosh_release_files.specs.Files.{in_order}
use Rattle.bosh_keys.specs.Once.{Adds, AreSeen, IsGathered, has_work, with_work, with_works}
use Rattle.bosh_keys.specs.declared.gathered.Gathered.{Gathered}
use Rattle.bosh_keys.proofs.KeyLemmas.{is_eq-key_cmp}

-- ---- one thing after another

pub Adds-none : (gathered : Gathered) → Adds [] [] gathered gathered
Adds-none gathered = record {
  gathers = λ before keys is. subst (λ all. IsGathered before all gathered) (sym (append-nil keys)) is;
}

pub Adds-then :
    (works more : List KeyWork) (asked others : List Key) (old mid new : Gathered) → Adds works asked old mid → Adds more others mid new
    → Adds (works ++ more) (asked ++ others) old new
Adds-then works more asked others old mid new first second = record {
  gathers = λ before keys is.
      subst (λ all. IsGathered all (keys ++ (asked ++ others)) new) (sym (fold-append with_work before works more))
      (subst (λ all. IsGathered (with_works (with_works before works) more) all new) (append_assoc keys asked others)
      (second.gathers (with_works before works) (keys ++ asked) (first.gathers before keys is)));
}

-- one more of those that a loop goes over
pub one_more : {X : Type 0} (xs : List X) (i : ℕ) (x : X) → i < length xs → x ≡ get_or xs i x → take (i + 1) xs ≡ take i xs ++ x ∷ []
one_more xs i x lt is = take_more xs i x lt ∙ ap (λ y. take i xs ++ y ∷ []) (sym is)

pub flat_more : {X Y : Type 0} (f : X → List Y) (xs : List X) (x : X) → flat_map f (xs ++ x ∷ []) ≡ flat_map f xs ++ f x
flat_more f xs x = flat_map-append f xs (x ∷ []) ∙ ap (λ ys. flat_map f xs ++ ys) (append-nil (f x))

pub Adds-flat :
    {X : Type 0} (f : X → List KeyWork) (g : X → List Key) (xs : List X) (i : ℕ) (x : X) (old mid new : Gathered)
    → i < length xs → x ≡ get_or xs i x → Adds (flat_map f (take i xs)) (flat_map g (take i xs)) old mid → Adds (f x) (g x) mid new
    → Adds (flat_map f (take (i + 1) xs)) (flat_map g (take (i + 1) xs)) old new
Adds-flat f g xs i x old mid new lt is first second =
    subst (λ all. Adds (flat_map f all) (flat_map g all) old new) (sym (one_more xs i x lt is))
    (subst (λ works. Adds works (flat_map g (take i xs ++ x ∷ [])) old new) (sym (flat_more f (take i xs) x))
    (subst (λ keys. Adds (flat_map f (take i xs) ++ f x) keys old new) (sym (flat_more g (take i xs) x))
    (Adds-then (flat_map f (take i xs)) (f x) (flat_map g (take i xs)) (g x) old mid new first second)))

pub Adds-mapped :
    {X : Type 0} (f : X → KeyWork) (xs : List X) (i : ℕ) (x : X) (old mid new : Gathered)
    → i < length xs → x ≡ get_or xs i x → Adds (map f (take i xs)) [] old mid → Adds (f x ∷ []) [] mid new
    → Adds (map f (take (i + 1) xs)) [] old new
Adds-mapped f xs i x old mid new lt is first second =
    subst (λ all. Adds (map f all) [] old new) (sym (one_more xs i x lt is))
    (subst (λ works. Adds works [] old new) (sym (map-append f (take i xs) (x ∷ [])))
    (Adds-then (map f (take i xs)) (f x ∷ []) [] [] old mid new first second))

-- ---- keys that are asked for

pub Adds-asked :
    (asked : List Key) (old new : Gathered) → new.works.items ≡ old.works.items → new.seen ≡ old.seen → new.asked.items ≡ old.asked.items ++ asked
    → Adds [] asked old new
Adds-asked asked old new works seen keys = record {
  gathers = λ before all is. record {
    works_are = works ∙ is.works_are;
    seen_are = subst (AreSeen before) (sym seen) is.seen_are;
    asked_are = keys ∙ ap (λ them. them ++ asked) is.asked_are;
  };
}

-- ---- a package

pub Adds-seen : (work : KeyWork) (gathered : Gathered) → contains key_cmp gathered.seen work.key ≡ true → Adds (work ∷ []) [] gathered gathered
Adds-seen work gathered seen = record {
  gathers = λ before keys is.
      let there : has_work work.key before ≡ true = sym (is.seen_are work.key) ∙ seen in
      subst (λ all. IsGathered all (keys ++ []) gathered) (sym (ap (λ b. cond b before (before ++ work ∷ [])) there))
      (subst (λ all. IsGathered before all gathered) (sym (append-nil keys)) is);
}

pub Adds-fresh :
    (work : KeyWork) (old new : Gathered) → contains key_cmp old.seen work.key ≡ false → UpdatesBy key_cmp (key_cmp work.key) old.seen new.seen true
    → new.works.items ≡ old.works.items ++ work ∷ [] → new.asked.items ≡ old.asked.items → Adds (work ∷ []) [] old new
Adds-fresh work old new fresh updates works asked = record {
  gathers = λ before keys is.
      let none : has_work work.key before ≡ false = sym (is.seen_are work.key) ∙ fresh in
      subst (λ all. IsGathered all (keys ++ []) new) (sym (ap (λ b. cond b before (before ++ work ∷ [])) none))
      (record {
        works_are = works ∙ ap (λ them. them ++ work ∷ []) is.works_are;
        seen_are = λ key.
            updates.0 key
            ∙ (either (is_eq (key_cmp work.key key)) (contains key_cmp old.seen key)
            ∙ (ap (λ b. contains key_cmp old.seen key || (b || false)) (is_eq-key_cmp work.key key)
            ∙ (ap (λ b. b || (same_key work.key key || false)) (is.seen_are key)
            ∙ sym (list_any-append (λ (w : KeyWork). same_key w.key key) before (work ∷ [])))));
        asked_are = asked ∙ (is.asked_are ∙ sym (append-nil keys));
      });
}
  where
    either : (b c : Bool) → cond b true c ≡ (c || (b || false))
    either true true = refl
    either true false = refl
    either false true = refl
    either false false = refl

-- ---- names

pub named_more :
    (f : List ℕ → Option Key) (names : List (Bor (List ℕ))) (name : Bor (List ℕ))
    → filter_map f (map (λ (each : Bor (List ℕ)). each.now) (names ++ name ∷ []))
    ≡ filter_map f (map (λ (each : Bor (List ℕ)). each.now) names) ++ filter_map f (name.now ∷ [])
named_more f names name =
    ap (filter_map f) (map-append (λ (each : Bor (List ℕ)). each.now) names (name ∷ []))
    ∙ filter_map-append f (map (λ (each : Bor (List ℕ)). each.now) names) (name.now ∷ [])

pub inserted_now :
    (ks : List (Bor (List ℕ))) (k : Bor (List ℕ))
    → map (λ (name : Bor (List ℕ)). name.now) (insert_key (λ a b. slice_cmp nat_cmp a.now b.now) ks k)
    ≡ insert_key (slice_cmp nat_cmp) (map (λ (name : Bor (List ℕ)). name.now) ks) k.now
inserted_now [] k = refl
inserted_now (x ∷ xs) k = at (slice_cmp nat_cmp k.now x.now) (inserted_now xs k)
  where
    at : (o : Ordering)
        → map (λ (name : Bor (List ℕ)). name.now) (insert_key (λ a b. slice_cmp nat_cmp a.now b.now) xs k)
        ≡ insert_key (slice_cmp nat_cmp) (map (λ (name : Bor (List ℕ)). name.now) xs) k.now
        → map (λ (name : Bor (List ℕ)). name.now) (match_ordering o (k ∷ x ∷ xs) (x ∷ xs) (x ∷ insert_key (λ a b. slice_cmp nat_cmp a.now b.now) xs k))
        ≡ match_ordering o (k.now ∷ x.now ∷ map (λ (name : Bor (List ℕ)). name.now) xs) (x.now ∷ map (λ (name : Bor (List ℕ)). name.now) xs)
        (x.now ∷ insert_key (slice_cmp nat_cmp) (map (λ (name : Bor (List ℕ)). name.now) xs) k.now)
    at Less more = refl
    at Equal more = refl
    at Greater more = ap (λ names. x.now ∷ names) more

pub in_order-more : (names : List (List ℕ)) (i : ℕ) (name : List ℕ) → i < length names → name ≡ get_or names i name
    → in_order (take (i + 1) names) ≡ insert_key (slice_cmp nat_cmp) (in_order (take i names)) name
in_order-more names i name lt is =
    ap in_order (one_more names i name lt is) ∙ fold-append (insert_key (slice_cmp nat_cmp)) [] (take i names) (name ∷ [])
