-- How files that are taken one after another add up.
use Rattle.std.proofs.Common.{◌≡◌, ℕ, ◌+◌, ◌<◌, ◌≤◌, true, List, [], ◌∷◌, ◌++◌, Result, Ok, Err, length, get_or, drop, arith, refl, sym, ap, subst, ◌∙◌, append_assoc, append-nil, add-one, drop-cons, sum_by}
use Rattle.std.proofs.lemmas.Grind.{common_steps}
use Rattle.std.proofs.lemmas.List.Sums.{sum_by-append}
use Rattle.bosh_files.specs.Budget.{AreTaken, Counts, Takes, is_kept}
use Rattle.bosh_files.specs.Gathered.{after, gather, joined_lists}
use Rattle.bosh_files.specs.declared.budget.Budget.{Budget}
use Rattle.bosh_files.specs.declared.budget.Budget.TheVariants.{Left, Spent}

pub AreTaken-none : {A : Type 0} (size : A → ℕ) (budget : Budget) (old : List A) → AreTaken size budget budget old old []
AreTaken-none size budget old = record { counted = λ taken h. subst (Counts budget) (omega arith) h; kept = λ e. sym (append-nil old) }

-- what was within the limit afterwards was so before
kept-before : {A : Type 0} (size : A → ℕ) (before later : Budget) (old new things : List A) → AreTaken size before later old new things → is_kept later ≡ true → is_kept before ≡ true
kept-before size (Left bytes) later old new things t k = refl
kept-before size Spent Spent old new things t k = k
kept-before size Spent (Left bytes) old new things t k =
    let h : (1048577 + sum_by size things) + bytes ≡ 1048576 = t.counted 1048577 (omega arith) in absurd (omega (arith, h))

pub AreTaken-more : {A : Type 0} (size : A → ℕ) (a b c : Budget) (old mid new one other : List A) → AreTaken size a b old mid one → AreTaken size b c mid new other → AreTaken size a c old new (one ++ other)
AreTaken-more size a b c old mid new one other s t = record {
  counted = λ taken h. subst (Counts c) (let e = sum_by-append size one other in omega arith) (t.counted (taken + sum_by size one) (s.counted taken h));
  kept = λ e. t.kept e ∙ ap (λ l. l ++ other) (s.kept (kept-before size b c mid new other t e)) ∙ append_assoc old one other;
}

pub after-joined : {A F : Type 0} (first piece : List A) (others : Result (List A) F) → after first (joined_lists (Ok piece) others) ≡ after (first ++ piece) others
after-joined first piece (Ok more) = ap (λ t. Ok t) (sym (append_assoc first piece more))
after-joined first piece (Err fault) = refl

pub after-nil : {A F : Type 0} (answer : Result (List A) F) → after [] answer ≡ answer
after-nil (Ok more) = refl
after-nil (Err fault) = refl

-- what comes of those from one on
pub gather-next : {A B F : Type 0} (of : A → Result (List B) F) (xs : List A) (i : ℕ) (x : A) → i < length xs → x ≡ get_or xs i x
    → gather of (drop i xs) ≡ joined_lists (of x) (gather of (drop (i + 1) xs))
gather-next of xs i x within is =
    let e : drop i xs ≡ x ∷ drop (i + 1) xs = rw (add-one, drop-cons xs i x, ← is) refl in
    ap (gather of) e

-- what a call that took something came to
pub Takes-ok : {T A F : Type 0} (memory : F) (size : A → ℕ) (done : T) (before later : Budget) (old new : List A) (answer : Result (List A) F) → Takes memory size (Ok done) before later old new answer
    → (things : List A) × (answer ≡ Ok things) × AreTaken size before later old new things
Takes-ok memory size done before later old new (Ok things) h = (things, refl, h)
Takes-ok memory size done before later old new (Err fault) h = absurd h

pub Takes-from : {T A F : Type 0} (memory : F) (size : A → ℕ) (done : T) (before later : Budget) (old new : List A) (answer : Result (List A) F) (things : List A) → answer ≡ Ok things
    → AreTaken size before later old new things → Takes memory size (Ok done) before later old new answer
Takes-from memory size done before later old new answer things is h = subst (Takes memory size (Ok done) before later old new) (sym is) h

-- those so far are taken
pub record AreGathered {A B F : Type 0} (of : A → Result (List B) F) (size : B → ℕ) (xs : List A) (i : ℕ) (before now : Budget) (old new : List B) : Type 0 where
  pub things : List B
  pub taken : AreTaken size before now old new things
  pub whole : gather of xs ≡ after things (gather of (drop i xs))

pub AreGathered-none : {A B F : Type 0} (of : A → Result (List B) F) (size : B → ℕ) (xs : List A) (budget : Budget) (old : List B) → AreGathered of size xs 0 budget budget old old
AreGathered-none of size xs budget old = record { things = []; taken = AreTaken-none size budget old; whole = sym (after-nil (gather of xs)) }

pub AreGathered-more : {T A B F : Type 0} (memory : F) (done : T) (of : A → Result (List B) F) (size : B → ℕ) (xs : List A) (i : ℕ) (x : A) (before now later : Budget) (old new newer : List B)
    → AreGathered of size xs i before now old new → i < length xs → x ≡ get_or xs i x
    → Takes memory size (Ok done) now later new newer (of x) → AreGathered of size xs (i + 1) before later old newer
AreGathered-more memory done of size xs i x before now later old new newer g within is h =
    let (piece, told, taken) = Takes-ok memory size done now later new newer (of x) h in
    let others = gather of (drop (i + 1) xs) in
    record {
      things = g.things ++ piece;
      taken = AreTaken-more size before now later old new newer g.things piece g.taken taken;
      whole = g.whole ∙ ap (after g.things) (gather-next of xs i x within is ∙ ap (λ a. joined_lists a others) told) ∙ after-joined g.things piece others;
    }

pub AreGathered-fault : {A B F : Type 0} (of : A → Result (List B) F) (size : B → ℕ) (xs : List A) (i : ℕ) (x : A) (before now : Budget) (old new : List B) (fault : F)
    → AreGathered of size xs i before now old new → i < length xs → x ≡ get_or xs i x → of x ≡ Err fault → gather of xs ≡ Err fault
AreGathered-fault of size xs i x before now old new fault g within is told =
    g.whole ∙ ap (after g.things) (gather-next of xs i x within is ∙ ap (λ a. joined_lists a (gather of (drop (i + 1) xs))) told)

pub AreGathered-end : {T A B F : Type 0} (memory : F) (done : T) (of : A → Result (List B) F) (size : B → ℕ) (xs : List A) (i : ℕ) (before now : Budget) (old new : List B)
    → AreGathered of size xs i before now old new → length xs ≤ i → Takes memory size (Ok done) before now old new (gather of xs)
AreGathered-end memory done of size xs i before now old new g past =
    let none : drop i xs ≡ [] = grind (arith, common_steps) in
    Takes-from memory size done before now old new (gather of xs) g.things (g.whole ∙ ap (λ ys. after g.things (gather of ys)) none ∙ ap (λ t. Ok t) (append-nil g.things)) g.taken
