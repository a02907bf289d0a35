-- The parts of a path.
use Rattle.std.proofs.Common.{◌≡◌, ◌≢◌, ⊎_elim, ◌∙◌, ap, refl, sym, arith, ℕ, zero, suc, ◌+◌, ◌<◌, ◌≤◌, Bool, true, false, cond, List, [], ◌∷◌, ◌++◌, Option, Some, None, length, length-append, get_or, take, eqb}
use Rattle.std.specs.Option.{MatchOption, option_map}
use Rattle.std.specs.Str.{bytes_eq}
use Rattle.std.proofs.lemmas.Bool.Decides.{eqb_tells}
use Rattle.std.proofs.lemmas.Slice.Eq.{bytes_eq-Decides}
use denote.Ref.{Bor}
use Rattle.bosh_release_files.specs.Files.{after, first_folder}
use Rattle.bosh_release_files.specs.Pattern.{before, folder_of}

same_byte : (a : ℕ) → eqb a a ≡ true
same_byte a = grind arith

-- ---- fronts

after_front : (front rest : List ℕ) → after front (front ++ rest) ≡ Some rest
after_front [] rest = refl
after_front (a ∷ front) rest = rw (same_byte a) (after_front front rest)

after_none : (front path : List ℕ) → ((rest : List ℕ) → path ≡ front ++ rest → ⊥) → after front path ≡ None
after_none [] path h = absurd (h path refl)
after_none (a ∷ front) [] h = refl
after_none (a ∷ front) (b ∷ path) h =
    ⊎_elim
    (λ (same : (eqb a b ≡ true) × (a ≡ b)).
    let is = same.1 in
    rw (same.0) (after_none front path (λ rest e. h rest cc)))
    (λ (other : (eqb a b ≡ false) × (a ≢ b)). rw (other.0) refl)
    (eqb_tells a b)

-- a front that was taken away
pub after_is :
    (front path : List ℕ) (r : Option (Bor (List ℕ)))
    → MatchOption r ((rest : List ℕ) → path ≢ front ++ rest) (λ x. path ≡ front ++ x.now)
    → option_map (λ x. x.now) r ≡ after front path
after_is front path (Some x) h = sym (ap (after front) h ∙ after_front front x.now)
after_is front path None h = sym (after_none front path h)

-- ---- ends

longer : (b : ℕ) (x end : List ℕ) → bytes_eq (b ∷ (x ++ end)) end ≡ false
longer b x end = at (bytes_eq (b ∷ (x ++ end)) end) refl
  where
    at : (t : Bool) → bytes_eq (b ∷ (x ++ end)) end ≡ t → t ≡ false
    at true is =
        let same : b ∷ (x ++ end) ≡ end = (bytes_eq-Decides (b ∷ (x ++ end)) end).0 is in
        let counts : suc (length x + length end) ≡ length end = ap suc (sym (length-append x end)) ∙ ap length same in
        absurd (omega arith)
    at false is = refl

itself : (end : List ℕ) → bytes_eq end end ≡ true
itself end = (bytes_eq-Decides end end).1 refl

before_end : (front end : List ℕ) → before end (front ++ end) ≡ Some front
before_end [] [] = refl
before_end [] (e ∷ end) = rw (itself (e ∷ end)) refl
before_end (b ∷ front) end = rw (longer b front end) (ap (option_map (λ f. b ∷ f)) (before_end front end))

before_none : (end text : List ℕ) → ((front : List ℕ) → text ≡ front ++ end → ⊥) → before end text ≡ None
before_none end [] h = at (bytes_eq [] end) refl
  where
    at : (t : Bool) → bytes_eq [] end ≡ t → cond {A = Option (List ℕ)} t (Some []) None ≡ None
    at true is = absurd (h [] ((bytes_eq-Decides [] end).0 is))
    at false is = refl
before_none end (b ∷ text) h =
    at (before_none end text (λ front e. h (b ∷ front) (ap (λ t. b ∷ t) e))) (bytes_eq (b ∷ text) end) refl
  where
    at :
        before end text ≡ None → (t : Bool) → bytes_eq (b ∷ text) end ≡ t
        → cond {A = Option (List ℕ)} t (Some []) (option_map (λ f. b ∷ f) (before end text)) ≡ None
    at others true is = absurd (h [] ((bytes_eq-Decides (b ∷ text) end).0 is))
    at others false is = ap (option_map (λ f. b ∷ f)) others

-- an end that was taken away
pub before_is :
    (end text : List ℕ) (r : Option (Bor (List ℕ)))
    → MatchOption r ((front : List ℕ) → text ≢ front ++ end) (λ x. text ≡ x.now ++ end)
    → option_map (λ x. x.now) r ≡ before end text
before_is end text (Some x) h = sym (ap (before end) h ∙ before_end x.now end)
before_is end text None h = sym (before_none end text h)

-- ---- slashes

abbrev pub NoSlashBelow : List ℕ → ℕ → Type 0
NoSlashBelow path n = (k : ℕ) → k < n → get_or path k 0 ≡ 47 → ⊥

-- the first slash
pub first_folder_at :
    (path : List ℕ) (n : ℕ) → n < length path → get_or path n 0 ≡ 47 → NoSlashBelow path n
    → first_folder path ≡ Some (take n path)
first_folder_at [] n within is h = absurd (omega arith)
first_folder_at (b ∷ path) zero within is h =
    let slash : eqb b 47 ≡ true = grind arith in
    rw slash refl
first_folder_at (b ∷ path) (suc n) within is h =
    let other : eqb b 47 ≡ false = grind (arith, h 0 (omega arith)) in
    rw other
    (ap (option_map (λ f. b ∷ f))
    (first_folder_at path n (omega arith) is (λ k lt e. h (suc k) (omega arith) e)))

pub first_folder_none : (path : List ℕ) → NoSlashBelow path (length path) → first_folder path ≡ None
first_folder_none [] h = refl
first_folder_none (b ∷ path) h =
    let other : eqb b 47 ≡ false = grind (arith, h 0 (omega arith)) in
    rw other (ap (option_map (λ f. b ∷ f)) (first_folder_none path (λ k lt e. h (suc k) (omega arith) e)))

abbrev pub NoSlashFrom : List ℕ → ℕ → Type 0
NoSlashFrom path n = (k : ℕ) → n ≤ k → k < length path → get_or path k 0 ≡ 47 → ⊥

pub folder_of_none : (path : List ℕ) → NoSlashFrom path 0 → folder_of path ≡ None
folder_of_none [] h = refl
folder_of_none (b ∷ path) h =
    let other : eqb b 47 ≡ false = grind (arith, h 0 (omega arith) (omega arith)) in
    let below = folder_of_none path (λ k le lt e. h (suc k) (omega arith) (omega arith) e) in
    rw (below, other) refl

-- the last slash
pub folder_of_at :
    (path : List ℕ) (n : ℕ) → n < length path → get_or path n 0 ≡ 47 → NoSlashFrom path (suc n)
    → folder_of path ≡ Some (take n path)
folder_of_at [] n within is h = absurd (omega arith)
folder_of_at (b ∷ path) zero within is h =
    let slash : eqb b 47 ≡ true = grind arith in
    let below = folder_of_none path (λ k le lt e. h (suc k) (omega arith) (omega arith) e) in
    rw (below, slash) refl
folder_of_at (b ∷ path) (suc n) within is h =
    let below = folder_of_at path n (omega arith) is (λ k le lt e. h (suc k) (omega arith) (omega arith) e) in
    rw below refl
