-- A set holds a new key beside those that it held.
use Rattle.std.proofs.Common.{◌≡◌, ℕ, Bool, true, false, ◌&&◌, ◌||◌, not, cond, List, ◌∷◌, Some, refl, sym, ◌∙◌}
use Rattle.std.specs.Str.{bytes_eq}
use Rattle.std.specs.Ordering.{nat_cmp, is_eq, ordering_then}
use Rattle.std.specs.Cmp.{nat_cmp_is}
use Rattle.std.specs.declared.cmp.Ordering.{Ordering}
use Rattle.std.specs.declared.cmp.Ordering.TheVariants.{Less, Equal, Greater}
use Rattle.std.proofs.lemmas.Slice.Eq.{bytes_eq-Decides}
use Rattle.bosh_yaml.specs.Hash.{hash}
use Rattle.std.specs.Cmp.Lexicographic.{slice_cmp}
use Rattle.std.proofs.lemmas.Map.Text.{is_eq-slice_cmp}
use Rattle.bosh_yaml.specs.declared.event.Event.{Event}
use Rattle.bosh_yaml.specs.declared.event.Event.TheVariants.{Key}
use Rattle.bosh_yaml.specs.Nodes.{Keys, with_new, line_of_repeat}

-- two tests that agree on each key are one
pub same_keys : (a b : Keys) → ((key : List ℕ) → a key ≡ b key) → a ≡ b
same_keys a b h = λ i key. h key i

or_of_cond : (t u : Bool) → cond t true u ≡ (u || t)
or_of_cond true true = refl
or_of_cond true false = refl
or_of_cond false true = refl
or_of_cond false false = refl

both_equal : (o x : Ordering) → is_eq (ordering_then o x) ≡ (is_eq o && is_eq x)
both_equal Less x = refl
both_equal Equal x = refl
both_equal Greater x = refl

and_false : (b : Bool) → (b && false) ≡ false
and_false true = refl
and_false false = refl

-- equal keys have equal hashes
hashes_agree : (key q : List ℕ) (b : Bool) → bytes_eq key q ≡ b → (is_eq (nat_cmp (hash key) (hash q)) && b) ≡ b
hashes_agree key q true e = let same : key ≡ q = (bytes_eq-Decides key q).0 e in rw (same, sym (nat_cmp_is (hash q) (hash q) Equal refl)) refl
hashes_agree key q false e = and_false (is_eq (nat_cmp (hash key) (hash q)))

-- a key and its hash are compared as the keys are
hashed : (key q : List ℕ) → is_eq (ordering_then (nat_cmp (hash key) (hash q)) (slice_cmp nat_cmp key q)) ≡ bytes_eq key q
hashed key q =
    both_equal (nat_cmp (hash key) (hash q)) (slice_cmp nat_cmp key q)
    ∙ rw (is_eq-slice_cmp key q) (hashes_agree key q (bytes_eq key q) refl)

pub with_new_key : (old new : Keys) (key : List ℕ) → ((q : List ℕ) → new q ≡ cond (is_eq (ordering_then (nat_cmp (hash key) (hash q)) (slice_cmp nat_cmp key q))) true (old q)) → new ≡ with_new old key
with_new_key old new key h =
    same_keys new (with_new old key) (λ q. h q ∙ rw (hashed key q) (or_of_cond (bytes_eq key q) (old q)))

pub key_is_new : (old new : Keys) (below : List Keys) (line : ℕ) (key : List ℕ) (rest : List Event) → old key ≡ false → new ≡ with_new old key → line_of_repeat (old ∷ below) (Key line key ∷ rest) ≡ line_of_repeat (new ∷ below) rest
key_is_new old new below line key rest h e = rw (h, e) refl

pub key_is_old : (old : Keys) (below : List Keys) (line : ℕ) (key : List ℕ) (rest : List Event) → old key ≡ true → line_of_repeat (old ∷ below) (Key line key ∷ rest) ≡ Some line
key_is_old old below line key rest h = rw h refl

pub not_true_of : (a x : Bool) → a ≡ not x → a ≡ true → x ≡ false
not_true_of a true p q = cc
not_true_of a false p q = refl

pub not_false_of : (a x : Bool) → a ≡ not x → a ≡ false → x ≡ true
not_false_of a true p q = refl
not_false_of a false p q = cc

pub ruleset seen = (with_new_key)
