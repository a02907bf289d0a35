-- What the cloud did of an open call: its effect comes at the end of what was done, where it had one.
use Rattle.std.proofs.Common.{◌≡◌, ◌∙◌, ℕ, Bool, true, false, ◌&&◌, Some, List, [], ◌∷◌, ◌++◌, refl, ap, sym}
use Rattle.std.proofs.Common.{append-nil}
use Rattle.std.specs.Prelude.{◌||◌, ◌==◌}
use Rattle.std.specs.List.{list_all}
use Rattle.std.proofs.lemmas.Bool.{and_from}
use Rattle.std.proofs.lemmas.List.Folds.{list_all-append, list_any-append}
use Rattle.bosh_base.specs.declared.entry.Begin.{Begin}
use Rattle.bosh_base.specs.declared.entry.Effect as effect
use Rattle.bosh_base.specs.declared.entry.Entry.{Entry}
use Rattle.bosh_base.specs.declared.entry.Entry.TheVariants as entries
use Rattle.bosh_base.specs.declared.moves.Did.{Did}
use Rattle.bosh_history.specs.Known.{Known}
use Rattle.bosh_history.specs.Moments.{Moment, OpenCall, call_effects, dep_of, performing}
use Rattle.laws_effects.specs.Orderly.{is_of_call, is_taken}
use Rattle.laws_rows.specs.Rightful.{done_with}

-- the effect of a call, as the cloud has it
abbrev pub made_by : Known → Begin → effect.Effect
made_by k b = record { n = b.n; owner = b.owner; dep = dep_of k b.owner; call = b.call }

-- what was done, once an open call was performed
pub done_now : (m : Moment) (d : Did) (call : OpenCall) → m.calls d.n ≡ Some call
    → (performing m d).effects ≡ done_with d.effect m.effects (made_by m.known call.begin)
done_now m d call is = (λ j. m.effects ++ call_effects m d.effect (is j)) ∙ by d.effect
  where
    by : (has : Bool)
        → m.effects ++ call_effects m has (Some call) ≡ done_with has m.effects (made_by m.known call.begin)
    by true = refl
    by false = append-nil m.effects

-- a test of all that was done
pub all_done : (test : Entry → Bool) (has : Bool) (xs : List Entry) (e : effect.Effect) → list_all test xs ≡ true
    → (has ≡ true → test (entries.Effect e) ≡ true) → list_all test (done_with has xs e) ≡ true
all_done test true xs e all one =
    list_all-append test xs (entries.Effect e ∷ [])
    ∙ and_from (list_all test xs) _ all (and_from (test (entries.Effect e)) true (one refl) refl)
all_done test false xs e all one = all

-- .. once something else was done
pub all_more : (test : Entry → Bool) (xs : List Entry) (e : Entry) → list_all test xs ≡ true → test e ≡ true
    → list_all test (xs ++ e ∷ []) ≡ true
all_more test xs e all one =
    list_all-append test xs (e ∷ []) ∙ and_from (list_all test xs) _ all (and_from (test e) true one refl)

or_false : (b : Bool) → (b || false) ≡ b
or_false true = refl
or_false false = refl

-- whether a number was taken
pub taken_done : (has : Bool) (xs : List Entry) (e : effect.Effect) (n : ℕ)
    → is_taken (done_with has xs e) n ≡ (is_taken xs n || (has && e.n == n))
taken_done true xs e n =
    list_any-append (is_of_call n) xs (entries.Effect e ∷ []) ∙ ap (λ b. is_taken xs n || b) (or_false (e.n == n))
taken_done false xs e n = sym (or_false (is_taken xs n))

pub taken_more : (xs : List Entry) (e : Entry) (n : ℕ) → is_of_call n e ≡ false
    → is_taken (xs ++ e ∷ []) n ≡ is_taken xs n
taken_more xs e n other =
    list_any-append (is_of_call n) xs (e ∷ [])
    ∙ ((λ j. is_taken xs n || (other j || false)) ∙ or_false (is_taken xs n))
