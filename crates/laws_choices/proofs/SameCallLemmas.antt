-- What is told, where it agrees with a moment at which a task works: the calls that are told are those that are open.
use Rattle.std.proofs.Common.{◌≡◌, ◌∙◌, ℕ, Bool, true, false, ◌&&◌, not, List, [], ◌∷◌, Option, Some}
use Rattle.std.proofs.Common.{None, ap, refl, sym}
use Rattle.std.specs.Prelude.{find, is_none, if◌then◌else◌}
use Rattle.std.specs.List.{list_all, list_any}
use Rattle.std.specs.Option.{option_map}
use Rattle.std.proofs.lemmas.Bool.{and_parts, leb-true, true≢false}
use Rattle.bosh_base.specs.Cloud.{numbers_to}
use Rattle.bosh_base.specs.declared.entry.Begin.{Begin}
use Rattle.bosh_base.specs.declared.key.Key.{Key}
use Rattle.bosh_base.specs.declared.owner.Owner.{Owner}
use Rattle.bosh_history.specs.Held.{is_open}
use Rattle.bosh_history.specs.Moments.{Moment, OpenCall}
use Rattle.bosh_history.specs.Steps.{compiles, is_compiling, is_idle, is_owners}
use Rattle.bosh_history.specs.Words.{holds}
use Rattle.bosh_rows.specs.Same.{same_owner}
use Rattle.laws_claims.proofs.FactLemmas.{recovered}
use Rattle.laws_facts.specs.KnownFacts.{KnownFacts}
use Rattle.laws_facts.specs.Owners.{works}
use Rattle.laws_items.proofs.ListLemmas.{any_in}
use Rattle.laws_items.proofs.ListedLemmas.{numbered_in}
use Rattle.laws_stands.specs.Agrees.{Agrees}
use Rattle.laws_stands.specs.Told as told_specs
use Rattle.laws_stands.specs.Told.{TellsWell, Told, is_going}

-- how the open calls of a moment began
abbrev pub begun_at : Moment → ℕ → Option Begin
begun_at m n = option_map (λ (call : OpenCall). call.begin) (m.calls n)

-- what is told, as a moment has it
abbrev pub told_at : Moment → ℕ → Told
told_at m snapped = record { known = m.known; calls = begun_at m; snapped = snapped }

module _ (m : Moment) (told : Told) (t : ℕ) (facts : KnownFacts m) (working : works m t ≡ true)
    (agrees : Agrees m told) (well : TellsWell told) where
  -- the task of a call that a stop forgot would be interrupted still
  none_forgotten : (n : ℕ) (b : Begin) → told.calls n ≡ Some b → m.calls n ≡ None → ⊥
  none_forgotten n b told_so gone =
      let going : is_going m.known b.task ≡ true = ap (λ k. is_going k b.task) (sym agrees.known_is)
      ∙ well.going n b told_so in
      let parts : (_ ≡ true) × (_ ≡ true) = and_parts _ _ going in
      let still : (_ ≡ true) × (is_open m.known b.task ≡ true) = and_parts _ (is_open m.known b.task) parts.1 in
      true≢false
      (sym (any_in (is_open m.known) b.task (numbers_to m.stopped)
      (numbered_in b.task m.stopped (leb-true 1 b.task parts.0) (agrees.left n b told_so gone)) still.1)
      ∙ recovered m t facts working)

  calls_are : (n : ℕ) → told.calls n ≡ begun_at m n
  calls_are n = by (m.calls n) refl (told.calls n) refl
    where
      by : (live : Option OpenCall) → m.calls n ≡ live → (o : Option Begin) → told.calls n ≡ o → told.calls n
          ≡ option_map (λ (call : OpenCall). call.begin) live
      by (Some call) is o told_so = agrees.live n call is
      by None is None told_so = told_so
      by None is (Some b) told_so = absurd (none_forgotten n b told_so is)

  pub told_is : told ≡ told_at m told.snapped
  told_is = λ i. record { known = agrees.known_is i; calls = λ n. calls_are n i; snapped = told.snapped }

-- ---- questions on open calls

all_same : {A : Type 0} (p q : A → Bool) (xs : List A) → ((x : A) → p x ≡ q x) → list_all p xs ≡ list_all q xs
all_same p q xs same = λ i. list_all (λ x. same x i) xs

pub idle_is : (m : Moment) (snapped : ℕ) (owner : Owner) → told_specs.is_idle (told_at m snapped) owner
    ≡ is_idle m owner
idle_is m snapped owner =
    all_same (λ n. not (holds (λ (b : Begin). same_owner owner b.owner) (begun_at m n)))
    (λ n. not (holds (is_owners owner) (m.calls n))) (numbers_to m.known.last_call) (λ n. by (m.calls n))
  where
    by : (o : Option OpenCall)
        → not (holds (λ (b : Begin). same_owner owner b.owner) (option_map (λ (call : OpenCall). call.begin) o))
        ≡ not (holds (is_owners owner) o)
    by (Some call) = refl
    by None = refl

pub compiling_is : (m : Moment) (key : Key)
    → list_any (λ n. holds (λ (b : Begin). compiles key b.call) (begun_at m n)) (numbers_to m.known.last_call)
    ≡ is_compiling m key
compiling_is m key = λ i. list_any (λ n. by (m.calls n) i) (numbers_to m.known.last_call)
  where
    by : (o : Option OpenCall) → holds (λ (b : Begin). compiles key b.call)
        (option_map (λ (call : OpenCall). call.begin) o)
        ≡ holds (λ (call : OpenCall). compiles key call.begin.call) o
    by (Some call) = refl
    by None = refl

-- none is found just where all fail
pub none_found : {A : Type 0} (p : A → Bool) (xs : List A) → is_none (find p xs) ≡ list_all (λ x. not (p x)) xs
none_found p [] = refl
none_found p (x ∷ xs) = by (p x) (none_found p xs)
  where
    by : (b : Bool) → is_none (find p xs) ≡ list_all (λ x. not (p x)) xs → is_none (if b then Some x else find p xs)
        ≡ (not b && list_all (λ x. not (p x)) xs)
    by true more = refl
    by false more = more
