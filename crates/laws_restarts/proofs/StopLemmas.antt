-- The stop that is read off from what it left in the cloud.
use Rattle.std.proofs.Common.{◌≡◌, ◌∙◌, ℕ, Bool, true, false, List, [], ◌∷◌, ◌++◌, Option, Some, None, ap, append-nil, append_assoc, drop, length, refl, subst, sym}
use Rattle.std.specs.Prelude.{◌&&◌, eqb, find, fold, if◌then◌else◌, is_some, nat_lt, not}
use Rattle.std.specs.List.{filter_map}
use Rattle.std.proofs.lemmas.Bool.{and_parts, eqb-true, false≢true}
use Rattle.bosh_base.specs.CallStep.{takes_effect}
use Rattle.bosh_base.specs.declared.answer.Answer.TheVariants.{Failed}
use Rattle.bosh_base.specs.declared.entry.Entry.{Entry}
use Rattle.bosh_base.specs.declared.entry.Entry.TheVariants as entries
use Rattle.bosh_base.specs.declared.moves.Stop as stop
use Rattle.bosh_history.specs.Known.{Known}
use Rattle.bosh_history.specs.Learn.{learn}
use Rattle.bosh_history.specs.Moments.{Moment, OpenCall, effect_of, keeping, performed_call, stopping, taking, with_written}
use Rattle.bosh_history.specs.Notes.{Outside}
use Rattle.bosh_history.specs.Permitted.{MayTake, MayWrite, may_take}
use Rattle.bosh_history.specs.Words.{at, holds}
use Rattle.bosh_moves.specs.Found.{call_of, is_written, stop_of}
use Rattle.laws_sites.proofs.StopLemmas.{taken_effects}
use Rattle.laws_sites.specs.Good.{IsLeft, listed}

-- ---- what is known stays

pub known_taken : (m : Moment) (took : List ℕ) → (fold taking m took).known ≡ m.known
known_taken m [] = refl
known_taken m (n ∷ took) = known_taken (taking m n) took

pub known_written : (m : Moment) (wrote : Option Entry) → MayWrite m wrote → (with_written m wrote).known ≡ m.known
known_written m None may = refl
known_written m (Some (entries.Write w)) may = refl
known_written m (Some (entries.Lost loss)) may = refl
known_written m (Some e) may = absurd may

-- ---- a write or a loss

effects_written : (m : Moment) (wrote : Option Entry) → MayWrite m wrote
    → (with_written m wrote).effects ≡ m.effects ++ listed wrote
effects_written m None may = sym (append-nil m.effects)
effects_written m (Some (entries.Write w)) may = refl
effects_written m (Some (entries.Lost loss)) may = refl
effects_written m (Some e) may = absurd may

calls_written : (m : Moment) (wrote : Option Entry) → MayWrite m wrote → (with_written m wrote).calls ≡ m.calls
calls_written m None may = refl
calls_written m (Some (entries.Write w)) may = refl
calls_written m (Some (entries.Lost loss)) may = refl
calls_written m (Some e) may = absurd may

-- ---- effects of open calls

-- each open call has its number
abbrev pub AreNumbered : (ℕ → Option OpenCall) → Type 0
AreNumbered calls = (n : ℕ) (call : OpenCall) → calls n ≡ Some call → call.begin.n ≡ n

some_call : (a b : OpenCall) → ◌≡◌ {A = Option OpenCall} (Some a) (Some b) → a ≡ b
some_call a b is = cc

numbered_taken : (m : Moment) (n : ℕ) → AreNumbered m.calls → AreNumbered (taking m n).calls
numbered_taken m n are x call is = by (eqb n x) refl
  where
    at_place : (b : Bool) → eqb n x ≡ b → (taking m n).calls x
        ≡ (if b then performed_call (record { n = n; effect = true; answer = Failed }) (m.calls n) else m.calls x)
    at_place true one = rw one refl
    at_place false other = rw other refl

    performed : (o : Option OpenCall) → m.calls n ≡ o
        → performed_call (record { n = n; effect = true; answer = Failed }) o ≡ Some call → call.begin.n ≡ n
    performed None was is_now = absurd (let no = is_now in cc)
    performed (Some it) was is_now =
        ap (λ (c : OpenCall). c.begin.n) (sym (some_call _ call is_now)) ∙ are n it was

    by : (b : Bool) → eqb n x ≡ b → call.begin.n ≡ x
    by true one = performed (m.calls n) refl (sym (at_place true one) ∙ is) ∙ eqb-true n x one
    by false other = are x call (sym (at_place false other) ∙ is)

-- they tell these calls, and no write and no loss
record Tells (took : List ℕ) (effects : List Entry) : Type 0 where
  calls : filter_map call_of effects ≡ took
  none : find is_written effects ≡ None

open_at : (outside : Outside) (m : Moment) (n : ℕ) → may_take outside m n ≡ true
    → (call : OpenCall) × (m.calls n ≡ Some call)
open_at outside m n may = by (m.calls n) refl may
  where
    takes : OpenCall → Bool
    takes call = not (is_some call.did) && takes_effect outside.built m.effects call.begin.call

    by : (o : Option OpenCall) → m.calls n ≡ o → holds takes o ≡ true → (call : OpenCall) × (m.calls n ≡ Some call)
    by (Some call) is may = (call, is)
    by None is may = absurd (false≢true may)

taken_tail : (outside : Outside) (m : Moment) (last : ℕ) (took : List ℕ) → AreNumbered m.calls → MayTake outside m last took
    → (tail : List Entry) × Tells took tail × ((fold taking m took).effects ≡ m.effects ++ tail)
taken_tail outside m last [] are may = ([], record { calls = refl; none = refl }, sym (append-nil m.effects))
taken_tail outside m last (n ∷ took) are may =
    let call = open_at outside m n (and_parts (nat_lt last n) (may_take outside m n) may.0).1 in
    let rest = taken_tail outside (taking m n) n took (numbered_taken m n are) may.1 in (
      effect_of m.known call.0.begin ∷ rest.0,
      record { calls = (λ i. are n call.0 call.1 i ∷ rest.1.calls i); none = rest.1.none },
      rest.2
          ∙ ap (λ es. es ++ rest.0) (taken_effects m n call.0 call.1)
          ∙ append_assoc m.effects (effect_of m.known call.0.begin ∷ []) rest.0,
    )

-- ---- both

pub drop_front : {A : Type 0} (xs ys : List A) → drop (length xs) (xs ++ ys) ≡ ys
drop_front [] ys = refl
drop_front (x ∷ xs) ys = drop_front xs ys

calls_listed : (m : Moment) (wrote : Option Entry) (tail : List Entry) → MayWrite m wrote
    → filter_map call_of (listed wrote ++ tail) ≡ filter_map call_of tail
calls_listed m None tail may = refl
calls_listed m (Some (entries.Write w)) tail may = refl
calls_listed m (Some (entries.Lost loss)) tail may = refl
calls_listed m (Some e) tail may = absurd may

written_listed : (m : Moment) (wrote : Option Entry) (tail : List Entry) → MayWrite m wrote → find is_written tail ≡ None
    → find is_written (listed wrote ++ tail) ≡ wrote
written_listed m None tail may none = none
written_listed m (Some (entries.Write w)) tail may none = refl
written_listed m (Some (entries.Lost loss)) tail may none = refl
written_listed m (Some e) tail may none = absurd may

-- the stop that the effects behind those of the moment tell is the one that left them
pub stop_read : (outside : Outside) (m : Moment) (effects : List Entry) (kept : Option Entry) → AreNumbered m.calls
    → (left : IsLeft outside m effects)
    → stop_of kept (drop (length m.effects) effects) ≡ record { kept = kept; took = left.1; wrote = left.0 }
stop_read outside m effects kept are (wrote, took, may_write, may_take, is) =
    ap (λ (es : List Entry). stop_of kept (drop (length m.effects) es)) effects_are
    ∙ ap (stop_of kept) (drop_front m.effects (listed wrote ++ tail.0))
    ∙ (λ i. record {
      kept = kept;
      took = (calls_listed m wrote tail.0 may_write ∙ tail.1.calls) i;
      wrote = written_listed m wrote tail.0 may_write tail.1.none i;
    })
  where
    tail : (tail : List Entry) × Tells took tail
        × ((fold taking (with_written m wrote) took).effects ≡ (with_written m wrote).effects ++ tail)
    tail = taken_tail outside (with_written m wrote) 0 took
        (λ n call at_n. are n call (sym (ap (λ calls. calls n) (calls_written m wrote may_write)) ∙ at_n)) may_take

    effects_are : effects ≡ m.effects ++ (listed wrote ++ tail.0)
    effects_are = is ∙ tail.2 ∙ ap (λ es. es ++ tail.0) (effects_written m wrote may_write)
        ∙ append_assoc m.effects (listed wrote) tail.0

-- ---- the moment after it

module _ (outside : Outside) (m : Moment) (effects : List Entry) (kept : Option Entry) (left : IsLeft outside m effects) where
  abbrev the_stop : stop.Stop
  the_stop = record { kept = kept; took = left.1; wrote = left.0 }

  pub known_stopped : (stopping m the_stop).known ≡ (keeping m kept).known
  known_stopped = by kept
    where
      same : (fold taking (with_written m left.0) left.1).known ≡ m.known
      same = known_taken (with_written m left.0) left.1 ∙ known_written m left.0 left.2

      by : (kept : Option Entry) → (keeping (fold taking (with_written m left.0) left.1) kept).known ≡ (keeping m kept).known
      by None = same
      by (Some e) = ap (λ (k : Known). learn k e) same

  pub effects_stopped : (stopping m the_stop).effects ≡ effects
  effects_stopped = by kept ∙ sym left.4
    where
      by : (kept : Option Entry) → (keeping (fold taking (with_written m left.0) left.1) kept).effects
          ≡ (fold taking (with_written m left.0) left.1).effects
      by None = refl
      by (Some e) = refl
