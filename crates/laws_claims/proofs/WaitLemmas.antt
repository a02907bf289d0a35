-- When a claim waits.
use Rattle.std.proofs.Common.{◌≡◌, ◌∙◌, ℕ, Bool, true, false, ◌&&◌, not, List, [], ◌∷◌, length, Option, Some, None}
use Rattle.std.proofs.Common.{ap, refl, sym, subst, inl}
use Rattle.std.specs.Prelude.{◌==◌, is_some, if◌then◌else◌}
use Rattle.std.specs.List.{list_all}
use Rattle.std.proofs.lemmas.Bool.{and_parts, false≢true, not-true, or_left, or_right}
use Rattle.bosh_base.specs.Cloud.{numbers_to}
use Rattle.bosh_base.specs.declared.failure.Failure.{Failure}
use Rattle.bosh_base.specs.declared.key.Key.{Key}
use Rattle.bosh_base.specs.declared.owner.Owner.{Owner}
use Rattle.bosh_base.specs.declared.owner.Owner.TheVariants.{Instance, Compile, Disk}
use Rattle.bosh_history.specs.Claim.{Over, Waits, by_items, claim_at}
use Rattle.bosh_history.specs.Items.{candidates, is_item, items, slots_of}
use Rattle.bosh_history.specs.Moments.{Moment, OpenCall}
use Rattle.bosh_history.specs.Slots.{is_compiled}
use Rattle.bosh_history.specs.Steps.{compiles, has_no_call, is_compiling}
use Rattle.bosh_history.specs.Words.{holds, numbers_below}
use Rattle.laws_claims.proofs.Premises.{CanGoOn}
use Rattle.laws_items.specs.Lists.{IsIn}
use Rattle.laws_claims.specs.Quiet.{Awaits, are_held_up, is_call_open, is_given, is_held_up, is_in_the_making}
use Rattle.laws_claims.specs.Quiet.{is_quiet, key_of}
use Rattle.laws_claims.proofs.ItemLemmas.{items_give}
use Rattle.laws_items.proofs.ListLemmas.{Meets, any_in, below_in, holds_some, not_false, some_fails}
use Rattle.laws_claims.proofs.ListLemmas.{of_filtered}
use Rattle.laws_items.proofs.ListLemmas.{some_meets}
use Rattle.laws_claims.proofs.PhaseLemmas.{slot_is_wanted}

-- a task of which no call is open or failed waits exactly where all that is left is held up by the calls of others
pub given_unless_held_up : (m : Moment) (t worker : ℕ) → CanGoOn m t → has_no_call m t ≡ true
    → (m.known.task t).end ≡ None → (m.known.task t).failed ≡ None
    → is_given (claim_at m t worker) ≡ not (are_held_up m t (items m.known t))
given_unless_held_up m t worker can rest open_ good =
    (λ j. is_given (if is_some (open_ j) then Over else
    (if is_some (good j) then (if has_no_call m t then Over else Waits)
    else by_items m t worker (items m.known t))))
    ∙ items_give m t worker can good rest (items m.known t) refl

pub quiet_gives : (m : Moment) (t worker : ℕ) → CanGoOn m t → is_quiet m t ≡ true
    → is_given (claim_at m t worker) ≡ true
quiet_gives m t worker can quiet = by (is_some (m.known.task t).end) (m.known.task t).failed refl
  where
    parts : (has_no_call m t ≡ true) × (not (are_held_up m t (items m.known t)) ≡ true)
    parts = and_parts (has_no_call m t) _ quiet

    by : (ended : Bool) (failed : Option Failure) → (m.known.task t).failed ≡ failed
        → is_given (if ended then Over else (if is_some failed then (if has_no_call m t then Over else Waits)
        else by_items m t worker (items m.known t))) ≡ true
    by true failed is = refl
    by false (Some cause) is = ap (λ b. is_given (if b then Over else Waits)) parts.0
    by false None is = items_give m t worker can is parts.0 (items m.known t) refl ∙ parts.1

-- ---- the call that is waited for

-- an open call of the task
own_call : (m : Moment) (t : ℕ) → has_no_call m t ≡ false → Awaits m t
own_call m t some =
    let it : Meets (λ n. not (not (holds (λ call. call.begin.task == t) (m.calls n)))) (numbers_to m.known.last_call) =
    some_fails (λ n. not (holds (λ call. call.begin.task == t) (m.calls n))) (numbers_to m.known.last_call) some in
    let here : (call : OpenCall) × (m.calls it.x ≡ Some call) × ((call.begin.task == t) ≡ true) =
    holds_some (λ call. call.begin.task == t) (m.calls it.x) (not_false _ (not-true _ it.meets)) in
    record {
      n = it.x;
      call = here.0;
      is_numbered = it.is_in;
      is_open = here.1;
      is_awaited = or_left ((here.0).begin.task == t) _ here.2;
    }

-- an open call that compiles a key
compiling_call : (m : Moment) (key : Key) → is_compiling m key ≡ true
    → (n : ℕ) × (call : OpenCall) × (m.calls n ≡ Some call) × (compiles key call.begin.call ≡ true)
    × IsIn n (numbers_to m.known.last_call)
compiling_call m key is =
    let it : Meets (λ n. holds (λ call. compiles key call.begin.call) (m.calls n)) (numbers_to m.known.last_call) =
    some_meets _ (numbers_to m.known.last_call) is in
    let here : (call : OpenCall) × (m.calls it.x ≡ Some call) × (compiles key call.begin.call ≡ true) =
    holds_some (λ call. compiles key call.begin.call) (m.calls it.x) it.meets in
    (it.x, here.0, here.1, here.2, it.is_in)

-- the call that holds up an item
holding_call : (m : Moment) (t : ℕ) (o : Owner) → is_item m.known t o ≡ true → is_held_up m t o ≡ true → Awaits m t
holding_call m t (Instance i) item held = absurd (false≢true held)
holding_call m t (Disk d) item held = absurd (false≢true held)
holding_call m t (Compile task s) item held =
    let (own, busy) = and_parts (task == t) _ held in
    let key : (key : Key) × (key_of m t s ≡ Some key) × (is_in_the_making m key ≡ true) =
    holds_some (is_in_the_making m) (key_of m t s) busy in
    let it : (n : ℕ) × (call : OpenCall) × (m.calls n ≡ Some call) × (compiles key.0 call.begin.call ≡ true)
    × IsIn n (numbers_to m.known.last_call) =
    compiling_call m key.0 (and_parts (not (is_compiled m.known key.0)) _ key.2).1 in
    record {
      n = it.0;
      call = it.1;
      is_numbered = it.4;
      is_open = it.2;
      is_awaited =
          or_right ((it.1).begin.task == t) _
          (any_in (λ s. holds (λ key. compiles key (it.1).begin.call) (key_of m t s)) s
          (numbers_below (length (slots_of (m.known.task t).goal)))
          (below_in s (length (slots_of (m.known.task t).goal)) (slot_is_wanted m.known t task s own item))
          (ap (holds (λ key. compiles key (it.1).begin.call)) key.1 ∙ it.3));
    }

-- a task that is not quiet waits for an open call
awaited : (m : Moment) (t : ℕ) → is_quiet m t ≡ false → Awaits m t
awaited m t busy = by (has_no_call m t) refl busy
  where
    first : (owners : List Owner) → items m.known t ≡ owners → are_held_up m t owners ≡ true → Awaits m t
    first [] is held = absurd (false≢true held)
    first (o ∷ owners) is held =
        holding_call m t o
        (of_filtered (is_item m.known t) o (candidates m.known t)
        (subst (λ (xs : List Owner). IsIn o xs) (sym is) (inl refl))).1
        (and_parts (is_held_up m t o) (list_all (is_held_up m t) owners) held).0

    by : (b : Bool) → has_no_call m t ≡ b → (b && not (are_held_up m t (items m.known t))) ≡ false → Awaits m t
    by false some busy = own_call m t some
    by true none busy = first (items m.known t) refl (not_false (are_held_up m t (items m.known t)) busy)

-- ---- the law

pub never_waits : (m : Moment) (t worker : ℕ) → CanGoOn m t → is_quiet m t ≡ true → claim_at m t worker ≡ Waits → ⊥
never_waits m t worker can quiet waits =
    false≢true (sym (ap is_given waits) ∙ quiet_gives m t worker can quiet)

pub waits_for : (m : Moment) (t worker : ℕ) → CanGoOn m t → claim_at m t worker ≡ Waits → Awaits m t
waits_for m t worker can waits = by (is_quiet m t) refl
  where
    by : (b : Bool) → is_quiet m t ≡ b → Awaits m t
    by false busy = awaited m t busy
    by true quiet = absurd (never_waits m t worker can quiet waits)

pub waits_by_call : (m : Moment) (t worker : ℕ) → CanGoOn m t → claim_at m t worker ≡ Waits → is_call_open m ≡ true
waits_by_call m t worker can waits =
    let it : Awaits m t = waits_for m t worker can waits in
    any_in (λ n. is_some (m.calls n)) it.n (numbers_to m.known.last_call) it.is_numbered (ap is_some it.is_open)

-- where no call is open at all nobody waits
pub nobody_waits : (m : Moment) (t worker : ℕ) → CanGoOn m t → ((n : ℕ) → m.calls n ≡ None)
    → claim_at m t worker ≡ Waits → ⊥
nobody_waits m t worker can none waits =
    let it : Awaits m t = waits_for m t worker can waits in
    let no : m.calls it.n ≡ None = none it.n in
    let some : m.calls it.n ≡ Some it.call = it.is_open in cc

-- .. and each task is quiet
pub quiet_where_none : (m : Moment) (t : ℕ) → ((n : ℕ) → m.calls n ≡ None) → is_quiet m t ≡ true
quiet_where_none m t none = by (is_quiet m t) refl
  where
    by : (b : Bool) → is_quiet m t ≡ b → b ≡ true
    by true quiet = refl
    by false busy =
        let it : Awaits m t = awaited m t busy in
        absurd
        (let no : m.calls it.n ≡ None = none it.n in let some : m.calls it.n ≡ Some it.call = it.is_open in cc)
