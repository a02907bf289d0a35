-- The groups of a stage: where none is in flight, the first that waits may begin.
use Rattle.std.proofs.Common.{◌≡◌, ◌∙◌, ℕ, zero, suc, Bool, true, false, ◌&&◌, ◌||◌, not, List, [], ◌∷◌, take}
use Rattle.std.proofs.Common.{Option, ap, refl, sym, inl, inr}
use Rattle.std.specs.Prelude.{◌⊎◌, find, is_some, nat_lt}
use Rattle.std.specs.List.{list_all, list_any}
use Rattle.std.specs.Option.{option_and_then}
use Rattle.std.specs.Str.{bytes_eq}
use Rattle.std.proofs.lemmas.Bool.{and_from, false≢true, or_left}
use Rattle.std.proofs.lemmas.Slice.Eq.{bytes_eq-Decides}
use Rattle.bosh_base.specs.declared.goal.Goal.{Goal}
use Rattle.bosh_base.specs.declared.goal.GroupPlan.{GroupPlan}
use Rattle.bosh_base.specs.declared.inst.Inst.{Inst}
use Rattle.bosh_history.specs.Goals.{canaries, canaries_of, changed_in, in_flight, is_waiting, limit_of, may_begin}
use Rattle.bosh_history.specs.Items.{is_finished}
use Rattle.bosh_history.specs.Known.{Task, plan_in}
use Rattle.bosh_history.specs.Words.{is_among}
use Rattle.bosh_roll.specs.Upd.{is_busy}
use Rattle.bosh_roll.specs.declared.upd.Upd.{Upd}
use Rattle.bosh_roll.specs.declared.upd.Upd.TheVariants.{Busy, Failed, Finished, Todo}
use Rattle.bosh_rows.proofs.SameLemmas.{itself}
use Rattle.bosh_rows.specs.Same.{same_inst}
use Rattle.laws_items.specs.Lists.{IsIn}
use Rattle.laws_items.proofs.ListLemmas.{Meets, all_in, in_filtered, some_fails}
use Rattle.laws_claims.proofs.ListLemmas.{none_counted, of_filtered}

-- an item that fails a test is one of the first n, or all of the first n meet it
pub record FailsInTurn {X : Type 0} (same : X → X → Bool) (p : X → Bool) (n : ℕ) (xs : List X) : Type 0 where
  pub x : X
  pub is_in : IsIn x xs
  pub fails : p x ≡ false
  pub in_turn : (list_any (same x) (take n xs) || list_all p (take n xs)) ≡ true

pub first_fails : {X : Type 0} (same : X → X → Bool) → ((x : X) → same x x ≡ true) → (p : X → Bool) (n : ℕ) (x : X)
    (xs : List X) → IsIn x xs → p x ≡ false → FailsInTurn same p n xs
first_fails same itself p n x [] is fails = absurd is
first_fails same itself p n x (y ∷ xs) is fails =
    by (p y) refl is n (λ n is. first_fails same itself p n x xs is fails)
  where
    here : (n : ℕ) → p y ≡ false → FailsInTurn same p n (y ∷ xs)
    here zero fails = record { x = y; is_in = inl refl; fails = fails; in_turn = refl }
    here (suc n) fails = record {
      x = y;
      is_in = inl refl;
      fails = fails;
      in_turn =
          or_left (same y y || list_any (same y) (take n xs)) _
          (or_left (same y y) (list_any (same y) (take n xs)) (itself y));
    }

    later : (n : ℕ) → p y ≡ true → ((n : ℕ) → FailsInTurn same p n xs) → FailsInTurn same p n (y ∷ xs)
    later zero meets more =
        let it : FailsInTurn same p zero xs = more zero in
        record { x = it.x; is_in = inr it.is_in; fails = it.fails; in_turn = refl }
    later (suc n) meets more =
        let it : FailsInTurn same p n xs = more n in
        record {
          x = it.x;
          is_in = inr it.is_in;
          fails = it.fails;
          in_turn =
              beside (same it.x y) (list_any (same it.x) (take n xs)) (p y) (list_all p (take n xs)) meets it.in_turn;
        }
      where
        beside : (a b c d : Bool) → c ≡ true → (b || d) ≡ true → ((a || b) || (c && d)) ≡ true
        beside true b c d meets is = refl
        beside false true c d meets is = refl
        beside false false true d meets is = is
        beside false false false d meets is = absurd (false≢true meets)

    by : (b : Bool) → p y ≡ b → (y ≡ x) ⊎ IsIn x xs → (n : ℕ) → ((n : ℕ) → IsIn x xs → FailsInTurn same p n xs)
        → FailsInTurn same p n (y ∷ xs)
    by false unmet is n more = here n unmet
    by true met (inl one) n more = absurd (false≢true (sym fails ∙ sym (ap p one) ∙ met))
    by true met (inr is) n more = later n met (λ n. more n is)

-- ---- a group

-- the plan of a group
abbrev pub plan_of : Option Goal → List ℕ → Option GroupPlan
plan_of goal group = option_and_then (λ g. find (λ plan. bytes_eq plan.name group) g.groups) goal

-- the update of an instance may begin beside those of a group
abbrev begins_beside : Task → List ℕ → Inst → Bool
begins_beside t group i =
    not (is_some t.failed)
    && (nat_lt (in_flight t group) (limit_of t (plan_of t.goal group))
    && (is_among same_inst i (canaries t group (canaries_of t (plan_of t.goal group)))
    || list_all (λ it. is_finished (t.upd it)) (canaries t group (canaries_of t (plan_of t.goal group)))))

-- an update that is not finished waits, or is none that may wait
abbrev is_held_up : Upd → Bool
is_held_up upd = is_finished upd || is_waiting upd

idle_upd : (upd : Upd) → is_held_up upd ≡ true → is_busy upd ≡ false
idle_upd Todo is = refl
idle_upd Finished is = refl
idle_upd Busy is = absurd (false≢true is)
idle_upd Failed is = absurd (false≢true is)

moves : (upd : Upd) → not (is_held_up upd) ≡ true → (is_finished upd ≡ false) × (is_waiting upd ≡ false)
moves Todo is = absurd (false≢true is)
moves Finished is = absurd (false≢true is)
moves Busy is = (refl, refl)
moves Failed is = (refl, refl)

-- a changed instance of the group whose update is not finished, and goes on or may begin
pub record MayGoOn (t : Task) (group : List ℕ) : Type 0 where
  pub i : Inst
  pub is_changed : IsIn i t.changed
  pub group_is : i.group ≡ group
  pub is_left : is_finished (t.upd i) ≡ false
  pub goes_on : (is_waiting (t.upd i) && not (may_begin t i)) ≡ false

-- in a group of which something is left one instance goes on
pub one_goes_on : (t : Task) (i : Inst) → IsIn i t.changed → is_finished (t.upd i) ≡ false → is_some t.failed ≡ false
    → nat_lt 0 (limit_of t (plan_in t.goal i)) ≡ true → MayGoOn t i.group
one_goes_on t i is left good room = by (list_all (λ j. is_held_up (t.upd j)) (changed_in t i.group)) refl
  where
    of_group : (j : Inst) → IsIn j (changed_in t i.group) → IsIn j t.changed × (j.group ≡ i.group)
    of_group j is =
        let it : IsIn j t.changed × (bytes_eq j.group i.group ≡ true) =
        of_filtered (λ (j : Inst). bytes_eq j.group i.group) j t.changed is in
        (it.0, (bytes_eq-Decides j.group i.group).0 it.1)

    waits : list_all (λ j. is_held_up (t.upd j)) (changed_in t i.group) ≡ true
        → FailsInTurn same_inst (λ j. is_finished (t.upd j)) (canaries_of t (plan_of t.goal i.group))
        (changed_in t i.group)
        → MayGoOn t i.group
    waits held it =
        let own : IsIn it.x t.changed × ((it.x).group ≡ i.group) = of_group it.x it.is_in in
        let none : in_flight t i.group ≡ 0 =
        none_counted (λ j. is_busy (t.upd j)) (changed_in t i.group)
        (λ j is. idle_upd (t.upd j) (all_in (λ j. is_held_up (t.upd j)) j (changed_in t i.group) held is)) in
        let free : nat_lt (in_flight t i.group) (limit_of t (plan_of t.goal i.group)) ≡ true =
        (λ j. nat_lt (none j) (limit_of t (plan_of t.goal i.group))) ∙ room in
        let may : may_begin t it.x ≡ true =
        ap (λ group. begins_beside t group it.x) own.1
        ∙ and_from (not (is_some t.failed)) _ (ap not good) (and_from _ _ free it.in_turn) in
        record {
          i = it.x;
          is_changed = own.0;
          group_is = own.1;
          is_left = it.fails;
          goes_on = ap (λ b. is_waiting (t.upd it.x) && not b) may ∙ ended (is_waiting (t.upd it.x));
        }
      where
        ended : (b : Bool) → (b && false) ≡ false
        ended true = refl
        ended false = refl

    by : (b : Bool) → list_all (λ j. is_held_up (t.upd j)) (changed_in t i.group) ≡ b → MayGoOn t i.group
    by false some =
        let it : Meets (λ j. not (is_held_up (t.upd j))) (changed_in t i.group) =
        some_fails _ (changed_in t i.group) some in
        let own : IsIn it.x t.changed × ((it.x).group ≡ i.group) = of_group it.x it.is_in in
        let open_ : (is_finished (t.upd it.x) ≡ false) × (is_waiting (t.upd it.x) ≡ false) =
        moves (t.upd it.x) it.meets in
        record {
          i = it.x;
          is_changed = own.0;
          group_is = own.1;
          is_left = open_.0;
          goes_on = ap (λ b. b && not (may_begin t it.x)) open_.1;
        }
    by true held =
        waits held
        (first_fails same_inst itself (λ j. is_finished (t.upd j)) (canaries_of t (plan_of t.goal i.group)) i
        (changed_in t i.group) (in_filtered (λ (j : Inst). bytes_eq j.group i.group) i t.changed is
        ((bytes_eq-Decides i.group i.group).1 refl)) left)
