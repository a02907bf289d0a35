-- The numbers of effects: an open call has had its effect where it is told so, and no other effect has its number; and an
-- effect of the number of a call in doubt is that call's.
use Rattle.std.proofs.Common.{◌≡◌, ◌∙◌, ℕ, Bool, true, false, ◌&&◌, not, Option, Some, None, List}
use Rattle.std.proofs.Common.{ap, refl, sym, arith}
use Rattle.std.specs.Prelude.{◌||◌, ◌==◌, ◌≢◌, eqb, if◌then◌else◌, is_some}
use Rattle.std.specs.List.{list_all}
use Rattle.std.specs.Str.{bytes_eq}
use Rattle.std.proofs.lemmas.Bool.{and_from, and_parts, eq-eqb, eqb-true, false≢true}
use Rattle.std.proofs.lemmas.Bool.Decides.{eqb_tells}
use Rattle.std.proofs.lemmas.Slice.Eq.{bytes_eq-Decides}
use Rattle.bosh_base.specs.ExactParts.{Decides-call}
use Rattle.bosh_base.specs.declared.call.Call.{Call}
use Rattle.bosh_base.specs.declared.entry.Effect as effect
use Rattle.bosh_base.specs.declared.entry.Entry.{Entry}
use Rattle.bosh_base.specs.declared.entry.Entry.TheVariants as entries
use Rattle.bosh_base.specs.declared.moves.Did.{Did}
use Rattle.bosh_base.specs.declared.owner.Owner.{Owner}
use Rattle.bosh_base.specs.declared.owner.Owner.TheVariants.{Instance, Compile, Disk}
use Rattle.bosh_base.specs.declared.row.Doubt.{Doubt}
use Rattle.bosh_history.specs.Moments.{Moment, OpenCall, dep_of, performed_call, performing}
use Rattle.bosh_history.specs.Notes.{Outside}
use Rattle.bosh_rows.proofs.SameLemmas.{itself}
use Rattle.bosh_rows.specs.Same.{same_owner}
use Rattle.bosh_rows.specs.Standing.{same_truth}
use Rattle.laws_cloud.proofs.DoneLemmas.{all_done, done_now, made_by, taken_done}
use Rattle.laws_cloud.proofs.OwnerFrames.{where_some}
use Rattle.laws_effects.specs.Orderly.{is_taken}
use Rattle.laws_facts.specs.Facts.{Holds}
use Rattle.laws_facts.specs.Numbers.{has_effect, is_call_done_as_told, is_done_as_told, is_doubt_its_own, is_open_for}
use Rattle.laws_facts.specs.Owners.{doubt_of}
use Rattle.laws_items.proofs.OwnerLemmas.{same_owner_is}
use Rattle.laws_row_facts.specs.Numbers.{is_effect_of}
use Rattle.laws_row_facts.specs.Words.{implies, same_call, where_any}
use Rattle.laws_rows.specs.Rightful.{done_with}

-- ---- words

pub same_owner_itself : (owner : Owner) → same_owner owner owner ≡ true
same_owner_itself (Instance i) = itself i
same_owner_itself (Compile t s) = and_from (t == t) (s == s) (eq-eqb t t refl) (eq-eqb s s refl)
same_owner_itself (Disk d) = eq-eqb d d refl

pub bytes_self : (text : List ℕ) → bytes_eq text text ≡ true
bytes_self text = (bytes_eq-Decides text text).1 refl

pub call_self : (call : Call) → same_call call call ≡ true
call_self call = (Decides-call call call).1 refl

pub implied : (a b : Bool) → (a ≡ true → b ≡ true) → implies a b ≡ true
implied true b is = is refl
implied false b is = refl

pub truth_is : (a b : Bool) → same_truth a b ≡ true → a ≡ b
truth_is true b same = sym same
truth_is false false same = refl
truth_is false true same = absurd (false≢true same)

pub truth_itself : (a b : Bool) → a ≡ b → same_truth a b ≡ true
truth_itself true b same = sym same
truth_itself false b same = sym (ap not same)

-- ---- the parts

-- what is told of an open call is so
pub record IsTold (m : Moment) (call : OpenCall) : Type 0 where
  pub of_call :
      list_all
      (is_effect_of call.begin.n call.begin.owner (dep_of m.known call.begin.owner) call.begin.call)
      m.effects
      ≡ true
  pub taken : is_taken m.effects call.begin.n ≡ has_effect call.did

pub told : (m : Moment) → Holds m → (n : ℕ) (call : OpenCall) → m.calls n ≡ Some call → IsTold m call
told m h n call is =
    let (first, second) =
    and_parts _ (same_truth (is_taken m.effects call.begin.n) (has_effect call.did))
    (where_some (is_done_as_told m) (m.calls n) call (h.effects.done_as_told n) is) in
    record { of_call = first; taken = truth_is (is_taken m.effects call.begin.n) (has_effect call.did) second }

-- a call that was not performed has no effect
pub not_taken : (outside : Outside) (m : Moment) → Holds m → (d : Did) (call : OpenCall) → m.calls d.n ≡ Some call
    → is_some call.did ≡ false → is_taken m.effects call.begin.n ≡ false
not_taken outside m h d call is none = (told m h d.n call is).taken ∙ by call.did none
  where
    by : (did : Option Did) → is_some did ≡ false → has_effect did ≡ false
    by (Some did) some = absurd (false≢true (sym some))
    by None none = refl

-- ---- a call is performed

module _ (outside : Outside) (m : Moment) (h : Holds m) (d : Did) where
  -- the effect of another call
  of_other : (call : OpenCall) (n : ℕ) (owner : Owner) (dep : List ℕ) (it : Call) → call.begin.n ≢ n
      → is_effect_of n owner dep it (entries.Effect (made_by m.known call.begin)) ≡ true
  of_other call n owner dep it other =
      implied (call.begin.n == n) _ (λ same. absurd (other (eqb-true call.begin.n n same)))

  module _ (call : OpenCall) (is : m.calls d.n ≡ Some call) (performs : is_some call.did ≡ false) where
    abbrev made : effect.Effect
    made = made_by m.known call.begin

    number : call.begin.n ≡ d.n
    number = (h.known.calls d.n call is).number

    -- the call itself
    told_own : is_done_as_told (performing m d) (record call { did = Some d }) ≡ true
    told_own =
        (λ j. list_all test (done_now m d call is j)
        && same_truth (is_taken (done_now m d call is j) call.begin.n) d.effect)
        ∙ and_from (list_all test (done_with d.effect m.effects made)) _
        (all_done test d.effect m.effects made (told m h d.n call is).of_call (λ on. itself))
        (truth_itself _ d.effect taken)
      where
        test : Entry → Bool
        test = is_effect_of call.begin.n call.begin.owner (dep_of m.known call.begin.owner) call.begin.call

        itself : test (entries.Effect made) ≡ true
        itself =
            implied (call.begin.n == call.begin.n) _
            (λ same.
            and_from (same_owner call.begin.owner call.begin.owner) _ (same_owner_itself call.begin.owner)
            (and_from (bytes_eq made.dep made.dep) _ (bytes_self made.dep) (call_self call.begin.call)))

        taken : is_taken (done_with d.effect m.effects made) call.begin.n ≡ d.effect
        taken =
            taken_done d.effect m.effects made call.begin.n
            ∙ ((λ j. not_taken outside m h d call is performs j
            || (d.effect && eq-eqb call.begin.n call.begin.n refl j))
            ∙ grind (arith))

    -- another open call
    told_other : (n : ℕ) (that : OpenCall) → m.calls n ≡ Some that → d.n ≢ n
        → is_done_as_told (performing m d) that ≡ true
    told_other n that there other =
        (λ j. list_all test (done_now m d call is j)
        && same_truth (is_taken (done_now m d call is j) that.begin.n) (has_effect that.did))
        ∙ and_from (list_all test (done_with d.effect m.effects made)) _
        (all_done test d.effect m.effects made (told m h n that there).of_call
        (λ on. of_other call that.begin.n that.begin.owner (dep_of m.known that.begin.owner) that.begin.call apart))
        (truth_itself _ (has_effect that.did)
        (taken_done d.effect m.effects made that.begin.n
        ∙ ((λ j. (told m h n that there).taken j || (d.effect && unequal j)) ∙ grind (arith))))
      where
        test : Entry → Bool
        test = is_effect_of that.begin.n that.begin.owner (dep_of m.known that.begin.owner) that.begin.call

        apart : call.begin.n ≢ that.begin.n
        apart same = other (sym number ∙ (same ∙ (h.known.calls n that there).number))

        unequal : (call.begin.n == that.begin.n) ≡ false
        unequal = grind (arith, eqb_tells call.begin.n that.begin.n, apart)

    pub told_all : (n : ℕ) → is_call_done_as_told (performing m d) n ≡ true
    told_all n = by (eqb d.n n) refl
      where
        at_other : (that : Option OpenCall) → m.calls n ≡ that → d.n ≢ n
            → where_any (is_done_as_told (performing m d)) that ≡ true
        at_other (Some that) there other = told_other n that there other
        at_other None there other = refl

        by : (same : Bool) → eqb d.n n ≡ same
            → where_any (is_done_as_told (performing m d))
            (if same then performed_call d (m.calls d.n) else m.calls n) ≡ true
        by true same =
            (λ j. where_any (is_done_as_told (performing m d)) (performed_call d (is j))) ∙ told_own
        by false other =
            at_other (m.calls n) refl (λ same. false≢true (sym other ∙ eq-eqb d.n n same))

    -- a call in doubt
    pub own_all : (owner : Owner) → is_doubt_its_own (performing m d) owner ≡ true
    own_all owner = by (doubt_of m.known owner) refl
      where
        of : (dt : Doubt) → doubt_of m.known owner ≡ Some dt
            → (list_all (is_effect_of dt.n owner (dep_of m.known owner) dt.call) (performing m d).effects
            && where_any (is_open_for owner dt.call) ((performing m d).calls dt.n)) ≡ true
        of dt doubted =
            and_from (list_all test (performing m d).effects) _
            ((λ j. list_all test (done_now m d call is j))
            ∙ all_done test d.effect m.effects made was.0 (λ on. fits))
            (open_still (eqb d.n dt.n) refl)
          where
            test : Entry → Bool
            test = is_effect_of dt.n owner (dep_of m.known owner) dt.call

            was : (list_all test m.effects ≡ true) × (where_any (is_open_for owner dt.call) (m.calls dt.n) ≡ true)
            was =
                and_parts (list_all test m.effects) _
                (where_some
                (λ it. list_all (is_effect_of it.n owner (dep_of m.known owner) it.call) m.effects
                && where_any (is_open_for owner it.call) (m.calls it.n))
                (doubt_of m.known owner) dt (h.effects.doubts_own owner) doubted)

            open_one : d.n ≡ dt.n → is_open_for owner dt.call call ≡ true
            open_one same =
                where_some (is_open_for owner dt.call) (m.calls dt.n) call was.1 (ap m.calls (sym same) ∙ is)

            fits : test (entries.Effect made) ≡ true
            fits = implied (call.begin.n == dt.n) _ (λ same. one (sym number ∙ eqb-true call.begin.n dt.n same))
              where
                one : d.n ≡ dt.n
                    → (same_owner call.begin.owner owner
                    && (bytes_eq (dep_of m.known call.begin.owner) (dep_of m.known owner)
                    && same_call call.begin.call dt.call)) ≡ true
                one same =
                    let (mine, called) =
                    and_parts (same_owner call.begin.owner owner) (same_call call.begin.call dt.call)
                    (open_one same) in
                    and_from (same_owner call.begin.owner owner) _ mine
                    (and_from _ (same_call call.begin.call dt.call)
                    ((λ j. bytes_eq (dep_of m.known (same_owner_is call.begin.owner owner mine j)) (dep_of m.known owner))
                    ∙ bytes_self (dep_of m.known owner))
                    called)

            open_still : (same : Bool) → eqb d.n dt.n ≡ same
                → where_any (is_open_for owner dt.call) (if same then performed_call d (m.calls d.n) else m.calls dt.n)
                ≡ true
            open_still true same =
                (λ j. where_any (is_open_for owner dt.call) (performed_call d (is j)))
                ∙ open_one (eqb-true d.n dt.n same)
            open_still false other = was.1

        by : (doubt : Option Doubt) → doubt_of m.known owner ≡ doubt
            → where_any
            (λ it. list_all (is_effect_of it.n owner (dep_of m.known owner) it.call) (performing m d).effects
            && where_any (is_open_for owner it.call) ((performing m d).calls it.n)) doubt ≡ true
        by (Some dt) doubted = of dt doubted
        by None none = refl
