-- The open calls go on: as more moves come, and as one begins, is performed, or ends.
use Rattle.std.proofs.Common.{◌≡◌, ◌∙◌, ℕ, zero, suc, Bool, true, false, List, [], ◌∷◌, ◌++◌, Option, Some, None, length, refl, subst, sym}
use Rattle.std.specs.Prelude.{◌==◌, eqb, find, is_some, not, slice_get, if◌then◌else◌}
use Rattle.std.proofs.lemmas.Bool.{eq-eqb, eqb-true, false≢true}
use Rattle.bosh_base.specs.declared.entry.Begin.{Begin}
use Rattle.bosh_base.specs.declared.entry.Entry.TheVariants as entries
use Rattle.bosh_base.specs.declared.moves.Did as did
use Rattle.bosh_base.specs.declared.moves.Move.{Move}
use Rattle.bosh_base.specs.declared.moves.Move.TheVariants.{Did}
use Rattle.bosh_calls.specs.Calls.{begun, is_free, is_of, is_performable, with_begun, with_performed, without}
use Rattle.bosh_calls.specs.declared.calls.OpenCall as site
use Rattle.bosh_history.specs.Moments.{OpenCall, calls_after, performed_call}
use Rattle.bosh_history.specs.Words.{at}
use Rattle.laws_sites.specs.Calls.{AreCalls, HasDone, IsCall}

-- ---- moves

pub front : {A : Type 0} (xs ys : List A) (k : ℕ) (x : A) → slice_get xs k ≡ Some x → slice_get (xs ++ ys) k ≡ Some x
front [] ys k x is = absurd (let none : None ≡ Some x = is in cc)
front (a ∷ xs) ys zero x is = is
front (a ∷ xs) ys (suc k) x is = front xs ys k x is

seam : {A : Type 0} (xs : List A) (y : A) → slice_get (xs ++ y ∷ []) (length xs) ≡ Some y
seam [] y = refl
seam (x ∷ xs) y = seam xs y

done_on : (moves more : List Move) (place : Option ℕ) (it : Option did.Did) → HasDone moves place it
    → HasDone (moves ++ more) place it
done_on moves more None None is = tt
done_on moves more (Some place) (Some it) is = front moves more place (Did it) is
done_on moves more None (Some it) is = absurd is
done_on moves more (Some place) None is = absurd is

call_on : (moves more : List Move) (it : Option site.OpenCall) (call : Option OpenCall) → IsCall moves it call
    → IsCall (moves ++ more) it call
call_on moves more None None is = tt
call_on moves more (Some it) (Some call) is = done_on moves more it.place call.did is
call_on moves more None (Some call) is = absurd is
call_on moves more (Some it) None is = absurd is

-- as more moves come the calls stay
pub calls_on : (moves more : List Move) (unsettled : List site.OpenCall) (calls : ℕ → Option OpenCall)
    → AreCalls moves unsettled calls → AreCalls (moves ++ more) unsettled calls
calls_on moves more unsettled calls are n = call_on moves more (find (is_of n) unsettled) (calls n) (are n)

-- ---- the list

-- another call is found where it was
found_without : (n x : ℕ) (calls : List site.OpenCall) → eqb n x ≡ false
    → find (is_of x) (without n calls) ≡ find (is_of x) calls
found_without n x [] other = refl
found_without n x (it ∷ calls) other = by (it.n == n) (it.n == x) refl refl (found_without n x calls other)
  where
    by : (b c : Bool) → (it.n == n) ≡ b → (it.n == x) ≡ c
        → find (is_of x) (without n calls) ≡ find (is_of x) calls
        → find (is_of x) (without n (it ∷ calls)) ≡ find (is_of x) (it ∷ calls)
    by true true one here rest =
        absurd (false≢true (sym other ∙ eq-eqb n x (sym (eqb-true it.n n one) ∙ eqb-true it.n x here)))
    by true false one there rest = rw one (rw there rest)
    by false true another here rest = rw another (rw here refl)
    by false false another there rest = rw another (rw there rest)

gone_without : (n : ℕ) (calls : List site.OpenCall) → find (is_of n) (without n calls) ≡ None
gone_without n [] = refl
gone_without n (it ∷ calls) = by (it.n == n) refl (gone_without n calls)
  where
    by : (b : Bool) → (it.n == n) ≡ b → find (is_of n) (without n calls) ≡ None
        → find (is_of n) (without n (it ∷ calls)) ≡ None
    by true one rest = rw one rest
    by false another rest = rw another (rw another rest)

-- ---- one call

-- a call begins
pub calls_begun : (moves : List Move) (unsettled : List site.OpenCall) (calls : ℕ → Option OpenCall) (b : Begin)
    → AreCalls moves unsettled calls → AreCalls moves (with_begun b.n unsettled) (calls_after (entries.Begin b) calls)
calls_begun moves unsettled calls b are x = by (eqb b.n x) refl
  where
    last : (n x : ℕ) → eqb n x ≡ false → (list : List site.OpenCall)
        → find (is_of x) (list ++ begun n ∷ []) ≡ find (is_of x) list
    last n x other [] = rw other refl
    last n x other (it ∷ list) = at_first (it.n == x) refl (last n x other list)
      where
        at_first : (c : Bool) → (it.n == x) ≡ c → find (is_of x) (list ++ begun n ∷ []) ≡ find (is_of x) list
            → find (is_of x) (it ∷ (list ++ begun n ∷ [])) ≡ find (is_of x) (it ∷ list)
        at_first true here rest = rw here refl
        at_first false there rest = rw there rest

    there : (n : ℕ) (list : List site.OpenCall) → find (is_of n) list ≡ None
        → find (is_of n) (list ++ begun n ∷ []) ≡ Some (begun n)
    there n [] none = rw (eq-eqb n n refl) refl
    there n (it ∷ list) none = at_first (it.n == n) refl none (there n list)
      where
        at_first : (c : Bool) → (it.n == n) ≡ c → find (is_of n) (it ∷ list) ≡ None
            → (find (is_of n) list ≡ None → find (is_of n) (list ++ begun n ∷ []) ≡ Some (begun n))
            → find (is_of n) (it ∷ (list ++ begun n ∷ [])) ≡ Some (begun n)
        at_first true here none rest =
            absurd (let some : Some it ≡ None = (λ i. if sym here i then Some it else find (is_of n) list) ∙ none in cc)
        at_first false away none rest = rw away (rest ((λ i. if sym away i then Some it else find (is_of n) list) ∙ none))

    by : (c : Bool) → eqb b.n x ≡ c
        → IsCall moves (find (is_of x) (with_begun b.n unsettled)) (calls_after (entries.Begin b) calls x)
    by true same =
        let one : b.n ≡ x = eqb-true b.n x same in
        subst (λ (n : ℕ). IsCall moves (find (is_of n) (with_begun b.n unsettled)) (calls_after (entries.Begin b) calls n)) one
        (subst (λ (it : Option site.OpenCall). IsCall moves it (calls_after (entries.Begin b) calls b.n))
        (sym (there b.n (without b.n unsettled) (gone_without b.n unsettled)))
        (rw (eq-eqb b.n b.n refl) tt))
    by false other =
        subst (λ (it : Option site.OpenCall). IsCall moves it (calls_after (entries.Begin b) calls x))
        (sym (last b.n x other (without b.n unsettled) ∙ found_without b.n x unsettled other))
        (rw other (are x))

-- a call ends
pub calls_ended : (moves : List Move) (unsettled : List site.OpenCall) (calls : ℕ → Option OpenCall) (n : ℕ)
    → AreCalls moves unsettled calls → AreCalls moves (without n unsettled) (at eqb n None calls)
calls_ended moves unsettled calls n are x = by (eqb n x) refl
  where
    by : (c : Bool) → eqb n x ≡ c → IsCall moves (find (is_of x) (without n unsettled)) (at eqb n None calls x)
    by true same =
        let one : n ≡ x = eqb-true n x same in
        rw same (subst (λ (y : ℕ). IsCall moves (find (is_of y) (without n unsettled)) None) one
        (subst (λ (it : Option site.OpenCall). IsCall moves it None) (sym (gone_without n unsettled)) tt))
    by false other = rw other (subst (λ (it : Option site.OpenCall). IsCall moves it (calls x))
        (sym (found_without n x unsettled other)) (are x))

-- a call is performed, as the move that comes tells
pub calls_performed : (moves : List Move) (unsettled : List site.OpenCall) (calls : ℕ → Option OpenCall) (d : did.Did)
    → AreCalls moves unsettled calls
    → AreCalls (moves ++ Did d ∷ []) (with_performed d.n (length moves) unsettled)
    (at eqb d.n (performed_call d (calls d.n)) calls)
calls_performed moves unsettled calls d are x = by (eqb d.n x) refl
  where
    after : List Move
    after = moves ++ Did d ∷ []

    found : (list : List site.OpenCall) → eqb d.n x ≡ false
        → find (is_of x) (with_performed d.n (length moves) list) ≡ find (is_of x) list
    found [] other = refl
    found (it ∷ list) other = first (it.n == d.n) (it.n == x) refl refl (found list other)
      where
        first : (b c : Bool) → (it.n == d.n) ≡ b → (it.n == x) ≡ c
            → find (is_of x) (with_performed d.n (length moves) list) ≡ find (is_of x) list
            → find (is_of x) (with_performed d.n (length moves) (it ∷ list)) ≡ find (is_of x) (it ∷ list)
        first true true one here rest =
            absurd (false≢true (sym other ∙ eq-eqb d.n x (sym (eqb-true it.n d.n one) ∙ eqb-true it.n x here)))
        first true false one there rest = rw one (rw there rest)
        first false true another here rest = rw another (rw here refl)
        first false false another there rest = rw another (rw there rest)

    done : (n : ℕ) (list : List site.OpenCall) (call : Option OpenCall) → n ≡ d.n
        → IsCall moves (find (is_of n) list) call
        → IsCall after (find (is_of n) (with_performed d.n (length moves) list)) (performed_call d call)
    done n [] None one is = tt
    done n [] (Some call) one is = absurd is
    done n (it ∷ list) call one is = first (it.n == n) refl is (done n list call one)
      where
        told : (c : Option OpenCall) → IsCall moves (Some it) c
            → IsCall after (Some (record it { place = Some (length moves) })) (performed_call d c)
        told (Some c) is = seam moves (Did d)
        told None is = absurd is

        first : (b : Bool) → (it.n == n) ≡ b → IsCall moves (find (is_of n) (it ∷ list)) call
            → (IsCall moves (find (is_of n) list) call
            → IsCall after (find (is_of n) (with_performed d.n (length moves) list)) (performed_call d call))
            → IsCall after (find (is_of n) (with_performed d.n (length moves) (it ∷ list))) (performed_call d call)
        first true here is rest =
            let same : (it.n == d.n) ≡ true = (λ i. it.n == sym one i) ∙ here in
            rw same (rw here (told call (subst (λ (o : Option site.OpenCall). IsCall moves o call)
            (λ i. if here i then Some it else find (is_of n) list) is)))
        first false away is rest =
            let other : (it.n == d.n) ≡ false = (λ i. it.n == sym one i) ∙ away in
            rw other (rw away (rest (subst (λ (o : Option site.OpenCall). IsCall moves o call)
            (λ i. if away i then Some it else find (is_of n) list) is)))

    by : (c : Bool) → eqb d.n x ≡ c → IsCall after (find (is_of x) (with_performed d.n (length moves) unsettled))
        (at eqb d.n (performed_call d (calls d.n)) calls x)
    by true same =
        let one : d.n ≡ x = eqb-true d.n x same in
        rw same (subst (λ (n : ℕ). IsCall after (find (is_of n) (with_performed d.n (length moves) unsettled))
        (performed_call d (calls d.n))) one (done d.n unsettled (calls d.n) refl (are d.n)))
    by false other = rw other (subst (λ (it : Option site.OpenCall). IsCall after it (calls x))
        (sym (found unsettled other)) (call_on moves (Did d ∷ []) (find (is_of x) unsettled) (calls x) (are x)))

-- ---- what is read of them

-- a call that can be performed is open, and was not performed
pub performable_is : (moves : List Move) (unsettled : List site.OpenCall) (calls : ℕ → Option OpenCall) (n : ℕ)
    → AreCalls moves unsettled calls → is_performable unsettled n ≡ true
    → (call : OpenCall) × (calls n ≡ Some call) × (call.did ≡ None)
performable_is moves unsettled calls n are free = by (find (is_of n) unsettled) (calls n) refl (are n) free
  where
    by : (it : Option site.OpenCall) (o : Option OpenCall) → calls n ≡ o → IsCall moves it o → is_free it ≡ true
        → (call : OpenCall) × (calls n ≡ Some call) × (call.did ≡ None)
    by None None is at free = absurd (false≢true free)
    by None (Some call) is at free = absurd at
    by (Some it) None is at free = absurd at
    by (Some it) (Some call) is at free = (call, is, none it.place call.did at free)
      where
        none : (place : Option ℕ) (it : Option did.Did) → HasDone moves place it → not (is_some place) ≡ true
            → it ≡ None
        none None None at free = refl
        none None (Some d) at free = absurd at
        none (Some place) it at free = absurd (false≢true free)
