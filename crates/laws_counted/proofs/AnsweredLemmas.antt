-- A call of an instance in a clean task that the cloud performs is answered as it is asked: it is one of the steps that
-- end.
use Rattle.std.proofs.Common.{◌≡◌, ◌∙◌, ℕ, ◌<◌, Bool, true, false, Option, Some, None, List, [], ◌∷◌, ◌++◌}
use Rattle.std.proofs.Common.{inl, inr, refl, subst, sym}
use Rattle.std.specs.Prelude.{◌⊎◌, ◌&&◌, ◌||◌, fold, if◌then◌else◌, is_some, not}
use Rattle.std.specs.Ordering.{nat_cmp}
use Rattle.std.proofs.lemmas.Bool.{and_parts, false≢true, or_left}
use Rattle.bosh_base.specs.CallStep.{is_gone}
use Rattle.bosh_base.specs.declared.call.Call.{Call}
use Rattle.bosh_base.specs.declared.call.Call.TheVariants as calls
use Rattle.bosh_base.specs.declared.digest.Digest.{Digest}
use Rattle.bosh_base.specs.declared.entry.Entry.{Entry}
use Rattle.bosh_base.specs.declared.goal.GoalRow.{GoalRow}
use Rattle.bosh_base.specs.declared.inst.Inst.{Inst}
use Rattle.bosh_base.specs.declared.key.KeyWork.{KeyWork}
use Rattle.bosh_base.specs.declared.make.Make.{Make}
use Rattle.bosh_base.specs.declared.moves.Did.{Did}
use Rattle.bosh_base.specs.declared.owner.Owner.TheVariants.{Instance}
use Rattle.bosh_base.specs.declared.row.Doubt.{Doubt}
use Rattle.bosh_base.specs.declared.row.Row.{Row}
use Rattle.bosh_base.specs.declared.row.Vm.{Vm}
use Rattle.bosh_history.specs.Known.{Known}
use Rattle.bosh_history.specs.Moments.{Moment, OpenCall}
use Rattle.bosh_history.specs.Notes.{Outside}
use Rattle.bosh_history.specs.Permitted.{Performs}
use Rattle.bosh_lawful.specs.Clean.{is_failed}
use Rattle.bosh_rows.specs.After.{begun_row, leaves_doubt, make_asked}
use Rattle.bosh_rows.specs.CallOf.{next_call}
use Rattle.bosh_rows.specs.Tied.{IsTiedRow, is_spoiled, is_tied_row, is_tied_to, is_tied_to_lost, as_done}
use Rattle.bosh_rows.specs.Tied.{without_doubt}
use Rattle.laws_answered_rows.proofs.OwnLemmas.{found_new}
use Rattle.laws_clean.proofs.AnswerLemmas.{facts, says}
use Rattle.laws_cloud.proofs.CallLemmas.{row_fits}
use Rattle.laws_facts.specs.Clean.{is_unspoiled, may_be_gone}
use Rattle.laws_facts.specs.Facts.{Holds}
use Rattle.laws_heard.proofs.AnswerLemmas.{implied}
use Rattle.laws_row_facts.specs.Calls.{is_ping, row_before}
use Rattle.laws_row_facts.specs.Rows.{RowFacts}
use Rattle.laws_kept_facts.proofs.NumberedLemmas.{numbers}
use Rattle.laws_row_facts.specs.Words.{are_ascending, implies}
use Rattle.laws_rows.specs.Answered.{Answered, AreAnswered, IsAnswered, row_after}
use Rattle.laws_rows.specs.Rightful.{fits}
use Rattle.laws_rows.specs.SoundDisks.{is_found_new}

-- ---- one more of a list

pub one_answered : (built : KeyWork → List Digest → Digest) (want : Option GoalRow) (row : Row) (steps : List Answered)
    (it : Answered) → AreAnswered built want row steps
    → IsAnswered built want (fold (λ row step. row_after step row) row steps) it
    → AreAnswered built want row (steps ++ it ∷ [])
one_answered built want row [] it before last = (last, tt)
one_answered built want row (step ∷ steps) it before last =
    (before.0, one_answered built want (row_after step row) steps it before.1 last)

-- ---- the row before a call, as far as its make and its doubt go

abbrev Before : Bool → Option Make → Row → Row
Before leaves make led = record led { make = make; doubt = if leaves then None else led.doubt }

before_is : (n : ℕ) (c : Call) (led : Row)
    → row_before c (begun_row n c led) ≡ Before (leaves_doubt c) (make_asked c led.make) led
before_is n c led = by (leaves_doubt c)
  where
    begun : Bool → Row
    begun leaves = record led {
      make = make_asked c led.make;
      doubt = if leaves then Some (record { n = n; call = c }) else led.doubt;
    }

    by : (leaves : Bool) → (if leaves then without_doubt (begun leaves) else begun leaves)
        ≡ Before leaves (make_asked c led.make) led
    by true = refl
    by false = refl

-- another make is of no matter where there is no machine
make_unseen : (xs : List Entry) (led : Row) (make : Option Make) → led.vm ≡ None
    → is_tied_to xs (record led { make = make; doubt = None }) ≡ is_tied_to xs (record led { doubt = None })
make_unseen xs led make none =
    (λ j. is_tied_to xs (record led { make = make; doubt = None; vm = none j }))
    ∙ (λ j. is_tied_to xs (record led { doubt = None; vm = sym none j }))

tied_unmarked : (xs : List Entry) (led : Row) (make : Option Make) → (led.vm ≡ None) ⊎ (make ≡ led.make)
    → is_tied_to xs (record led { make = make; doubt = None }) ≡ is_tied_to xs (without_doubt led)
tied_unmarked xs led make (inl none) = make_unseen xs led make none
tied_unmarked xs led make (inr same) = λ j. is_tied_to xs (record led { make = same j; doubt = None })

-- a row that is tied without its doubt is tied
tied_anyway : (xs : List Entry) (led : Row) (make : Option Make) → (led.vm ≡ None) ⊎ (make ≡ led.make)
    → is_tied_row xs (record led { make = make; doubt = None }) ≡ true → is_tied_row xs led ≡ true
tied_anyway xs led make fits is = by (led.lost || is_spoiled xs led) is
  where
    first : (a b : Bool) → (a || a) ≡ true → a ≡ b → (c : Bool) → (b || c) ≡ true
    first true b is same c = or_left b c (sym same)
    first false b is same c = absurd (false≢true is)

    by : (gone : Bool)
        → (if gone then is_tied_to_lost xs led else (is_tied_to xs (record led { make = make; doubt = None })
        || is_tied_to xs (record led { make = make; doubt = None }))) ≡ true
        → (if gone then is_tied_to_lost xs led else (is_tied_to xs (without_doubt led)
        || is_tied_to xs (as_done xs led))) ≡ true
    by true is = is
    by false is =
        first (is_tied_to xs (record led { make = make; doubt = None })) (is_tied_to xs (without_doubt led)) is
        (tied_unmarked xs led make fits) (is_tied_to xs (as_done xs led))

tied_led : (xs : List Entry) (led : Row) (leaves : Bool) (make : Option Make)
    → ((leaves ≡ true) × (led.vm ≡ None)) ⊎ (make ≡ led.make) → is_tied_row xs (Before leaves make led) ≡ true
    → is_tied_row xs led ≡ true
tied_led xs led true make (inl (leaves, none)) is = tied_anyway xs led make (inl none) is
tied_led xs led true make (inr same) is = tied_anyway xs led make (inr same) is
tied_led xs led false make (inl (leaves, none)) is = absurd (false≢true leaves)
tied_led xs led false make (inr same) is = sym (λ j. is_tied_row xs (record led { make = same j })) ∙ is

-- ---- a disk that the call in doubt made is new

-- a lost row as it is in one of the cases
abbrev as_case : Row → Bool → Option Doubt → Row
as_case row lost doubt = record row { lost = lost; doubt = doubt }

found_new_led : (xs : List Entry) (want : Option GoalRow) (led : Row) (c : Call) → next_call want led ≡ Some c
    → leaves_doubt c ≡ true → is_found_new xs led ≡ true
found_new_led xs want led c next leaves = by led.lost led.doubt next
  where
    finds : (n : ℕ) → Some (calls.FindDisk n) ≡ Some c → ⊥
    finds n is = let one : calls.FindDisk n ≡ c = cc in false≢true ((λ j. leaves_doubt (one j)) ∙ leaves)

    of : (lost : Bool) (n : ℕ) (call : Call)
        → next_call want (as_case led lost (Some (record { n = n; call = call }))) ≡ Some c
        → is_found_new xs (as_case led lost (Some (record { n = n; call = call }))) ≡ true
    of true n (calls.CreateDisk wanted v) next = absurd (finds n next)
    of false n (calls.CreateDisk wanted v) next = absurd (finds n next)
    of lost n call next = refl

    by : (lost : Bool) (doubt : Option Doubt) → next_call want (as_case led lost doubt) ≡ Some c
        → is_found_new xs (as_case led lost doubt) ≡ true
    by lost None next = refl
    by lost (Some d) next = of lost d.n d.call next

-- ---- what is gone

lost_of_gone : (k : Known) (i : Inst) (c : Call) → is_ping c ≡ false → may_be_gone k (Instance i) c ≡ true
    → (k.row i).lost ≡ true
lost_of_gone k i (calls.Ping v) plain is = absurd (false≢true (sym plain))
lost_of_gone k i (calls.DeleteVm v) plain is = is
lost_of_gone k i c plain is = absurd (false≢true is)

not_both : (lost gone : Bool) → (gone ≡ true → lost ≡ true) → (not lost && gone) ≡ false
not_both true gone is = refl
not_both false true is = sym (is refl)
not_both false false is = refl

-- ---- the call

module _ (outside : Outside) (m : Moment) (h : Holds m) (d : Did) (call : OpenCall) (is : m.calls d.n ≡ Some call)
    (performs : Performs outside m.effects call d) (well : is_failed d.answer ≡ false) (i : Inst)
    (own : call.begin.owner ≡ Instance i) (led : Row) (want : Option GoalRow)
    (begun : begun_row call.begin.n call.begin.call led ≡ m.known.row i)
    (next : next_call want led ≡ Some call.begin.call)
    (young : (wanted : GoalRow) → want ≡ Some wanted → wanted.fresh_after < call.begin.n)
    (plain : is_ping call.begin.call ≡ false) (unspoiled : is_unspoiled m.effects (m.known.row i) ≡ true)
    (rightly : implies (is_gone d.answer) (may_be_gone m.known (Instance i) call.begin.call) ≡ true) where
  abbrev xs : List Entry
  xs = m.effects

  abbrev c : Call
  c = call.begin.call

  abbrev n : ℕ
  n = call.begin.n

  lost_is : led.lost ≡ (m.known.row i).lost
  lost_is = λ j. (begun j).lost

  vm_is : led.vm ≡ (m.known.row i).vm
  vm_is = λ j. (begun j).vm

  was : RowFacts xs (Before (leaves_doubt c) (make_asked c led.make) led)
  was =
      subst (RowFacts xs) (before_is n c led)
      (subst (λ (row : Row). RowFacts xs (row_before c row)) (sym begun)
      (facts outside m h d call is performs well i own))

  -- a creation is of a row without a machine
  unmade : (call_is : Call) → c ≡ call_is → ((leaves_doubt c ≡ true) × (led.vm ≡ None)) ⊎ (make_asked c
      led.make ≡ led.make)
  unmade (calls.CreateVm make hint) creates =
      inl ((λ j. leaves_doubt (creates j)), vm_is ∙ none (m.known.row i).vm refl)
    where
      fit : (not (is_some (m.known.row i).vm)) ≡ true
      fit =
          (and_parts (not (is_some (m.known.row i).vm)) _
          (sym (λ j. fits (m.known.row i) (creates j))
          ∙ row_fits m h d.n call is i own (λ j. leaves_doubt (creates j)))).0

      none : (vm : Option Vm) → (m.known.row i).vm ≡ vm → (m.known.row i).vm ≡ None
      none (Some it) has = absurd (false≢true ((λ j. not (is_some (sym has j))) ∙ fit))
      none None has = has
  unmade other creates = inr (λ j. make_asked (creates j) led.make)

  tied : IsTiedRow xs led
  tied = tied_led xs led (leaves_doubt c) (make_asked c led.make) (unmade c refl) was.tied

  new_found : is_found_new xs led ≡ true
  new_found = by (leaves_doubt c) refl (unmade c refl)
    where
      by : (leaves : Bool) → leaves_doubt c ≡ leaves
          → ((leaves_doubt c ≡ true) × (led.vm ≡ None)) ⊎ (make_asked c led.make ≡ led.make)
          → is_found_new xs led ≡ true
      by true leaves made = found_new_led xs want led c next leaves
      by false none (inl (leaves, bare)) = absurd (false≢true (sym none ∙ leaves))
      by false none (inr same) =
          (λ j. is_found_new xs (record led { doubt = if sym none j then None else led.doubt }))
          ∙ found_new xs (Before (leaves_doubt c) (make_asked c led.make) led)
          (and_parts (are_ascending nat_cmp (numbers led.disks)) _ was.in_order).1

  unspoiled_led : (not led.lost && is_spoiled xs led) ≡ false
  unspoiled_led = by led.lost (is_spoiled xs led) ((λ j. lost_is j || not (spoiled_is j)) ∙ unspoiled)
    where
      spoiled_is : is_spoiled xs led ≡ is_spoiled xs (m.known.row i)
      spoiled_is = λ j. is_spoiled xs (begun j)

      by : (lost spoiled : Bool) → (lost || not spoiled) ≡ true → (not lost && spoiled) ≡ false
      by true spoiled is = refl
      by false true is = absurd (false≢true is)
      by false false is = refl

  pub is_answered : IsAnswered outside.built want led (record { effects = xs; n = n; call = c; answer = d.answer })
  is_answered = record {
    tied = tied;
    unspoiled = unspoiled_led;
    found_new = new_found;
    next = next;
    young = young;
    answer = says outside m h d call is performs well;
    here =
        not_both led.lost (is_gone d.answer)
        (λ gone.
        lost_is
        ∙ lost_of_gone m.known i c plain
        (implied (is_gone d.answer) (may_be_gone m.known (Instance i) c) rightly gone));
  }
