-- An instance with an open call is recorded: the only step of a bare row leaves a doubt.
use Rattle.std.proofs.Common.{◌≡◌, ℕ, Bool, true, false, ◌&&◌, Option, Some, None, [], refl, ◌∙◌, subst, arith}
use Rattle.std.specs.Prelude.{if◌then◌else◌}
use Rattle.std.specs.Option.{option_eq}
use Rattle.bosh_base.specs.declared.call.Call.{Call}
use Rattle.bosh_base.specs.declared.call.Call.TheVariants.{CreateVm}
use Rattle.bosh_base.specs.declared.entry.Begin.{Begin}
use Rattle.bosh_base.specs.declared.goal.GoalRow.{GoalRow}
use Rattle.bosh_base.specs.declared.inst.Inst.{Inst}
use Rattle.bosh_base.specs.declared.make.Make.{Make}
use Rattle.bosh_base.specs.declared.owner.Owner.TheVariants.{Instance}
use Rattle.bosh_base.specs.declared.state.State.{State}
use Rattle.bosh_base.specs.declared.state.State.TheVariants.{Running, Stopped, Detached}
use Rattle.laws_facts.specs.KnownFacts.{KnownFacts}
use Rattle.laws_facts.specs.OpenCalls.{call_of_row, fits_known, fits_row}
use Rattle.laws_row_facts.specs.Calls.{row_before}
use Rattle.laws_facts.specs.Owners.{is_doubt}
use Rattle.laws_row_facts.specs.Calls.{is_ping}
use Rattle.laws_row_facts.specs.Words.{implies, same_call}
use Rattle.bosh_history.specs.Items.{is_to_ping}
use Rattle.bosh_history.specs.Known.{Task}
use Rattle.bosh_history.specs.Moments.{Moment, OpenCall}
use Rattle.bosh_history.specs.Steps.{want_of}
use Rattle.bosh_history.specs.Words.{is_among}
use Rattle.bosh_rows.specs.After.{bare, leaves_doubt}
use Rattle.bosh_rows.specs.CallOf.{next_call}
use Rattle.bosh_rows.specs.Same.{same_inst}
use Rattle.bosh_rows.specs.Tied.{without_doubt}

-- the only call for a bare row is the creation of a machine
pub data BareCall (call : Option Call) : Type 0 where
  no_call : call ≡ None → BareCall call
  creates : (make : Make) → call ≡ Some (CreateVm make []) → BareCall call

bare_next : (want : Option GoalRow) (i : Inst) → BareCall (next_call want (bare i))
bare_next None i = no_call refl
bare_next (Some want) i = by want.state refl
  where
    by : (state : State) → want.state ≡ state → BareCall (next_call (Some want) (bare i))
    by Running is = creates want.make (grind (arith, is))
    by Stopped is = creates want.make (grind (arith, is))
    by Detached is = no_call (grind (arith, is))

before_bare : (call : Call) (i : Inst) → row_before call (bare i) ≡ bare i
before_bare call i = by (leaves_doubt call)
  where
    by : (b : Bool) → (if b then without_doubt (bare i) else bare i) ≡ bare i
    by true = refl
    by false = refl

pub bare_call : (t : Task) (i : Inst) → BareCall (call_of_row t i (bare i))
bare_call t i = by (is_to_ping t i)
  where
    by : (b : Bool) → BareCall (if b then None else next_call (want_of t i) (bare i))
    by true = no_call refl
    by false = bare_next (want_of t i) i

-- a creation would be in doubt
creation_fits : (n : ℕ) (made : Option Call) (call : Call) → BareCall made
    → (option_eq same_call made (Some call) &&
    (implies (leaves_doubt call) (is_doubt n call None) && implies (is_ping call) true)) ≡ false
creation_fits n made call (no_call is) =
    (λ i. option_eq same_call (is i) (Some call) &&
    (implies (leaves_doubt call) (is_doubt n call None) && implies (is_ping call) true))
creation_fits n made call (creates make is) =
    (λ i. option_eq same_call (is i) (Some call) &&
    (implies (leaves_doubt call) (is_doubt n call None) && implies (is_ping call) true))
    ∙ by call
  where
    by : (call : Call)
        → (same_call (CreateVm make []) call &&
        (implies (leaves_doubt call) (is_doubt n call None) && implies (is_ping call) true)) ≡ false
    by (CreateVm other disks) = grind (arith)
    by other = refl

no_bare_fits : (t : Task) (b : Begin) (i : Inst) → fits_row t b i (bare i) ≡ false
no_bare_fits t b i =
    (λ j. option_eq same_call (call_of_row t i (before_bare b.call i j)) (Some b.call)
    && (implies (leaves_doubt b.call) (is_doubt b.n b.call None) && implies (is_ping b.call) true))
    ∙ creation_fits b.n (call_of_row t i (bare i)) b.call (bare_call t i)

pub listed_open : (m : Moment) → KnownFacts m → (n : ℕ) (call : OpenCall) (i : Inst) → m.calls n ≡ Some call
    → call.begin.owner ≡ Instance i → is_among same_inst i m.known.instances ≡ true
listed_open m h n call i is own = by (is_among same_inst i m.known.instances) refl
  where
    fits : fits_row (m.known.task call.begin.task) call.begin i (m.known.row i) ≡ true
    fits = subst (λ owner. fits_known m.known call.begin owner ≡ true) own (h.calls n call is).fits

    by : (b : Bool) → is_among same_inst i m.known.instances ≡ b → is_among same_inst i m.known.instances ≡ true
    by true there = there
    by false other =
        absurd (grind (
          arith,
          no_bare_fits (m.known.task call.begin.task) call.begin i,
          subst (λ row. fits_row (m.known.task call.begin.task) call.begin i row ≡ true) (h.lists.bare i other) fits,
        ))
