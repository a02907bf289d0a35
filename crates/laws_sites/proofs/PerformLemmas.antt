-- A call is performed: the cloud may answer so, and what is told of it is what happened.
use Rattle.std.proofs.Common.{◌≡◌, ◌∙◌, ℕ, Bool, true, false, List, [], ◌∷◌, Option, Some, None, ap, inl, inr, refl, subst, sym}
use Rattle.std.specs.Prelude.{◌==◌, ◌&&◌, is_some, nat_le, if◌then◌else◌}
use Rattle.std.specs.Option.{option_and_then, option_map}
use Rattle.bosh_agent.specs.Compiled.{compiled_digest}
use Rattle.bosh_base.specs.CallStep.{CallStep}
use Rattle.bosh_base.specs.declared.call.Call.{Call}
use Rattle.bosh_base.specs.declared.digest.Digest.{Digest}
use Rattle.bosh_base.specs.declared.entry.Entry.{Entry}
use Rattle.bosh_base.specs.declared.entry.Entry.TheVariants as entries
use Rattle.bosh_base.specs.declared.key.KeyWork.{KeyWork}
use Rattle.bosh_base.specs.declared.owner.Owner.{Owner}
use Rattle.bosh_base.specs.declared.owner.Owner.TheVariants.{Instance, Compile, Disk}
use Rattle.bosh_base.specs.declared.snapshot.Orphan.{Orphan}
use Rattle.bosh_base.specs.declared.task.TaskRow.{TaskRow}
use Rattle.bosh_book.specs.Current as current
use Rattle.bosh_book.specs.declared.granted.Granted.{Granted}
use Rattle.bosh_calls.specs.Calls.{with_performed}
use Rattle.bosh_calls.specs.declared.calls.OpenCall as site
use Rattle.bosh_cloud.specs.Performs.{answer_under, effects_if, has_effect}
use Rattle.bosh_fates.specs.declared.fate.Fate.{Fate}
use Rattle.bosh_fates.specs.declared.fate.Fate.TheVariants.{Late, Lose}
use Rattle.bosh_history.specs.Known.{dep_named, dep_of_task}
use Rattle.bosh_history.specs.Moments.{Moment, OpenCall, call_effects, dep_of, dep_of_orphan, effect_of}
use Rattle.bosh_history.specs.Notes.{Outside}
use Rattle.bosh_history.specs.Permitted.{PerformsOpen}
use Rattle.bosh_history.specs.Snapshots.{task_row}
use Rattle.bosh_records.specs.Readers.{orphan_at}
use Rattle.bosh_records.specs.declared.orphans.LooseDisk.{LooseDisk}
use Rattle.bosh_records.specs.declared.records.Records.{Records}
use Rattle.bosh_world.specs.Performing as world
use Rattle.laws_sites.specs.Calls.{AreRising}
use Rattle.laws_stands.specs.Stands.{Stands}
use Rattle.laws_stands.specs.Told.{Told}

-- ---- the cloud

-- an answer of the cloud, under the fates that wait, is a step that the cloud may take
step_under : (fate : Option Fate) (effects : List Entry) (call : Call)
    → CallStep compiled_digest effects call (has_effect fate effects call) (answer_under fate effects call)
step_under None effects call = inl (refl, refl)
step_under (Some Late) effects call = inr (refl, λ takes. takes)
step_under (Some Lose) effects call = inr (refl, λ takes. absurd (let no : false ≡ true = takes in cc))

pub may_perform : (outside : Outside) → outside.built ≡ compiled_digest → (fate : Option Fate) (effects : List Entry)
    (n : ℕ) (c : Call) (calls : Option OpenCall) (call : OpenCall) → calls ≡ Some call → call.did ≡ None
    → call.begin.call ≡ c
    → PerformsOpen outside effects
    (record { n = n; effect = has_effect fate effects c; answer = answer_under fate effects c }) calls
may_perform outside built fate effects n c calls call is none same =
    subst (PerformsOpen outside effects (record { n = n; effect = has_effect fate effects c; answer = answer_under fate effects c }))
    (sym is)
    (record {
      not_yet = ap is_some none;
      step = subst (λ (b : KeyWork → List Digest → Digest).
          CallStep b effects call.begin.call (has_effect fate effects c) (answer_under fate effects c)) (sym built)
          (subst (λ (x : Call). CallStep compiled_digest effects x (has_effect fate effects c) (answer_under fate effects c))
          (sym same) (step_under fate effects c));
    })

-- ---- the deployment of an owner

some_is : {A : Type 0} (a b : A) → ◌≡◌ {A = Option A} (Some a) (Some b) → a ≡ b
some_is a b is = cc

-- the deployment that is recorded for an owner is the one that is known
pub dep_is : (told : Told) (records : Records) (owner : Owner) (dep : List ℕ) → Stands told records
    → current.dep_of records owner ≡ Some dep → dep_of told.known owner ≡ dep
dep_is told records (Instance i) dep stands is = some_is i.dep dep is
dep_is told records (Compile t s) dep stands is = by (nat_le 1 t && nat_le t told.known.tasks)
    (ap (option_and_then (λ (row : TaskRow). row.dep)) (sym (stands.tasks t)) ∙ is)
  where
    named : (o : Option (List ℕ)) → o ≡ Some dep → dep_named o ≡ dep
    named (Some it) same = some_is it dep same
    named None same = absurd (let no = same in cc)

    by : (b : Bool) → option_and_then (λ (row : TaskRow). row.dep) (if b then Some (task_row told.known t) else None) ≡ Some dep
        → dep_of_task told.known t ≡ dep
    by true same = named (told.known.task t).dep same
    by false same = absurd (let no = same in cc)
dep_is told records (Disk d) dep stands is =
    by (orphan_at records d) (told.known.orphan d) (stands.orphans d) is
  where
    by : (loose : Option LooseDisk) (known : Option Orphan) → option_map (λ (it : LooseDisk). it.orphan) loose ≡ known
        → option_map (λ (it : LooseDisk). it.orphan.inst.dep) loose ≡ Some dep → dep_of_orphan known ≡ dep
    by (Some it) known same told_so =
        subst (λ (k : Option Orphan). dep_of_orphan k ≡ dep) same (some_is it.orphan.inst.dep dep told_so)
    by None known same told_so = absurd (let no = told_so in cc)

-- ---- the effect

-- what the site adds to what was done is what the move tells
pub effects_are : (m : Moment) (has : Bool) (permit : Granted) (call : OpenCall) (calls : Option OpenCall)
    → calls ≡ Some call
    → current.IsFor call.begin permit → dep_of m.known call.begin.owner ≡ permit.dep
    → effects_if has (world.effect_of permit) ≡ call_effects m has calls
effects_are m has permit call calls is for of_dep = by has ∙ ap (call_effects m has) (sym is)
  where
    same : entries.Effect (world.effect_of permit) ≡ effect_of m.known call.begin
    same = λ i. entries.Effect (record {
      n = sym for.number i;
      owner = sym for.owner i;
      dep = sym of_dep i;
      call = sym for.call i;
    })

    by : (b : Bool) → effects_if b (world.effect_of permit) ≡ call_effects m b (Some call)
    by true = ap (λ e. e ∷ []) same
    by false = refl

-- ---- the calls

-- they keep their numbers
pub rising_performed : (last n place : ℕ) (unsettled : List site.OpenCall) → AreRising last unsettled
    → AreRising last (with_performed n place unsettled)
rising_performed last n place [] are = tt
rising_performed last n place (it ∷ rest) are = by (it.n == n)
    (rising_performed it.n n place rest are.1)
  where
    by : (b : Bool) → AreRising it.n (with_performed n place rest)
        → AreRising last ((if b then record it { place = Some place } else it) ∷ with_performed n place rest)
    by true more = (are.0, more)
    by false more = (are.0, more)
