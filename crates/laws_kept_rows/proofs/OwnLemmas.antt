-- What a call of an instance does keeps the row of the instance, and what it will be once the call is answered.
use Rattle.std.proofs.Common.{◌≡◌, ◌∙◌, Option, Some, None, List}
use Rattle.std.proofs.Common.{refl, sym, subst, inr}
use Rattle.std.specs.Prelude.{false, is_some}
use Rattle.std.proofs.lemmas.Bool.{false≢true}
use Rattle.bosh_base.specs.CallStep.{CallStep}
use Rattle.bosh_base.specs.declared.answer.Answer.{Answer}
use Rattle.bosh_base.specs.declared.answer.Answer.TheVariants as answers
use Rattle.bosh_base.specs.declared.call.Call.{Call}
use Rattle.bosh_base.specs.declared.entry.Entry.{Entry}
use Rattle.bosh_base.specs.declared.inst.Inst.{Inst}
use Rattle.bosh_base.specs.declared.moves.Did.{Did}
use Rattle.bosh_base.specs.declared.owner.Owner.{Owner}
use Rattle.bosh_base.specs.declared.owner.Owner.TheVariants.{Instance}
use Rattle.bosh_base.specs.declared.row.Row.{Row}
use Rattle.bosh_history.specs.Moments.{Moment, OpenCall, dep_of, performing}
use Rattle.bosh_history.specs.Notes.{Outside}
use Rattle.bosh_history.specs.Permitted.{Performs}
use Rattle.bosh_history.specs.Steps.{want_of}
use Rattle.bosh_rows.specs.After.{after}
use Rattle.laws_answered_rows.proofs.FactCases.{facts_kept}
use Rattle.laws_cloud.proofs.CallLemmas.{InstanceCall, instance_fits, pings, row_fits, steps}
use Rattle.laws_cloud.proofs.CloudLemmas.{takes_now}
use Rattle.laws_cloud.proofs.DoneLemmas.{done_now}
use Rattle.laws_cloud.proofs.OwnerFrames.{row_doubt}
use Rattle.laws_cloud.proofs.TellLemmas.{not_taken}
use Rattle.laws_effects.specs.Orderly.{is_taken}
use Rattle.laws_facts.specs.CallFacts.{IsOwnerKept}
use Rattle.laws_facts.specs.Facts.{Holds}
use Rattle.laws_kept_rows.proofs.RowLemmas.{before_own, begun_same, own_before_call}
use Rattle.laws_row_facts.specs.Calls.{row_before}
use Rattle.laws_row_facts.specs.Rows.{RowFacts}
use Rattle.laws_row_frames.proofs.PingCases.{ping_kept}
use Rattle.laws_rows.specs.Rightful.{done_with}

module _ (outside : Outside) (m : Moment) (h : Holds m) (d : Did) (call : OpenCall) (is : m.calls d.n ≡ Some call)
    (performs : Performs outside m.effects call d) (i : Inst) (own : call.begin.owner ≡ Instance i) where
  abbrev row : Row
  row = m.known.row i

  fresh : is_taken m.effects call.begin.n ≡ false
  fresh = not_taken outside m h d call is performs.not_yet

  -- what the instance was before the call
  before : RowFacts m.effects (row_before call.begin.call row)
  before = by call.did performs.not_yet refl
    where
      by : (did : Option Did) → is_some did ≡ false → call.did ≡ did
          → RowFacts m.effects (row_before call.begin.call row)
      by (Some told) some same = absurd (false≢true (sym some))
      by None none same =
          subst (λ (owner : Owner). IsOwnerKept m call.begin None owner) own
          (subst (λ (did : Option Did). IsOwnerKept m call.begin did call.begin.owner) same
          (h.performed d.n call is).owner_kept)

  -- what was done, as the effect of a row
  done_as : (inst : Inst) → inst ≡ i
      → done_with d.effect m.effects
      (record { n = call.begin.n; owner = Instance inst; dep = inst.dep; call = call.begin.call })
      ≡ (performing m d).effects
  done_as inst same =
      (λ j. done_with d.effect m.effects
      (record { n = call.begin.n; owner = Instance (same j); dep = (same j).dep; call = call.begin.call }))
      ∙ (sym (λ j. done_with d.effect m.effects
      (record { n = call.begin.n; owner = own j; dep = dep_of m.known (own j); call = call.begin.call }))
      ∙ sym (done_now m d call is))

  -- however it is answered
  pub answered : (answer : Answer) → CallStep outside.built m.effects call.begin.call d.effect answer
      → RowFacts (performing m d).effects (after call.begin.n call.begin.call answer row)
  answered answer step = by (instance_fits m h d.n call is i own).call_is
    where
      by : InstanceCall (m.known.task call.begin.task) i row call.begin.call
          → RowFacts (performing m d).effects (after call.begin.n call.begin.call answer row)
      by (pings it has same) =
          subst (λ (xs : List Entry). RowFacts xs (after call.begin.n call.begin.call answer row))
          (done_as row.inst (h.known.lists.own_row i))
          (subst
          (λ (c : Call). RowFacts
          (done_with d.effect m.effects
          (record { n = call.begin.n; owner = Instance row.inst; dep = row.inst.dep; call = c }))
          (after call.begin.n c answer row)) same
          (ping_kept outside.built m.effects row it call.begin.n row.inst.dep d.effect answer (h.rows i) has fresh
          (subst (λ (c : Call). CallStep outside.built m.effects c d.effect answer) (sym same) step)))
      by (steps next) =
          subst (λ (xs : List Entry). RowFacts xs (after call.begin.n call.begin.call answer row))
          (done_as (row_before call.begin.call row).inst
          (before_own call.begin.call row ∙ h.known.lists.own_row i))
          (subst
          (λ (r : Row). RowFacts
          (done_with d.effect m.effects
          (record {
            n = call.begin.n;
            owner = Instance (row_before call.begin.call row).inst;
            dep = (row_before call.begin.call row).inst.dep;
            call = call.begin.call;
          }))
          (after call.begin.n call.begin.call answer r))
          (begun_same call.begin.n call.begin.call row (instance_fits m h d.n call is i own).doubts
          (row_fits m h d.n call is i own))
          (facts_kept outside.built (want_of (m.known.task call.begin.task) i) m.effects
          (row_before call.begin.call row) call.begin.n call.begin.call d.effect answer before h.cloud.orderly
          h.cloud.held_by_own (own_before_call m.effects call.begin.call row (row_doubt m h i)) next fresh step))

  -- it stays as it is until it is answered
  pub unanswered : RowFacts (performing m d).effects row
  unanswered = answered answers.Failed (inr (refl, λ on. takes_now outside m d call performs on))
