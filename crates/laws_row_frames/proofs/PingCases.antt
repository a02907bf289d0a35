-- A ping keeps all facts of a row: where its machine does not answer it is lost from then on.
use Rattle.std.proofs.Common.{◌≡◌, ℕ, Bool, true, false, Option, Some, None, List, refl, sym, ◌∙◌, ap, subst, inl, inr}
use Rattle.std.specs.Prelude.{◌⊎◌, ◌&&◌, ◌||◌, ◌==◌, not, is_some, if◌then◌else◌}
use Rattle.std.specs.List.{list_all, list_any}
use Rattle.std.proofs.lemmas.Bool.{and_from, and_parts}
use Rattle.bosh_base.specs.CallStep.{CallStep, found_disk, has_agent, unless_gone}
use Rattle.bosh_base.specs.Cloud.{numbers_to, vms_created}
use Rattle.bosh_base.specs.declared.answer.Answer.{Answer}
use Rattle.bosh_base.specs.declared.answer.Answer.TheVariants as answers
use Rattle.bosh_base.specs.declared.call.Call.{Call}
use Rattle.bosh_base.specs.declared.call.Call.TheVariants as calls
use Rattle.bosh_base.specs.declared.digest.Digest.{Digest}
use Rattle.bosh_base.specs.declared.entry.Entry.{Entry}
use Rattle.bosh_base.specs.declared.key.KeyWork.{KeyWork}
use Rattle.bosh_base.specs.declared.owner.Owner.TheVariants.{Instance}
use Rattle.bosh_base.specs.declared.row.Doubt.{Doubt}
use Rattle.bosh_base.specs.declared.row.Row.{Row}
use Rattle.bosh_base.specs.declared.row.Vm.{Vm}
use Rattle.laws_answered_rows.proofs.CreatedCases.{SameMachine, after_same, found_same, tied_kept}
use Rattle.laws_effects.specs.Orderly.{is_taken}
use Rattle.laws_row_facts.specs.Rows.{RowFacts}
use Rattle.laws_rows.proofs.FallLemmas.{answered}
use Rattle.laws_rows.proofs.MakeTieLemmas.{mine_in, others_more}
use Rattle.laws_rows.proofs.SteadyLemmas.{IsTiedTo, tied-ways}
use Rattle.laws_rows.proofs.TieLemmas.{of_row}
use Rattle.laws_rows.proofs.WholeTieLemmas.{lost-tied}
use Rattle.laws_rows.specs.Rightful.{done_with, is_doubt_fit}
use Rattle.bosh_rows.specs.Tied.{as_done, IsTiedRow, is_spoiled, is_tied_to, is_tied_to_lost, number_of, vms_of, without_doubt}
use Rattle.laws_answered_rows.proofs.KeepsLemmas.{kept_by_asking}

-- ---- what a call in doubt leaves of the machine

-- a row with a machine is in doubt of no creation of one, so the call in doubt leaves that machine, or none
pub done_same : (xs : List Entry) (row : Row) (it : Vm) → row.vm ≡ Some it → is_doubt_fit row row.doubt ≡ true →
    SameMachine row (as_done xs row)
done_same xs row it has fits =
    subst (λ (d : Option Doubt). SameMachine row (as_done xs (record row { doubt = d }))) refl
    (by_doubt row.doubt fits)
  where
    by_call : (m : ℕ) (c : Call) → is_doubt_fit row (Some (record { n = m; call = c })) ≡ true →
        SameMachine row (as_done xs (record row { doubt = Some (record { n = m; call = c }) }))
    by_call m (calls.CreateVm make hint) fit = absurd (no_creation row.vm has _ fit)
      where
        no_creation : (o : Option Vm) → o ≡ Some it → (b : Bool) → (not (is_some o) && b) ≡ true → ⊥
        no_creation (Some other) is b fit = cc
        no_creation None is b fit = cc
    by_call m (calls.CreateDisk wanted v) fit =
        found_same (record row { doubt = Some (record { n = m; call = calls.CreateDisk wanted v }) }) m
        (found_disk xs m) (Some (record { n = m; call = calls.CreateDisk wanted v }))
    by_call m (calls.FindVm agent) fit = absurd cc
    by_call m c fit = after_same m c answers.Done (record row { doubt = Some (record { n = m; call = c }) }) tt

    by_doubt : (d : Option Doubt) → is_doubt_fit row d ≡ true → SameMachine row (as_done xs (record row { doubt = d }))
    by_doubt (Some d) fit = by_call d.n d.call fit
    by_doubt None fit = (refl, inl refl)

-- a machine of the instance is the recorded one, where there is one
abbrev AreRecorded : List Entry → Row → Option Vm → Type 0
AreRecorded xs row o = list_all (λ v. list_any (λ k. k == v) (number_of o)) (vms_of xs (Instance row.inst)) ≡ true

recorded_by : (xs : List Entry) (row new : Row) → SameMachine row new → is_tied_to_lost xs new ≡ true →
    AreRecorded xs row row.vm
recorded_by xs row new (inst, inl has) tied =
    sym (λ i. list_all (λ v. list_any (λ k. k == v) (number_of (has i))) (vms_of xs (Instance (inst i))))
    ∙ (and_parts (list_all (λ v. list_any (λ k. k == v) (number_of new.vm)) (vms_of xs (Instance new.inst))) _ tied).0
recorded_by xs row new (inst, inr none) tied =
    others_more (mine_in xs row) (λ v. false) (λ v. list_any (λ k. k == v) (number_of row.vm))
    (numbers_to (vms_created xs)) (λ k is. absurd cc)
    (sym (λ i. list_all (λ v. list_any (λ k. k == v) (number_of (none i))) (vms_of xs (Instance (inst i))))
    ∙ (and_parts (list_all (λ v. list_any (λ k. k == v) (number_of new.vm)) (vms_of xs (Instance new.inst))) _ tied).0)

-- a tied row with a machine is tied as one whose machine is lost
pub lost_tied : (xs : List Entry) (row : Row) (it : Vm) → row.vm ≡ Some it → is_doubt_fit row row.doubt ≡ true →
    IsTiedRow xs row → is_tied_to_lost xs row ≡ true
lost_tied xs row it has fits tied = by_ways row.lost refl (is_spoiled xs row) refl
  where
    weak : (row.lost || is_spoiled xs row) ≡ true → is_tied_to_lost xs row ≡ true
    weak marked =
        sym (ap (λ (b : Bool). if b then is_tied_to_lost xs row
        else is_tied_to xs (without_doubt row) || is_tied_to xs (as_done xs row)) marked) ∙ tied

    by_tie : IsTiedTo xs (without_doubt row) ⊎ IsTiedTo xs (as_done xs row) → is_tied_to_lost xs row ≡ true
    by_tie (inl before) = lost-tied xs (without_doubt row) before
    by_tie (inr later) =
        and_from _ _
        (recorded_by xs row (as_done xs row) (done_same xs row it has fits) (lost-tied xs (as_done xs row) later))
        (tied_kept xs row tied)

    by_ways : (lost : Bool) → row.lost ≡ lost → (spoiled : Bool) → is_spoiled xs row ≡ spoiled →
        is_tied_to_lost xs row ≡ true
    by_ways true is spoiled spoils = weak (ap (λ b. b || is_spoiled xs row) is)
    by_ways false is true spoils = weak (λ i. is i || spoils i)
    by_ways false is false whole = by_tie (tied-ways xs row tied is whole)

-- ---- the ping

-- the facts of a row whose machine does not answer
found_lost : (xs : List Entry) (row : Row) (it : Vm) → RowFacts xs row → row.vm ≡ Some it →
    has_agent xs it.vm ≡ false → RowFacts xs (record row { lost = true })
found_lost xs row it facts has silent = record {
  doubt_fits = facts.doubt_fits;
  has_machine =
      ap (λ o. is_some o && (is_some o || list_all (λ d. not d.attached && not d.mounted) row.disks)) has;
  sound_disks = facts.sound_disks;
  has_room = facts.has_room;
  deleted_bare = refl;
  in_order = facts.in_order;
  created = facts.created;
  tied = lost_tied xs row it has facts.doubt_fits facts.tied;
  holds_disks = refl;
  lost_silent = (λ i. list_all (λ v. not (has_agent xs v)) (number_of (has i))) ∙ ap (λ b. not b && true) silent;
}

pub ping_kept : (built : KeyWork → List Digest → Digest) (xs : List Entry) (row : Row) (it : Vm) (n : ℕ)
    (dep : List ℕ) (b : Bool) (answer : Answer) → RowFacts xs row → row.vm ≡ Some it → is_taken xs n ≡ false →
    CallStep built xs (calls.Ping it.vm) b answer →
    RowFacts (done_with b xs (of_row row n dep (calls.Ping it.vm))) (answered n (calls.Ping it.vm) answer row)
ping_kept built xs row it n dep b answer facts has fresh step =
    kept_by_asking RowFacts built xs row (calls.Ping it.vm) refl (λ n. facts)
    (λ n. by_here n (has_agent xs it.vm) refl) n dep b answer fresh step
  where
    by_here : (n : ℕ) (c : Bool) → has_agent xs it.vm ≡ c →
        RowFacts xs (answered n (calls.Ping it.vm) (unless_gone c answers.Done) row)
    by_here n true answers_it = facts
    by_here n false silent = found_lost xs row it facts has silent
