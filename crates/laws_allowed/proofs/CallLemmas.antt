-- The end of a call that may be noted is allowed.
use Rattle.std.proofs.Common.{◌≡◌, ◌∙◌, true, false, Option, Some, None, ap, refl, sym, inl, inr}
use Rattle.std.specs.Option.{option_map_or}
use Rattle.std.proofs.lemmas.Bool.{and_parts, false≢true, or_cases}
use Rattle.bosh_base.specs.Answer.{is_kind}
use Rattle.bosh_base.specs.Call.{method_of}
use Rattle.bosh_base.specs.declared.answer.Answer.{Answer}
use Rattle.bosh_base.specs.declared.answer.Answer.TheVariants as answers
use Rattle.bosh_base.specs.declared.entry.Begin.{Begin}
use Rattle.bosh_base.specs.declared.entry.End.{End}
use Rattle.bosh_base.specs.declared.method.Method.{Method}
use Rattle.bosh_base.specs.declared.moves.Did.{Did}
use Rattle.bosh_claim.specs.Allowed.{ends_call}
use Rattle.bosh_history.specs.Moments.{Moment, OpenCall}
use Rattle.bosh_history.specs.Notes.{EndsCall}
use Rattle.bosh_lawful.specs.Clean.{is_failed}
use Rattle.bosh_records.specs.declared.records.Records.{Records}
use Rattle.laws_facts.specs.KnownFacts.{KnownFacts}
use Rattle.laws_facts.specs.OpenCalls.{is_told_in_kind}
use Rattle.laws_items.proofs.ListedLemmas.{at_some}
use Rattle.laws_stands.specs.Agrees.{Agrees}
use Rattle.laws_stands.specs.Stands.{Stands}
use Rattle.laws_stands.specs.Told.{Told}

failed_is : (answer : Answer) → is_failed answer ≡ true → answer ≡ answers.Failed
failed_is answers.Failed is = refl
failed_is answers.Done is = absurd (false≢true is)
failed_is (answers.Cid number) is = absurd (false≢true is)
failed_is (answers.Found number) is = absurd (false≢true is)
failed_is answers.Yes is = absurd (false≢true is)
failed_is answers.No is = absurd (false≢true is)
failed_is (answers.Disks disks) is = absurd (false≢true is)
failed_is (answers.Facts spec running drained) is = absurd (false≢true is)
failed_is (answers.Built digest) is = absurd (false≢true is)
failed_is answers.Gone is = absurd (false≢true is)

-- a failure is of every method's kind
kind_failed : (method : Method) → is_kind method answers.Failed ≡ true
kind_failed method = refl

pub end_is_allowed : (m : Moment) (told : Told) (records : Records) (end : End)
    → Stands told records → Agrees m told → KnownFacts m → EndsCall end (m.calls end.n) → ends_call records end ≡ true
end_is_allowed m told records end stands agrees facts noted = by (m.calls end.n) refl noted
  where
    answered : (call : OpenCall) (d : Did) → is_told_in_kind call.begin.call d ≡ true → d.answer ≡ end.answer
        → is_kind (method_of call.begin.call) end.answer ≡ true
    answered call d told_so is =
        ap (is_kind (method_of call.begin.call)) (sym is)
        ∙ elim (or_cases (is_failed d.answer) _ told_so) [
          | inl failed ↦ ap (is_kind (method_of call.begin.call)) (failed_is d.answer failed)
              ∙ kind_failed (method_of call.begin.call)
          | inr rest ↦ (and_parts (is_kind (method_of call.begin.call) d.answer) _ rest).0
        ]

    of : (call : OpenCall) (did : Option Did) → m.calls end.n ≡ Some call → call.did ≡ did → EndsCall end (Some call)
        → is_kind (method_of call.begin.call) end.answer ≡ true
    of call (Some d) is done noted =
        answered call d (at_some (is_told_in_kind call.begin.call) call.did d (facts.calls end.n call is).in_kind done)
        (answer_is call.did done noted)
      where
        answer_is : (did : Option Did) → did ≡ Some d → EndsCall end (Some (record call { did = did }))
            → d.answer ≡ end.answer
        answer_is (Some it) same noted = let e : it ≡ d = cc in ap (λ (d : Did). d.answer) (sym e) ∙ noted
        answer_is None same noted = absurd noted
    of call None is none noted = absurd (never call.did none noted)
      where
        never : (did : Option Did) → did ≡ None → EndsCall end (Some (record call { did = did })) → ⊥
        never (Some it) same noted = absurd cc
        never None same noted = noted

    by : (o : Option OpenCall) → m.calls end.n ≡ o → EndsCall end o → ends_call records end ≡ true
    by (Some call) is noted =
        ap (λ o. option_map_or (λ (begin : Begin). is_kind (method_of begin.call) end.answer) o false)
        (stands.calls end.n ∙ agrees.live end.n call is)
        ∙ of call call.did is refl noted
    by None is noted = absurd noted
