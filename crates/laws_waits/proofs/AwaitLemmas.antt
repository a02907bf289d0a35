-- A worker that has to wait waits for an open call.
use Rattle.std.proofs.Common.{◌≡◌, ◌∙◌, ◌<◌, ℕ, Bool, true, false, ◌&&◌, List, Option, Some, None, ap, refl, subst, sym}
use Rattle.std.specs.Prelude.{nat_le, nat_lt}
use Rattle.std.proofs.lemmas.Bool.{and_parts, false≢true, leb-true, ltb-true}
use Rattle.bosh_base.specs.declared.entry.Entry.TheVariants as entries
use Rattle.bosh_base.specs.declared.moves.Move.{Move}
use Rattle.bosh_book.specs.Current.{dep_of}
use Rattle.bosh_claim.specs.Choice.{choice_of, of_task}
use Rattle.bosh_claim.specs.declared.choice.Choice.{Choice}
use Rattle.bosh_claim.specs.declared.choice.Choice.TheVariants as choices
use Rattle.bosh_history.specs.Claim.{claim_at}
use Rattle.bosh_history.specs.Fit.{IsFit}
use Rattle.bosh_history.specs.Held.{is_open}
use Rattle.bosh_history.specs.Known.{Known}
use Rattle.bosh_history.specs.Moments.{Moment, Opening, moment}
use Rattle.bosh_history.specs.Notes.{Outside}
use Rattle.bosh_history.specs.Permitted.{IsRun}
use Rattle.bosh_history.specs.Recovered.{is_recovering}
use Rattle.bosh_records.specs.Readers.{work_at}
use Rattle.bosh_records.specs.declared.records.Records.{Records}
use Rattle.bosh_work.specs.declared.work.Work.{Work}
use Rattle.laws_choices.proofs.ClaimLemmas.{choice_is_claim}
use Rattle.laws_claims.specs.Progress.{IsLawful}
use Rattle.laws_claims.specs.Quiet.{Awaits}
use Rattle.laws_facts.proofs.WorkLemmas.{begun_works}
use Rattle.laws_facts.specs.KnownFacts.{KnownFacts}
use Rattle.laws_facts.specs.Owners.{works}
use Rattle.laws_runs.proofs.ClaimLemmas.{claims_are_lawful, waits_for_a_call}
use Rattle.laws_runs.proofs.ReadLemmas.{run_facts}
use Rattle.laws_sites.proofs.EndLemmas.{working_is}
use Rattle.laws_stands.specs.Agrees.{Agrees, claimed_of}
use Rattle.laws_stands.specs.Stands.{IsWork, Stands}
use Rattle.laws_stands.specs.Told.{Told, is_going}
use Rattle.laws_waits.proofs.DepLemmas.{has_dep}
use Rattle.laws_waits.proofs.KindLemmas.{IsChosen, choice_is}
use Rattle.laws_waits.proofs.TurnLemmas.{WaitsBy}

-- a task that does not work is over
pub idle_over : (m : Moment) (told : Told) (records : Records) (t worker : ℕ) → is_recovering m ≡ false
    → told.known ≡ m.known → Stands told records → works m t ≡ false → choice_of records t worker ≡ choices.Over
idle_over m told records t worker recovered known stands idle = by (work_at records t) refl
  where
    by : (o : Option Work) → work_at records t ≡ o → choice_of records t worker ≡ choices.Over
    by None is = ap (of_task records worker) is
    by (Some work) is =
        absurd (false≢true (sym idle ∙ working_is m t recovered
        (subst (λ (known : Known). is_going known t ≡ true) known (subst (IsWork told t) is (stands.works t)).0)))

module _ (outside : Outside) (o : Opening) (moves : List Move) (told : Told) (records : Records) (t worker : ℕ)
    (fit : IsFit outside o) (run : IsRun outside o moves) (running : (moment o moves).halted ≡ false)
    (recovered : is_recovering (moment o moves) ≡ false) (stands : Stands told records)
    (agrees : Agrees (moment o moves) told) (last : (moment o moves).known.last_call < 18446744073709551615) where
  abbrev m : Moment
  m = moment o moves

  facts : KnownFacts m
  facts = run_facts outside o moves fit run

  claim : works m t ≡ true → claimed_of (choice_of records t worker) ≡ claim_at m t worker
  claim working = choice_is_claim m told records t worker stands agrees facts (ltb-true m.stopped t parts.0)
      (leb-true t m.known.tasks (and_parts (nat_le t m.known.tasks) (is_open m.known t) parts.1).0) last
    where
      parts : (nat_lt m.stopped t ≡ true) × ((nat_le t m.known.tasks && is_open m.known t) ≡ true)
      parts = and_parts (nat_lt m.stopped t) (nat_le t m.known.tasks && is_open m.known t) working

  -- it chose to
  waits_is : (choice : Choice) → IsLawful outside m t (claimed_of choice) → IsChosen choice → WaitsBy records choice
      → choice ≡ choices.Waits
  waits_is choices.Waits lawful is waits = refl
  waits_is choices.Over lawful is waits = absurd waits
  waits_is (choices.Noted (entries.Begin b)) lawful is none =
      let it : (dep : List ℕ) × (dep_of records b.owner ≡ Some dep) =
      has_dep m told records facts agrees.known_is stands b.task b.owner
      (begun_works m b lawful.1 lawful.2) lawful.2.is_item in
      absurd (let no : Some it.0 ≡ None = sym it.1 ∙ none in cc)
  waits_is (choices.Noted (entries.UpdBegin u)) lawful is waits = absurd waits
  waits_is (choices.Noted (entries.UpdDone u)) lawful is waits = absurd waits
  waits_is (choices.Noted (entries.Gone u)) lawful is waits = absurd waits
  waits_is (choices.Noted e) lawful is waits = absurd is

  pub awaits : WaitsBy records (choice_of records t worker) → Awaits m t
  awaits waits = by (works m t) refl
    where
      by : (b : Bool) → works m t ≡ b → Awaits m t
      by true working =
          waits_for_a_call outside o moves t worker fit run working
          (sym (claim working)
          ∙ ap claimed_of (waits_is (choice_of records t worker)
          (subst (IsLawful outside m t) (sym (claim working))
          (claims_are_lawful outside o moves t worker fit run working running))
          (choice_is records worker t) waits))
      by false idle =
          absurd (subst (WaitsBy records) (idle_over m told records t worker recovered agrees.known_is stands idle) waits)
