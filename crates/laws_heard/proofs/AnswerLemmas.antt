-- Once the cloud performed a call of an instance, its task has heard of the machine that the answer leaves.
use Rattle.std.proofs.Common.{◌≡◌, ◌∙◌, ℕ, Bool, true, false, Option, Some, None, List, ap, refl, sym, subst, inl}
use Rattle.std.proofs.Common.{inr}
use Rattle.std.specs.Prelude.{◌||◌, ◌==◌, if◌then◌else◌, is_some, not}
use Rattle.std.specs.Option.{option_eq, option_map}
use Rattle.std.proofs.lemmas.Bool.{and_from, and_parts, eq-eqb, eqb-true, false≢true, not-true, or_left, or_right}
use Rattle.bosh_base.specs.CallStep.{CallStep, has_agent, is_gone, unless_gone}
use Rattle.bosh_base.specs.declared.answer.Answer.TheVariants as answers
use Rattle.bosh_base.specs.declared.call.Call.{Call}
use Rattle.bosh_base.specs.declared.call.Call.TheVariants as calls
use Rattle.bosh_base.specs.declared.inst.Inst.{Inst}
use Rattle.bosh_base.specs.declared.make.Make.{Make}
use Rattle.bosh_base.specs.declared.moves.Did.{Did}
use Rattle.bosh_base.specs.declared.owner.Owner.TheVariants.{Instance}
use Rattle.bosh_base.specs.declared.row.Row.{Row}
use Rattle.bosh_base.specs.declared.row.Vm.{Vm}
use Rattle.bosh_history.specs.Items.{is_item, is_to_ping}
use Rattle.bosh_history.specs.Known.{Task}
use Rattle.bosh_history.specs.Moments.{heard_by, hears, Moment, OpenCall, performing, tells_of}
use Rattle.bosh_history.specs.Notes.{Outside}
use Rattle.bosh_history.specs.Steps.{want_of}
use Rattle.bosh_history.specs.Words.{holds}
use Rattle.bosh_lawful.specs.Clean.{is_failed}
use Rattle.bosh_rows.specs.After.{after, leaves_doubt}
use Rattle.bosh_rows.specs.CallOf.{next_call}
use Rattle.bosh_rows.specs.Standing.{same_truth}
use Rattle.bosh_rows.specs.Tied.{is_named_lost}
use Rattle.laws_cloud.proofs.CallLemmas.{doubt_is}
use Rattle.laws_compile_machines_kept.proofs.NamedLemmas.{to_make}
use Rattle.laws_contents_kept.proofs.SilenceLemmas.{lost_silent}
use Rattle.laws_facts.specs.Facts.{Holds}
use Rattle.laws_facts.specs.OpenCalls.{call_of_row, fits_known, fits_row, is_asked}
use Rattle.laws_facts.specs.Owners.{is_doubt}
use Rattle.laws_facts.specs.Tasks.{has_to_hear, is_row_heard_of}
use Rattle.laws_heard.proofs.RowLemmas.{heard_known, HearsMore, known_heard, lost_heard, none_heard, same_heard}
use Rattle.laws_heard.proofs.TellLemmas.{agent_answers, asks_agent, asks_of, AsksOf, gone, made, same, Tells, tells}
use Rattle.laws_heard.proofs.TellLemmas.{told}
use Rattle.laws_heard.specs.Heard.{HearingFacts}
use Rattle.laws_kept_facts.proofs.CallCases.{Doubts}
use Rattle.laws_row_facts.specs.Calls.{is_ping, row_before}
use Rattle.laws_row_facts.specs.Words.{implies, same_call}
use Rattle.laws_rows.specs.Rightful.{is_doubt_fit, is_machine}

-- ---- what is heard

pub hears_more : (m : Moment) (d : Did) (t : ℕ) → HearsMore m (performing m d) t
hears_more m d t v was = (by (m.calls d.n), refl)
  where
    by : (call : Option OpenCall) → heard_by d call m.heard t v ≡ true
    by (Some call) = or_right (hears d call t v) (m.heard t v) was
    by None = was

pub implied : (a b : Bool) → implies a b ≡ true → a ≡ true → b ≡ true
implied true b is at = is
implied false b is at = absurd (false≢true at)

-- a machine that answers was not lost early
not_early : (m : Moment) → Holds m → HearingFacts m → (t v : ℕ) → has_agent m.effects v ≡ true
    → m.early t v ≡ false
not_early m h f t v answers = by (m.early t v) refl
  where
    by : (early : Bool) → m.early t v ≡ early → early ≡ false
    by false is = refl
    by true is =
        absurd (false≢true
        (sym (lost_silent m.effects h.cloud.orderly v
        (implied (m.early t v) (is_named_lost m.effects v) (f.losses_real t v) is)) ∙ answers))

-- ---- the answer to an open call

module _ (outside : Outside) (m : Moment) (h : Holds m) (f : HearingFacts m) (d : Did) (call : OpenCall)
    (is : m.calls d.n ≡ Some call) (step : CallStep outside.built m.effects call.begin.call d.effect d.answer) (i : Inst)
    (own : call.begin.owner ≡ Instance i)
    (hearing : has_to_hear (m.known.task call.begin.task) i ≡ true) (well : is_failed d.answer ≡ false) where
  abbrev t : ℕ
  t = call.begin.task

  abbrev task : Task
  task = m.known.task call.begin.task

  abbrev row : Row
  row = m.known.row i

  abbrev later : Moment
  later = performing m d

  abbrev new : Row
  new = after call.begin.n call.begin.call d.answer row

  fits : fits_row task call.begin i row ≡ true
  fits = subst (λ owner. fits_known m.known call.begin owner ≡ true) own (h.known.calls d.n call is).fits

  makes : call_of_row task i (row_before call.begin.call row) ≡ Some call.begin.call
  makes = to_make task call.begin i row fits

  -- it is a ping just where the instance is to be asked
  ping_same : (ping : Bool) → is_ping call.begin.call ≡ ping → is_to_ping task i ≡ ping
  ping_same ping pings =
      by ping (is_to_ping task i)
      (sym (λ j. same_truth (pings j) (is_asked task (own j)))
      ∙ (and_parts (is_item m.known call.begin.task call.begin.owner) _ (h.known.calls d.n call is).of_item).1)
    where
      by : (a b : Bool) → same_truth a b ≡ true → b ≡ a
      by true b is = is
      by false true is = absurd (false≢true is)
      by false false is = refl

  -- what the task had heard before
  before : is_ping call.begin.call ≡ false → is_row_heard_of m t row ≡ true
  before plain =
      sym (λ j. ping_same false plain j || is_row_heard_of m t row)
      ∙ implied (has_to_hear task i) (is_to_ping task i || is_row_heard_of m t row)
      ((h.outcomes t (h.known.calls d.n call is).works).is_heard_of i) hearing

  -- the machine that the answer tells of
  told_now : (v : ℕ) → tells_of call.begin.call d.answer ≡ Some v → later.heard t v ≡ true
  told_now v tells =
      (λ j. heard_by d (is j) m.heard t v)
      ∙ or_left (hears d call t v) (m.heard t v)
      (and_from (t == t) _ (eq-eqb t t refl)
      ((λ j. holds (λ (it : ℕ). it == v) (tells j)) ∙ eq-eqb v v refl))

  -- ---- a ping

  pinged : (v : ℕ) → call.begin.call ≡ calls.Ping v → is_row_heard_of later t new ≡ true
  pinged v ping =
      by (has_agent m.effects v) refl
      (subst (λ c. CallStep outside.built m.effects c d.effect d.answer) ping step)
    where
      machine : is_to_ping task i ≡ true → (vm : Option Vm) → row.vm ≡ vm
          → (if is_to_ping task i then option_map (λ (it : Vm). calls.Ping it.vm) vm
          else next_call (want_of task i) row) ≡ Some (calls.Ping v) → is_machine row.vm v ≡ true
      machine asks (Some it) has called =
          let call_is : Some (calls.Ping it.vm) ≡ Some (calls.Ping v) =
          sym (λ j. if asks j then Some (calls.Ping it.vm) else next_call (want_of task i) row) ∙ called in
          let number : it.vm ≡ v = cc in (λ j. is_machine (has j) v) ∙ eq-eqb it.vm v number
      machine asks None has called =
          let none : None ≡ Some (calls.Ping v) =
          sym (λ j. if asks j then None else next_call (want_of task i) row) ∙ called in absurd cc

      one : is_machine row.vm v ≡ true
      one =
          machine (ping_same true (λ j. is_ping (ping j))) row.vm refl
          ((λ j. call_of_row task i (row_before (sym ping j) row)) ∙ (makes ∙ ap Some ping))

      done : d.answer ≡ answers.Done → has_agent m.effects v ≡ true → is_row_heard_of later t new ≡ true
      done says answers = of row.vm refl one
        where
          of : (vm : Option Vm) → row.vm ≡ vm → is_machine vm v ≡ true → is_row_heard_of later t new ≡ true
          of (Some it) has equal =
              let number : it.vm ≡ v = eqb-true it.vm v equal in
              (λ j. is_row_heard_of later t (after call.begin.n (ping j) (says j) row))
              ∙ known_heard later t row it has
              (and_from (later.heard t it.vm) _
              ((λ j. later.heard t (number j)) ∙ told_now v (λ j. tells_of (ping j) (says j)))
              ((λ j. not (m.early t (number j)) || not (is_some row.spec))
              ∙ (λ j. not (not_early m h f t v answers j) || not (is_some row.spec))))
          of None has equal = absurd (false≢true equal)

      by : (answers : Bool) → has_agent m.effects v ≡ answers
          → CallStep outside.built m.effects (calls.Ping v) d.effect d.answer → is_row_heard_of later t new ≡ true
      by true there (inl (says, takes)) = done (says ∙ (λ j. unless_gone (there j) answers.Done)) there
      by false silent (inl (says, takes)) =
          (λ j. is_row_heard_of later t
          (after call.begin.n (ping j) ((says ∙ (λ l. unless_gone (silent l) answers.Done)) j) row))
          ∙ lost_heard later t (record row { lost = true }) refl
      by there is (inr (failed, may)) = absurd (false≢true (sym well ∙ (λ j. is_failed (failed j))))

  -- ---- another call

  -- the row has no machine, so no spec, where one was made
  none_made : (make : Make) (hint : List ℕ) (n : ℕ) → Doubts row n (calls.CreateVm make hint)
      → is_some row.spec ≡ false
  none_made make hint n doubts =
      not-true (is_some row.spec)
      (sym (λ j. none j || not (is_some row.spec)) ∙ f.specs_of_machines i)
    where
      none : is_some row.vm ≡ false
      none =
          not-true (is_some row.vm)
          (and_parts (not (is_some row.vm)) _
          (sym (λ j. is_doubt_fit row (doubts j)) ∙ (h.rows i).doubt_fits)).0

  plain_before : is_ping call.begin.call ≡ false
      → next_call (want_of task i) (row_before call.begin.call row) ≡ Some call.begin.call
  plain_before plain =
      sym (λ j. if ping_same false plain j
      then option_map (λ (it : Vm). calls.Ping it.vm) (row_before call.begin.call row).vm
      else next_call (want_of task i) (row_before call.begin.call row)) ∙ makes

  of_before : (c : Call) → AsksOf (row_before c row) c → AsksOf row c
  of_before (calls.GetState v) asks = asks
  of_before (calls.Apply v spec) asks = asks
  of_before (calls.FindVm n) asks = asks
  of_before c asks = tt

  asked : is_ping call.begin.call ≡ false → AsksOf row call.begin.call
  asked plain =
      of_before call.begin.call
      (asks_of (want_of task i) (row_before call.begin.call row) call.begin.call (plain_before plain))

  -- the agent that was asked is the row's
  agent_own : (c : Call) → is_ping c ≡ false → AsksOf row c → (v : ℕ) → asks_agent c ≡ Some v
      → is_machine row.vm v ≡ true
  agent_own (calls.Apply u spec) plain asks v agent =
      let number : u ≡ v = cc in (λ j. is_machine row.vm (sym number j)) ∙ asks
  agent_own (calls.GetState u) plain asks v agent =
      let number : u ≡ v = cc in (λ j. is_machine row.vm (sym number j)) ∙ asks
  agent_own (calls.Ping u) plain asks v agent = absurd (false≢true (sym plain))
  agent_own c plain asks v agent = absurd cc

  no_spec : (c : Call) → call.begin.call ≡ c → AsksOf row c → (v : ℕ) → tells_of c d.answer ≡ Some v
      → is_ping c ≡ false → is_some row.spec ≡ false
  no_spec (calls.CreateVm make disks) call_is asks v tells plain =
      none_made make disks call.begin.n
      (doubt_is call.begin.n (calls.CreateVm make disks) row.doubt
      ((λ j. implies (leaves_doubt (calls.CreateVm make disks)) (is_doubt call.begin.n (sym call_is j) row.doubt))
      ∙ ((λ j. implies (leaves_doubt (sym call_is j)) (is_doubt call.begin.n call.begin.call row.doubt))
      ∙ (and_parts (implies (leaves_doubt call.begin.call) (is_doubt call.begin.n call.begin.call row.doubt)) _
      (and_parts (option_eq same_call (call_of_row task i (row_before call.begin.call row)) (Some call.begin.call)) _
      fits).1).0)))
  no_spec (calls.FindVm n) call_is asks v tells plain = let (make, hint, doubts) = asks in none_made make hint n doubts
  no_spec (calls.Ping u) call_is asks v tells plain = absurd (false≢true (sym plain))
  no_spec c call_is asks v tells plain = absurd cc

  plain_heard : is_ping call.begin.call ≡ false → is_row_heard_of later t new ≡ true
  plain_heard plain = by (tells call.begin.n call.begin.call d.answer row plain)
    where
      lively : (v : ℕ) → asks_agent call.begin.call ≡ Some v → is_gone d.answer ≡ false → new.vm ≡ row.vm
          → new.lost ≡ row.lost → (vm : Option Vm) → row.vm ≡ vm → is_machine vm v ≡ true → (lost : Bool)
          → row.lost ≡ lost → is_row_heard_of later t new ≡ true
      lively v asks there vm lost_same (Some it) has equal true lost = lost_heard later t new (lost_same ∙ lost)
      lively v asks there vm lost_same (Some it) has equal false lost =
          let number : it.vm ≡ v = eqb-true it.vm v equal in
          let early : m.early t it.vm ≡ false =
          not_early m h f t it.vm
          ((λ j. has_agent m.effects (number j))
          ∙ agent_answers outside.built m.effects call.begin.call v d.effect d.answer asks step well there) in
          known_heard later t new it (vm ∙ has)
          (and_from (later.heard t it.vm) _
          (hears_more m d t it.vm
          (and_parts (m.heard t it.vm) _ (heard_known m t row it has lost (before plain))).0).0
          (λ j. not (early j) || not (is_some new.spec)))
      lively v asks there vm lost_same None has equal lost is = absurd (false≢true equal)

      by : Tells call.begin.call d.answer row new → is_row_heard_of later t new ≡ true
      by (gone none) = none_heard later t new none
      by (same vm lost spec) = same_heard m later t row new (hears_more m d t) vm lost spec (before plain)
      by (told v asks there vm lost) =
          lively v asks there vm lost row.vm refl (agent_own call.begin.call plain (asked plain) v asks) row.lost refl
      by (made v agent vm spec heard) =
          known_heard later t new (record { vm = v; agent = agent }) vm
          (and_from (later.heard t v) _ (told_now v heard)
          (or_right (not (later.early t v)) _
          (λ j. not (((λ l. is_some (spec l)) ∙ no_spec call.begin.call refl (asked plain) v heard plain) j))))

  pub answer_heard : is_row_heard_of later t new ≡ true
  answer_heard = by call.begin.call refl
    where
      by : (c : Call) → call.begin.call ≡ c → is_row_heard_of later t new ≡ true
      by (calls.Ping v) ping = pinged v ping
      by c other = plain_heard (λ j. is_ping (other j))
