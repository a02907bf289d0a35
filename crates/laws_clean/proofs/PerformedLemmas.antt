-- What the cloud does of a call that does not fail leaves a clean task as it was.
use Rattle.std.proofs.Common.{◌≡◌, ◌∙◌, ℕ, Bool, true, false, Option, Some, None}
use Rattle.std.proofs.Common.{inl, inr, refl, subst, sym}
use Rattle.std.specs.Prelude.{◌⊎◌, ◌&&◌, ◌||◌, ◌==◌, eqb, if◌then◌else◌, is_some, not}
use Rattle.std.specs.Str.{bytes_eq}
use Rattle.std.proofs.lemmas.Bool.{and_from, and_parts, eqb-true, false≢true, not-true, or_cases, or_left, or_right}
use Rattle.bosh_base.specs.CallStep.{is_gone}
use Rattle.bosh_base.specs.declared.entry.Begin.{Begin}
use Rattle.bosh_base.specs.declared.entry.Effect.{Effect}
use Rattle.bosh_base.specs.declared.inst.Inst.{Inst}
use Rattle.bosh_base.specs.declared.moves.Did.{Did}
use Rattle.bosh_base.specs.declared.owner.Owner.{Owner}
use Rattle.bosh_base.specs.declared.owner.Owner.TheVariants.{Compile, Disk, Instance}
use Rattle.bosh_base.specs.declared.row.Row.{Row}
use Rattle.bosh_base.specs.declared.task.TaskKind.{TaskKind}
use Rattle.bosh_base.specs.declared.task.TaskKind.TheVariants as kinds
use Rattle.bosh_history.specs.Deletions.{is_clean_up}
use Rattle.bosh_history.specs.Items.{is_item, is_to_ping}
use Rattle.bosh_history.specs.Known.{Task}
use Rattle.bosh_history.specs.Moments.{Moment, OpenCall, performed_call, performing}
use Rattle.bosh_history.specs.Notes.{Outside}
use Rattle.bosh_history.specs.Openings.{deploys}
use Rattle.bosh_history.specs.Permitted.{Performs, PerformsOpen}
use Rattle.bosh_history.specs.Words.{holds, is_among}
use Rattle.bosh_lawful.specs.Clean.{is_failed, is_silent_creation}
use Rattle.bosh_rows.specs.After.{after}
use Rattle.laws_clean.proofs.AnswerLemmas.{gone_rightly, left_unspoiled, says}
use Rattle.laws_clean.proofs.CloudLemmas.{creation_done, unspoiled_done}
use Rattle.laws_clean.proofs.MachineLemmas.{machine_call_never_gone}
use Rattle.laws_clean.specs.Unfailed.{UnfailedFacts}
use Rattle.laws_cloud.proofs.DoneLemmas.{done_now, made_by}
use Rattle.laws_cloud.proofs.TellLemmas.{bytes_self, truth_is}
use Rattle.laws_facts.specs.Clean.{is_answer_clean, is_call_clean, is_row_clean, is_unspoiled, leaves_unspoiled}
use Rattle.laws_facts.specs.Clean.{may_be_gone}
use Rattle.laws_facts.specs.Facts.{Holds}
use Rattle.laws_facts.specs.OpenCalls.{is_asked}
use Rattle.laws_facts.specs.Owners.{works}
use Rattle.laws_heard.proofs.AnswerLemmas.{implied}
use Rattle.laws_heard.proofs.NoteLemmas.{implied_by}
use Rattle.laws_items.proofs.AskedLemmas.{item_dep}
use Rattle.laws_items.proofs.ListedLemmas.{Lists, disks, instances, lists, no_disk}
use Rattle.laws_items.proofs.PhaseLemmas.{of_item}
use Rattle.laws_row_facts.specs.Calls.{is_ping}
use Rattle.laws_row_facts.specs.Words.{implies, where_any}

-- a deploy lists no disks
no_clean_up : (kind : TaskKind) → deploys kind ≡ true → is_clean_up kind ≡ true → ⊥
no_clean_up kinds.Deploy deploy cleans = false≢true cleans
no_clean_up kinds.Fix deploy cleans = false≢true cleans
no_clean_up kind deploy cleans = false≢true deploy

module _ (m : Moment) (h : Holds m) (t : ℕ) (working : works m t ≡ true)
    (deploy : deploys (m.known.task t).kind ≡ true) where
  pub no_disk_item : (x : ℕ) → is_item m.known t (Disk x) ≡ true → ⊥
  no_disk_item x item =
      by (is_among eqb x (m.known.task t).disks) refl (of_item m.known t (Disk x) item).1.phase
    where
      none : Lists (m.known.task t) → is_among eqb x (m.known.task t).disks ≡ true → ⊥
      none (disks it) listed = no_clean_up (m.known.task t).kind deploy it.is_clean_up
      none (instances it) listed = no_disk x (m.known.task t).disks it.no_disks listed

      by : (b : Bool) → is_among eqb x (m.known.task t).disks ≡ b
          → (if b && is_some (m.known.orphan x) then Some 0 else None)
          ≡ Some (of_item m.known t (Disk x) item).0 → ⊥
      by true listed at = none (lists m t h.known working) listed
      by false other at = absurd cc

module _ (outside : Outside) (m : Moment) (h : Holds m) (d : Did) (call : OpenCall) (is : m.calls d.n ≡ Some call)
    (performs : Performs outside m.effects call d) (well : is_failed d.answer ≡ false) where
  abbrev new : Moment
  new = performing m d

  abbrev e : Effect
  e = made_by m.known call.begin

  unspoiled_later : (row : Row) → is_unspoiled m.effects row ≡ true → is_unspoiled new.effects row ≡ true
  unspoiled_later row was =
      (λ j. is_unspoiled (done_now m d call is j) row) ∙ (unspoiled_done d.effect m.effects e row ∙ was)

  loud_later : (i : Inst) → is_silent_creation m.effects (m.known.row i).doubt ≡ false
      → is_silent_creation new.effects (m.known.row i).doubt ≡ false
  loud_later i none =
      (λ j. is_silent_creation (done_now m d call is j) (m.known.row i).doubt)
      ∙ creation_done m h d.effect e i none

  -- ---- the answer, in a clean task

  module _ (u : UnfailedFacts m call.begin.task) where
    abbrev task : Task
    task = m.known.task call.begin.task

    working : works m call.begin.task ≡ true
    working = (h.known.calls d.n call is).works

    item : is_item m.known call.begin.task call.begin.owner ≡ true
    item = (and_parts (is_item m.known call.begin.task call.begin.owner) _ (h.known.calls d.n call is).of_item).0

    module _ (i : Inst) (own : call.begin.owner ≡ Instance i) where
      row_clean : ((is_unspoiled m.effects (m.known.row i) || is_to_ping task i)
          && not (is_silent_creation m.effects (m.known.row i).doubt)) ≡ true
      row_clean =
          implied (holds (bytes_eq i.dep) task.dep) _ (u.rows i)
          ((λ j. holds (bytes_eq i.dep)
          (item_dep m h.known call.begin.task working i ((λ l. is_item m.known call.begin.task (sym own l)) ∙ item) j))
          ∙ bytes_self i.dep)

      asked : is_ping call.begin.call ≡ is_to_ping task i
      asked =
          truth_is (is_ping call.begin.call) (is_asked task call.begin.owner)
          (and_parts (is_item m.known call.begin.task call.begin.owner) _ (h.known.calls d.n call is).of_item).1
          ∙ (λ j. is_asked task (own j))

      unspoiled : is_ping call.begin.call ≡ false → is_unspoiled m.effects (m.known.row i) ≡ true
      unspoiled plain =
          by (or_cases (is_unspoiled m.effects (m.known.row i)) (is_to_ping task i)
          (and_parts (is_unspoiled m.effects (m.known.row i) || is_to_ping task i) _ row_clean).0)
        where
          by : (is_unspoiled m.effects (m.known.row i) ≡ true) ⊎ (is_to_ping task i ≡ true)
              → is_unspoiled m.effects (m.known.row i) ≡ true
          by (inl was) = was
          by (inr ping) = absurd (false≢true (sym plain ∙ (asked ∙ ping)))

      loud : is_silent_creation m.effects (m.known.row i).doubt ≡ false
      loud =
          not-true (is_silent_creation m.effects (m.known.row i).doubt)
          (and_parts (is_unspoiled m.effects (m.known.row i) || is_to_ping task i) _ row_clean).1

    gone_by : (owner : Owner) → call.begin.owner ≡ owner
        → implies (is_gone d.answer) (may_be_gone m.known owner call.begin.call) ≡ true
    gone_by (Instance i) own =
        gone_rightly outside m h d call is performs well i own (unspoiled i own) (loud i own)
    gone_by (Compile t s) own =
        λ j. implies (((λ l. is_gone (says outside m h d call is performs well l))
        ∙ machine_call_never_gone m h d.n call is performs.not_yet t s own outside.built) j)
        (may_be_gone m.known (Compile t s) call.begin.call)
    gone_by (Disk x) own =
        absurd (no_disk_item m h call.begin.task working u.deploy x
        ((λ j. is_item m.known call.begin.task (sym own j)) ∙ item))

    left_by : (owner : Owner) → call.begin.owner ≡ owner → leaves_unspoiled new call.begin d.answer owner ≡ true
    left_by (Instance i) own =
        unspoiled_later (after call.begin.n call.begin.call d.answer (m.known.row i))
        (left_unspoiled outside m h d call is performs well i own (unspoiled i own) (loud i own))
    left_by (Compile t s) own = refl
    left_by (Disk x) own = refl

    answer_clean : is_answer_clean new call.begin d.answer ≡ true
    answer_clean =
        and_from (not (is_failed d.answer)) _ (λ j. not (well j))
        (and_from (implies (is_gone d.answer) (may_be_gone m.known call.begin.owner call.begin.call)) _
        (gone_by call.begin.owner refl) (left_by call.begin.owner refl))

  -- ---- a task

  module _ (t : ℕ) (u : UnfailedFacts m t) where
    row_later : (i : Inst) → is_row_clean new (m.known.task t) i ≡ true
    row_later i =
        implied_by (holds (bytes_eq i.dep) (m.known.task t).dep) _
        (λ mine.
        let (right, loud) =
        and_parts (is_unspoiled m.effects (m.known.row i) || is_to_ping (m.known.task t) i) _
        (implied (holds (bytes_eq i.dep) (m.known.task t).dep) _ (u.rows i) mine) in
        and_from (is_unspoiled new.effects (m.known.row i) || is_to_ping (m.known.task t) i) _
        (by (or_cases (is_unspoiled m.effects (m.known.row i)) (is_to_ping (m.known.task t) i) right))
        (λ j. not (loud_later i (not-true (is_silent_creation m.effects (m.known.row i).doubt) loud) j)))
      where
        by : (is_unspoiled m.effects (m.known.row i) ≡ true) ⊎ (is_to_ping (m.known.task t) i ≡ true)
            → (is_unspoiled new.effects (m.known.row i) || is_to_ping (m.known.task t) i) ≡ true
        by (inl was) =
            or_left (is_unspoiled new.effects (m.known.row i)) _ (unspoiled_later (m.known.row i) was)
        by (inr ping) = or_right (is_unspoiled new.effects (m.known.row i)) _ ping

    own_clean : is_call_clean new t (record call { did = Some d }) ≡ true
    own_clean =
        implied_by (call.begin.task == t) (is_answer_clean new call.begin d.answer)
        (λ mine. answer_clean (subst (λ (t : ℕ). UnfailedFacts m t) (sym (eqb-true call.begin.task t mine)) u))

    still_left : (b : Begin) (x : Did) (owner : Owner) → leaves_unspoiled m b x.answer owner ≡ true
        → leaves_unspoiled new b x.answer owner ≡ true
    still_left b x (Instance i) was = unspoiled_later (after b.n b.call x.answer (m.known.row i)) was
    still_left b x (Compile n s) was = refl
    still_left b x (Disk k) was = refl

    still_clean : (b : Begin) (did : Option Did) → where_any (λ x. is_answer_clean m b x.answer) did ≡ true
        → where_any (λ x. is_answer_clean new b x.answer) did ≡ true
    still_clean b (Some x) was =
        let (succeeds, rest) = and_parts (not (is_failed x.answer)) _ was in
        let (rightly, left) = and_parts (implies (is_gone x.answer) (may_be_gone m.known b.owner b.call)) _ rest in
        and_from (not (is_failed x.answer)) _ succeeds
        (and_from (implies (is_gone x.answer) (may_be_gone m.known b.owner b.call)) _ rightly
        (still_left b x b.owner left))
    still_clean b None was = refl

    others_clean : (o : Option OpenCall) → where_any (is_call_clean m t) o ≡ true
        → where_any (is_call_clean new t) o ≡ true
    others_clean (Some that) was =
        implied_by (that.begin.task == t) (where_any (λ x. is_answer_clean new that.begin x.answer) that.did)
        (λ mine. still_clean that.begin that.did (implied (that.begin.task == t) _ was mine))
    others_clean None was = refl

    call_later : (n : ℕ) → where_any (is_call_clean new t) (new.calls n) ≡ true
    call_later n = by (eqb d.n n)
      where
        by : (same : Bool)
            → where_any (is_call_clean new t) (if same then performed_call d (m.calls d.n) else m.calls n) ≡ true
        by true = (λ j. where_any (is_call_clean new t) (performed_call d (is j))) ∙ own_clean
        by false = others_clean (m.calls n) (u.calls n)

    pub unfailed_later : UnfailedFacts (performing m d) t
    unfailed_later = record {
      deploy = u.deploy;
      rows = row_later;
      calls = call_later;
      none_failed = u.none_failed;
    }

pub unfailed_performed : (outside : Outside) (m : Moment) (d : Did) → Holds m
    → PerformsOpen outside m.effects d (m.calls d.n) → is_failed d.answer ≡ false → (t : ℕ) → UnfailedFacts m t
    → UnfailedFacts (performing m d) t
unfailed_performed outside m d h may well t u = by (m.calls d.n) refl may
  where
    by : (o : Option OpenCall) → m.calls d.n ≡ o → PerformsOpen outside m.effects d o
        → UnfailedFacts (performing m d) t
    by (Some call) is performs = unfailed_later outside m h d call is performs well t u
    by None is performs = absurd performs
