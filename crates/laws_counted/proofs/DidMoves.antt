-- The calls of a clean task stay few, when the cloud performs a call.
use Rattle.std.proofs.Common.{◌≡◌, ◌≢◌, ◌∙◌, ℕ, Bool, true, false, Option, Some, None, [], ◌∷◌, ◌++◌}
use Rattle.std.proofs.Common.{inl, inr, refl, subst, sym}
use Rattle.std.specs.Prelude.{◌⊎◌, ◌||◌, ◌==◌, eqb, if◌then◌else◌, is_some, nat_lt, not}
use Rattle.std.specs.Str.{bytes_eq}
use Rattle.std.proofs.lemmas.Bool.{and_parts, eq-eqb, false≢true, ltb-true, or_cases}
use Rattle.bosh_base.specs.CallStep.{is_gone}
use Rattle.bosh_base.specs.declared.entry.Begin.{Begin}
use Rattle.bosh_base.specs.declared.goal.GoalRow.{GoalRow}
use Rattle.bosh_base.specs.declared.inst.Inst.{Inst}
use Rattle.bosh_base.specs.declared.moves.Did.{Did}
use Rattle.bosh_base.specs.declared.owner.Owner.{Owner}
use Rattle.bosh_base.specs.declared.owner.Owner.TheVariants.{Compile, Instance}
use Rattle.bosh_history.specs.Items.{is_item, is_leftover, is_to_ping}
use Rattle.bosh_history.specs.Known.{Task, want_in}
use Rattle.bosh_history.specs.Moments.{Moment, OpenCall, performed_call, performing}
use Rattle.bosh_history.specs.Notes.{Outside}
use Rattle.bosh_history.specs.Orders.{same_slot}
use Rattle.bosh_history.specs.Permitted.{Performs}
use Rattle.bosh_history.specs.Steps.{is_owners}
use Rattle.bosh_history.specs.Words.{at, holds, is_among}
use Rattle.bosh_lawful.specs.Clean.{is_failed}
use Rattle.bosh_rows.proofs.SameLemmas.{same_inst_decides}
use Rattle.bosh_rows.specs.After.{after}
use Rattle.bosh_rows.specs.Same.{same_inst}
use Rattle.laws_clean.specs.Unfailed.{UnfailedFacts}
use Rattle.laws_cloud.proofs.TellLemmas.{bytes_self, truth_is}
use Rattle.laws_counted.proofs.AnsweredLemmas.{is_answered}
use Rattle.laws_counted.proofs.CallFrames.{done_begins, done_calls}
use Rattle.laws_counted.proofs.CountLemmas.{budgeted_dep, counted_same}
use Rattle.laws_counted.proofs.OwnLemmas.{open_own, own_instance}
use Rattle.laws_counted.proofs.SlotFacts.{slots_left}
use Rattle.laws_counted.proofs.StepFrames.{SameKept, is_owner, steps_same}
use Rattle.laws_counted.proofs.StepMoves.{OneCall, steps_done, steps_pinged}
use Rattle.laws_counted.proofs.SweepLemmas.{sweep_same}
use Rattle.laws_counts.specs.Counts.{CleanFacts, SweepFacts, compiles_package, is_slot_call, owner_of}
use Rattle.laws_counts.specs.Courses.{Account, performed}
use Rattle.laws_counts.specs.RowSteps.{InCall, IsLedTo, StepFacts, is_budgeted, led_to}
use Rattle.laws_facts.proofs.CallLemmas.{none_open}
use Rattle.laws_facts.specs.CallFacts.{IsOwnerKept}
use Rattle.laws_facts.specs.Clean.{is_answer_clean, is_call_clean, is_unspoiled, may_be_gone}
use Rattle.laws_facts.specs.Facts.{Holds}
use Rattle.laws_facts.specs.OpenCalls.{is_asked}
use Rattle.laws_facts.specs.Owners.{works}
use Rattle.laws_heard.proofs.AnswerLemmas.{implied}
use Rattle.laws_items.proofs.OwnerLemmas.{same_owner_is}
use Rattle.laws_kept_rows.proofs.NotedLemmas as noted
use Rattle.laws_row_facts.specs.Calls.{is_ping}
use Rattle.laws_row_facts.specs.Rows.{RowFacts}
use Rattle.laws_row_facts.specs.Words.{implies, where_any}
use Rattle.laws_rows.specs.Answered.{Answered}

-- ---- what is kept of an instance

apart_at : {X : Type 0} (i j : Inst) (x : X) (f : Inst → X) → i ≢ j → at same_inst i x f j ≡ f j
apart_at i j x f apart = by (same_inst i j) refl
  where
    by : (same : Bool) → same_inst i j ≡ same → (if same then x else f j) ≡ f j
    by true same = absurd (apart ((same_inst_decides i j).0 same))
    by false other = refl

itself_at : {X : Type 0} (i : Inst) (x : X) (f : Inst → X) → at same_inst i x f i ≡ x
itself_at i x f = λ j. if (same_inst_decides i i).1 refl j then x else f i

module _ (m : Moment) (b : Begin) (d : Did) (i : Inst) (a : Account) where
  abbrev the_step : Answered
  the_step = record { effects = m.effects; n = b.n; call = b.call; answer = d.answer }

  abbrev asked : Account
  asked = record a { first = at same_inst i (after b.n b.call d.answer (m.known.row i)) a.first }

  abbrev stepped : Account
  stepped = record a { steps = at same_inst i (a.steps i ++ the_step ∷ []) a.steps }

  pub same_made : (performed m b d i a).made ≡ a.made
  same_made = by (is_ping b.call)
    where
      by : (ping : Bool) → (if ping then asked else stepped).made ≡ a.made
      by true = refl
      by false = refl

  pub same_left : (performed m b d i a).left_over ≡ a.left_over
  same_left = by (is_ping b.call)
    where
      by : (ping : Bool) → (if ping then asked else stepped).left_over ≡ a.left_over
      by true = refl
      by false = refl

  pub kept_others : (other : Inst) → i ≢ other → SameKept a (performed m b d i a) other
  kept_others other apart = by (is_ping b.call)
    where
      by : (ping : Bool) → SameKept a (if ping then asked else stepped) other
      by true = record {
        first = apart_at i other (after b.n b.call d.answer (m.known.row i)) a.first apart;
        steps = refl;
        made = refl;
      }
      by false = record {
        first = refl;
        steps = apart_at i other (a.steps i ++ the_step ∷ []) a.steps apart;
        made = refl;
      }

-- ---- the task

module _ (outside : Outside) (m : Moment) (h : Holds m) (d : Did) (call : OpenCall) (is : m.calls d.n ≡ Some call)
    (later : Holds (performing m d)) (t : ℕ) (working : works m t ≡ true) (a : Account)
    (f : CleanFacts outside.built m t a) where
  abbrev n : Moment
  n = performing m d

  abbrev task : Task
  task = m.known.task t

  abbrev b : Begin
  b = call.begin

  pub clean_done : (it : Account) → it.made ≡ a.made → it.left_over ≡ a.left_over
      → ((i : Inst) → b.owner ≢ Instance i → SameKept a it i)
      → ((i : Inst) → is_budgeted task i ≡ true → b.owner ≡ Instance i → StepFacts outside.built n task it i)
      → CleanFacts outside.built n t it
  clean_done it made left others own = record {
    all_counted = counted_same t task task a it refl refl refl left made f.all_counted;
    left_over = λ name.
        (λ j. implies (is_leftover m.known t name) (is_among same_slot name (left j))) ∙ f.left_over name;
    steps = λ i budgeted. step i budgeted (noted.tells b.owner (Instance i));
    slots_few =
        slots_left m n t task a it later.known (λ key done. done) (λ k. refl)
        (λ k x that at compiles.
        (done_begins m d call is (Compile t k)).forth x that at
        (sym (same_owner_is (Compile t k) that.begin.owner
        (and_parts (is_owners (Compile t k) that) (compiles_package that.begin.call) compiles).0)))
        (λ k j. made j (Compile t k)) f.slots_few;
    slot_calls = λ k. slot_call k (eqb d.n k);
    sweep = λ name isin.
        let was : SweepFacts m t a name = f.sweep name ((λ j. is_among same_slot name (sym left j)) ∙ isin) in
        sweep_same m n t a it name later.known.numbers.past was.earlier (done_begins m d call is (owner_of name)) refl
        (λ j. made j (owner_of name)) was;
  }
    where
      step : (i : Inst) → is_budgeted task i ≡ true → noted.Tells b.owner (Instance i)
          → StepFacts outside.built n task it i
      step i budgeted (noted.is_owner same) = own i budgeted same
      step i budgeted (noted.is_other other) =
          steps_same outside.built m n task task a it i later.known.numbers.past
          (done_calls m d call is (Instance i) other) refl (record { want = refl; asks = refl }) (λ going. going)
          (others i other) (f.steps i budgeted)

      slot_call : (k : ℕ) (same : Bool)
          → where_any (is_slot_call t) (if same then performed_call d (m.calls d.n) else m.calls k) ≡ true
      slot_call k true =
          (λ j. where_any (is_slot_call t) (performed_call d (is j)))
          ∙ (sym (λ j. where_any (is_slot_call t) (is j)) ∙ f.slot_calls d.n)
      slot_call k false = f.slot_calls k

  -- ---- its instance

  module _ (performs : Performs outside m.effects call d) (well : is_failed d.answer ≡ false) (u : UnfailedFacts m t)
      (after_all : UnfailedFacts (performing m d) t) (i : Inst) (budgeted : is_budgeted task i ≡ true)
      (own : b.owner ≡ Instance i) where
    mine : b.task ≡ t
    mine =
        open_own m h.known t (Instance i)
        (own_instance m h.known t working i (budgeted_dep m h.known t working i budgeted)) d.n call is own

    none : call.did ≡ None
    none = by call.did refl performs.not_yet
      where
        by : (did : Option Did) → call.did ≡ did → is_some did ≡ false → call.did ≡ None
        by (Some it) told not_yet = absurd (false≢true (sym not_yet))
        by None told not_yet = told

    there : m.calls d.n ≡ Some (record { begin = b; did = None })
    there = is ∙ (λ j. Some (record call { did = none j }))

    now : n.calls d.n ≡ Some (record { begin = b; did = Some d })
    now =
        (λ j. if eq-eqb d.n d.n refl j then performed_call d (m.calls d.n) else m.calls d.n)
        ∙ (λ j. performed_call d (is j))

    one : OneCall n i (record { begin = b; did = Some d })
    one = record {
      busy = λ rests.
          none_open n (Instance i) later.known.numbers.past rests d.n (record { begin = b; did = Some d }) now own;
      is_it = λ k other at of_it. by k other of_it (eqb d.n k) refl at;
    }
      where
        by : (k : ℕ) (other : OpenCall) → other.begin.owner ≡ Instance i → (same : Bool) → eqb d.n k ≡ same
            → (if same then performed_call d (m.calls d.n) else m.calls k) ≡ Some other
            → other ≡ record { begin = b; did = Some d }
        by k other of_it true same at =
            let told : Some (record { begin = b; did = Some d }) ≡ Some other =
            sym (λ j. performed_call d (is j)) ∙ at in cc
        by k other of_it false apart at =
            let same : k ≡ d.n = (h.known.calls d.n call is).one_call k other at (of_it ∙ sym own) in
            absurd (false≢true (sym apart ∙ eq-eqb d.n k (sym same)))

    asked_as : is_ping b.call ≡ is_to_ping task i
    asked_as =
        truth_is (is_ping b.call) (is_asked (m.known.task b.task) b.owner)
        (and_parts (is_item m.known b.task b.owner) _ (h.known.calls d.n call is).of_item).1
        ∙ (λ j. is_asked (m.known.task (mine j)) (own j))

    kept : RowFacts n.effects (after b.n b.call d.answer (m.known.row i))
    kept =
        subst (λ (owner : Owner). IsOwnerKept n b (Some d) owner) own
        (later.performed d.n (record { begin = b; did = Some d }) now).owner_kept

    unspoiled : is_ping b.call ≡ false → is_unspoiled m.effects (m.known.row i) ≡ true
    unspoiled plain =
        by (or_cases (is_unspoiled m.effects (m.known.row i)) (is_to_ping task i)
        (and_parts (is_unspoiled m.effects (m.known.row i) || is_to_ping task i) _
        (implied (holds (bytes_eq i.dep) task.dep) _ (u.rows i)
        ((λ j. holds (bytes_eq i.dep) (budgeted_dep m h.known t working i budgeted j)) ∙ bytes_self i.dep))).0)
      where
        by : (is_unspoiled m.effects (m.known.row i) ≡ true) ⊎ (is_to_ping task i ≡ true)
            → is_unspoiled m.effects (m.known.row i) ≡ true
        by (inl was) = was
        by (inr asks) = absurd (false≢true (sym plain ∙ (asked_as ∙ asks)))

    rightly : implies (is_gone d.answer) (may_be_gone m.known (Instance i) b.call) ≡ true
    rightly =
        sym (λ j. implies (is_gone d.answer) (may_be_gone m.known (own j) b.call))
        ∙ (and_parts (implies (is_gone d.answer) (may_be_gone m.known b.owner b.call)) _
        (and_parts (not (is_failed d.answer)) _
        (implied (b.task == t) (is_answer_clean n b d.answer)
        (sym (λ j. where_any (is_call_clean n t) (now j)) ∙ after_all.calls d.n) (eq-eqb b.task t mine))).1).0

    was : InCall task a i (m.known.row i) call
    was = (f.steps i budgeted).in_call d.n call is (is_owner i call own)

    it_is : Account
    it_is = performed m b d i a

    by_kind : (ping : Bool) → is_ping b.call ≡ ping → StepFacts outside.built n task (performed m b d i a) i
    by_kind true ping =
        steps_pinged outside.built m n task a (performed m b d i a) i b d d.n one there own ping (sym asked_as ∙ ping)
        refl kept.sound_disks kept.has_room
        ((λ j. (if ping j then asked m b d i a else stepped m b d i a).first i)
        ∙ itself_at i (after b.n b.call d.answer (m.known.row i)) a.first)
        (λ j. (if ping j then asked m b d i a else stepped m b d i a).steps i)
        (λ j. same_made m b d i a j (Instance i)) (f.steps i budgeted)
    by_kind false plain =
        steps_done outside.built m n task a (performed m b d i a) i b d d.n one there own plain
        (sym asked_as ∙ plain) refl
        (is_answered outside m h d call is performs well i own (led_to a i) (want_in task.goal i)
        (subst (λ (did : Option Did). IsLedTo b did (led_to a i) (m.known.row i)) none was.leads)
        (was.next plain none)
        (λ wanted wants.
        ltb-true wanted.fresh_after b.n
        (sym (λ j. where_any (λ (want : GoalRow). nat_lt want.fresh_after b.n) (wants j)) ∙ was.young))
        plain (unspoiled plain) rightly)
        (λ j. (if plain j then asked m b d i a else stepped m b d i a).first i)
        ((λ j. (if plain j then asked m b d i a else stepped m b d i a).steps i)
        ∙ itself_at i (a.steps i ++ the_step m b d i a ∷ []) a.steps)
        (λ j. same_made m b d i a j (Instance i)) (f.steps i budgeted)

    pub own_done : StepFacts outside.built n task (performed m b d i a) i
    own_done = by_kind (is_ping b.call) refl
