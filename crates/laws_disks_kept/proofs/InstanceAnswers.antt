-- What the cloud answers to an open call of an instance leaves how often its row has each disk that is there then.
use Rattle.std.proofs.Common.{◌≡◌, ◌∙◌, ℕ, Bool, true, false, Option, Some, None, List, ap, refl, sym, subst, inl}
use Rattle.std.proofs.Common.{inr}
use Rattle.std.specs.Prelude.{◌⊎◌, ◌==◌, ◌&&◌, if◌then◌else◌, is_some}
use Rattle.std.specs.Option.{option_eq, option_map}
use Rattle.std.proofs.lemmas.Bool.{and_parts, false≢true}
use Rattle.bosh_base.specs.CallStep.{CallStep}
use Rattle.bosh_base.specs.Cloud.{disk_creation, is_disk_there}
use Rattle.bosh_base.specs.declared.answer.Answer.{Answer}
use Rattle.bosh_base.specs.declared.answer.Answer.TheVariants as answers
use Rattle.bosh_base.specs.declared.call.Call.{Call}
use Rattle.bosh_base.specs.declared.call.Call.TheVariants as calls
use Rattle.bosh_base.specs.declared.disk_want.DiskWant.{DiskWant}
use Rattle.bosh_base.specs.declared.entry.Effect.{Effect}
use Rattle.bosh_base.specs.declared.entry.Entry.{Entry}
use Rattle.bosh_base.specs.declared.goal.GoalRow.{GoalRow}
use Rattle.bosh_base.specs.declared.inst.Inst.{Inst}
use Rattle.bosh_base.specs.declared.moves.Did.{Did}
use Rattle.bosh_base.specs.declared.owner.Owner.TheVariants.{Instance}
use Rattle.bosh_base.specs.declared.row.Row.{Row}
use Rattle.bosh_base.specs.declared.row.Vm.{Vm}
use Rattle.bosh_history.specs.Items.{is_to_ping}
use Rattle.bosh_history.specs.Known.{Task}
use Rattle.bosh_history.specs.Moments.{Moment, OpenCall, performing}
use Rattle.bosh_history.specs.Notes.{Outside}
use Rattle.bosh_history.specs.Steps.{want_of}
use Rattle.bosh_history.specs.Ties.{creates_disk, is_making}
use Rattle.bosh_rows.specs.After.{after, leaves_doubt}
use Rattle.bosh_rows.specs.CallOf.{next_call}
use Rattle.bosh_rows.specs.Tied.{without_doubt}
use Rattle.laws_cloud.proofs.CallLemmas.{doubt_is}
use Rattle.laws_cloud.proofs.DoneLemmas.{done_now, made_by}
use Rattle.laws_compile_machines_kept.proofs.NamedLemmas.{to_make}
use Rattle.laws_compile_machines_kept.proofs.OwnLemmas.{not_taken}
use Rattle.laws_disks_kept.proofs.AnswerLemmas.{Calm, creating, finding, KeepsCount, plain_keeps}
use Rattle.laws_disks_kept.proofs.CountLemmas.{Counted, counted}
use Rattle.laws_disks_kept.proofs.RowTimes.{makes_disk, makes_none}
use Rattle.laws_facts.specs.Facts.{Holds}
use Rattle.laws_facts.specs.OpenCalls.{call_of_row, fits_known, fits_row}
use Rattle.laws_facts.specs.Owners.{is_doubt}
use Rattle.laws_kept_facts.proofs.CallCases.{by_all, Doubts}
use Rattle.laws_row_facts.specs.Calls.{row_before}
use Rattle.laws_row_facts.specs.Words.{implies, same_call}
use Rattle.laws_rows.proofs.StepCases.{Cases, is_tending, telling_cases}
use Rattle.laws_rows.specs.Rightful.{done_with}

-- ---- a call that asks for a disk

-- it asks for what the call in doubt made
abbrev LooksFor : Row → Call → Type 0
LooksFor row (calls.FindDisk m) = (w : DiskWant) × (v : ℕ) × Doubts row m (calls.CreateDisk w v)
LooksFor row call = Unit {0}

known_looks : (want : Option GoalRow) (row : Row) → Cases (LooksFor row) want row
known_looks want row =
    telling_cases (LooksFor row) want row tends (λ it has off. tt) (λ w wants none. tt) (λ v old new. tt)
  where
    tends : (call : Call) → is_tending call ≡ true → LooksFor row call
    tends (calls.FindDisk m) is = absurd (false≢true is)
    tends call is = tt

looks_for : (want : Option GoalRow) (row : Row) (call : Call) → next_call want row ≡ Some call → LooksFor row call
looks_for want row call next =
    by_all (LooksFor row) want row
    (record {
      known = λ found known. known_looks want row;
      deletes = λ it lost has. tt;
      there = λ it m v has doubts. tt;
      finds_vm = λ m make hint found doubts. tt;
      finds_disk = λ m wanted v doubts. (wanted, v, doubts);
      lists = λ it m v x found has doubts. tt;
      shows = λ it m v x found has doubts. tt;
      tells = λ it m c found has doubts state. tt;
    }) call next

-- ---- a call that is a ping, or the next one of the row before it

abbrev pub Asks : Task → Inst → Row → Call → Type 0
Asks t i row call = ((v : ℕ) × (calls.Ping v ≡ call)) ⊎ (next_call (want_of t i) row ≡ Some call)

pub asks : (t : Task) (i : Inst) (row : Row) (call : Call) → call_of_row t i row ≡ Some call → Asks t i row call
asks t i row call is = by (is_to_ping t i) row.vm is
  where
    by : (ping : Bool) (vm : Option Vm)
        → (if ping then option_map (λ (it : Vm). calls.Ping it.vm) vm else next_call (want_of t i) row) ≡ Some call
        → Asks t i row call
    by true (Some it) is = let same : calls.Ping it.vm ≡ call = cc in inl (it.vm, same)
    by true None is = absurd cc
    by false vm is = inr is

ping_rests : (n v : ℕ) (answer : Answer) (row : Row) → (after n (calls.Ping v) answer row).doubt ≡ row.doubt
ping_rests n v answers.Failed row = refl
ping_rests n v answers.Gone row = refl
ping_rests n v answer row = refl

makes_one : (a b : Bool) → b ≡ false → (a && b) ≡ false
makes_one true b is = is
makes_one false b is = refl

none_created : (call : Call) → makes_disk call ≡ false → creates_disk call ≡ false
none_created (calls.CreateDisk w v) none = absurd (false≢true (sym none))
none_created call none = refl

-- ---- an open call of an instance

module _ (outside : Outside) (m : Moment) (h : Holds m) (did : Did) (call : OpenCall) (is : m.calls did.n ≡ Some call)
    (none : call.did ≡ None) (step : CallStep outside.built m.effects call.begin.call did.effect did.answer) (i : Inst)
    (own : call.begin.owner ≡ Instance i) where
  abbrev row : Row
  row = m.known.row i

  abbrev task : Task
  task = m.known.task call.begin.task

  fits : fits_row task call.begin i row ≡ true
  fits = subst (λ owner. fits_known m.known call.begin owner ≡ true) own (h.known.calls did.n call is).fits

  doubted : leaves_doubt call.begin.call ≡ true
      → row.doubt ≡ Some (record { n = call.begin.n; call = call.begin.call })
  doubted leaves =
      doubt_is call.begin.n call.begin.call row.doubt
      (sym (λ j. implies (leaves j) (is_doubt call.begin.n call.begin.call row.doubt))
      ∙ (and_parts (implies (leaves_doubt call.begin.call) (is_doubt call.begin.n call.begin.call row.doubt)) _
      (and_parts (option_eq same_call (call_of_row task i (row_before call.begin.call row)) (Some call.begin.call)) _
      fits).1).0)

  asked : leaves_doubt call.begin.call ≡ false → Asks task i row call.begin.call
  asked leaves =
      asks task i row call.begin.call
      ((λ j. call_of_row task i (if sym leaves j then without_doubt row else row))
      ∙ to_make task call.begin i row fits)

  known : (d : ℕ) → is_disk_there m.effects d ≡ true → (e : Effect) × (disk_creation m.effects d ≡ Some e)
  known d there =
      let it : Counted m.effects m.known.row (is_some (m.known.orphan d)) d =
      counted m.effects m.known.row (is_some (m.known.orphan d)) d (h.disks d).once there in
      (it.effect, it.made)

  calm : makes_disk call.begin.call ≡ false → Calm call.begin.n call.begin.call did.answer row
  calm plain = by (leaves_doubt call.begin.call) refl
    where
      of : Asks task i row call.begin.call → Calm call.begin.n call.begin.call did.answer row
      of (inl (v, ping)) =
          inl ((λ j. (after call.begin.n (sym ping j) did.answer row).doubt)
          ∙ ping_rests call.begin.n v did.answer row)
      of (inr next) =
          inr (λ tag. makes_none (want_of task i) row tag
          (λ n found. let same : Some call.begin.call ≡ Some (calls.FindDisk n) = sym next ∙ found in
          let one : call.begin.call ≡ calls.FindDisk n = cc in
          false≢true (sym plain ∙ (λ j. makes_disk (one j)))))

      by : (leaves : Bool) → leaves_doubt call.begin.call ≡ leaves
          → Calm call.begin.n call.begin.call did.answer row
      by true leaves =
          inr (λ tag. (λ j. is_making tag (doubted leaves j))
          ∙ makes_one (call.begin.n == tag) (creates_disk call.begin.call) (none_created call.begin.call plain))
      by false leaves = of (asked leaves)

  pub instance_keeps : KeepsCount (performing m did).effects i call.begin.n call.begin.call did.answer row
  instance_keeps =
      subst (λ xs. KeepsCount xs i call.begin.n call.begin.call did.answer row) (sym (done_now m did call is))
      (by call.begin.call refl)
    where
      ys : List Entry
      ys = done_with did.effect m.effects (made_by m.known call.begin)

      by : (c : Call) → call.begin.call ≡ c → KeepsCount ys i call.begin.n call.begin.call did.answer row
      by (calls.CreateDisk w v) call_is =
          subst (λ c. KeepsCount ys i call.begin.n c did.answer row) (sym call_is)
          (creating outside.built m.effects i call.begin.n (made_by m.known call.begin) refl
          (not_taken m h did.n call is none) known row w v call_is
          (doubted (λ j. leaves_doubt (call_is j))
          ∙ (λ j. Some (record { n = call.begin.n; call = call_is j })))
          did.effect did.answer
          (subst (λ c. CallStep outside.built m.effects c did.effect did.answer) call_is step))
      by (calls.FindDisk tag) call_is = of (asked (λ j. leaves_doubt (call_is j)))
        where
          of : Asks task i row call.begin.call → KeepsCount ys i call.begin.n call.begin.call did.answer row
          of (inl (v, ping)) =
              let same : calls.Ping v ≡ calls.FindDisk tag = ping ∙ call_is in absurd cc
          of (inr next) =
              let (w, v, doubts) = looks_for (want_of task i) row (calls.FindDisk tag) (next ∙ ap Some call_is) in
              subst (λ c. KeepsCount ys i call.begin.n c did.answer row) (sym call_is)
              (subst (λ xs. KeepsCount xs i call.begin.n (calls.FindDisk tag) did.answer row) (sym quiet)
              (finding m.effects h.cloud.orderly i call.begin.n tag v w row doubts outside.built did.effect did.answer
              (subst (λ c. CallStep outside.built m.effects c did.effect did.answer) call_is step)))
            where
              quiet : ys ≡ m.effects
              quiet = no_effect did.effect
                  (subst (λ c. CallStep outside.built m.effects c did.effect did.answer) call_is step)
                where
                  no_effect : (has : Bool) → CallStep outside.built m.effects (calls.FindDisk tag) has did.answer
                      → done_with has m.effects (made_by m.known call.begin) ≡ m.effects
                  no_effect false step = refl
                  no_effect true (inl (says, takes)) = absurd (false≢true (sym takes))
                  no_effect true (inr (failed, may)) = absurd (false≢true (may refl))
      by c call_is =
          let makes : makes_disk call.begin.call ≡ false = λ j. makes_disk (call_is j) in
          plain_keeps ys i call.begin.n call.begin.call did.answer row makes (calm makes)
