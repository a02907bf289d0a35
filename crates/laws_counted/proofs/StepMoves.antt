-- The calls of an instance in a clean task: when one begins, is performed, and is answered.
use Rattle.std.proofs.Common.{◌≡◌, ◌∙◌, ℕ, ◌+◌, ◌≤◌, Bool, true, false, Option, Some, None, List, [], ◌∷◌, ◌++◌}
use Rattle.std.proofs.Common.{arith, length-append, subst, sym}
use Rattle.std.specs.Prelude.{◌||◌, fold, length, nat_le, nat_lt, not}
use Rattle.std.proofs.lemmas.Bool.{false≢true, le-leb, leb-true}
use Rattle.std.proofs.lemmas.List.Sums.{fold-append}
use Rattle.bosh_base.specs.declared.digest.Digest.{Digest}
use Rattle.bosh_base.specs.declared.entry.Begin.{Begin}
use Rattle.bosh_base.specs.declared.goal.GoalRow.{GoalRow}
use Rattle.bosh_base.specs.declared.inst.Inst.{Inst}
use Rattle.bosh_base.specs.declared.key.KeyWork.{KeyWork}
use Rattle.bosh_base.specs.declared.moves.Did.{Did}
use Rattle.bosh_base.specs.declared.owner.Owner.TheVariants.{Instance}
use Rattle.bosh_base.specs.declared.row.Row.{Row}
use Rattle.bosh_history.specs.Items.{is_to_ping}
use Rattle.bosh_history.specs.Known.{Task, want_in}
use Rattle.bosh_history.specs.Moments.{Moment, OpenCall}
use Rattle.bosh_history.specs.Steps.{is_idle}
use Rattle.bosh_rows.specs.After.{after, begun_row}
use Rattle.bosh_rows.specs.CallOf.{next_call}
use Rattle.bosh_rows.specs.Tied.{one_if}
use Rattle.laws_counted.proofs.AnsweredLemmas.{one_answered}
use Rattle.laws_counted.proofs.StepFrames.{SameFor, is_owner, owner_is}
use Rattle.laws_counts.specs.Courses.{Account}
use Rattle.laws_counts.specs.RowSteps.{InCall, StepFacts, is_extra}
use Rattle.laws_counts.specs.RowSteps.{led_to, may_go_on}
use Rattle.laws_row_facts.specs.Calls.{is_ping}
use Rattle.laws_row_facts.specs.Words.{where_any}
use Rattle.laws_rows.specs.Answered.{Answered, AreAnswered, IsAnswered, has_room_for_disks, row_after}
use Rattle.laws_rows.specs.SoundDisks.{are_sound}

-- ---- a call begins

-- the moment has this call of the instance open, and no other
pub record OneCall (n : Moment) (i : Inst) (call : OpenCall) : Type 0 where
  pub busy : is_idle n (Instance i) ≡ true → ⊥
  pub is_it : (k : ℕ) (other : OpenCall) → n.calls k ≡ Some other → other.begin.owner ≡ Instance i → other ≡ call

pub steps_begun : (built : KeyWork → List Digest → Digest) (m n : Moment) (s t : Task) (a b : Account) (i : Inst)
    (begin : Begin) → OneCall n i (record { begin = begin; did = None }) → is_idle m (Instance i) ≡ true
    → may_go_on s i ≡ true → SameFor s t i → b.first i ≡ a.first i → b.steps i ≡ a.steps i
    → b.made (Instance i) ≡ a.made (Instance i) + 1
    → n.known.row i ≡ begun_row begin.n begin.call (m.known.row i)
    → (is_ping begin.call ≡ false → next_call (want_in s.goal i) (m.known.row i) ≡ Some begin.call)
    → where_any (λ (want : GoalRow). nat_lt want.fresh_after begin.n) (want_in s.goal i) ≡ true
    → StepFacts built m s a i → StepFacts built n t b i
steps_begun built m n s t a b i begin one idle going same first steps made row next young f = record {
  sound = (λ j. are_sound (first j).disks) ∙ f.sound;
  room = (λ j. has_room_for_disks (first j)) ∙ f.room;
  answered =
      subst (λ (want : Option GoalRow). AreAnswered built want (b.first i) (b.steps i)) (sym same.want)
      (subst (λ (row : Row). AreAnswered built (want_in s.goal i) row (b.steps i)) (sym first)
      (subst (λ (steps : List Answered). AreAnswered built (want_in s.goal i) (a.first i) steps) (sym steps)
      f.answered));
  unasked = λ asks. steps ∙ f.unasked (sym same.asks ∙ asks);
  few = λ rests. absurd (one.busy rests);
  leads = λ rests going. absurd (one.busy rests);
  in_call = λ k call is own.
      subst (InCall t b i (n.known.row i)) (sym (one.is_it k call is (owner_is i call own))) now;
}
  where
    led : led_to b i ≡ m.known.row i
    led = (λ j. fold (λ row step. row_after step row) (first j) (steps j)) ∙ f.leads idle going

    now : InCall t b i (n.known.row i) (record { begin = begin; did = None })
    now = record {
      leads = (λ j. begun_row begin.n begin.call (led j)) ∙ sym row;
      next = λ plain none. (λ j. next_call (same.want j) (led j)) ∙ next plain;
      young = (λ j. where_any (λ (want : GoalRow). nat_lt want.fresh_after begin.n) (same.want j)) ∙ young;
      few =
          (λ j. nat_le (made j) (length (steps j) + one_if (not (same.asks j))
          + one_if (is_extra (record { begin = begin; did = None }))))
          ∙ more (is_ping begin.call);
    }
      where
        low : a.made (Instance i) ≤ length (a.steps i) + one_if (not (is_to_ping s i))
        low = leb-true (a.made (Instance i)) (length (a.steps i) + one_if (not (is_to_ping s i))) (f.few idle)

        more : (ping : Bool)
            → nat_le (a.made (Instance i) + 1) (length (a.steps i) + one_if (not (is_to_ping s i))
            + one_if (ping || true)) ≡ true
        more true =
            le-leb (a.made (Instance i) + 1) (length (a.steps i) + one_if (not (is_to_ping s i)) + 1)
            (omega (arith, low))
        more false =
            le-leb (a.made (Instance i) + 1) (length (a.steps i) + one_if (not (is_to_ping s i)) + 1)
            (omega (arith, low))

-- ---- the cloud performs a call

-- a ping, before which there is no step
pub steps_pinged : (built : KeyWork → List Digest → Digest) (m n : Moment) (t : Task) (a b : Account) (i : Inst)
    (begin : Begin) (d : Did) (k : ℕ) → OneCall n i (record { begin = begin; did = Some d })
    → m.calls k ≡ Some (record { begin = begin; did = None }) → begin.owner ≡ Instance i → is_ping begin.call ≡ true
    → is_to_ping t i ≡ true → n.known.row i ≡ m.known.row i
    → are_sound (after begin.n begin.call d.answer (m.known.row i)).disks ≡ true
    → has_room_for_disks (after begin.n begin.call d.answer (m.known.row i)) ≡ true
    → b.first i ≡ after begin.n begin.call d.answer (m.known.row i) → b.steps i ≡ a.steps i
    → b.made (Instance i) ≡ a.made (Instance i) → StepFacts built m t a i → StepFacts built n t b i
steps_pinged built m n t a b i begin d k one is own ping asks row sound room first steps made f = record {
  sound = (λ j. are_sound (first j).disks) ∙ sound;
  room = (λ j. has_room_for_disks (first j)) ∙ room;
  answered = subst (λ (steps : List Answered). AreAnswered built (want_in t.goal i) (b.first i) steps) (sym none) tt;
  unasked = λ asks. none;
  few = λ rests. absurd (one.busy rests);
  leads = λ rests going. absurd (one.busy rests);
  in_call = λ x call at mine.
      subst (InCall t b i (n.known.row i)) (sym (one.is_it x call at (owner_is i call mine))) now;
}
  where
    none : b.steps i ≡ []
    none = steps ∙ f.unasked asks

    was : InCall t a i (m.known.row i) (record { begin = begin; did = None })
    was = f.in_call k (record { begin = begin; did = None }) is (is_owner i (record { begin = begin; did = None }) own)

    now : InCall t b i (n.known.row i) (record { begin = begin; did = Some d })
    now = record {
      leads =
          (λ j. fold (λ row step. row_after step row) (first j) (none j))
          ∙ (λ j. after begin.n begin.call d.answer (sym row j));
      next = λ plain performed. absurd (false≢true (sym plain ∙ ping));
      young = was.young;
      few =
          (λ j. nat_le (made j) (length (steps j) + one_if (not (is_to_ping t i)) + one_if (ping_extra j))) ∙ was.few;
    }
      where
        ping_extra : is_extra (record { begin = begin; did = Some d }) ≡ is_extra (record { begin = begin; did = None })
        ping_extra = (λ j. ping j || false) ∙ (λ j. sym ping j || true)

-- a step
pub steps_done : (built : KeyWork → List Digest → Digest) (m n : Moment) (t : Task) (a b : Account) (i : Inst)
    (begin : Begin) (d : Did) (k : ℕ) → OneCall n i (record { begin = begin; did = Some d })
    → m.calls k ≡ Some (record { begin = begin; did = None }) → begin.owner ≡ Instance i → is_ping begin.call ≡ false
    → is_to_ping t i ≡ false → n.known.row i ≡ m.known.row i
    → IsAnswered built (want_in t.goal i) (led_to a i)
    (record { effects = m.effects; n = begin.n; call = begin.call; answer = d.answer })
    → b.first i ≡ a.first i
    → b.steps i
    ≡ a.steps i ++ record { effects = m.effects; n = begin.n; call = begin.call; answer = d.answer } ∷ []
    → b.made (Instance i) ≡ a.made (Instance i) → StepFacts built m t a i → StepFacts built n t b i
steps_done built m n t a b i begin d k one is own plain asked row answered first steps made f = record {
  sound = (λ j. are_sound (first j).disks) ∙ f.sound;
  room = (λ j. has_room_for_disks (first j)) ∙ f.room;
  answered =
      subst (λ (row : Row). AreAnswered built (want_in t.goal i) row (b.steps i)) (sym first)
      (subst (λ (steps : List Answered). AreAnswered built (want_in t.goal i) (a.first i) steps) (sym steps)
      (one_answered built (want_in t.goal i) (a.first i) (a.steps i) it f.answered answered));
  unasked = λ asks. absurd (false≢true (sym asked ∙ asks));
  few = λ rests. absurd (one.busy rests);
  leads = λ rests going. absurd (one.busy rests);
  in_call = λ x call at mine.
      subst (InCall t b i (n.known.row i)) (sym (one.is_it x call at (owner_is i call mine))) now;
}
  where
    it : Answered
    it = record { effects = m.effects; n = begin.n; call = begin.call; answer = d.answer }

    was : InCall t a i (m.known.row i) (record { begin = begin; did = None })
    was = f.in_call k (record { begin = begin; did = None }) is (is_owner i (record { begin = begin; did = None }) own)

    led : led_to b i ≡ row_after it (led_to a i)
    led =
        (λ j. fold (λ row step. row_after step row) (first j) (steps j))
        ∙ fold-append (λ row step. row_after step row) (a.first i) (a.steps i) (it ∷ [])

    now : InCall t b i (n.known.row i) (record { begin = begin; did = Some d })
    now = record {
      leads = led ∙ (λ j. after begin.n begin.call d.answer ((was.leads ∙ sym row) j));
      next = λ plain performed. absurd (let none : Some d ≡ None = performed in cc);
      young = was.young;
      few =
          (λ j. nat_le (made j) (length (steps j) + one_if (not (is_to_ping t i)) + one_if (plain j || false)))
          ∙ less;
    }
      where
        low : a.made (Instance i) ≤ length (a.steps i) + one_if (not (is_to_ping t i)) + 1
        low =
            leb-true (a.made (Instance i)) (length (a.steps i) + one_if (not (is_to_ping t i)) + 1)
            (sym (λ j. nat_le (a.made (Instance i)) (length (a.steps i) + one_if (not (is_to_ping t i))
            + one_if (plain j || true))) ∙ was.few)

        less : nat_le (a.made (Instance i)) (length (a.steps i ++ it ∷ []) + one_if (not (is_to_ping t i)) + 0) ≡ true
        less =
            le-leb (a.made (Instance i)) (length (a.steps i ++ it ∷ []) + one_if (not (is_to_ping t i)) + 0)
            (omega (arith, low, length-append (a.steps i) (it ∷ [])))

-- ---- a call is answered

pub steps_ended : (built : KeyWork → List Digest → Digest) (m n : Moment) (s t : Task) (a b : Account) (i : Inst)
    (begin : Begin) (d : Did) (k : ℕ)
    → ((x : ℕ) (call : OpenCall) → n.calls x ≡ Some call → call.begin.owner ≡ Instance i → ⊥)
    → m.calls k ≡ Some (record { begin = begin; did = Some d }) → begin.owner ≡ Instance i
    → is_ping begin.call ≡ is_to_ping s i → is_to_ping t i ≡ false → want_in t.goal i ≡ want_in s.goal i
    → n.known.row i ≡ after begin.n begin.call d.answer (m.known.row i) → b.first i ≡ a.first i
    → b.steps i ≡ a.steps i → b.made (Instance i) ≡ a.made (Instance i) → StepFacts built m s a i
    → StepFacts built n t b i
steps_ended built m n s t a b i begin d k none is own asked asks want row first steps made f = record {
  sound = (λ j. are_sound (first j).disks) ∙ f.sound;
  room = (λ j. has_room_for_disks (first j)) ∙ f.room;
  answered =
      subst (λ (want : Option GoalRow). AreAnswered built want (b.first i) (b.steps i)) (sym want)
      (subst (λ (row : Row). AreAnswered built (want_in s.goal i) row (b.steps i)) (sym first)
      (subst (λ (steps : List Answered). AreAnswered built (want_in s.goal i) (a.first i) steps) (sym steps)
      f.answered));
  unasked = λ again. absurd (false≢true (sym asks ∙ again));
  few = λ idle.
      (λ j. nat_le (made j) (length (steps j) + one_if (not (asks j))))
      ∙ le-leb (a.made (Instance i)) (length (a.steps i) + 1) (few_now (is_ping begin.call) low);
  leads = λ idle going.
      (λ j. fold (λ row step. row_after step row) (first j) (steps j)) ∙ (was.leads ∙ sym row);
  in_call = λ x call at mine. absurd (none x call at (owner_is i call mine));
}
  where
    was : InCall s a i (m.known.row i) (record { begin = begin; did = Some d })
    was =
        f.in_call k (record { begin = begin; did = Some d }) is (is_owner i (record {
          begin = begin;
          did = Some
              d;
        }) own)

    low : a.made (Instance i) ≤ length (a.steps i) + one_if (not (is_ping begin.call)) + one_if (is_ping
        begin.call || false)
    low =
        subst (λ (asks : Bool). a.made (Instance i) ≤ length (a.steps i) + one_if (not asks)
        + one_if (is_ping begin.call || false)) (sym asked)
        (leb-true (a.made (Instance i)) (length (a.steps i) + one_if (not (is_to_ping s i))
        + one_if (is_ping begin.call || false)) was.few)

    few_now : (ping : Bool)
        → a.made (Instance i) ≤ length (a.steps i) + one_if (not ping) + one_if (ping || false)
        → a.made (Instance i) ≤ length (a.steps i) + 1
    few_now true low = omega (arith, low)
    few_now false low = omega (arith, low)
