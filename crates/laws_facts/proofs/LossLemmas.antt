-- Stops and losses: that they are known of is kept by each move, and with it all facts on lists.
use Rattle.std.proofs.Common.{◌≡◌, ℕ, ◌≤◌, Bool, true, false, ◌==◌, Option, Some, None, List, [], ◌∷◌, ◌++◌, refl, ap, sym, ◌∙◌, arith}
use Rattle.std.specs.Prelude.{nat_le, not, ◌&&◌, ◌||◌, fold}
use Rattle.std.specs.List.{list_any}
use Rattle.std.proofs.lemmas.Bool.{false≢true}
use Rattle.std.proofs.lemmas.List.Folds.{list_any-append}
use Rattle.bosh_base.specs.declared.entry.Entry.{Entry}
use Rattle.bosh_base.specs.declared.entry.Entry.TheVariants as entries
use Rattle.bosh_base.specs.declared.entry.Loss.{Loss}
use Rattle.bosh_base.specs.declared.answer.Answer.TheVariants.{Failed}
use Rattle.bosh_base.specs.declared.moves.Did.{Did}
use Rattle.bosh_base.specs.declared.moves.Move.{Move}
use Rattle.bosh_base.specs.declared.moves.Move.TheVariants as moves
use Rattle.bosh_base.specs.declared.row.DiskRow.{DiskRow}
use Rattle.laws_facts.proofs.FrameLemmas.{begun_tasks, numbers_done, numbers_end, numbers_updated}
use Rattle.laws_facts.proofs.BuiltLemmas as built
use Rattle.laws_facts.proofs.GoalLemmas as goals
use Rattle.laws_facts.proofs.InstanceLemmas as instances
use Rattle.laws_facts.proofs.MachineLemmas as machines
use Rattle.laws_facts.proofs.OrphanLemmas as orphans
use Rattle.laws_facts.proofs.WorkLemmas.{opens_next}
use Rattle.laws_facts.specs.KnownFacts.{KnownFacts}
use Rattle.laws_facts.specs.Lists.{ListFacts, is_loss_noted}
use Rattle.laws_row_facts.specs.Words.{implies}
use Rattle.bosh_history.specs.Learn.{learn}
use Rattle.bosh_history.specs.Moments.{Moment, OpenCall, call_effects, forgetting, heard_by, hears, keeping, later, performing, taking, with_written, write_to}
use Rattle.bosh_history.specs.Notes.{MayNote, Outside}
use Rattle.bosh_history.specs.Permitted.{IsPermitted, MayWrite}
use Rattle.bosh_rows.specs.Disks.{active}
use Rattle.bosh_rows.specs.Tied.{is_named_lost}

-- ---- the last stop was after no more tasks than there are

pub tasks_grow : (outside : Outside) (m : Moment) (e : Entry) → MayNote outside m e
    → m.known.tasks ≤ (learn m.known e).tasks
tasks_grow outside m (entries.Begin b) may = grind (arith, begun_tasks b b.owner m.known)
tasks_grow outside m (entries.End e) may = grind (arith, (numbers_end m e.n e.answer).tasks)
tasks_grow outside m (entries.TaskOpen o) may = grind (arith, opens_next m.known o may.0)
tasks_grow outside m (entries.UpdDone u) may = grind (arith, (numbers_updated m u.task u.inst).tasks)
tasks_grow outside m (entries.TaskDone t) may = grind (arith, (numbers_done m t).tasks)
tasks_grow outside m (entries.Snapshot s) may = absurd may
tasks_grow outside m entry may = grind (arith)

still_past : (stopped old new : ℕ) → nat_le stopped old ≡ true → old ≤ new → nat_le stopped new ≡ true
still_past stopped old new past grows = grind (arith, past, grows)

stopped_move : (outside : Outside) (m : Moment) (move : Move) → IsPermitted outside m move
    → nat_le m.stopped m.known.tasks ≡ true → nat_le (later m move).stopped (later m move).known.tasks ≡ true
stopped_move outside m (moves.Note e) may past =
    still_past m.stopped m.known.tasks (learn m.known e).tasks past (tasks_grow outside m e may.2)
stopped_move outside m (moves.Did d) may past = past
stopped_move outside m (moves.Wrote w) may past = past
stopped_move outside m (moves.Halt cause) may past = past
stopped_move outside m (moves.Stop s) may past = grind (arith)
stopped_move outside m (moves.Lost loss) may past = past
stopped_move outside m (moves.Said said) may past = past

-- ---- a loss is noted

abbrev pub is_loss_of : ℕ → Entry → Bool
is_loss_of v (entries.Lost loss) = loss.vm == v
is_loss_of v entry = false

abbrev pub Marks : Type 0
Marks = (t v : ℕ) → Bool

abbrev pub AreNoted : List Entry → Marks → Marks → Type 0
AreNoted effects heard early = (t v : ℕ) → implies (list_any (is_loss_of v) effects) (heard t v || early t v) ≡ true

lost_is : (effects : List Entry) (v : ℕ) → is_named_lost effects v ≡ list_any (is_loss_of v) effects
lost_is [] v = refl
lost_is (entries.Lost loss ∷ effects) v = ap (λ b. (loss.vm == v) || b) (lost_is effects v)
lost_is (entry ∷ effects) v = lost_is effects v

of_noted : (m : Moment) → AreNoted m.effects m.heard m.early → (t v : ℕ) → is_loss_noted m t v ≡ true
of_noted m noted t v = (λ i. implies (lost_is m.effects v i) (m.heard t v || m.early t v)) ∙ noted t v

to_noted : (m : Moment) → ((t v : ℕ) → is_loss_noted m t v ≡ true) → AreNoted m.effects m.heard m.early
to_noted m noted t v = (λ i. implies (sym (lost_is m.effects v) i) (m.heard t v || m.early t v)) ∙ noted t v

-- what a task heard it goes on to have heard
abbrev pub Grows : Marks → Marks → Type 0
Grows heard now = (t v : ℕ) → heard t v ≡ true → now t v ≡ true

grown : (lost h n e : Bool) → (h ≡ true → n ≡ true) → implies lost (h || e) ≡ true → implies lost (n || e) ≡ true
grown false h n e grows noted = refl
grown true true n e grows noted = ap (λ b. b || e) (grows refl)
grown true false true e grows noted = refl
grown true false false e grows noted = noted

or_false : (b : Bool) → (b || false) ≡ b
or_false true = refl
or_false false = refl

-- what is no loss
noted_more : (effects more : List Entry) (heard now early : Marks) → ((v : ℕ) → list_any (is_loss_of v) more ≡ false)
    → Grows heard now → AreNoted effects heard early → AreNoted (effects ++ more) now early
noted_more effects more heard now early none grows noted t v =
    let same : list_any (is_loss_of v) (effects ++ more) ≡ list_any (is_loss_of v) effects =
    list_any-append (is_loss_of v) effects more
    ∙ ap (λ b. list_any (is_loss_of v) effects || b) (none v)
    ∙ or_false (list_any (is_loss_of v) effects) in
    (λ i. implies (same i) (now t v || early t v))
    ∙ grown (list_any (is_loss_of v) effects) (heard t v) (now t v) (early t v) (grows t v) (noted t v)

-- a loss, which comes early to those that have not heard of the machine
lost_now : (lost is h e : Bool) → implies lost (h || e) ≡ true
    → implies (lost || (is || false)) (h || (e || (is && not h))) ≡ true
lost_now true is true e noted = refl
lost_now true is false true noted = refl
lost_now true is false false noted = absurd (false≢true noted)
lost_now false true true e noted = refl
lost_now false true false true noted = refl
lost_now false true false false noted = refl
lost_now false false h e noted = refl

noted_lost : (effects : List Entry) (heard early : Marks) (loss : Loss) → AreNoted effects heard early
    → AreNoted (effects ++ entries.Lost loss ∷ []) heard (λ t v. early t v || (loss.vm == v && not (heard t v)))
noted_lost effects heard early loss noted t v =
    (λ i.
    implies (list_any-append (is_loss_of v) effects (entries.Lost loss ∷ []) i)
    (heard t v || (early t v || (loss.vm == v && not (heard t v)))))
    ∙ lost_now (list_any (is_loss_of v) effects) (loss.vm == v) (heard t v) (early t v) (noted t v)

same_marks : (heard : Marks) → Grows heard heard
same_marks heard t v is = is

heard_more : (d : Did) (call : Option OpenCall) (heard : Marks) → Grows heard (heard_by d call heard)
heard_more d (Some call) heard t v is = by (hears d call t v)
  where
    by : (b : Bool) → (b || heard t v) ≡ true
    by true = refl
    by false = is
heard_more d None heard t v is = is

no_loss : (m : Moment) (has : Bool) (call : Option OpenCall) (v : ℕ)
    → list_any (is_loss_of v) (call_effects m has call) ≡ false
no_loss m true (Some call) v = refl
no_loss m false (Some call) v = refl
no_loss m true None v = refl
no_loss m false None v = refl

no_write : (text : List ℕ) (d : Option DiskRow) (v : ℕ) → list_any (is_loss_of v) (write_to text d) ≡ false
no_write text (Some d) v = refl
no_write text None v = refl

noted_did : (m : Moment) (d : Did) → AreNoted m.effects m.heard m.early
    → AreNoted (performing m d).effects (performing m d).heard (performing m d).early
noted_did m d noted =
    noted_more m.effects (call_effects m d.effect (m.calls d.n)) m.heard (heard_by d (m.calls d.n) m.heard) m.early
    (no_loss m d.effect (m.calls d.n)) (heard_more d (m.calls d.n) m.heard) noted

noted_taken : (m : Moment) (took : List ℕ) → AreNoted m.effects m.heard m.early
    → AreNoted (fold taking m took).effects (fold taking m took).heard (fold taking m took).early
noted_taken m [] noted = noted
noted_taken m (n ∷ took) noted =
    noted_taken (taking m n) took (noted_did m (record { n = n; effect = true; answer = Failed }) noted)

noted_written : (m : Moment) (wrote : Option Entry) → MayWrite m wrote → AreNoted m.effects m.heard m.early
    → AreNoted (with_written m wrote).effects (with_written m wrote).heard (with_written m wrote).early
noted_written m (Some (entries.Write w)) may noted = noted_more m.effects (entries.Write w ∷ []) m.heard m.heard m.early
    (λ v. refl) (same_marks m.heard) noted
noted_written m (Some (entries.Lost loss)) may noted = noted_lost m.effects m.heard m.early loss noted
noted_written m (Some entry) may noted = absurd may
noted_written m None may noted = noted

noted_kept : (m : Moment) (kept : Option Entry) → AreNoted m.effects m.heard m.early
    → AreNoted (forgetting (keeping m kept)).effects (forgetting (keeping m kept)).heard
    (forgetting (keeping m kept)).early
noted_kept m (Some e) noted = noted
noted_kept m None noted = noted

noted_move : (outside : Outside) (m : Moment) (move : Move) → IsPermitted outside m move
    → AreNoted m.effects m.heard m.early → AreNoted (later m move).effects (later m move).heard (later m move).early
noted_move outside m (moves.Note e) may noted = noted
noted_move outside m (moves.Did d) may noted = noted_did m d noted
noted_move outside m (moves.Wrote w) may noted =
    noted_more m.effects (write_to w.text (active (m.known.row w.inst).disks)) m.heard m.heard m.early
    (no_write w.text (active (m.known.row w.inst).disks)) (same_marks m.heard) noted
noted_move outside m (moves.Halt cause) may noted = noted
noted_move outside m (moves.Stop s) may noted =
    noted_kept (fold taking (with_written m s.wrote) s.took) s.kept
    (noted_taken (with_written m s.wrote) s.took (noted_written m s.wrote may.wrote noted))
noted_move outside m (moves.Lost loss) may noted = noted_lost m.effects m.heard m.early loss noted
noted_move outside m (moves.Said said) may noted = noted

-- ---- all facts on lists

pub lists_kept : (outside : Outside) (m : Moment) (move : Move) → IsPermitted outside m move
    → KnownFacts m → ListFacts (later m move)
lists_kept outside m move may h = record {
  instances_in_order = instances.order_kept outside m move may h;
  own_row = instances.own_kept outside m move may h;
  bare = instances.bare_kept outside m move may h;
  machines_in_order = machines.order_kept outside m move may h;
  machine_listed = machines.listed_kept outside m move may h;
  orphans_in_order = orphans.order_kept outside m move may h;
  orphan_listed = orphans.listed_kept outside m move may h;
  deployments_apart = goals.apart_kept outside m move may h;
  deployment_listed = goals.listed_kept outside m move may h;
  key_listed = built.listed_kept outside m move may h;
  stopped_past = stopped_move outside m move may h.lists.stopped_past;
  loss_noted = of_noted (later m move) (noted_move outside m move may (to_noted m h.lists.loss_noted));
}
