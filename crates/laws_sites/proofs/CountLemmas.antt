-- Numbers of calls and of tasks after one more entry.
use Rattle.std.proofs.Common.{◌≡◌, ◌∙◌, ◌<◌, ◌≤◌, ℕ, ◌+◌, true, arith, refl, subst, sym}
use Rattle.std.specs.Prelude.{◌&&◌, nat_le}
use Rattle.std.proofs.lemmas.Bool.{and_from, and_parts, le-leb, leb-true}
use Rattle.bosh_base.specs.declared.entry.Entry.{Entry}
use Rattle.bosh_base.specs.declared.entry.Entry.TheVariants as entries
use Rattle.bosh_history.specs.Fit.{IsFit, empty, has_numbers, left}
use Rattle.bosh_history.specs.Known.{Known}
use Rattle.bosh_history.specs.Learn.{known_of, learn}
use Rattle.bosh_history.specs.Moments.{Moment, Opening}
use Rattle.bosh_history.specs.Notes.{MayNote, Outside}
use Rattle.laws_facts.proofs.FrameLemmas.{SameNumbers, begun_tasks, numbers_done, numbers_end, numbers_updated}
use Rattle.laws_facts.proofs.WorkLemmas.{opens_next}

-- ---- numbers

-- there are numbers for one more call and for one more task
pub record HasRoom (m : Moment) : Type 0 where
  pub calls : m.known.last_call < 4611686018427387904
  pub tasks : m.known.tasks < 4611686018427387904

-- there is one for what begins or opens by the entry
abbrev pub HasRoomFor : Moment → Entry → Type 0
HasRoomFor m (entries.Begin b) = m.known.last_call < 4611686018427387904
HasRoomFor m (entries.TaskOpen o) = m.known.tasks < 4611686018427387904
HasRoomFor m e = Unit {0}

pub room_for : (m : Moment) (e : Entry) → HasRoom m → HasRoomFor m e
room_for m (entries.Begin b) room = room.calls
room_for m (entries.TaskOpen o) room = room.tasks
room_for m e room = tt

few_calls : (k : Known) → has_numbers k ≡ true → k.last_call ≤ 4611686018427387904
few_calls k is = leb-true k.last_call 4611686018427387904 (and_parts (nat_le k.last_call 4611686018427387904) _ is).0

few_tasks : (k : Known) → has_numbers k ≡ true → k.tasks ≤ 4611686018427387904
few_tasks k is = leb-true k.tasks 4611686018427387904 (and_parts (nat_le k.last_call 4611686018427387904) _ is).1

-- .. so that there is one for a call
pub calls_numbered : (k : Known) → has_numbers k ≡ true → k.last_call < 18446744073709551615
calls_numbered k is = below k.last_call (few_calls k is)
  where
    below : (n : ℕ) → n ≤ 4611686018427387904 → n < 18446744073709551615
    below n few = omega arith

pub numbers_from : (k : Known) → k.last_call ≤ 4611686018427387904 → k.tasks ≤ 4611686018427387904 → has_numbers k ≡ true
numbers_from k calls tasks =
    and_from (nat_le k.last_call 4611686018427387904) (nat_le k.tasks 4611686018427387904)
    (le-leb k.last_call 4611686018427387904 calls) (le-leb k.tasks 4611686018427387904 tasks)

pub same_numbers : (old new : Known) → SameNumbers old new → has_numbers old ≡ true → has_numbers new ≡ true
same_numbers old new same has =
    (λ i. nat_le (same.last_call i) 4611686018427387904 && nat_le (same.tasks i) 4611686018427387904) ∙ has

next_number : (n last : ℕ) → n ≡ last + 1 → last < 4611686018427387904 → n ≤ 4611686018427387904
next_number n last next room = omega arith

pub numbers_next : (outside : Outside) (m : Moment) (e : Entry) → MayNote outside m e → HasRoomFor m e
    → has_numbers m.known ≡ true → has_numbers (learn m.known e) ≡ true
numbers_next outside m (entries.Release r) may room has = has
numbers_next outside m (entries.Stemcell s) may room has = has
numbers_next outside m (entries.Config file) may room has = has
numbers_next outside m (entries.TaskOpen o) may room has =
    numbers_from (learn m.known (entries.TaskOpen o)) (few_calls m.known has)
    (next_number o.task m.known.tasks (opens_next m.known o may.0) room)
numbers_next outside m (entries.Begin b) may room has =
    numbers_from (learn m.known (entries.Begin b)) (next_number b.n m.known.last_call may.number room)
    (subst (λ (n : ℕ). n ≤ 4611686018427387904) (sym (begun_tasks b b.owner m.known)) (few_tasks m.known has))
numbers_next outside m (entries.End e) may room has =
    same_numbers m.known (learn m.known (entries.End e)) (numbers_end m e.n e.answer) has
numbers_next outside m (entries.UpdBegin u) may room has = has
numbers_next outside m (entries.UpdDone u) may room has =
    same_numbers m.known (learn m.known (entries.UpdDone u)) (numbers_updated m u.task u.inst) has
numbers_next outside m (entries.Gone u) may room has = has
numbers_next outside m (entries.TaskDone t) may room has =
    same_numbers m.known (learn m.known (entries.TaskDone t)) (numbers_done m t) has
numbers_next outside m (entries.TaskError e) may room has = has
numbers_next outside m e may room has = absurd may

-- calls and tasks have numbers where a history begins
pub fit_numbers : (outside : Outside) (o : Opening) → IsFit outside o → has_numbers (known_of o.entries) ≡ true
fit_numbers outside o empty = refl
fit_numbers outside o (left before next session fit pair) = pair.has_numbers
