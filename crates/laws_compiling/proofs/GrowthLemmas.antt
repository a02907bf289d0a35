-- What is compiled stays so.
use Rattle.std.proofs.Common.{◌≡◌, ◌∙◌, Bool, true, false, Option, Some, None, refl}
use Rattle.std.specs.Prelude.{is_some, if◌then◌else◌}
use Rattle.bosh_base.specs.declared.answer.Answer.{Answer}
use Rattle.bosh_base.specs.declared.answer.Answer.TheVariants as answers
use Rattle.bosh_base.specs.declared.call.Call.{Call}
use Rattle.bosh_base.specs.declared.call.Call.TheVariants.{CompilePackage}
use Rattle.bosh_base.specs.declared.digest.Digest.{Digest}
use Rattle.bosh_base.specs.declared.entry.Begin.{Begin}
use Rattle.bosh_base.specs.declared.entry.Entry.{Entry}
use Rattle.bosh_base.specs.declared.entry.Entry.TheVariants as entries
use Rattle.bosh_base.specs.declared.key.Key.{Key}
use Rattle.bosh_compile.specs.Readiness.{same_key}
use Rattle.bosh_history.specs.Calls.{begins, call_ended, compiles, ends_of}
use Rattle.bosh_history.specs.Known.{Known, dep_of_task, want_in}
use Rattle.bosh_history.specs.Learn.{learn}
use Rattle.bosh_history.specs.Moments.{Moment}
use Rattle.bosh_history.specs.Notes.{MayNote, Outside}
use Rattle.bosh_history.specs.Slots.{is_compiled}
use Rattle.bosh_history.specs.Tasks.{settles}
use Rattle.bosh_history.specs.Updates.{update_done}
use Rattle.laws_facts.proofs.BuiltLemmas.{SameBuilt, same_answered, same_begun, same_settled, same_updated}

-- all that is compiled by the first is compiled by the second
abbrev pub Grows : Known → Known → Type 0
Grows old new = (key : Key) → is_compiled old key ≡ true → is_compiled new key ≡ true

grows_same : (old new : Known) → SameBuilt old new → Grows old new
grows_same old new same key is = (λ j. is_some (same.digest j key)) ∙ is

-- one more key
grows_by : (k : Known) (made : Key) (digest : Digest) (key : Key) → is_compiled k key ≡ true
    → is_some (if same_key made key then Some digest else k.digest key) ≡ true
grows_by k made digest key is = by (same_key made key)
  where
    by : (b : Bool) → is_some (if b then Some digest else k.digest key) ≡ true
    by true = refl
    by false = is

grows_compiled : (call : Call) (answer : Answer) (k : Known) → Grows k (compiles call answer k)
grows_compiled (CompilePackage vm work deps) (answers.Built digest) k key is = grows_by k work.key digest key is
grows_compiled (CompilePackage vm work deps) answer k key is = is
grows_compiled call answer k key is = is

grows_ended : (answer : Answer) (b : Option Begin) (k : Known) → Grows k (call_ended answer b k)
grows_ended answer (Some b) k key is =
    grows_compiled b.call answer (ends_of b answer b.owner k) key
    (grows_same k (ends_of b answer b.owner k) (same_answered b answer b.owner k) key is)
grows_ended answer None k key is = is

pub compiled_stays : (outside : Outside) (m : Moment) (e : Entry) (key : Key) → MayNote outside m e
    → is_compiled m.known key ≡ true → is_compiled (learn m.known e) key ≡ true
compiled_stays outside m (entries.Begin b) key may is =
    grows_same m.known (begins b b.owner m.known) (same_begun b b.owner m.known) key is
compiled_stays outside m (entries.End e) key may is = grows_ended e.answer (m.known.begun e.n) m.known key is
compiled_stays outside m (entries.UpdDone u) key may is =
    grows_same m.known (update_done (want_in (m.known.task u.task).goal u.inst) u.inst m.known)
    (same_updated (want_in (m.known.task u.task).goal u.inst) u.inst m.known) key is
compiled_stays outside m (entries.TaskDone t) key may is =
    grows_same m.known (settles (m.known.task t).kind (m.known.task t).goal (dep_of_task m.known t) m.known)
    (same_settled (m.known.task t).kind (m.known.task t).goal (dep_of_task m.known t) m.known) key is
compiled_stays outside m (entries.Snapshot s) key may is = absurd may
compiled_stays outside m entry key may is = is
