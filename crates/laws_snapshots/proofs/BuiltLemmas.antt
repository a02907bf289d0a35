-- At each moment of a permitted history the compiled keys that are listed stand in their order, each once.
use Rattle.std.proofs.Common.{◌≡◌, ◌∙◌, Bool, true, false, ◌&&◌, ◌||◌, List, [], ◌∷◌, Option, Some, None, ap, refl, subst, sym}
use Rattle.std.specs.Prelude.{fold, not}
use Rattle.std.specs.List.{list_any}
use Rattle.std.proofs.lemmas.Bool.{false≢true, true≢false}
use Rattle.bosh_base.specs.ExactParts.{Decides-key}
use Rattle.bosh_base.specs.contracts.key.KeyPartialEq.TheImpl as key_test
use Rattle.bosh_base.specs.declared.answer.Answer.{Answer}
use Rattle.bosh_base.specs.declared.answer.Answer.TheVariants as answers
use Rattle.bosh_base.specs.declared.call.Call.{Call}
use Rattle.bosh_base.specs.declared.call.Call.TheVariants.{CompilePackage}
use Rattle.bosh_base.specs.declared.digest.Digest.{Digest}
use Rattle.bosh_base.specs.declared.entry.Begin.{Begin}
use Rattle.bosh_base.specs.declared.entry.End.{End}
use Rattle.bosh_base.specs.declared.entry.Entry.{Entry}
use Rattle.bosh_base.specs.declared.entry.Entry.TheVariants as entries
use Rattle.bosh_base.specs.declared.key.Key.{Key}
use Rattle.bosh_base.specs.declared.key.KeyWork.{KeyWork}
use Rattle.bosh_base.specs.declared.moves.Move.{Move}
use Rattle.bosh_base.specs.declared.snapshot.BuiltKey.{BuiltKey}
use Rattle.bosh_compile.proofs.KeyLemmas.{same_key_decides}
use Rattle.bosh_compile.specs.Readiness.{same_key}
use Rattle.bosh_history.proofs.KnownLemmas.{known_by_entries}
use Rattle.bosh_history.specs.Calls.{call_ended, compiles, ends_of}
use Rattle.bosh_history.specs.Fit.{IsFit, empty, left}
use Rattle.bosh_history.specs.Known.{Known, dep_of_task, want_in}
use Rattle.bosh_history.specs.Learn.{known_of, learn}
use Rattle.bosh_history.specs.Moments.{Moment, OpenCall, Opening, beginning, durable, later, moment}
use Rattle.bosh_history.specs.Notes.{EndsCall, MayNote, Outside}
use Rattle.bosh_history.specs.Permitted.{IsRun, IsRunFrom}
use Rattle.bosh_history.specs.Slots.{is_compiled}
use Rattle.bosh_rows.specs.SoundSnapshot.{are_distinct, are_in_order, built_cmp, is_built_before, same_built_key}
use Rattle.bosh_rows.specs.Standing.{same_truth}
use Rattle.laws_facts.proofs.BuiltLemmas as listing
use Rattle.laws_facts.proofs.MoveLemmas.{by_note}
use Rattle.laws_facts.specs.CallFacts.{CallFacts}
use Rattle.laws_facts.specs.KnownFacts.{KnownFacts}
use Rattle.laws_facts.specs.Lists.{is_built_for}
use Rattle.laws_facts.specs.OpenCalls.{compiles_new}
use Rattle.laws_runs.proofs.KeptLemmas.{facts_kept}
use Rattle.laws_runs.proofs.ReadLemmas.{fit_facts, run_facts, stands}
use Rattle.laws_runs.proofs.RestLemmas.{Outlasts}
use Rattle.laws_stands_snapshots.proofs.BuiltLemmas.{key_flip}
use Rattle.laws_stands_snapshots.proofs.BuiltOrderLemmas.{one_more_in_order}
use Rattle.laws_stands_snapshots.specs.Built.{AreBuiltInOrder}
use Rattle.laws_stands_snapshots.specs.Readable.{same_built}
use Rattle.laws_snapshots.proofs.ListedLemmas.{in_order}

-- ---- a compilation that is answered

abbrev compiled_of : KeyWork → Digest → BuiltKey
compiled_of work digest = record { name = work.name; key = work.key; digest = digest }

-- a key that is not compiled is not listed
not_listed : (work : KeyWork) (digest : Digest) (built : List BuiltKey) (compiled : Bool)
    → same_truth (list_any (is_built_for work.key) built) compiled ≡ true → not compiled ≡ true
    → list_any (same_built (compiled_of work digest)) built ≡ false
not_listed work digest built compiled truth new =
    flipped built ∙ none (list_any (is_built_for work.key) built) compiled truth new
  where
    none : (a b : Bool) → same_truth a b ≡ true → not b ≡ true → a ≡ false
    none true b truth new = absurd (false≢true (ap not (sym truth) ∙ new))
    none false b truth new = refl

    flipped : (items : List BuiltKey)
        → list_any (same_built (compiled_of work digest)) items ≡ list_any (is_built_for work.key) items
    flipped [] = refl
    flipped (each ∷ items) = λ i. key_flip work.key each.key i || flipped items i

module _ (m : Moment) (h : KnownFacts m) where
  abbrev k : Known
  k = m.known

  ended_in_order : (b : Begin) (answer : Answer) (call : Call) → compiles_new k call ≡ true → AreBuiltInOrder k.built
      → AreBuiltInOrder (compiles call answer (ends_of b answer b.owner k)).built
  ended_in_order b answer call new in_order =
      by call answer new (subst AreBuiltInOrder (sym (listing.same_answered b answer b.owner k).built) in_order)
    where
      by : (call : Call) (told : Answer) → compiles_new k call ≡ true
          → AreBuiltInOrder (ends_of b answer b.owner k).built
          → AreBuiltInOrder (compiles call told (ends_of b answer b.owner k)).built
      by (CompilePackage vm work deps) (answers.Built digest) new still =
          one_more_in_order (compiled_of work digest) (ends_of b answer b.owner k).built
          (ap (list_any (same_built (compiled_of work digest))) (listing.same_answered b answer b.owner k).built
          ∙ not_listed work digest k.built (is_compiled k work.key) (h.lists.key_listed work.key) new)
          still
      by (CompilePackage vm work deps) told new still = still
      by call told new still = still

  end_in_order : (e : End) → EndsCall e (m.calls e.n) → AreBuiltInOrder k.built
      → AreBuiltInOrder (learn k (entries.End e)).built
  end_in_order e may in_order = by (m.calls e.n) refl may
    where
      by : (call : Option OpenCall) → m.calls e.n ≡ call → EndsCall e call
          → AreBuiltInOrder (learn k (entries.End e)).built
      by (Some call) there may =
          let facts : CallFacts m e.n call = h.calls e.n call there in
          subst (λ (begun : Option Begin). AreBuiltInOrder (call_ended e.answer begun k).built) (sym facts.begun)
          (ended_in_order call.begin e.answer call.begin.call facts.compiles_new in_order)
      by None there may = absurd may

  -- compiled keys go on to stand in order after each entry that may be noted
  pub note_in_order : (outside : Outside) (e : Entry) → MayNote outside m e → AreBuiltInOrder k.built
      → AreBuiltInOrder (learn k e).built
  note_in_order outside (entries.End e) may in_order = end_in_order e may in_order
  note_in_order outside (entries.Begin b) may in_order =
      subst AreBuiltInOrder (sym (listing.same_begun b b.owner k).built) in_order
  note_in_order outside (entries.UpdDone u) may in_order =
      subst AreBuiltInOrder (sym (listing.same_updated (want_in (k.task u.task).goal u.inst) u.inst k).built) in_order
  note_in_order outside (entries.TaskDone t) may in_order =
      subst AreBuiltInOrder
      (sym (listing.same_settled (k.task t).kind (k.task t).goal (dep_of_task k t) k).built)
      in_order
  note_in_order outside (entries.Snapshot s) may in_order = absurd may
  note_in_order outside e may in_order = in_order

-- ---- a history

built_later : (outside : Outside) (m : Moment) (moves : List Move) → IsRunFrom outside m moves → KnownFacts m
    → AreBuiltInOrder m.known.built → AreBuiltInOrder (fold later m moves).known.built
built_later outside m [] run h in_order = in_order
built_later outside m (move ∷ moves) run h in_order =
    built_later outside (later m move) moves run.1 (facts_kept outside m move run.0 h)
    (by_note outside (λ k. AreBuiltInOrder k.built) m (λ e may. note_in_order m h outside e may in_order) in_order move
    run.0)

fit_built : (outside : Outside) (o : Opening) → IsFit outside o → AreBuiltInOrder (beginning o).known.built
fit_built outside o empty = record { order = refl; apart = refl }
fit_built outside o (left before next session fit pair) =
    subst AreBuiltInOrder (sym outlasts.built)
    (built_later outside (beginning before) session pair.is_run (fit_facts outside before fit)
    (fit_built outside before fit))
  where
    outlasts : Outlasts (moment before session).known (known_of next.entries)
    outlasts =
        stands (moment before session) (run_facts outside before session fit pair.is_run) (durable before session)
        (known_by_entries before session) next.entries pair.entries

pub run_built : (outside : Outside) (o : Opening) (moves : List Move) → IsFit outside o → IsRun outside o moves
    → AreBuiltInOrder (moment o moves).known.built
run_built outside o moves fit run =
    built_later outside (beginning o) moves run (fit_facts outside o fit) (fit_built outside o fit)

-- ---- by the tests of a snapshot

tested : (a b : Key) → key_test.ghosts.eq a b ≡ same_key a b
tested a b = by (key_test.ghosts.eq a b) (same_key a b) refl refl
  where
    by : (t u : Bool) → key_test.ghosts.eq a b ≡ t → same_key a b ≡ u → t ≡ u
    by true true one other = refl
    by false false one other = refl
    by true false one other =
        absurd (true≢false (sym ((same_key_decides a b).1 ((Decides-key a b).0 one)) ∙ other))
    by false true one other =
        absurd (true≢false (sym ((Decides-key a b).1 ((same_key_decides a b).0 other)) ∙ one))

built_apart : (built : List BuiltKey) → are_distinct same_built_key built ≡ are_distinct same_built built
built_apart [] = refl
built_apart (a ∷ built) = λ i. not (any_built a built i) && built_apart built i
  where
    any_built : (a : BuiltKey) (built : List BuiltKey) → list_any (same_built_key a) built ≡ list_any (same_built a) built
    any_built a [] = refl
    any_built a (b ∷ built) = λ i. tested a.key b.key i || any_built a built i

pub tested_order : (built : List BuiltKey) → AreBuiltInOrder built → are_in_order is_built_before built ≡ true
tested_order built it = in_order built_cmp built ∙ it.order

pub tested_apart : (built : List BuiltKey) → AreBuiltInOrder built → are_distinct same_built_key built ≡ true
tested_apart built it = built_apart built ∙ it.apart
