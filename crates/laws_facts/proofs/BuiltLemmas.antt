-- Compiled keys: that those which are listed are those which have a digest is kept by each entry.
use Rattle.std.proofs.Common.{◌≡◌, ◌∙◌, ℕ, Bool, true, false, Option, Some, None, List, [], ◌∷◌, refl, ap, arith}
use Rattle.std.specs.Prelude.{◌||◌, find, fold, is_some, map, if◌then◌else◌}
use Rattle.std.specs.Cmp.Lexicographic.{slice_cmp}
use Rattle.std.specs.List.{list_any}
use Rattle.std.specs.Option.{option_map}
use Rattle.std.specs.Ordering.{nat_cmp, ordering_then}
use Rattle.std.specs.declared.cmp.Ordering.TheVariants.{Equal}
use Rattle.std.proofs.lemmas.Map.Lookups.{exact_bytes}
use Rattle.bosh_base.specs.declared.answer.Answer.{Answer}
use Rattle.bosh_base.specs.declared.answer.Answer.TheVariants as answers
use Rattle.bosh_base.specs.declared.call.Call.{Call}
use Rattle.bosh_base.specs.declared.call.Call.TheVariants.{CompilePackage}
use Rattle.bosh_base.specs.declared.digest.Digest.{Digest}
use Rattle.bosh_base.specs.declared.entry.Begin.{Begin}
use Rattle.bosh_base.specs.declared.entry.Entry.{Entry}
use Rattle.bosh_base.specs.declared.entry.Entry.TheVariants as entries
use Rattle.bosh_base.specs.declared.goal.Goal.{Goal}
use Rattle.bosh_base.specs.declared.goal.GoalRow.{GoalRow}
use Rattle.bosh_base.specs.declared.inst.Inst.{Inst}
use Rattle.bosh_base.specs.declared.key.Key.{Key}
use Rattle.bosh_base.specs.declared.moves.Move.{Move}
use Rattle.bosh_base.specs.declared.owner.Owner.{Owner}
use Rattle.bosh_base.specs.declared.owner.Owner.TheVariants.{Instance, Compile, Disk}
use Rattle.bosh_base.specs.declared.snapshot.BuiltKey.{BuiltKey}
use Rattle.bosh_base.specs.declared.task.TaskKind.{TaskKind}
use Rattle.bosh_compile.specs.CompileOrder.{key_cmp}
use Rattle.bosh_compile.specs.Readiness.{is_among, same_key}
use Rattle.bosh_history.specs.Calls.{begins, call_ended, compiles, ends_of, slot_answered}
use Rattle.bosh_history.specs.Known.{Known, Slot, dep_of_task, nothing_known, want_in}
use Rattle.bosh_history.specs.Held.{compiled_keys, view}
use Rattle.bosh_history.specs.Learn.{known_of, learn}
use Rattle.bosh_history.specs.Moments.{Moment, later}
use Rattle.bosh_history.specs.Notes.{Outside}
use Rattle.bosh_history.specs.Permitted.{IsPermitted}
use Rattle.bosh_history.specs.Slots.{is_compiled, slot_after}
use Rattle.bosh_history.specs.Tasks.{settles}
use Rattle.bosh_history.specs.Updates.{update_done}
use Rattle.bosh_history.specs.Words.{inserted}
use Rattle.bosh_rows.specs.SoundSnapshot.{built_cmp}
use Rattle.bosh_rows.specs.Standing.{same_truth}
use Rattle.laws_facts.proofs.InstanceLemmas.{then_equal}
use Rattle.laws_facts.proofs.MoveLemmas.{by_note}
use Rattle.laws_facts.proofs.OrderLemmas.{any_all_inserted, any_inserted}
use Rattle.laws_facts.specs.KnownFacts.{KnownFacts}
use Rattle.laws_facts.specs.Kept.{AreBuiltListed}
use Rattle.laws_facts.specs.Lists.{is_built_for}

-- ---- a key comes to its place

key_equal : (a b : Key) → key_cmp a b ≡ Equal → a ≡ b
key_equal a b is =
    let parts : (slice_cmp nat_cmp a.fingerprint.0 b.fingerprint.0 ≡ Equal) ×
    (ordering_then (slice_cmp nat_cmp a.os b.os) (slice_cmp nat_cmp a.version b.version) ≡ Equal) =
    then_equal (slice_cmp nat_cmp a.fingerprint.0 b.fingerprint.0)
    (ordering_then (slice_cmp nat_cmp a.os b.os) (slice_cmp nat_cmp a.version b.version)) is in
    let more : (slice_cmp nat_cmp a.os b.os ≡ Equal) × (slice_cmp nat_cmp a.version b.version ≡ Equal) =
    then_equal (slice_cmp nat_cmp a.os b.os) (slice_cmp nat_cmp a.version b.version) parts.1 in
    let fingerprint : a.fingerprint.0 ≡ b.fingerprint.0 =
    exact_bytes a.fingerprint.0 b.fingerprint.0 parts.0 in
    let os : a.os ≡ b.os = exact_bytes a.os b.os more.0 in
    let version : a.version ≡ b.version = exact_bytes a.version b.version more.1 in
    grind (arith, fingerprint, os, version)

built_equal : (a b : BuiltKey) → built_cmp a b ≡ Equal → a.key ≡ b.key
built_equal a b is =
    key_equal a.key b.key (then_equal (slice_cmp nat_cmp a.name b.name) (key_cmp a.key b.key) is).1

built_inserted : (key : Key) (a : BuiltKey) (items : List BuiltKey)
    → list_any (is_built_for key) (inserted built_cmp a items) ≡ (is_built_for key a || list_any (is_built_for key) items)
built_inserted key =
    any_inserted built_cmp (is_built_for key) (λ a b is. ap (λ (k : Key). same_key k key) (built_equal a b is))

-- ---- what leaves the compiled keys as they are

-- the same keys are compiled
pub record SameBuilt (old new : Known) : Type 0 where
  pub built : new.built ≡ old.built
  pub digest : new.digest ≡ old.digest

listed_same : (old new : Known) → SameBuilt old new → AreBuiltListed old → AreBuiltListed new
listed_same old new same listed key =
    (λ i. same_truth (list_any (is_built_for key) (same.built i)) (is_some (same.digest i key))) ∙ listed key

pub same_begun : (b : Begin) (owner : Owner) (k : Known) → SameBuilt k (begins b owner k)
same_begun b (Instance i) k = record { built = refl; digest = refl }
same_begun b (Compile t s) k = record { built = refl; digest = refl }
same_begun b (Disk d) k = record { built = refl; digest = refl }

same_slot_answered : (t s : ℕ) (it : Option Slot) (k : Known) → SameBuilt k (slot_answered t s it k)
same_slot_answered t s (Some it) k = record { built = refl; digest = refl }
same_slot_answered t s None k = record { built = refl; digest = refl }

pub same_answered : (b : Begin) (answer : Answer) (owner : Owner) (k : Known) → SameBuilt k (ends_of b answer owner k)
same_answered b answer (Instance i) k = record { built = refl; digest = refl }
same_answered b answer (Compile t s) k = same_slot_answered t s (slot_after b.n b.call answer (k.slot t s)) k
same_answered b answer (Disk d) k = record { built = grind (arith); digest = grind (arith) }

pub same_updated : (want : Option GoalRow) (i : Inst) (k : Known) → SameBuilt k (update_done want i k)
same_updated (Some want) i k = record { built = refl; digest = refl }
same_updated None i k = record { built = refl; digest = refl }

pub same_settled : (kind : TaskKind) (goal : Option Goal) (dep : List ℕ) (k : Known) → SameBuilt k (settles kind goal dep k)
same_settled kind goal dep k = record { built = grind (arith); digest = grind (arith) }

-- ---- a package is compiled

listed_built : (k : Known) (name : List ℕ) (made : Key) (digest : Digest) → AreBuiltListed k → (key : Key)
    → same_truth
    (list_any (is_built_for key) (inserted built_cmp (record { name = name; key = made; digest = digest }) k.built))
    (is_some (if same_key made key then Some digest else k.digest key))
    ≡ true
listed_built k name made digest listed key =
    (λ i. same_truth (built_inserted key (record { name = name; key = made; digest = digest }) k.built i)
    (is_some (if same_key made key then Some digest else k.digest key)))
    ∙ by (same_key made key)
  where
    by : (b : Bool) → same_truth (b || list_any (is_built_for key) k.built) (is_some (if b then Some digest else k.digest key)) ≡ true
    by true = refl
    by false = listed key

listed_compiled : (call : Call) (answer : Answer) (k : Known) → AreBuiltListed k → AreBuiltListed (compiles call answer k)
listed_compiled (CompilePackage vm work deps) (answers.Built digest) k listed =
    listed_built k work.name work.key digest listed
listed_compiled (CompilePackage vm work deps) answer k listed = listed
listed_compiled call answer k listed = listed

listed_ended : (answer : Answer) (b : Option Begin) (k : Known) → AreBuiltListed k → AreBuiltListed (call_ended answer b k)
listed_ended answer (Some b) k listed =
    listed_compiled b.call answer (ends_of b answer b.owner k)
    (listed_same k (ends_of b answer b.owner k) (same_answered b answer b.owner k) listed)
listed_ended answer None k listed = listed

-- ---- a snapshot tells all that is compiled

listed_found : (key : Key) (items : List BuiltKey)
    → same_truth (list_any (is_built_for key) items)
    (is_some (option_map (λ (it : BuiltKey). it.digest) (find (is_built_for key) items)))
    ≡ true
listed_found key [] = refl
listed_found key (it ∷ items) = by (is_built_for key it) (listed_found key items)
  where
    by : (b : Bool)
        → same_truth (list_any (is_built_for key) items)
        (is_some (option_map (λ (each : BuiltKey). each.digest) (find (is_built_for key) items)))
        ≡ true
        → same_truth (b || list_any (is_built_for key) items)
        (is_some (option_map (λ (each : BuiltKey). each.digest)
        (if b then Some it else find (is_built_for key) items)))
        ≡ true
    by true before = refl
    by false before = before

-- ---- one more entry

listed_learned : (k : Known) (e : Entry) → AreBuiltListed k → AreBuiltListed (learn k e)
listed_learned k (entries.Begin b) listed = listed_same k (begins b b.owner k) (same_begun b b.owner k) listed
listed_learned k (entries.End e) listed = listed_ended e.answer (k.begun e.n) k listed
listed_learned k (entries.UpdDone u) listed =
    listed_same k (update_done (want_in (k.task u.task).goal u.inst) u.inst k)
    (same_updated (want_in (k.task u.task).goal u.inst) u.inst k) listed
listed_learned k (entries.TaskDone t) listed =
    listed_same k (settles (k.task t).kind (k.task t).goal (dep_of_task k t) k)
    (same_settled (k.task t).kind (k.task t).goal (dep_of_task k t) k) listed
listed_learned k (entries.Snapshot s) listed = λ key. listed_found key s.built_keys
listed_learned k entry listed = listed

-- it is kept by each permitted move
pub listed_kept : (outside : Outside) (m : Moment) (move : Move) → IsPermitted outside m move
    → KnownFacts m → AreBuiltListed (later m move).known
listed_kept outside m move may h =
    by_note outside AreBuiltListed m (λ e also. listed_learned m.known e h.lists.key_listed) h.lists.key_listed move may

-- ---- all that a list of entries tells

listed_along : (entries : List Entry) (k : Known) → AreBuiltListed k → AreBuiltListed (fold learn k entries)
listed_along [] k listed = listed
listed_along (e ∷ entries) k listed = listed_along entries (learn k e) (listed_learned k e listed)

pub listed_of : (entries : List Entry) → AreBuiltListed (known_of entries)
listed_of entries = listed_along entries nothing_known (λ key. refl)

any_of_keys : (key : Key) (items : List BuiltKey)
    → list_any (λ each. same_key each key) (map (λ (built : BuiltKey). built.key) items)
    ≡ list_any (is_built_for key) items
any_of_keys key [] = refl
any_of_keys key (it ∷ items) = ap (λ (b : Bool). is_built_for key it || b) (any_of_keys key items)

-- a view lists the keys that are listed
viewed_listed : (k : Known) (key : Key) → AreBuiltListed k
    → is_among key (compiled_keys k) ≡ is_compiled k key
viewed_listed k key listed =
    any_all_inserted key_cmp (λ each. same_key each key) (λ a b is. ap (λ (k : Key). same_key k key) (key_equal a b is))
    (map (λ (built : BuiltKey). built.key) k.built) []
    ∙ (or_nothing (list_any (λ each. same_key each key) (map (λ (built : BuiltKey). built.key) k.built))
    ∙ (any_of_keys key k.built ∙ same (list_any (is_built_for key) k.built) (is_compiled k key) (listed key)))
  where
    or_nothing : (b : Bool) → (b || false) ≡ b
    or_nothing true = refl
    or_nothing false = refl

    same : (a b : Bool) → same_truth a b ≡ true → a ≡ b
    same true b is = grind (arith, is)
    same false b is = grind (arith, is)

pub viewed_of : (entries : List Entry) (dep : List ℕ) (key : Key)
    → is_among key (view (known_of entries) dep).compiled ≡ is_compiled (known_of entries) key
viewed_of entries dep key = viewed_listed (known_of entries) key (listed_of entries)
