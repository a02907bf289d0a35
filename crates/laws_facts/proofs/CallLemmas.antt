-- Open calls by their numbers, owners and tasks: what is said of each of these is kept by each move.
use Rattle.std.proofs.Common.{◌≡◌, ℕ, ◌≤◌, Bool, true, false, ◌==◌, ◌&&◌, Option, Some, None, List, [], ◌∷◌, ◌++◌, refl, sym, ◌∙◌, subst, arith}
use Rattle.std.specs.Prelude.{not, nat_le, ◌||◌, ◌⊎◌, ◌≢◌, is_some, fold}
use Rattle.std.proofs.lemmas.Bool.Decides.{eqb_tells}
use Rattle.std.proofs.lemmas.List.Folds.{list_any-append}
use Rattle.bosh_base.specs.declared.answer.Answer.TheVariants.{Failed}
use Rattle.bosh_base.specs.declared.entry.Begin.{Begin}
use Rattle.bosh_base.specs.declared.entry.Entry.{Entry}
use Rattle.bosh_base.specs.declared.entry.Entry.TheVariants as entries
use Rattle.bosh_base.specs.declared.moves.Did.{Did}
use Rattle.bosh_base.specs.declared.moves.Move.{Move}
use Rattle.bosh_base.specs.declared.moves.Stop as stop
use Rattle.bosh_base.specs.declared.row.DiskRow.{DiskRow}
use Rattle.bosh_rows.specs.Disks.{active}
use Rattle.bosh_base.specs.declared.moves.Move.TheVariants as moves
use Rattle.bosh_base.specs.declared.owner.Owner.{Owner}
use Rattle.bosh_base.specs.declared.owner.Owner.TheVariants.{Instance, Compile, Disk}
use Rattle.laws_effects.specs.Orderly.{is_of_call, is_taken}
use Rattle.laws_facts.proofs.FrameLemmas.{numbers_done, numbers_end, numbers_updated}
use Rattle.laws_facts.proofs.MoveLemmas.{all_to}
use Rattle.laws_facts.specs.KnownFacts.{KnownFacts}
use Rattle.laws_facts.specs.Kept.{AreBegun, AreNumbersPast, HaveOneCall}
use Rattle.laws_facts.specs.Numbers.{is_number_past}
use Rattle.bosh_history.specs.Known.{Known}
use Rattle.bosh_history.specs.Learn.{learn}
use Rattle.bosh_history.specs.Moments.{Moment, OpenCall, call_effects, effect_of, forgetting, keeping, later, noting, performing, stopping, taking, with_written, write_to}
use Rattle.bosh_history.specs.Notes.{Begins, MayNote, Outside}
use Rattle.bosh_history.specs.Permitted.{IsPermitted, MayKeep, MayWrite, Stops}
use Rattle.bosh_history.specs.Steps.{is_idle, is_owners}
use Rattle.bosh_history.specs.Words.{holds}
use Rattle.bosh_rows.proofs.SameLemmas.{itself}
use Rattle.bosh_rows.specs.Same.{same_owner}

-- ---- an open call has its number, and it is known how it began

pub are_begun : (m : Moment) → KnownFacts m → AreBegun m
are_begun m h n call is = record { number = (h.calls n call is).number; begun = (h.calls n call is).begun }

begun_note : (outside : Outside) (m : Moment) (e : Entry) → MayNote outside m e → AreBegun m → AreBegun (noting m e)
begun_note outside m (entries.Begin b) may has n call is = record {
  number = grind (arith, eqb_tells b.n n, has n call);
  begun = grind (arith, eqb_tells b.n n, has n call);
}
begun_note outside m (entries.End e) may has n call is = record {
  number = grind (arith, eqb_tells e.n n, has n call);
  begun = grind (arith, eqb_tells e.n n, has n call);
}
begun_note outside m (entries.UpdDone u) may has n call is = record {
  number = (has n call is).number;
  begun = grind (arith, has n call);
}
begun_note outside m (entries.TaskDone t) may has n call is = record {
  number = (has n call is).number;
  begun = grind (arith, has n call);
}
begun_note outside m (entries.Snapshot s) may has n call is = absurd may
begun_note outside m entry may has n call is = record { number = (has n call is).number; begun = (has n call is).begun }

begun_move : (outside : Outside) (m : Moment) (move : Move) → IsPermitted outside m move → AreBegun m → AreBegun
    (later m move)
begun_move outside m (moves.Note e) may has n call is = begun_note outside m e may.2 has n call is
begun_move outside m (moves.Did d) may has n call is = record {
  number = grind (arith, eqb_tells d.n n, has n);
  begun = grind (arith, eqb_tells d.n n, has n);
}
begun_move outside m (moves.Stop s) may has n call is = absurd cc
begun_move outside m move may has n call is = record { number = (has n call is).number; begun = (has n call is).begun }

pub begun_kept : (outside : Outside) (m : Moment) (move : Move) → IsPermitted outside m move
    → KnownFacts m → AreBegun
    (later m move)
begun_kept outside m move may h = begun_move outside m move may (are_begun m h)

-- ---- the next number is new

-- the records have the same last number, and the cloud the same effects
past_same : (old new : Moment) (n : ℕ) → new.calls n ≡ old.calls n → new.effects ≡ old.effects
    → new.known.last_call ≡ old.known.last_call → is_number_past old n ≡ true → is_number_past new n ≡ true
past_same old new n calls effects last past =
    (λ i. (nat_le 1 n && nat_le n (last i)) || (not (is_some (calls i)) && not (is_taken (effects i) n))) ∙ past

past_note : (outside : Outside) (m : Moment) (e : Entry) → MayNote outside m e → AreNumbersPast m → AreNumbersPast
    (noting m e)
past_note outside m (entries.Begin b) may has n = grind (arith, eqb_tells b.n n, has n, may.number)
past_note outside m (entries.End e) may has n = by (eqb_tells e.n n)
  where
    last : (noting m (entries.End e)).known.last_call ≡ m.known.last_call
    last = (numbers_end m e.n e.answer).last_call

    by : ((e.n == n) ≡ true) × (e.n ≡ n) ⊎ ((e.n == n) ≡ false) × (e.n ≢ n)
        → is_number_past (noting m (entries.End e)) n ≡ true
    by tells = grind (arith, last, tells, has n)
past_note outside m (entries.UpdDone u) may has n =
    past_same m (noting m (entries.UpdDone u)) n refl refl (numbers_updated m u.task u.inst).last_call (has n)
past_note outside m (entries.TaskDone t) may has n =
    past_same m (noting m (entries.TaskDone t)) n refl refl (numbers_done m t).last_call (has n)
past_note outside m (entries.Snapshot s) may has n = absurd may
past_note outside m entry may has n = has n

-- what is done by a call that is open has its number
past_performed : (m : Moment) (d : Did) → AreBegun m → AreNumbersPast m → AreNumbersPast (performing m d)
past_performed m d begun past n = by (m.calls d.n) refl
  where
    done : (call : OpenCall) → m.calls d.n ≡ Some call → (has : Bool)
        → is_taken (m.effects ++ call_effects m has (Some call)) n ≡ (is_taken m.effects n || (has && d.n == n))
    done call is true = list_any-append (is_of_call n) m.effects (effect_of m.known call.begin ∷ [])
        ∙ grind (arith, (begun d.n call is).number)
    done call is false = list_any-append (is_of_call n) m.effects [] ∙ grind (arith)

    none : (has : Bool) → is_taken (m.effects ++ call_effects m has None) n ≡ is_taken m.effects n
    none true = list_any-append (is_of_call n) m.effects [] ∙ grind (arith)
    none false = list_any-append (is_of_call n) m.effects [] ∙ grind (arith)

    by : (call : Option OpenCall) → m.calls d.n ≡ call → is_number_past (performing m d) n ≡ true
    by (Some call) is = grind (arith, eqb_tells d.n n, past n, past d.n, is, done call is d.effect)
    by None is = grind (arith, eqb_tells d.n n, past n, is, none d.effect)

begun_performed : (m : Moment) (d : Did) → AreBegun m → AreBegun (performing m d)
begun_performed m d has n call is = record {
  number = grind (arith, eqb_tells d.n n, has n);
  begun = grind (arith, eqb_tells d.n n, has n);
}

-- what is not an effect of a call has no number
past_done : (m : Moment) (e : Entry) (n : ℕ) → is_of_call n e ≡ false → is_number_past m n ≡ true
    → is_number_past (record m { effects = m.effects ++ e ∷ [] }) n ≡ true
past_done m e n none past = grind (arith, past, none, list_any-append (is_of_call n) m.effects (e ∷ []))

past_written : (m : Moment) (wrote : Option Entry) → MayWrite m wrote → AreNumbersPast m → AreNumbersPast
    (with_written m wrote)
past_written m (Some (entries.Write w)) may past n = past_done m (entries.Write w) n refl (past n)
past_written m (Some (entries.Lost loss)) may past n = past_done m (entries.Lost loss) n refl (past n)
past_written m (Some entry) may past n = absurd may
past_written m None may past n = past n

begun_written : (m : Moment) (wrote : Option Entry) → MayWrite m wrote → AreBegun m → AreBegun (with_written m wrote)
begun_written m
    (Some (entries.Write w)) may has n call is = record
    { number = (has n call is).number; begun = (has n call is).begun }
begun_written m
    (Some (entries.Lost loss)) may has n call is = record
    { number = (has n call is).number; begun = (has n call is).begun }
begun_written m (Some entry) may has n call is = absurd may
begun_written m None may has n call is = has n call is

past_taken : (m : Moment) (took : List ℕ) → AreBegun m → AreNumbersPast m → AreNumbersPast (fold taking m took)
past_taken m [] begun past = past
past_taken m (n ∷ took) begun past =
    past_taken (taking m n) took (begun_performed m (record { n = n; effect = true; answer = Failed }) begun)
    (past_performed m (record { n = n; effect = true; answer = Failed }) begun past)

-- the last number only grows
last_grows : (outside : Outside) (m : Moment) (e : Entry) → MayNote outside m e
    → m.known.last_call ≤ (learn m.known e).last_call
last_grows outside m (entries.Begin b) may = grind (arith, may.number)
last_grows outside m (entries.End e) may = grind (arith, (numbers_end m e.n e.answer).last_call)
last_grows outside m (entries.UpdDone u) may = grind (arith, (numbers_updated m u.task u.inst).last_call)
last_grows outside m (entries.TaskDone t) may = grind (arith, (numbers_done m t).last_call)
last_grows outside m (entries.Snapshot s) may = absurd may
last_grows outside m entry may = grind (arith)

past_left : (m : Moment) (k : Known) (n : ℕ) → is_number_past m n ≡ true → m.known.last_call ≤ k.last_call
    → is_number_past (forgetting (record m { known = k })) n ≡ true
past_left m k n past grows = grind (arith, past, grows)

known_taken : (m : Moment) (took : List ℕ) → (fold taking m took).known ≡ m.known
known_taken m [] = refl
known_taken m (n ∷ took) = known_taken (taking m n) took

known_written : (m : Moment) (wrote : Option Entry) → MayWrite m wrote → (with_written m wrote).known ≡ m.known
known_written m (Some (entries.Write w)) may = refl
known_written m (Some (entries.Lost loss)) may = refl
known_written m (Some entry) may = absurd may
known_written m None may = refl

past_stop : (outside : Outside) (m : Moment) (s : stop.Stop) → Stops outside m s → AreBegun m → AreNumbersPast m
    → AreNumbersPast (stopping m s)
past_stop outside m s may begun past n = by s.kept may.kept
  where
    stopped : Moment
    stopped = fold taking (with_written m s.wrote) s.took

    same : stopped.known ≡ m.known
    same = known_taken (with_written m s.wrote) s.took ∙ known_written m s.wrote may.wrote

    there : is_number_past stopped n ≡ true
    there = past_taken (with_written m s.wrote) s.took (begun_written m s.wrote may.wrote begun)
        (past_written m s.wrote may.wrote past) n

    by : (kept : Option Entry) → MayKeep outside m kept → is_number_past (forgetting (keeping stopped kept)) n ≡ true
    by (Some e) also =
        past_left stopped (learn stopped.known e) n there
        (subst (λ k. k.last_call ≤ (learn k e).last_call) (sym same) (last_grows outside m e also.0))
    by None also = past_left stopped stopped.known n there (grind (arith))

past_move : (outside : Outside) (m : Moment) (move : Move) → IsPermitted outside m move → AreBegun m → AreNumbersPast m
    → AreNumbersPast (later m move)
past_move outside m (moves.Note e) may begun past n = past_note outside m e may.2 past n
past_move outside m (moves.Did d) may begun past n = past_performed m d begun past n
past_move outside m (moves.Wrote w) may begun past n = by (active (m.known.row w.inst).disks)
  where
    by : (d : Option DiskRow) → is_number_past (record m { effects = m.effects ++ write_to w.text d }) n ≡ true
    by (Some d) = past_done m (entries.Write (record { disk = d.disk; text = w.text })) n refl (past n)
    by None = grind (arith, past n, list_any-append (is_of_call n) m.effects [])
past_move outside m (moves.Halt cause) may begun past n = past n
past_move outside m (moves.Stop s) may begun past n = past_stop outside m s may begun past n
past_move outside m (moves.Lost loss) may begun past n = past_done m (entries.Lost loss) n refl (past n)
past_move outside m (moves.Said said) may begun past n = past n

pub past_kept : (outside : Outside) (m : Moment) (move : Move) → IsPermitted outside m move
    → KnownFacts m → AreNumbersPast
    (later m move)
past_kept outside m move may h = past_move outside m move may (are_begun m h) h.numbers.past

-- ---- no two are of one owner

same_owner_itself : (owner : Owner) → same_owner owner owner ≡ true
same_owner_itself (Instance i) = itself i
same_owner_itself (Compile t s) = grind (arith, eqb_tells t t, eqb_tells s s)
same_owner_itself (Disk d) = grind (arith, eqb_tells d d)

-- no open call is of an owner that is idle
pub none_open : (m : Moment) (owner : Owner) → AreNumbersPast m → is_idle m owner ≡ true → (n : ℕ) (call : OpenCall)
    → m.calls n ≡ Some call → call.begin.owner ≡ owner → ⊥
none_open m owner past idle n call is own =
    let none : not (holds (is_owners owner) (m.calls n)) ≡ true =
    all_to (λ n. not (holds (is_owners owner) (m.calls n))) m.known.last_call n idle (grind (arith, past n, is))
    (grind (arith, past n, is)) in
    grind (arith, none, is, own, same_owner_itself owner)

one_begin : (m : Moment) (b : Begin) → Begins m b → AreNumbersPast m → HaveOneCall m → HaveOneCall
    (noting m (entries.Begin b))
one_begin m b may past one n call other that is also own =
    grind (
      arith,
      eqb_tells b.n n,
      eqb_tells b.n other,
      one n call other that,
      none_open m b.owner past may.is_idle n call,
      none_open m b.owner past may.is_idle other that,
    )

one_note : (outside : Outside) (m : Moment) (e : Entry) → MayNote outside m e → AreNumbersPast m → HaveOneCall m
    → HaveOneCall (noting m e)
one_note outside m (entries.Begin b) may past one n call other that is also own =
    one_begin m b may past one n call other that is also own
one_note outside m (entries.End e) may past one n call other that is also own =
    grind (arith, eqb_tells e.n n, eqb_tells e.n other, one n call other that)
one_note outside m (entries.Snapshot s) may past one n call other that is also own = absurd may
one_note outside m entry may past one n call other that is also own = one n call other that is also own

one_move : (outside : Outside) (m : Moment) (move : Move) → IsPermitted outside m move → AreNumbersPast m
    → HaveOneCall m
    → HaveOneCall (later m move)
one_move outside m (moves.Note e) may past one n call other that is also own =
    one_note outside m e may.2 past one n call other that is also own
one_move outside m (moves.Did d) may past one n call other that is also own =
    grind (arith, eqb_tells d.n n, eqb_tells d.n other, one n)
one_move outside m (moves.Stop s) may past one n call other that is also own = absurd cc
one_move outside m move may past one n call other that is also own = one n call other that is also own

pub one_kept : (outside : Outside) (m : Moment) (move : Move) → IsPermitted outside m move
    → KnownFacts m → HaveOneCall
    (later m move)
one_kept outside m move may h =
    one_move outside m move may h.numbers.past
    (λ n call other that is also own. (h.calls n call is).one_call other that also own)
