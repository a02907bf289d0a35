-- The effects of open calls that come in a stop are those that may be taken, in order of number.
use Rattle.std.proofs.Common.{◌≡◌, ◌∙◌, ◌<◌, ℕ, Bool, true, false, not, List, [], ◌∷◌, ◌++◌, Option, Some, None, ap, append-nil, arith, inl, inr, refl, subst, sym}
use Rattle.std.specs.Prelude.{◌==◌, ◌&&◌, ◌⊎◌, Err, find, fold, is_some, nat_lt, option_map, if◌then◌else◌}
use Rattle.std.specs.Option.{option_and_then}
use Rattle.std.proofs.lemmas.Bool.{and_from, and_parts, eq-eqb, eqb-true, false≢true, lt-ltb, ltb-true, ne_eqb, true≢false}
use Rattle.bosh_agent.specs.Compiled.{compiled_digest}
use Rattle.bosh_base.specs.CallStep.{takes_effect}
use Rattle.bosh_base.specs.declared.call.Call.{Call}
use Rattle.bosh_base.specs.declared.digest.Digest.{Digest}
use Rattle.bosh_base.specs.declared.entry.Begin.{Begin}
use Rattle.bosh_base.specs.declared.entry.Entry.{Entry}
use Rattle.bosh_base.specs.declared.entry.Entry.TheVariants as entries
use Rattle.bosh_base.specs.declared.key.KeyWork.{KeyWork}
use Rattle.bosh_base.specs.declared.moves.Cause.{Cause}
use Rattle.bosh_base.specs.declared.moves.Did as did
use Rattle.bosh_base.specs.declared.moves.Move.{Move}
use Rattle.bosh_base.specs.declared.owner.Owner.{Owner}
use Rattle.bosh_book.specs.Current as current
use Rattle.bosh_calls.specs.Calls.{is_free, is_of, is_performable}
use Rattle.bosh_calls.specs.declared.calls.OpenCall as site
use Rattle.bosh_cloud.specs.CloudView.{CloudView}
use Rattle.bosh_cloud.specs.Notes.{IsPending}
use Rattle.bosh_cloud.specs.Performs.{effects_if, fate_of, has_effect}
use Rattle.bosh_cloud.specs.declared.fault.CloudFault.{CloudFault}
use Rattle.bosh_cloud.specs.declared.fault.CloudFault.TheVariants as cloud
use Rattle.bosh_entry.specs.Body.{entry_of}
use Rattle.bosh_fates.specs.declared.fate.Fate.{Fate}
use Rattle.bosh_fates.specs.declared.fate.Fate.TheVariants.{Late, Lose}
use Rattle.bosh_history.specs.Moments.{Moment, OpenCall, dep_of, effect_of, taking}
use Rattle.bosh_history.specs.Notes.{Outside}
use Rattle.bosh_history.specs.Permitted.{MayTake, may_take}
use Rattle.bosh_records.specs.Readers.{call_at}
use Rattle.bosh_records.specs.declared.records.Records.{Records}
use Rattle.bosh_traps.specs.declared.trap.Firing.{Firing}
use Rattle.bosh_world.specs.Stopping as stopping
use Rattle.laws_sites.proofs.StepLemmas.{stopped}
use Rattle.laws_sites.specs.Calls.{AreRising, HasDone, IsCall}

-- ---- numbers

chain : (a b c : ℕ) → a < b → b < c → a < c
chain a b c one other = grind (arith, one, other)

apart : (a b : ℕ) → a < b → a ≡ b → ⊥
apart a b less same = absurd (grind (arith, less, same))

-- ---- what may be taken

-- a call that was open, and would take effect, may be taken
pub may_take_open : (outside : Outside) (m : Moment) (n : ℕ) (call : OpenCall) → m.calls n ≡ Some call → call.did ≡ None
    → takes_effect outside.built m.effects call.begin.call ≡ true → may_take outside m n ≡ true
may_take_open outside m n call is none takes = rw is (rw none takes)

-- .. also from a lower number on
from_lower : (outside : Outside) (m : Moment) (last k : ℕ) (took : List ℕ) → last < k → MayTake outside m k took
    → MayTake outside m last took
from_lower outside m last k [] less may = tt
from_lower outside m last k (n ∷ took) less may =
    let parts : (nat_lt k n ≡ true) × (may_take outside m n ≡ true) = and_parts (nat_lt k n) (may_take outside m n) may.0 in
    (and_from (nat_lt last n) (may_take outside m n) (lt-ltb last n (chain last k n less (ltb-true k n parts.0))) parts.1, may.1)

-- .. and once the site has halted
pub take_stopped : (outside : Outside) (m : Moment) (last : ℕ) (took : List ℕ) → MayTake outside m last took
    → MayTake outside (stopped m) last took
take_stopped outside m last [] may = tt
take_stopped outside m last (n ∷ took) may = (may.0, take_stopped outside (taking m n) n took may.1)

pub effects_stopped : (m : Moment) (took : List ℕ)
    → (fold taking (stopped m) took).effects ≡ (fold taking m took).effects
effects_stopped m [] = refl
effects_stopped m (n ∷ took) = effects_stopped (taking m n) took

-- the effect of a call that is taken
pub taken_effects : (m : Moment) (n : ℕ) (call : OpenCall) → m.calls n ≡ Some call
    → (taking m n).effects ≡ m.effects ++ effect_of m.known call.begin ∷ []
taken_effects m n call is = rw is refl

-- the others stay as they were
calls_taken : (m : Moment) (n x : ℕ) → n < x → (taking m n).calls x ≡ m.calls x
calls_taken m n x less = rw (ne_eqb n x (apart n x less)) refl

-- what else the store may hold: one more effect, by which calls may be taken
abbrev pub MayTakeMore : Outside → Moment → ℕ → List ℕ → Bool → Option (List ℕ) → Type 0
MayTakeMore outside m last took true (Some body) =
    (entry : Entry) × (entry_of body ≡ Some entry)
    × ((others : List ℕ) × (MayTake outside m last others
    × ((fold taking m others).effects ≡ (fold taking m took).effects ++ entry ∷ [])))
MayTakeMore outside m last took is_stale pending = Unit {0}

-- what was done to the cloud is what may be taken
pub record HasTaken {L : Type 0} (outside : Outside) (m : Moment) (last : ℕ) (now : CloudView L) : Type 0 where
  pub took : List ℕ
  pub may : MayTake outside m last took
  pub effects : now.effects ≡ (fold taking m took).effects
  pub more : MayTakeMore outside m last took now.is_stale now.pending

none_more : (outside : Outside) (m : Moment) (last : ℕ) (took : List ℕ) (b : Bool) (pending : Option (List ℕ))
    → b ≡ false
    → MayTakeMore outside m last took b pending
none_more outside m last took false pending is = tt
none_more outside m last took true pending is = absurd (true≢false is)

taken_lower : {L : Type 0} (outside : Outside) (m : Moment) (last k : ℕ) (now : CloudView L) → last < k
    → HasTaken outside m k now → HasTaken outside m last now
taken_lower {L} outside m last k now less has = record {
  took = has.took;
  may = from_lower outside m last k has.took less has.may;
  effects = has.effects;
  more = by now.is_stale now.pending has.more;
}
  where
    by : (b : Bool) (pending : Option (List ℕ)) → MayTakeMore outside m k has.took b pending
        → MayTakeMore outside m last has.took b pending
    by true (Some body) (entry, spelled, (others, (may, effects))) =
        (entry, spelled, (others, (from_lower outside m last k others less may, effects)))
    by true None more = tt
    by false pending more = tt

taken_then : {L : Type 0} (outside : Outside) (m : Moment) (last n : ℕ) (now : CloudView L)
    → (nat_lt last n && may_take outside m n) ≡ true → HasTaken outside (taking m n) n now → HasTaken outside m last now
taken_then {L} outside m last n now first has = record {
  took = n ∷ has.took;
  may = (first, has.may);
  effects = has.effects;
  more = by now.is_stale now.pending has.more;
}
  where
    by : (b : Bool) (pending : Option (List ℕ)) → MayTakeMore outside (taking m n) n has.took b pending
        → MayTakeMore outside m last (n ∷ has.took) b pending
    by true (Some body) (entry, spelled, (others, (may, effects))) = (entry, spelled, (n ∷ others, ((first, may), effects)))
    by true None more = tt
    by false pending more = tt

-- ---- each call that is open

past : (it : site.OpenCall) (rest : List site.OpenCall) (x : ℕ) → it.n < x
    → find (is_of x) (it ∷ rest) ≡ find (is_of x) rest
past it rest x less = rw (ne_eqb it.n x (apart it.n x less)) refl

here : (it : site.OpenCall) (rest : List site.OpenCall) → find (is_of it.n) (it ∷ rest) ≡ Some it
here it rest = rw (eq-eqb it.n it.n refl) refl

-- what has its effect under a fate takes effect
pub takes_under : (fate : Option Fate) (effects : List Entry) (call : Call) → has_effect fate effects call ≡ true
    → takes_effect compiled_digest effects call ≡ true
takes_under None effects call is = is
takes_under (Some Late) effects call is = is
takes_under (Some Lose) effects call is = absurd (false≢true is)

-- an open call that was not performed
not_done : (story : List Move) (it : site.OpenCall) (o : Option OpenCall) → IsCall story (Some it) o → it.place ≡ None
    → (call : OpenCall) × (o ≡ Some call) × (call.did ≡ None)
not_done story it None is none = absurd is
not_done story it (Some call) is none = (call, refl, by it.place call.did is none)
  where
    by : (place : Option ℕ) (d : Option did.Did) → HasDone story place d → place ≡ None → d ≡ None
    by None None at same = refl
    by None (Some d) at same = absurd at
    by (Some place) d at same = absurd (let no : Some place ≡ None = same in cc)

module _ {L : Type 0} (outside : Outside) (built : outside.built ≡ compiled_digest) (bodies : L → Option (List (List ℕ)))
    (faults : L → ℕ) (records : Records) (firing : Firing) (n : ℕ) (story : List Move) where
  -- the calls above this number are as the records and the moment tell, and so is the cloud
  pub record Left (m : Moment) (last : ℕ) (rest : List site.OpenCall) (was : CloudView L) : Type 0 where
    pub effects : was.effects ≡ m.effects
    pub whole : was.is_stale ≡ false
    pub rising : AreRising last rest
    pub calls : (x : ℕ) → last < x → IsCall story (find (is_of x) rest) (m.calls x)
    pub live : (x : ℕ) (call : OpenCall) → last < x → m.calls x ≡ Some call → call_at records x ≡ Some call.begin
    pub deps : (owner : Owner) (dep : List ℕ) → current.dep_of records owner ≡ Some dep → dep_of m.known owner ≡ dep
    pub free : last < n → is_performable rest n ≡ true

  -- .. and so are those after the first
  left_after : (m : Moment) (last : ℕ) (it : site.OpenCall) (rest : List site.OpenCall) (was mid : CloudView L)
      → Left m last (it ∷ rest) was → mid.effects ≡ m.effects → mid.is_stale ≡ false → Left m it.n rest mid
  left_after m last it rest was mid left effects whole = record {
    effects = effects;
    whole = whole;
    rising = left.rising.1;
    calls = λ x less. subst (λ (o : Option site.OpenCall). IsCall story o (m.calls x)) (past it rest x less)
        (left.calls x (chain last it.n x left.rising.0 less));
    live = λ x call less. left.live x call (chain last it.n x left.rising.0 less);
    deps = left.deps;
    free = λ less. sym (ap is_free (past it rest n less)) ∙ left.free (chain last it.n n left.rising.0 less);
  }

  -- .. where that one is taken
  left_taken : (m : Moment) (last : ℕ) (it : site.OpenCall) (rest : List site.OpenCall) (was mid : CloudView L)
      → Left m last (it ∷ rest) was → mid.effects ≡ (taking m it.n).effects → mid.is_stale ≡ false
      → Left (taking m it.n) it.n rest mid
  left_taken m last it rest was mid left effects whole = record {
    effects = effects;
    whole = whole;
    rising = left.rising.1;
    calls = λ x less. subst (λ (o : Option OpenCall). IsCall story (find (is_of x) rest) o) (sym (calls_taken m it.n x less))
        (subst (λ (o : Option site.OpenCall). IsCall story o (m.calls x)) (past it rest x less)
        (left.calls x (chain last it.n x left.rising.0 less)));
    live = λ x call less is. left.live x call (chain last it.n x left.rising.0 less) (sym (calls_taken m it.n x less) ∙ is);
    deps = left.deps;
    free = λ less. sym (ap is_free (past it rest n less)) ∙ left.free (chain last it.n n left.rising.0 less);
  }

  -- the call may be taken, and this is its effect
  pub record IsTaken (m : Moment) (x : ℕ) (news : List Entry) : Type 0 where
    pub call : OpenCall
    pub is_open : m.calls x ≡ Some call
    pub may : may_take outside m x ≡ true
    pub news_are : news ≡ effect_of m.known call.begin ∷ []

  -- a call whose effect is to come has none, or may be taken
  either : (m : Moment) (last : ℕ) (it : site.OpenCall) (rest : List site.OpenCall) (was : CloudView L)
      → Left m last (it ∷ rest) was → stopping.comes firing (it.n == n) it.place ≡ true
      → (stopping.new_effects_of was (stopping.effect_of records it.n) ≡ [])
      ⊎ IsTaken m it.n (stopping.new_effects_of was (stopping.effect_of records it.n))
  either m last it rest was left hit = with_dep (current.dep_of records begin.owner) refl
    where
      unperformed : (b : Bool) (place : Option ℕ) → (it.n == n) ≡ b → it.place ≡ place
          → stopping.comes firing b place ≡ true → it.place ≡ None
      unperformed false None other is comes = is
      unperformed false (Some place) other is comes = absurd (false≢true comes)
      unperformed true None same is comes = is
      unperformed true (Some place) same is comes =
          absurd (false≢true ((λ j. not (is_some (sym is j)))
          ∙ (λ j. if sym same j then not (is_some it.place) else is_free (find (is_of n) rest))
          ∙ at_first (it.n == n) refl ∙ left.free (subst (λ (k : ℕ). last < k) (eqb-true it.n n same) left.rising.0)))
        where
          at_first : (b : Bool) → (it.n == n) ≡ b
              → (if b then not (is_some it.place) else is_free (find (is_of n) rest)) ≡ is_performable (it ∷ rest) n
          at_first true one = rw one refl
          at_first false one = rw one refl

      found : (call : OpenCall) × (m.calls it.n ≡ Some call) × (call.did ≡ None)
      found = not_done story it (m.calls it.n)
          (subst (λ (o : Option site.OpenCall). IsCall story o (m.calls it.n)) (here it rest) (left.calls it.n left.rising.0))
          (unperformed (it.n == n) it.place refl refl hit)

      begin : Begin
      begin = found.0.begin

      news : List Entry
      news = stopping.new_effects_of was (stopping.effect_of records it.n)

      by_begin : stopping.effect_of records it.n ≡ option_map (stopping.effect_by begin) (current.dep_of records begin.owner)
      by_begin = ap (option_and_then (λ (b : Begin). option_map (stopping.effect_by b) (current.dep_of records b.owner)))
          (left.live it.n found.0 left.rising.0 found.1)

      with_dep : (d : Option (List ℕ)) → current.dep_of records begin.owner ≡ d → (news ≡ []) ⊎ IsTaken m it.n news
      with_dep None is =
          inl (ap (stopping.new_effects_of was) (by_begin ∙ ap (option_map (stopping.effect_by begin)) is))
      with_dep (Some dep) is = with_effect (has_effect (fate_of was begin.owner begin.call) was.effects begin.call) refl
        where
          all : news ≡ effects_if (has_effect (fate_of was begin.owner begin.call) was.effects begin.call)
              (stopping.effect_by begin dep)
          all = ap (stopping.new_effects_of was) (by_begin ∙ ap (option_map (stopping.effect_by begin)) is)

          with_effect : (b : Bool) → has_effect (fate_of was begin.owner begin.call) was.effects begin.call ≡ b
              → (news ≡ []) ⊎ IsTaken m it.n news
          with_effect false has = inl (all ∙ ap (λ (b : Bool). effects_if b (stopping.effect_by begin dep)) has)
          with_effect true has = inr (record {
            call = found.0;
            is_open = found.1;
            may = may_take_open outside m it.n found.0 found.1 found.2
                (subst (λ (effects : List Entry). takes_effect outside.built effects begin.call ≡ true) left.effects
                (subst (λ (f : KeyWork → List Digest → Digest). takes_effect f was.effects begin.call ≡ true) (sym built)
                (takes_under (fate_of was begin.owner begin.call) was.effects begin.call has)));
            news_are = all ∙ ap (λ (b : Bool). effects_if b (stopping.effect_by begin dep)) has
                ∙ (λ j. entries.Effect (record {
                  n = begin.n;
                  owner = begin.owner;
                  dep = sym (left.deps begin.owner dep is) j;
                  call = begin.call;
                }) ∷ []);
          })

  -- all that come may be taken
  pub all_taken : (m : Moment) (last : ℕ) (rest : List site.OpenCall) (was now : CloudView L) (came : Bool)
      (cause : Option Cause) → Left m last rest was
      → stopping.EachTakes bodies faults records firing n came rest was cause now → HasTaken outside m last now
  all_taken m last [] was now came cause left (is, same) = record {
    took = [];
    may = tt;
    effects = ap (λ (it : CloudView L). it.effects) same ∙ left.effects;
    more = none_more outside m last [] now.is_stale now.pending (ap (λ (it : CloudView L). it.is_stale) same ∙ left.whole);
  }
  all_taken m last (it ∷ rest) was now came cause left (inl (miss, each)) =
      taken_lower outside m last it.n now left.rising.0
      (all_taken m it.n rest was now came cause (left_after m last it rest was was left left.effects left.whole) each)
  all_taken m last (it ∷ rest) was now came cause left (inr (inl (hit, (mid, (takes, each))))) =
      by (either m last it rest was left hit)
      (λ (next : Moment) (so : Left next it.n rest mid). all_taken next it.n rest mid now true cause so each)
    where
      by : (stopping.new_effects_of was (stopping.effect_of records it.n) ≡ [])
          ⊎ IsTaken m it.n (stopping.new_effects_of was (stopping.effect_of records it.n))
          → ((next : Moment) → Left next it.n rest mid → HasTaken outside next it.n now) → HasTaken outside m last now
      by (inl nothing) others = taken_lower outside m last it.n now left.rising.0
          (others m (left_after m last it rest was mid left
          (takes.does.notes.2 ∙ ap (λ es. was.effects ++ es) nothing ∙ append-nil was.effects ∙ left.effects)
          takes.does.notes.1))
      by (inr taken) others = taken_then outside m last it.n now
          (and_from (nat_lt last it.n) (may_take outside m it.n) (lt-ltb last it.n left.rising.0) taken.may)
          (others (taking m it.n) (left_taken m last it rest was mid left
          (takes.does.notes.2 ∙ ap (λ es. was.effects ++ es) taken.news_are
          ∙ ap (λ es. es ++ effect_of m.known taken.call.begin ∷ []) left.effects
          ∙ sym (taken_effects m it.n taken.call taken.is_open))
          takes.does.notes.1))
  all_taken m last (it ∷ rest) was now came cause left (inr (inr (hit, (fault, (takes, because))))) =
      by fault takes
    where
      stays : now.effects ≡ was.effects → now.is_stale ≡ false → HasTaken outside m last now
      stays effects whole = record {
        took = [];
        may = tt;
        effects = effects ∙ left.effects;
        more = none_more outside m last [] now.is_stale now.pending whole;
      }

      by : (f : CloudFault) → stopping.Takes bodies faults (Err f) was (stopping.effect_of records it.n) now
          → HasTaken outside m last now
      by cloud.Memory failed = stays failed.does.notes.2 failed.does.notes.1
      by cloud.Broken failed = absurd (false≢true (sym left.whole ∙ failed.does.notes.0))
      by (cloud.Damaged place) failed = absurd failed.does.notes
      by cloud.StoreFault failed = record {
        took = [];
        may = tt;
        effects = failed.does.notes.2 ∙ left.effects;
        more = pends (either m last it rest was left hit);
      }
        where
          pends : (stopping.new_effects_of was (stopping.effect_of records it.n) ≡ [])
              ⊎ IsTaken m it.n (stopping.new_effects_of was (stopping.effect_of records it.n))
              → MayTakeMore outside m last [] now.is_stale now.pending
          pends (inl nothing) =
              absurd (subst (λ (es : List Entry). IsPending es now.pending) nothing failed.does.notes.3)
          pends (inr taken) =
              let named : IsPending (effect_of m.known taken.call.begin ∷ []) now.pending =
              subst (λ (es : List Entry). IsPending es now.pending) taken.news_are failed.does.notes.3 in
              subst (λ (b : Bool). MayTakeMore outside m last [] b now.pending) (sym failed.does.notes.1)
              (subst (λ (o : Option (List ℕ)). MayTakeMore outside m last [] true o) (sym named.0) (
                effect_of m.known taken.call.begin,
                named.1,
                (
                  it.n ∷ [],
                  (
                    (and_from (nat_lt last it.n) (may_take outside m it.n) (lt-ltb last it.n left.rising.0) taken.may, tt),
                    taken_effects m it.n taken.call taken.is_open,
                  ),
                ),
              ))
