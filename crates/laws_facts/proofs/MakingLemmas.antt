-- That machines are made in their deployments is kept by each move: machines are made for instances and for compile machines, in the deployments of these.
use Rattle.std.proofs.Common.{◌≡◌, ◌∙◌, ℕ, Bool, true, false, ◌&&◌, List, [], ◌∷◌, ◌++◌, Option, Some, None}
use Rattle.std.proofs.Common.{ap, refl, sym, subst, fold, append-nil}
use Rattle.std.specs.Prelude.{◌==◌, if◌then◌else◌, is_some, nat_le}
use Rattle.std.specs.Option.{option_eq}
use Rattle.std.specs.Str.{bytes_eq}
use Rattle.std.proofs.lemmas.Bool.{and_from, and_parts, eqb-true, false≢true}
use Rattle.std.proofs.lemmas.Slice.Eq.{bytes_eq-Decides}
use Rattle.bosh_base.specs.Cloud.{creates_vm, vm_creation}
use Rattle.bosh_base.specs.declared.call.Call.{Call}
use Rattle.bosh_base.specs.declared.call.Call.TheVariants as calls
use Rattle.bosh_base.specs.declared.answer.Answer.TheVariants.{Failed}
use Rattle.bosh_base.specs.declared.entry.Entry.{Entry}
use Rattle.bosh_base.specs.declared.entry.Entry.TheVariants as entries
use Rattle.bosh_base.specs.declared.moves.Did.{Did}
use Rattle.bosh_base.specs.declared.moves.Move.{Move}
use Rattle.bosh_base.specs.declared.moves.Move.TheVariants as moves
use Rattle.bosh_base.specs.declared.moves.Stop as stop
use Rattle.bosh_base.specs.declared.owner.Owner.{Owner}
use Rattle.bosh_base.specs.declared.owner.Owner.TheVariants.{Compile, Disk, Instance}
use Rattle.bosh_base.specs.declared.row.DiskRow.{DiskRow}
use Rattle.laws_effects.proofs.CreationLemmas.{vm_creation-grown}
use Rattle.laws_facts.specs.KnownFacts.{KnownFacts}
use Rattle.laws_facts.specs.OpenCalls.{fits_known, fits_slot, is_on_orphan}
use Rattle.laws_row_facts.specs.Words.{where_any}
use Rattle.bosh_history.specs.Known.{Slot, dep_named}
use Rattle.bosh_history.specs.Learn.{learn}
use Rattle.bosh_history.specs.Moments.{Moment, OpenCall, call_effects, dep_of, keeping, later, performed_call, performing, taking, with_written, write_to}
use Rattle.bosh_history.specs.Notes.{Outside}
use Rattle.bosh_history.specs.Permitted.{IsPermitted, MayKeep, MayWrite, Stops}
use Rattle.bosh_history.specs.Words.{holds}
use Rattle.bosh_rows.specs.Disks.{active}
use Rattle.laws_facts.proofs.MadeLemmas.{AreMade, SameTasks, made_as, made_grown, made_written, same_tasks}
use Rattle.laws_facts.specs.Kept.{AreMadeInTheirDeployments}
use Rattle.laws_facts.specs.Makers.{is_in_deployment_of, is_made_in_its_deployment}

-- ---- open calls

-- an open call that makes a machine is an instance's, or a compile machine's of a task that was opened
abbrev pub CanMake : Moment → Type 0
CanMake m =
    (n : ℕ) (call : OpenCall) → m.calls n ≡ Some call → creates_vm call.begin.call ≡ true
    → is_in_deployment_of m.known (dep_of m.known call.begin.owner) call.begin.owner ≡ true

bytes_self : (text : List ℕ) → bytes_eq text text ≡ true
bytes_self text = (bytes_eq-Decides text text).1 refl

no_disk_makes : (d : ℕ) (call : Call) (some : Bool) → creates_vm call ≡ true
    → (is_on_orphan call d && some) ≡ true → ⊥
no_disk_makes d (calls.CreateVm make disks) some makes fits = false≢true fits
no_disk_makes d call some makes fits = false≢true makes

pub can_make : (m : Moment) → KnownFacts m → CanMake m
can_make m facts n call is makes = by call.begin.owner refl ((facts.calls n call is).fits)
  where
    of_slot : (t s : ℕ) (slot : Option Slot) → m.known.slot t s ≡ slot
        → holds (fits_slot call.begin.n call.begin.call) slot ≡ true
        → (nat_le 1 t ≡ true) × (nat_le t m.known.tasks ≡ true)
    of_slot t s None is fits = absurd (false≢true fits)
    of_slot t s (Some it) is fits =
        let own : (nat_le 1 t && (nat_le t m.known.tasks
        && option_eq bytes_eq (Some it.dep) (m.known.task t).dep)) ≡ true =
        (λ j. where_any (λ (it : Slot). nat_le 1 t && (nat_le t m.known.tasks
        && option_eq bytes_eq (Some it.dep) (m.known.task t).dep)) (sym is j)) ∙ facts.numbers.of_tasks t s in
        let (first, rest) = and_parts (nat_le 1 t) _ own in
        (first, (and_parts (nat_le t m.known.tasks) _ rest).0)

    by : (owner : Owner) → call.begin.owner ≡ owner → fits_known m.known call.begin call.begin.owner ≡ true
        → is_in_deployment_of m.known (dep_of m.known call.begin.owner) call.begin.owner ≡ true
    by (Instance i) own fits =
        (λ j. is_in_deployment_of m.known (dep_of m.known (own j)) (own j)) ∙ bytes_self i.dep
    by (Compile t s) own fits =
        let (first, within) =
        of_slot t s (m.known.slot t s) refl ((λ j. fits_known m.known call.begin (sym own j)) ∙ fits) in
        (λ j. is_in_deployment_of m.known (dep_of m.known (own j)) (own j))
        ∙ and_from (nat_le 1 t) _ first
        (and_from (nat_le t m.known.tasks) _ within (bytes_self (dep_named (m.known.task t).dep)))
    by (Disk d) own fits =
        absurd (no_disk_makes d call.begin.call (is_some (m.known.orphan d)) makes
        ((λ j. fits_known m.known call.begin (sym own j)) ∙ fits))

-- the call that was open, where one is once a call was performed
pub record WasOpen (m : Moment) (n : ℕ) (call : OpenCall) : Type 0 where
  pub old : OpenCall
  pub is : m.calls n ≡ Some old
  pub begin : old.begin ≡ call.begin

pub was_open : (m : Moment) (d : Did) (n : ℕ) (call : OpenCall) → (performing m d).calls n ≡ Some call
    → WasOpen m n call
was_open m d n call is = by (d.n == n) refl is
  where
    by_call : (old : Option OpenCall) → m.calls d.n ≡ old → d.n ≡ n → performed_call d old ≡ Some call
        → WasOpen m n call
    by_call (Some old) there same is = record {
      old = old;
      is = ap m.calls (sym same) ∙ there;
      begin = ap (λ (it : OpenCall). it.begin) (inside is);
    }
      where
        inside : Some (record old { did = Some d }) ≡ Some call → record old { did = Some d } ≡ call
        inside is = cc
    by_call None there same is = absurd cc

    by : (b : Bool) → (d.n == n) ≡ b → (if b then performed_call d (m.calls d.n) else m.calls n) ≡ Some call
        → WasOpen m n call
    by true same is = by_call (m.calls d.n) refl (eqb-true d.n n same) is
    by false other is = record { old = call; is = is; begin = refl }

pub can_performed : (m : Moment) (d : Did) → CanMake m → CanMake (performing m d)
can_performed m d can n call is makes =
    let it : WasOpen m n call = was_open m d n call is in
    (λ j. is_in_deployment_of m.known (dep_of m.known (sym it.begin j).owner) (sym it.begin j).owner)
    ∙ can n it.old it.is ((λ j. creates_vm (it.begin j).call) ∙ makes)

pub made_performed : (m : Moment) (d : Did) → CanMake m → AreMade m.known m.effects
    → AreMade m.known (performing m d).effects
made_performed m d can made = by d.effect (m.calls d.n) refl
  where
    none : (xs : List Entry) → xs ≡ [] → AreMade m.known (m.effects ++ xs)
    none xs is v = (λ j. is_made_in_its_deployment m.known (vm_creation (m.effects ++ is j) v))
        ∙ (λ j. is_made_in_its_deployment m.known (vm_creation (append-nil m.effects j) v)) ∙ made v

    by : (has : Bool) (call : Option OpenCall) → m.calls d.n ≡ call
        → AreMade m.known (m.effects ++ call_effects m has call)
    by true (Some call) is =
        made_grown m.known m.effects
        (record {
          n = call.begin.n;
          owner = call.begin.owner;
          dep = dep_of m.known call.begin.owner;
          call = call.begin.call;
        }) made (can d.n call is)
    by true None is = none [] refl
    by false call is = none [] refl

-- ---- moves

made_taken : (m : Moment) (took : List ℕ) → CanMake m → AreMade m.known m.effects
    → AreMade (fold taking m took).known (fold taking m took).effects
made_taken m [] can made = made
made_taken m (n ∷ took) can made =
    made_taken (taking m n) took (can_performed m (record { n = n; effect = true; answer = Failed }) can)
    (made_performed m (record { n = n; effect = true; answer = Failed }) can made)

can_written : (m : Moment) (wrote : Option Entry) → MayWrite m wrote → CanMake m → CanMake (with_written m wrote)
can_written m (Some (entries.Write w)) may can = can
can_written m (Some (entries.Lost loss)) may can = can
can_written m (Some entry) may can = absurd may
can_written m None may can = can

made_with : (m : Moment) (wrote : Option Entry) → MayWrite m wrote → AreMade m.known m.effects
    → AreMade (with_written m wrote).known (with_written m wrote).effects
made_with m (Some (entries.Write w)) may made =
    made_written m.known m.effects (entries.Write w) (λ v. vm_creation-grown m.effects (entries.Write w) v) made
made_with m (Some (entries.Lost loss)) may made =
    made_written m.known m.effects (entries.Lost loss) (λ v. vm_creation-grown m.effects (entries.Lost loss) v) made
made_with m (Some entry) may made = absurd may
made_with m None may made = made

made_kept_by : (outside : Outside) (m n : Moment) (kept : Option Entry) → n.known ≡ m.known → MayKeep outside m kept
    → AreMade n.known n.effects → AreMade (keeping n kept).known (keeping n kept).effects
made_kept_by outside m n None same may made v = made v
made_kept_by outside m n (Some e) same may made v =
    made_as n.known (learn n.known e) (vm_creation n.effects v)
    (subst (λ k. SameTasks k (learn k e)) (sym same) (same_tasks outside m e may.0)) (made v)

pub known_taken : (m : Moment) (took : List ℕ) → (fold taking m took).known ≡ m.known
known_taken m [] = refl
known_taken m (n ∷ took) = known_taken (taking m n) took

pub known_written : (m : Moment) (wrote : Option Entry) → MayWrite m wrote → (with_written m wrote).known ≡ m.known
known_written m (Some (entries.Write w)) may = refl
known_written m (Some (entries.Lost loss)) may = refl
known_written m (Some entry) may = absurd may
known_written m None may = refl

-- the moment at which a stop finds the site, before the entry that it kept
abbrev found : Moment → stop.Stop → Moment
found m s = fold taking (with_written m s.wrote) s.took

made_at_stop : (outside : Outside) (m : Moment) (s : stop.Stop) → Stops outside m s → KnownFacts m
    → AreMade m.known m.effects → AreMade (found m s).known (found m s).effects
made_at_stop outside m s may facts made =
    made_taken (with_written m s.wrote) s.took (can_written m s.wrote may.wrote (can_make m facts))
    (made_with m s.wrote may.wrote made)

pub made_move : (outside : Outside) (m : Moment) (move : Move) → IsPermitted outside m move → KnownFacts m
    → AreMade m.known m.effects → AreMade (later m move).known (later m move).effects
made_move outside m (moves.Note e) may facts made v =
    made_as m.known (learn m.known e) (vm_creation m.effects v) (same_tasks outside m e may.2) (made v)
made_move outside m (moves.Did d) may facts made v = made_performed m d (can_make m facts) made v
made_move outside m (moves.Wrote w) may facts made v = by (active (m.known.row w.inst).disks) v
  where
    by : (d : Option DiskRow) → AreMade m.known (m.effects ++ write_to w.text d)
    by (Some d) v =
        made_written m.known m.effects (entries.Write (record { disk = d.disk; text = w.text }))
        (λ v. vm_creation-grown m.effects (entries.Write (record { disk = d.disk; text = w.text })) v) made v
    by None v = (λ j. is_made_in_its_deployment m.known (vm_creation (append-nil m.effects j) v)) ∙ made v
made_move outside m (moves.Halt cause) may facts made v = made v
made_move outside m (moves.Stop s) may facts made v =
    made_kept_by outside m (found m s) s.kept
    (known_taken (with_written m s.wrote) s.took ∙ known_written m s.wrote may.wrote) may.kept
    (made_at_stop outside m s may facts made) v
made_move outside m (moves.Lost loss) may facts made v =
    made_written m.known m.effects (entries.Lost loss) (λ v. vm_creation-grown m.effects (entries.Lost loss) v) made v
made_move outside m (moves.Said said) may facts made v = made v

-- it is kept by each permitted move
pub made_kept : (outside : Outside) (m : Moment) (move : Move) → IsPermitted outside m move → KnownFacts m
    → AreMadeInTheirDeployments (later m move)
made_kept outside m move may facts = made_move outside m move may facts facts.makers
