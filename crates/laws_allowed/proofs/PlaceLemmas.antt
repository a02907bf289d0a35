-- Where a changed instance stands among the groups of the open task of its deployment.
use Rattle.std.proofs.Common.{◌≡◌, ◌∙◌, ℕ, suc, Bool, true, false, ◌||◌, List, [], ◌∷◌, map, Option, Some, None}
use Rattle.std.proofs.Common.{ap, refl, sym, subst}
use Rattle.std.specs.Prelude.{slice_get}
use Rattle.std.specs.Option.{option_and_then, option_map, option_map_or}
use Rattle.std.specs.Str.{bytes_eq}
use Rattle.std.proofs.lemmas.Bool.{false≢true}
use Rattle.bosh_base.specs.declared.inst.Inst.{Inst}
use Rattle.bosh_claim.specs.Beginning.{change_of}
use Rattle.bosh_history.specs.Goals.{changed_in}
use Rattle.bosh_history.specs.Known.{Task}
use Rattle.bosh_history.specs.Moments.{Moment}
use Rattle.bosh_history.specs.Words.{is_among}
use Rattle.bosh_progress.specs.Tree.{first_marked}
use Rattle.bosh_records.specs.Places.{part_of}
use Rattle.bosh_records.specs.Readers.{instance_at}
use Rattle.bosh_records.specs.Recorded.{recorded}
use Rattle.bosh_records.specs.declared.instances.Instance.{Instance}
use Rattle.bosh_records.specs.declared.records.Records.{Records}
use Rattle.bosh_rows.specs.Same.{same_inst}
use Rattle.bosh_work.specs.Part.{no_part}
use Rattle.bosh_work.specs.declared.groups.GroupWork.{GroupWork}
use Rattle.bosh_work.specs.declared.part.GroupPlace.{GroupPlace}
use Rattle.bosh_work.specs.declared.part.Part.{Part}
use Rattle.laws_allowed.proofs.WorkingLemmas.{IsAtWork}
use Rattle.laws_choices.proofs.ReadLemmas.{dep_is}
use Rattle.laws_facts.specs.KnownFacts.{KnownFacts}
use Rattle.laws_facts.specs.Owners.{works}
use Rattle.laws_items.proofs.ListedLemmas.{WorksAt, names_its_own, works_at}
use Rattle.laws_stands.proofs.MemberLemmas.{among_from, bytes_is, bytes_same, inst_is, named_at}
use Rattle.laws_stands.proofs.StageLemmas.{filtered_in}
use Rattle.laws_stands.specs.Choosing.{idle_at}
use Rattle.laws_stands.specs.GroupsStand.{EachStands, GroupStands, GroupsStand, both_places, change_place, names_of}
use Rattle.laws_stands.specs.LineStands.{place_of}

-- an item of a list has a place there
pub has_place : {T : Type 0} (same : T → T → Bool) → ((a b : T) → same a b ≡ true → a ≡ b) → (x : T) (xs : List T)
    → is_among same x xs ≡ true → (j : ℕ) × (place_of same x xs ≡ Some j) × (slice_get xs j ≡ Some x)
has_place same decides x [] is = absurd (false≢true is)
has_place same decides x (y ∷ xs) is = by (same x y) refl is (λ is. has_place same decides x xs is)
  where
    by : (b : Bool) → same x y ≡ b → (b || is_among same x xs) ≡ true
        → (is_among same x xs ≡ true → (j : ℕ) × (place_of same x xs ≡ Some j) × (slice_get xs j ≡ Some x))
        → (j : ℕ) × (first_marked (b ∷ map (same x) xs) ≡ Some j) × (slice_get (y ∷ xs) j ≡ Some x)
    by true here is more = (0, refl, ap Some (sym (decides x y here)))
    by false other is more = let r : (j : ℕ) × (place_of same x xs ≡ Some j) × (slice_get xs j ≡ Some x) =
        more is in (suc r.0, ap (option_map suc) r.1, r.2)

-- the group of a name stands at the first place of the name
pub at_first : (t : Task) (idle : Inst → Bool) (names : List (List ℕ)) (groups : List GroupWork) (name : List ℕ)
    → EachStands t idle names groups → is_among bytes_eq name names ≡ true
    → (g : ℕ) × (it : GroupWork) × (place_of bytes_eq name names ≡ Some g) × (slice_get groups g ≡ Some it)
    × GroupStands t idle name it
at_first t idle [] groups name each is = absurd (false≢true is)
at_first t idle (other ∷ names) [] name each is = absurd each
at_first t idle (other ∷ names) (it ∷ groups) name (here, more) is =
    by (bytes_eq name other) refl is (λ is. at_first t idle names groups name more is)
  where
    by : (b : Bool) → bytes_eq name other ≡ b → (b || is_among bytes_eq name names) ≡ true
        → (is_among bytes_eq name names ≡ true
        → (g : ℕ) × (one : GroupWork) × (place_of bytes_eq name names ≡ Some g) × (slice_get groups g ≡ Some one)
        × GroupStands t idle name one)
        → (g : ℕ) × (one : GroupWork) × (first_marked (b ∷ map (bytes_eq name) names) ≡ Some g)
        × (slice_get (it ∷ groups) g ≡ Some one) × GroupStands t idle name one
    by true same is rest = (0, it, refl, refl, subst (λ n. GroupStands t idle n it) (sym (bytes_is name other same)) here)
    by false differs is rest =
        let r : (g : ℕ) × (one : GroupWork) × (place_of bytes_eq name names ≡ Some g) × (slice_get groups g ≡ Some one)
        × GroupStands t idle name one = rest is in
        (suc r.0, r.1, ap (option_map suc) r.2, r.3, r.4)

-- an instance that has a place is known
pub part_known : {A : Type 0} (f : Part → Option A) (records : Records) (i : Inst) (x : A) → f no_part ≡ None
    → f (part_of (recorded records) i) ≡ Some x
    → (it : Instance) × (instance_at records i ≡ Some it) × (f it.part ≡ Some x)
part_known f records i x nothing is = by (instance_at records i) refl is
  where
    by : (o : Option Instance) → instance_at records i ≡ o
        → f (option_map_or (λ (known : Instance). known.part) o no_part) ≡ Some x
        → (it : Instance) × (instance_at records i ≡ Some it) × (f it.part ≡ Some x)
    by (Some it) there is = (it, there, is)
    by None there is = let e : None ≡ Some x = sym nothing ∙ is in absurd cc

module _ (m : Moment) (records : Records) (n : ℕ) (at : IsAtWork m records n) (facts : KnownFacts m)
    (working : works m n ≡ true) (groups_stand : GroupsStand (m.known.task n) (idle_at m) at.work.groups) where
  abbrev t : Task
  t = m.known.task n

  -- the place of a changed instance, with its group
  pub record IsPlaced (i : Inst) : Type 0 where
    pub change : GroupPlace
    pub change_is : change_of records i ≡ Some change
    pub group : GroupWork
    pub there : slice_get at.work.groups change.group ≡ Some group
    pub stands : GroupStands t (idle_at m) i.group group
    pub listed : (q : ℕ) × (slice_get t.changed q ≡ Some i)
    pub item : slice_get (changed_in t i.group) change.place ≡ Some i

  pub placed : (i : Inst) → is_among same_inst i t.changed ≡ true → IsPlaced i
  placed i among =
      let q : (j : ℕ) × (place_of same_inst i t.changed ≡ Some j) × (slice_get t.changed j ≡ Some i) =
      has_place same_inst inst_is i t.changed among in
      let g : (g : ℕ) × (it : GroupWork) × (place_of bytes_eq i.group (names_of t.changed) ≡ Some g)
      × (slice_get at.work.groups g ≡ Some it) × GroupStands t (idle_at m) i.group it =
      at_first t (idle_at m) (names_of t.changed) at.work.groups i.group groups_stand (named_at t.changed q.0 i q.2) in
      let f : (j : ℕ) × (slice_get (changed_in t i.group) j ≡ Some i) =
      filtered_in (λ it. bytes_eq it.group i.group) t.changed q.0 i q.2 (bytes_same i.group) in
      let j : (j : ℕ) × (place_of same_inst i (changed_in t i.group) ≡ Some j)
      × (slice_get (changed_in t i.group) j ≡ Some i) =
      has_place same_inst inst_is i (changed_in t i.group) (among_from i (changed_in t i.group) f.0 f.1) in
      let change : GroupPlace = record { group = g.0; place = j.0 } in
      let here : change_place t.changed i ≡ Some change = (λ k. both_places (g.2 k) (j.1 k)) in
      let known : (it : Instance) × (instance_at records i ≡ Some it) × (it.part.change ≡ Some change) =
      part_known (λ (part : Part). part.change) records i change refl
      (at.stands.linked.changes n at.work i at.there
      (dep_is m at.snapped records at.stands n numbered.low numbered.high
      ∙ (names_its_own m n facts working).changing i among)
      ∙ ap (λ changed. change_place changed i) at.work_stands.changed_are ∙ here) in
      record {
        change = change;
        change_is = ap (option_and_then (λ (it : Instance). it.part.change)) known.1 ∙ known.2;
        group = g.1;
        there = g.3;
        stands = g.4;
        listed = (q.0, q.2);
        item = j.2;
      }
    where
      numbered : WorksAt m n
      numbered = works_at m n working
