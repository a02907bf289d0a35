-- Where the changed instances of a task stand in their groups, once each is told its place.
use Rattle.std.proofs.Common.{◌≡◌, ◌∙◌, ℕ, ◌+◌, Bool, true, false, not, List, [], ◌∷◌, map, Option, Some, None}
use Rattle.std.proofs.Common.{ap, arith, refl, suc, sym}
use Rattle.std.specs.Prelude.{fold, option_map, slice_get}
use Rattle.std.specs.List.{enumerate_from}
use Rattle.std.specs.Option.{option_and_then, option_map_or}
use Rattle.std.specs.Str.{bytes_eq}
use Rattle.std.proofs.lemmas.Bool.{and_parts, not-true}
use Rattle.bosh_base.specs.Inst.{inst_cmp}
use Rattle.bosh_base.specs.declared.inst.Inst.{Inst}
use Rattle.bosh_fold.specs.Tasks.{change_set, changes_set, group_set, places_set}
use Rattle.bosh_history.specs.Goals.{changed_in}
use Rattle.bosh_history.specs.Known.{Task}
use Rattle.bosh_history.specs.Words.{is_among}
use Rattle.bosh_progress.specs.Tree.{first_marked}
use Rattle.bosh_records.specs.Instances.{with_change}
use Rattle.bosh_records.specs.Table.{altered, found}
use Rattle.bosh_records.specs.declared.instances.Instance.{Instance}
use Rattle.bosh_rows.specs.Same.{same_inst}
use Rattle.bosh_rows.specs.SoundSnapshot.{are_distinct}
use Rattle.bosh_work.specs.declared.groups.GroupWork.{GroupWork}
use Rattle.bosh_work.specs.declared.part.GroupPlace.{GroupPlace}
use Rattle.laws_stands.proofs.MemberLemmas.{apart_filtered, bytes_is, member_out, members_are, once_apart}
use Rattle.laws_stands.specs.GroupsStand.{EachStands, GroupStands, GroupsStand, both_places, change_place, members, names_of}
use Rattle.laws_stands.specs.LineStands.{place_of}
use Rattle.laws_stands_on.proofs.KeyLemmas.{inst_keys}
use Rattle.laws_stands_opened.proofs.InstLemmas.{inst_as}
use Rattle.laws_stands_opened.proofs.SetLemmas.{found_placed, from_zero, no_place, placed, sets, shifted}
use Rattle.laws_tasks.proofs.CountLemmas.{not_left}

-- an instance has its place in a group
abbrev at_group : ℕ → ℕ → Instance → Instance
at_group group place = with_change (Some (record { group = group; place = place }))

-- .. of a list, from a number on
abbrev members_set : ℕ → ℕ → List Inst → List (Inst × Instance) → List (Inst × Instance)
members_set group n items es = sets inst_cmp inst_keys same_inst inst_as (λ i. i) (at_group group) n items es

-- places that are those of their items tell just those items
places_are : (changed : List Inst) (group n : ℕ) (ms : List (ℕ × Inst))
    → ((j : ℕ) (e : ℕ × Inst) → slice_get ms j ≡ Some e → slice_get changed e.0 ≡ Some e.1)
    → (es : List (Inst × Instance))
    → fold (change_set changed group) es (enumerate_from n (map (λ e. e.0) ms))
    ≡ members_set group n (map (λ e. e.1) ms) es
places_are changed group n [] each es = refl
places_are changed group n (m ∷ ms) each es =
    (λ j. fold (change_set changed group)
    (option_map_or (λ inst. altered inst_cmp inst (at_group group n) es) (each 0 m refl j) es)
    (enumerate_from (n + 1) (map (λ e. e.0) ms)))
    ∙ places_are changed group (n + 1) ms (λ j e is. each (suc j) e is) (altered inst_cmp m.1 (at_group group n) es)

-- something is said of an instance at a place, where there is one
abbrev pub changed_at : Option GroupPlace → Option Instance → Option Instance
changed_at None o = o
changed_at (Some place) o = option_map (with_change (Some place)) o

module _ (t : Task) (idle : Inst → Bool) (apart : are_distinct same_inst t.changed ≡ true) where
  -- the members of one group
  group_found : (group : ℕ) (name : List ℕ) (it : GroupWork) → GroupStands t idle name it
      → (es : List (Inst × Instance)) (i : Inst)
      → found inst_cmp (places_set t.changed group es it.places) i
      ≡ placed inst_cmp inst_keys same_inst inst_as (λ (i : Inst). i) (at_group group)
      (place_of same_inst i (changed_in t name)) (found inst_cmp es i)
  group_found group name it stands es i =
      ap (λ places. found inst_cmp (places_set t.changed group es places) i) stands.places_are
      ∙ ap (λ es. found inst_cmp es i) (places_are t.changed group 0 (members t name) each es)
      ∙ ap (λ items. found inst_cmp (members_set group 0 items es) i)
      (members_are (λ i. bytes_eq i.group name) 0 t.changed)
      ∙ found_placed inst_cmp inst_keys same_inst inst_as (at_group group) (changed_in t name) es i
      (apart_filtered same_inst (λ i. bytes_eq i.group name) t.changed apart)
    where
      each : (j : ℕ) (e : ℕ × Inst) → slice_get (members t name) j ≡ Some e → slice_get t.changed e.0 ≡ Some e.1
      each j e is =
          let r : (n : ℕ) × (e.0 ≡ 0 + n) × (slice_get t.changed n ≡ Some e.1) × (bytes_eq e.1.group name ≡ true) =
          member_out (λ i. bytes_eq i.group name) 0 t.changed j e is in
          let same : e.0 ≡ r.0 = (let a : e.0 ≡ 0 + r.0 = r.1 in omega arith) in
          ap (slice_get t.changed) same ∙ r.2

  -- the place of an instance among groups of these names, from a number on
  abbrev place_from : ℕ → List (List ℕ) → Inst → Option GroupPlace
  place_from n names i =
      both_places (option_map (λ g. n + g) (place_of bytes_eq i.group names)) (place_of same_inst i (changed_in t i.group))

  in_group : (group : ℕ) (place : Option ℕ) (o : Option Instance)
      → placed inst_cmp inst_keys same_inst inst_as (λ (i : Inst). i) (at_group group) place o
      ≡ changed_at (both_places (Some group) place) o
  in_group group (Some place) o = refl
  in_group group None o = refl

  -- all groups, from a number on
  groups_found : (n : ℕ) (names : List (List ℕ)) (groups : List GroupWork) → EachStands t idle names groups
      → are_distinct bytes_eq names ≡ true → (es : List (Inst × Instance)) (i : Inst)
      → found inst_cmp (fold (group_set t.changed) es (enumerate_from n groups)) i
      ≡ changed_at (place_from n names i) (found inst_cmp es i)
  groups_found n [] [] each distinct es i = refl
  groups_found n [] (it ∷ groups) each distinct es i = absurd each
  groups_found n (name ∷ names) [] each distinct es i = absurd each
  groups_found n (name ∷ names) (it ∷ groups) (here, more) distinct es i =
      let (first, rest) = and_parts (not (is_among bytes_eq name names)) (are_distinct bytes_eq names) distinct in
      groups_found (n + 1) names groups more rest (places_set t.changed n es it.places) i
      ∙ by (bytes_eq i.group name) refl (not-true (is_among bytes_eq name names) first)
    where
      by : (b : Bool) → bytes_eq i.group name ≡ b → is_among bytes_eq name names ≡ false
          → changed_at (place_from (n + 1) names i) (found inst_cmp (places_set t.changed n es it.places) i)
          ≡ changed_at (both_places (option_map (λ g. n + g) (first_marked (b ∷ map (bytes_eq i.group) names)))
          (place_of same_inst i (changed_in t i.group))) (found inst_cmp es i)
      by true same first =
          (λ j. changed_at (both_places (option_map (λ g. n + 1 + g) (none j)) (place_of same_inst i (changed_in t i.group)))
          (group_found n name it here es i j))
          ∙ in_group n (place_of same_inst i (changed_in t name)) (found inst_cmp es i)
          ∙ (λ j. changed_at (both_places (Some (zero j))
          (place_of same_inst i (changed_in t (sym (bytes_is i.group name same) j)))) (found inst_cmp es i))
        where
          none : place_of bytes_eq i.group names ≡ None
          none = no_place bytes_eq i.group names
              (ap (λ name. is_among bytes_eq name names) (bytes_is i.group name same) ∙ first)

          zero : n ≡ n + 0
          zero = omega arith
      by false other first =
          (λ j. changed_at (both_places (shifted n (place_of bytes_eq i.group names) j)
          (place_of same_inst i (changed_in t i.group)))
          (group_found n name it here es i j))
          ∙ (λ j. changed_at (both_places (option_map (λ g. n + g) (option_map suc (place_of bytes_eq i.group names)))
          (place_of same_inst i (changed_in t i.group)))
          (placed inst_cmp inst_keys same_inst inst_as (λ (i : Inst). i) (at_group n) (nowhere j) (found inst_cmp es i)))
        where
          nowhere : place_of same_inst i (changed_in t name) ≡ None
          nowhere = no_place same_inst i (changed_in t name) (not_left (λ i. bytes_eq i.group name) i other t.changed)

  -- each changed instance is told its place, and no other
  pub changes_found : (groups : List GroupWork) → GroupsStand t idle groups → (es : List (Inst × Instance)) (i : Inst)
      → found inst_cmp (changes_set t.changed groups es) i ≡ changed_at (change_place t.changed i) (found inst_cmp es i)
  changes_found groups stands es i =
      groups_found 0 (names_of t.changed) groups stands (once_apart (map (λ i. i.group) t.changed)) es i
      ∙ (λ j. changed_at (both_places (from_zero (place_of bytes_eq i.group (names_of t.changed)) j)
      (place_of same_inst i (changed_in t i.group))) (found inst_cmp es i))

-- what no place changes is read as before
pub changed_kept : {Y : Type 0} (read : Instance → Option Y)
    → ((place : Option GroupPlace) (known : Instance) → read (with_change place known) ≡ read known)
    → (place : Option GroupPlace) (o : Option Instance)
    → option_and_then read (changed_at place o) ≡ option_and_then read o
changed_kept read same (Some place) (Some known) = same (Some place) known
changed_kept read same (Some place) None = refl
changed_kept read same None o = refl
