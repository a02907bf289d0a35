-- The groups that stand for a task, and whose turn it is.
use Rattle.std.proofs.Common.{◌≡◌, ◌∙◌, ℕ, ◌+◌, ◌≤◌, zero, suc, Bool, true, false, ◌&&◌, ◌||◌, not, List, [], ◌∷◌}
use Rattle.std.proofs.Common.{map, take, Option, Some, None, ap, refl, sym, subst, arith, inl, inr}
use Rattle.std.specs.Prelude.{◌⊎◌, ◌==◌, find, is_some, nat_lt, slice_get, slice_index_or}
use Rattle.std.specs.List.{enumerate_from, list_all}
use Rattle.std.specs.Option.{option_and_then, option_map}
use Rattle.std.specs.Str.{bytes_eq}
use Rattle.std.proofs.lemmas.Bool.{and_from, and_parts, eq-eqb, eqb-true, false≢true}
use Rattle.std.proofs.lemmas.Option.{slice_get-map}
use Rattle.std.proofs.lemmas.Slice.Eq.{bytes_eq-Decides}
use Rattle.bosh_base.specs.declared.inst.Inst.{Inst}
use Rattle.bosh_history.specs.Goals.{canaries_first, canaries_of, changed_in, in_flight, is_waiting, limit_of, may_begin}
use Rattle.bosh_history.specs.Items.{is_finished, stage_of}
use Rattle.bosh_history.specs.Known.{Task, plan_in}
use Rattle.bosh_history.specs.Words.{is_among}
use Rattle.bosh_progress.specs.Rolling.{are_past, is_allowed}
use Rattle.bosh_progress.specs.Tree.{first_marked, marked_in}
use Rattle.bosh_roll.specs.Upd.{is_busy}
use Rattle.bosh_roll.specs.declared.upd.Upd.{Upd}
use Rattle.bosh_roll.specs.declared.upd.Upd.TheVariants.{Busy, Failed, Finished, Todo}
use Rattle.bosh_rows.specs.Same.{same_inst}
use Rattle.bosh_rows.proofs.SameLemmas.{itself}
use Rattle.bosh_work.specs.declared.part.GroupPlace.{GroupPlace}
use Rattle.bosh_work.specs.declared.groups.GroupWork.{GroupWork}
use Rattle.laws_stands.specs.GroupsStand.{CanUpdate, EachStands, GroupStands, GroupsStand, is_ready, names_of}
use Rattle.laws_stands.specs.GroupsStand.{members}
use Rattle.bosh_claim.specs.Updated.{first_place}
use Rattle.laws_stands.proofs.FirstLemmas.{Among, CanClaim, HasPlaces, HaveAll, IsFirst, IsFirstPlace, IsHere}
use Rattle.laws_stands.proofs.FirstLemmas.{among_in, among_out, first_among, first_marked_is, same_first}
use Rattle.laws_stands.proofs.MarkLemmas.{at_place, found, is_there, marked_as}
use Rattle.laws_stands.proofs.MemberLemmas.{among_first, among_from, apart_filtered, bytes_is, inst_is, member_in}
use Rattle.laws_stands.proofs.MemberLemmas.{member_out, members_are, members_rise, named_at, past_as, quiet_as}

-- ---- one group

module _ (t : Task) (idle : Inst → Bool) (can : CanUpdate t idle) where
  -- an instance of a group, by its place there
  pub record IsMember (group : List ℕ) (j q : ℕ) (i : Inst) : Type 0 where
    pub place : slice_get (map (λ e. e.0) (members t group)) j ≡ Some q
    pub item : slice_get (changed_in t group) j ≡ Some i
    pub among_changed : slice_get t.changed q ≡ Some i
    pub group_is : i.group ≡ group

  by_entry : (group : List ℕ) (j q : ℕ) (e : ℕ × Inst) → q ≡ e.0 → slice_get (members t group) j ≡ Some e
      → IsMember group j q e.1
  by_entry group j q e n is =
      let r : (n : ℕ) × (e.0 ≡ 0 + n) × (slice_get t.changed n ≡ Some e.1) × (bytes_eq e.1.group group ≡ true) =
      member_out (λ i. bytes_eq i.group group) 0 t.changed j e is in
      let m : r.0 ≡ q = (let a : e.0 ≡ 0 + r.0 = r.1 in omega arith) in
      record {
        place = slice_get-map (λ e. e.0) (members t group) j ∙ ap (option_map (λ e. e.0)) is ∙ ap Some (sym n);
        item = ap (λ is. slice_get is j) (sym (members_are (λ i. bytes_eq i.group group) 0 t.changed))
            ∙ slice_get-map (λ e. e.1) (members t group) j ∙ ap (option_map (λ e. e.1)) is;
        among_changed = ap (slice_get t.changed) (sym m) ∙ r.2;
        group_is = bytes_is e.1.group group r.3;
      }

  pub by_place : (group : List ℕ) (j q : ℕ) → slice_get (map (λ e. e.0) (members t group)) j ≡ Some q → (i : Inst)
      × IsMember group j q i
  by_place group j q is = by (slice_get (members t group) j) refl
      (sym (slice_get-map (λ e. e.0) (members t group) j) ∙ is)
    where
      by : (o : Option (ℕ × Inst)) → slice_get (members t group) j ≡ o → option_map (λ e. e.0) o ≡ Some q
          → (i : Inst) × IsMember group j q i
      by (Some e) there is = let n : q ≡ e.0 = cc in (e.1, by_entry group j q e n there)
      by None there is = absurd cc

  pub by_item : (group : List ℕ) (j : ℕ) (i : Inst) → slice_get (changed_in t group) j ≡ Some i → (q : ℕ)
      × IsMember group j q i
  by_item group j i is =
      by (slice_get (members t group) j) refl
      (sym (slice_get-map (λ e. e.1) (members t group) j)
      ∙ ap (λ is. slice_get is j) (members_are (λ i. bytes_eq i.group group) 0 t.changed) ∙ is)
    where
      by : (o : Option (ℕ × Inst)) → slice_get (members t group) j ≡ o → option_map (λ e. e.1) o ≡ Some i → (q : ℕ)
          × IsMember group j q i
      by (Some e) there is = let n : e.1 ≡ i =
          cc in (e.0, subst (IsMember group j e.0) n (by_entry group j e.0 e refl there))
      by None there is = absurd cc

  pub by_changed : (i : Inst) (q : ℕ) → slice_get t.changed q ≡ Some i → (j : ℕ) × IsMember i.group j q i
  by_changed i q is =
      let r : (j : ℕ) × (slice_get (members t i.group) j ≡ Some (q, i)) =
      member_in (λ it. bytes_eq it.group i.group) 0 t.changed q q i (omega arith) is
      ((bytes_eq-Decides i.group i.group).1 refl) in
      (r.0, by_entry i.group r.0 q (q, i) refl r.1)

  -- it is a canary, or all canaries are done, by the marks and by what is known
  pub in_turn_as : (it : GroupWork) (j q : ℕ) (i : Inst) → GroupStands t idle i.group it → IsMember i.group j q i
      → (nat_lt j it.roll.canaries
      || (are_past it.roll.canaries it.roll.waiting && are_past it.roll.canaries it.roll.busy))
      ≡ canaries_first t i
  in_turn_as it j q i stands m =
      (λ k. nat_lt j (stands.canaries_are k) || (are_past (stands.canaries_are k) (stands.waiting_are k)
      && are_past (stands.canaries_are k) (stands.busy_are k)))
      ∙ (λ k. canary k || done k)
    where
      c : ℕ
      c = canaries_of t (plan_in t.goal i)

      canary : nat_lt j c ≡ is_among same_inst i (take c (changed_in t i.group))
      canary = sym (among_first same_inst (changed_in t i.group) c j i inst_is itself
          (apart_filtered same_inst (λ it. bytes_eq it.group i.group) t.changed can.are_apart) m.item)

      done : (are_past c (map (λ i. is_waiting (t.upd i)) (changed_in t i.group))
          && are_past c (map (λ i. is_busy (t.upd i)) (changed_in t i.group)))
          ≡ list_all (λ it. is_finished (t.upd it)) (take c (changed_in t i.group))
      done =
          (λ k. past_as (λ i. is_waiting (t.upd i)) c (changed_in t i.group) k && past_as (λ i. is_busy (t.upd i)) c
          (changed_in t i.group) k)
          ∙ sym (quiet_as (λ i. is_finished (t.upd i)) (λ i. is_waiting (t.upd i)) (λ i. is_busy (t.upd i))
          (take c (changed_in t i.group)) can.are_told)

  allowed_as : (it : GroupWork) (j q : ℕ) (i : Inst) → GroupStands t idle i.group it → IsMember i.group j q i
      → is_allowed it.roll j ≡ may_begin t i
  allowed_as it j q i stands m =
      (λ k. nat_lt (busy k) (stands.limit_is k) && in_turn_as it j q i stands m k)
      ∙ ap (λ failed. not (is_some failed) && (nat_lt (in_flight t i.group) (limit_of t (plan_in t.goal i))
      && canaries_first t i)) (sym can.none_failed)
    where
      busy : marked_in it.roll.busy ≡ in_flight t i.group
      busy = ap marked_in stands.busy_are ∙ marked_as (λ i. is_busy (t.upd i)) (changed_in t i.group)

  -- whose turn it is by the marks, and by what is known
  on_idle : (u : Upd) (at rests may : Bool) → is_busy u ≡ true → at ≡ true → rests ≡ true
      → ((not (is_finished u) && at) && (rests && (not (is_waiting u) || may))) ≡ true
  on_idle Todo at rests may busy is rest = absurd (false≢true busy)
  on_idle Busy at rests may busy is rest = and_from at (rests && true) is (and_from rests true rest refl)
  on_idle Finished at rests may busy is rest = absurd (false≢true busy)
  on_idle Failed at rests may busy is rest = absurd (false≢true busy)

  on_waiting : (u : Upd) (at rests may : Bool) → is_waiting u ≡ true → at ≡ true → rests ≡ true → may ≡ true
      → ((not (is_finished u) && at) && (rests && (not (is_waiting u) || may))) ≡ true
  on_waiting Todo at rests may waits is rest allowed =
      and_from at (rests && may) is (and_from rests may rest allowed)
  on_waiting Busy at rests may waits is rest allowed = absurd (false≢true waits)
  on_waiting Finished at rests may waits is rest allowed = absurd (false≢true waits)
  on_waiting Failed at rests may waits is rest allowed = absurd (false≢true waits)

  on_ready : (u : Upd) (at rests may : Bool) → is_finished u ≡ (not (is_waiting u) && not (is_busy u))
      → ((not (is_finished u) && at) && (rests && (not (is_waiting u) || may))) ≡ true
      → (at ≡ true) × (((is_busy u && rests) ≡ true) ⊎ ((is_waiting u ≡ true) × (may ≡ true)))
  on_ready Todo at rests may told is = let a : (at ≡ true) × ((rests && may) ≡ true) =
      and_parts at (rests && may) is in (a.0, inr (refl, (and_parts rests may a.1).1))
  on_ready Busy at rests may told is = let a : (at ≡ true) × ((rests && true) ≡ true) =
      and_parts at (rests && true) is in (a.0, inl (and_parts rests true a.1).0)
  on_ready Finished at rests may told is = absurd (false≢true is)
  on_ready Failed at rests may told is = absurd (false≢true told)

  stage_at : (stage : ℕ) (it : GroupWork) (i : Inst) → GroupStands t idle i.group it → it.stage ≡ stage
      → (stage_of (plan_in t.goal i) == stage) ≡ true
  stage_at stage it i stands is = eq-eqb (stage_of (plan_in t.goal i)) stage (sym stands.stage_is ∙ is)

  pub ready_from : (stage : ℕ) (it : GroupWork) (q j : ℕ) (i : Inst) → GroupStands t idle i.group it
      → IsMember i.group j q i → it.stage ≡ stage
      → CanClaim it.roll j → is_ready t idle stage i ≡ true
  ready_from stage it q j i stands m is_stage (inl idles) =
      let r : (is_busy (t.upd i) ≡ true) × (idle i ≡ true) =
      and_parts (is_busy (t.upd i)) (idle i)
      (sym (at_place (λ i. is_busy (t.upd i) && idle i) (changed_in t i.group) j i m.item)
      ∙ ap (λ marks. slice_index_or marks j false) (sym stands.idle_are) ∙ idles) in
      on_idle (t.upd i) (stage_of (plan_in t.goal i) == stage) (idle i) (may_begin t i) r.0
      (stage_at stage it i stands is_stage) r.1
  ready_from stage it q j i stands m is_stage (inr (waits, allowed)) =
      let w : is_waiting (t.upd i) ≡ true =
      sym (at_place (λ i. is_waiting (t.upd i)) (changed_in t i.group) j i m.item)
      ∙ ap (λ marks. slice_index_or marks j false) (sym stands.waiting_are) ∙ waits in
      on_waiting (t.upd i) (stage_of (plan_in t.goal i) == stage) (idle i) (may_begin t i) w
      (stage_at stage it i stands is_stage)
      (can.rest i (among_from i t.changed q m.among_changed) w) (sym (allowed_as it j q i stands m) ∙ allowed)

  pub claim_from : (stage : ℕ) (it : GroupWork) (q j : ℕ) (i : Inst) → GroupStands t idle i.group it
      → IsMember i.group j q i → is_ready t idle stage i ≡ true
      → (it.stage ≡ stage) × CanClaim it.roll j
  claim_from stage it q j i stands m ready =
      let r : ((stage_of (plan_in t.goal i) == stage) ≡ true)
      × (((is_busy (t.upd i) && idle i) ≡ true) ⊎ ((is_waiting (t.upd i) ≡ true) × (may_begin t i ≡ true))) =
      on_ready (t.upd i) (stage_of (plan_in t.goal i) == stage) (idle i) (may_begin t i) (can.are_told i) ready in
      (stands.stage_is ∙ eqb-true (stage_of (plan_in t.goal i)) stage r.0, by r.1)
    where
      by : ((is_busy (t.upd i) && idle i) ≡ true) ⊎ ((is_waiting (t.upd i) ≡ true) × (may_begin t i ≡ true))
          → CanClaim it.roll j
      by (inl idles) = inl (ap (λ marks. slice_index_or marks j false) stands.idle_are
          ∙ at_place (λ i. is_busy (t.upd i) && idle i) (changed_in t i.group) j i m.item ∙ idles)
      by (inr (waits, may)) =
          inr (
            ap (λ marks. slice_index_or marks j false) stands.waiting_are ∙ at_place (λ i. is_waiting (t.upd i))
                (changed_in t i.group) j i m.item ∙ waits,
            allowed_as it j q i stands m ∙ may,
          )

  -- ---- the groups

  pub has_places : (group : List ℕ) (it : GroupWork) → GroupStands t idle group it → HasPlaces it
  has_places group it stands = record {
    rise = λ i j p q low here there.
        rises i j p q low (ap (λ ns. slice_get ns i) (sym stands.places_are) ∙ here)
        (ap (λ ns. slice_get ns j) (sym stands.places_are) ∙ there);
    all = λ j can. has j can;
  }
    where
      rises : (i j p q : ℕ) → i ≤ j → slice_get (map (λ e. e.0) (members t group)) i ≡ Some p
          → slice_get (map (λ e. e.0) (members t group)) j ≡ Some q → p ≤ q
      rises i j p q low here there =
          by (slice_get (members t group) i) (slice_get (members t group) j) refl refl
          (sym (slice_get-map (λ e. e.0) (members t group) i) ∙ here)
          (sym (slice_get-map (λ e. e.0) (members t group) j) ∙ there)
        where
          by : (d e : Option (ℕ × Inst)) → slice_get (members t group) i ≡ d → slice_get (members t group) j ≡ e
              → option_map (λ e. e.0) d ≡ Some p → option_map (λ e. e.0) e ≡ Some q → p ≤ q
          by (Some d) (Some e) is at here there =
              let l : d.0 ≤ e.0 = members_rise (λ i. bytes_eq i.group group) 0 t.changed i j d e low is at in
              let m : d.0 ≡ p = cc in let n : e.0 ≡ q = cc in omega arith
          by None e is at here there = absurd cc
          by (Some d) None is at here there = absurd cc

      found_at : (f : Inst → Bool) (marks : List Bool) (j : ℕ) → marks ≡ map f (changed_in t group)
          → slice_index_or marks j false ≡ true → (q : ℕ) × (slice_get it.places j ≡ Some q)
      found_at f marks j are is =
          let r : (i : Inst) × (slice_get (changed_in t group) j ≡ Some i) × (f i ≡ true) =
          is_there f (changed_in t group) j (ap (λ marks. slice_index_or marks j false) (sym are) ∙ is) in
          let m : (q : ℕ) × IsMember group j q r.0 = by_item group j r.0 r.1 in
          (m.0, ap (λ ns. slice_get ns j) stands.places_are ∙ m.1.place)

      has : (j : ℕ) → CanClaim it.roll j → (q : ℕ) × (slice_get it.places j ≡ Some q)
      has j (inl idles) = found_at (λ i. is_busy (t.upd i) && idle i) it.roll.idle j stands.idle_are idles
      has j (inr (waits, allowed)) = found_at (λ i. is_waiting (t.upd i)) it.roll.waiting j stands.waiting_are waits

  all_have : (k : ℕ) (names : List (List ℕ)) (groups : List GroupWork) → EachStands t idle names groups
      → HaveAll (enumerate_from k groups)
  all_have k [] [] each = tt
  all_have k (group ∷ names) (it ∷ groups) (here, more) =
      (has_places group it here, all_have (k + 1) names groups more)
  all_have k [] (it ∷ groups) each = absurd each
  all_have k (group ∷ names) [] each = absurd each

  pub at_number : (names : List (List ℕ)) (groups : List GroupWork) (n : ℕ) (it : GroupWork)
      → EachStands t idle names groups → slice_get groups n ≡ Some it
      → (group : List ℕ) × GroupStands t idle group it
  at_number [] [] n it each is = absurd cc
  at_number (group ∷ names) (one ∷ groups) zero it (here, more) is = let e : one ≡ it =
      cc in (group, subst (GroupStands t idle group) e here)
  at_number (group ∷ names) (one ∷ groups) (suc n) it (here, more) is = at_number names groups n it more is
  at_number [] (one ∷ groups) n it each is = absurd each
  at_number (group ∷ names) [] n it each is = absurd each

  pub at_name : (names : List (List ℕ)) (groups : List GroupWork) (group : List ℕ) → EachStands t idle names groups
      → is_among bytes_eq group names ≡ true
      → (n : ℕ) × (it : GroupWork) × (slice_get groups n ≡ Some it) × GroupStands t idle group it
  at_name [] groups group each is = absurd (false≢true is)
  at_name (name ∷ names) [] group each is = absurd each
  at_name (name ∷ names) (it ∷ groups) group (here, more) is =
      by (bytes_eq group name) refl is (λ is. at_name names groups group more is)
    where
      by : (b : Bool) → bytes_eq group name ≡ b → (b || is_among bytes_eq group names) ≡ true
          → (is_among bytes_eq group names ≡ true → (n : ℕ) × (one : GroupWork) × (slice_get groups n ≡ Some one)
          × GroupStands t idle group one)
          → (n : ℕ) × (one : GroupWork) × (slice_get (it ∷ groups) n ≡ Some one) × GroupStands t idle group one
      by true same is rest =
          (0, it, refl, subst (λ n. GroupStands t idle n it) (sym (bytes_is group name same)) here)
      by false other is rest = let r : (n : ℕ) × (one : GroupWork) × (slice_get groups n ≡ Some one)
          × GroupStands t idle group one = rest is in (suc r.0, r.1, r.2, r.3)

  module _ (groups : List GroupWork) (stands : GroupsStand t idle groups) (stage : ℕ) where
    abbrev Ready : ℕ → Type 0
    Ready q = slice_index_or (map (is_ready t idle stage) t.changed) q false ≡ true

    -- the place of an instance among the groups
    pub record IsAt (q : ℕ) (at : GroupPlace) (i : Inst) : Type 0 where
      pub it : GroupWork
      pub group : slice_get groups at.group ≡ Some it
      pub group_stands : GroupStands t idle i.group it
      pub among_changed : slice_get t.changed q ≡ Some i
      pub item : slice_get (changed_in t i.group) at.place ≡ Some i
      pub ready : is_ready t idle stage i ≡ true

    pub is_at : (q : ℕ) (at : GroupPlace) → Among stage (enumerate_from 0 groups) q at → (i : Inst) × IsAt q at i
    is_at q at among =
        let r : (n : ℕ) × (it : GroupWork) × (at.group ≡ 0 + n) × (slice_get groups n ≡ Some it)
        × IsHere stage at.group it q at = among_out stage 0 groups q at among in
        let n_is : r.0 ≡ at.group = (let e : at.group ≡ 0 + r.0 = r.2 in omega arith) in
        let g : (group : List ℕ) × GroupStands t idle group r.1 =
        at_number (names_of t.changed) groups r.0 r.1 stands r.3 in
        let m : (i : Inst) × IsMember g.0 at.place q i =
        by_place g.0 at.place q (ap (λ ns. slice_get ns at.place) (sym g.1.places_are) ∙ r.4.place_is) in
        let s : GroupStands t idle (m.0).group r.1 = subst (λ n. GroupStands t idle n r.1) (sym m.1.group_is) g.1 in
        let w : IsMember (m.0).group at.place q m.0 = subst (λ n. IsMember n at.place q m.0) (sym m.1.group_is) m.1
        in (
          m.0,
          record {
            it = r.1;
            group = ap (slice_get groups) (sym n_is) ∙ r.3;
            group_stands = s;
            among_changed = w.among_changed;
            item = w.item;
            ready = ready_from stage r.1 q at.place m.0 s w r.4.stage_is r.4.can;
          },
        )

    ready_at : (q : ℕ) (at : GroupPlace) → Among stage (enumerate_from 0 groups) q at → Ready q
    ready_at q at among = let r : (i : Inst) × IsAt q at i =
        is_at q at among in at_place (is_ready t idle stage) t.changed q r.0 r.1.among_changed ∙ r.1.ready

    among_at : (q : ℕ) → Ready q → (at : GroupPlace) × Among stage (enumerate_from 0 groups) q at
    among_at q is =
        let r : (i : Inst) × (slice_get t.changed q ≡ Some i) × (is_ready t idle stage i ≡ true) =
        is_there (is_ready t idle stage) t.changed q is in
        let named : is_among bytes_eq (r.0).group (names_of t.changed) ≡ true = named_at t.changed q r.0 r.1 in
        let g : (n : ℕ) × (it : GroupWork) × (slice_get groups n ≡ Some it) × GroupStands t idle (r.0).group it =
        at_name (names_of t.changed) groups (r.0).group stands named in
        let m : (j : ℕ) × IsMember (r.0).group j q r.0 = by_changed r.0 q r.1 in
        let c : (g.1.stage ≡ stage) × CanClaim g.1.roll m.0 = claim_from stage g.1 q m.0 r.0 g.3 m.1 r.2 in
        let at : GroupPlace = record { group = g.0; place = m.0 } in (
          at,
          among_in stage 0 groups q at g.0 g.1 (omega arith) g.2
              (record {
                group_is = refl;
                stage_is = c.0;
                place_is = ap (λ ns. slice_get ns m.0) g.3.places_are
                    ∙ m.1.place;
                can = c.1;
              }),
        )

    place : Option (ℕ × GroupPlace)
    place = first_place groups stage

    first_is : IsFirstPlace (λ q at. ⊥ ⊎ Among stage (enumerate_from 0 groups) q at) (first_place groups stage)
    first_is = first_among stage (λ q at. ⊥) (enumerate_from 0 groups) None
        (all_have 0 (names_of t.changed) groups stands) (λ q at none. none)

    -- the place that is found is that of the first instance of the changed ones whose turn it is
    pub first_is_ready : option_map (λ e. e.0) (first_place groups stage)
        ≡ first_marked (map (is_ready t idle stage) t.changed)
    first_is_ready =
        same_first Ready (option_map (λ e. e.0) (first_place groups stage))
        (first_marked (map (is_ready t idle stage) t.changed))
        (by (first_place groups stage) first_is) (first_marked_is (map (is_ready t idle stage) t.changed))
      where
        by : (o : Option (ℕ × GroupPlace)) → IsFirstPlace (λ q at. ⊥ ⊎ Among stage (enumerate_from 0 groups) q at) o
            → IsFirst Ready (option_map (λ e. e.0) o)
        by None none = λ q is. let r : (at : GroupPlace) × Among stage (enumerate_from 0 groups) q at =
            among_at q is in none q r.0 (inr r.1)
        by (Some e) (inr here, low) = (
          ready_at e.0 e.1 here,
          λ q is. let r : (at : GroupPlace)
              × Among stage (enumerate_from 0 groups) q at = among_at q is in low q r.0 (inr r.1),
        )
        by (Some e) (inl none, low) = absurd none

    pub first_place_is_at : (e : ℕ × GroupPlace) → first_place groups stage ≡ Some e → (i : Inst) × IsAt e.0 e.1 i
    first_place_is_at e is =
        by (subst (IsFirstPlace (λ q at. ⊥ ⊎ Among stage (enumerate_from 0 groups) q at)) is first_is)
      where
        by : IsFirstPlace (λ q at. ⊥ ⊎ Among stage (enumerate_from 0 groups) q at) (Some e) → (i : Inst)
            × IsAt e.0 e.1 i
        by (inr here, low) = is_at e.0 e.1 here
        by (inl none, low) = absurd none

    -- .. and so is that instance
    pub first_item_is : option_and_then (λ e. slice_get t.changed e.0) (first_place groups stage)
        ≡ find (is_ready t idle stage) t.changed
    first_item_is = shift (first_place groups stage)
        ∙ ap (option_and_then (λ k. slice_get t.changed k)) first_is_ready ∙ found (is_ready t idle stage) t.changed
      where
        shift : (o : Option (ℕ × GroupPlace)) → option_and_then (λ e. slice_get t.changed e.0) o
            ≡ option_and_then (λ k. slice_get t.changed k) (option_map (λ e. e.0) o)
        shift (Some e) = refl
        shift None = refl
