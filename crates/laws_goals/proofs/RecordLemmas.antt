-- A goal that is made of the view of the records is sound over them.
use Rattle.std.proofs.Common.{◌≡◌, ◌∙◌, ℕ, Bool, true, false, true≢false, ◌&&◌, ◌||◌, ◌==◌, not, eqb, cond, nat_le, List, [], ◌∷◌, ◌++◌, Option, Some, None, Ok, filter, find, map, ap, refl, sym, subst, inl, inr}
use Rattle.std.specs.List.{AllByRecursion, Contains, flat_map, list_all, list_any}
use Rattle.std.specs.Option.{is_some}
use Rattle.std.specs.Str.{bytes_eq}
use Rattle.std.proofs.lemmas.Bool.{and_from, and_parts, and_right, not-true, or_cases, or_from, or_left, or_parts, or_right}
use Rattle.std.proofs.lemmas.Slice.Eq.{bytes_eq-Decides}
use Rattle.bosh_bands.specs.Apart.{AreApart}
use Rattle.bosh_base.specs.declared.addr.NetAddr.{NetAddr}
use Rattle.bosh_base.specs.declared.goal.Goal.{Goal}
use Rattle.bosh_base.specs.declared.goal.GoalRow.{GoalRow}
use Rattle.bosh_base.specs.declared.inst.Inst.{Inst}
use Rattle.bosh_base.specs.declared.key.Key.{Key}
use Rattle.bosh_base.specs.declared.link.Joint.{Joint}
use Rattle.bosh_base.specs.declared.link.Tie.{Tie}
use Rattle.bosh_base.specs.declared.make.Make.{Make}
use Rattle.bosh_base.specs.declared.offer.Offer.{Offer}
use Rattle.bosh_base.specs.declared.owner.Owner.TheVariants.{Instance}
use Rattle.bosh_base.specs.declared.release.Release.{Release}
use Rattle.bosh_base.specs.declared.row.Row.{Row}
use Rattle.bosh_base.specs.declared.stemcell.Stemcell.{Stemcell}
use Rattle.bosh_base.specs.declared.task.TaskKind.TheVariants.{Deploy, Fix}
use Rattle.bosh_base.specs.declared.view.Held.{Held}
use Rattle.bosh_base.specs.declared.view.View.{View}
use Rattle.bosh_cloudcfg.specs.declared.config.Config.{Config}
use Rattle.bosh_compile.specs.Readiness.{same_key}
use Rattle.bosh_compile.specs.Readiness as readiness
use Rattle.bosh_goal.specs.Goal.{IsGoal}
use Rattle.bosh_history.specs.Goals.{inst_of, is_in}
use Rattle.bosh_history.specs.Held.{held, held_by_goals, held_by_machines, held_by_rows, held_by_slots, held_elsewhere, is_offered, known_offers, of_make, same_bytes_joint, view}
use Rattle.bosh_history.specs.Keys.{are_in_order, are_left}
use Rattle.bosh_history.specs.Known.{Known, offers_in}
use Rattle.bosh_history.specs.Moments.{dep_of}
use Rattle.bosh_history.specs.Slots.{is_compiled}
use Rattle.bosh_history.specs.Sound as sound
use Rattle.bosh_history.specs.Sound.{addrs, has_addr, has_addresses, has_instances, has_offers, has_plan, has_slots, is_held, is_row_of, is_sound_goal, is_tie_kept, is_wanted, row_addrs, slot_addrs}
use Rattle.bosh_rows.specs.SoundSnapshot.{are_distinct}
use Rattle.bosh_manifest.specs.Sound.{IsSound}
use Rattle.bosh_manifest.specs.declared.manifest.Contents.{Contents}
use Rattle.bosh_pool.proofs.ListLemmas.{any_from, any_some, contains_here, contains_there, find_some}
use Rattle.bosh_rows.specs.Same.{same_inst}
use Rattle.laws_goals.specs.Free.{HasFreeAddresses, another_keeps, is_own}
use Rattle.laws_goals.specs.Free as free
use Rattle.laws_goals.specs.Keys.{HasSoundKeys}
use Rattle.laws_goals.specs.Records.{AreKeysListed, AreRecordsInOrder}
use Rattle.laws_goals.specs.Renewed.{HasKeysLeft}
use Rattle.laws_goals.specs.Rows.{HasSoundRows}
use Rattle.laws_goals.specs.Ties.{AreTiesOffered, is_tie_offered, offers_it}
use Rattle.laws_goals.proofs.FreeLemmas.{has-free-addresses}
use Rattle.laws_goals.proofs.KeyLemmas.{has-sound-keys}
use Rattle.laws_goals.proofs.ListLemmas.{all_at, all_back, all_front, all_map, all_pass, any_map, none_pass, passes}
use Rattle.laws_goals.proofs.PartLemmas.{is-made}
use Rattle.laws_goals.proofs.PlanLemmas.{has-sound-rows}
use Rattle.laws_goals.proofs.SameLemmas.{inst-is}
use Rattle.laws_goals.proofs.TieLemmas.{has-own-offers, has-ties-offered}

-- ---- lists

pub none-where : {X Y : Type 0} (p : Y → Bool) (f : X → Y) (q : X → Bool) (xs : List X) → list_any p (map f (filter q xs)) ≡ false → AllByRecursion (λ x. q x ≡ true → p (f x) ≡ false) xs
none-where p f q [] none = tt
none-where p f q (x ∷ xs) none = by p f x (filter q xs) (q x) (AllByRecursion (λ x. q x ≡ true → p (f x) ≡ false) xs) (none-where p f q xs) none
  where
    by : {X Y : Type 0} (p : Y → Bool) (f : X → Y) (x : X) (some : List X) (b : Bool) (Rest : Type 0) → (list_any p (map f some) ≡ false → Rest)
        → list_any p (map f (cond b (x ∷ some) some)) ≡ false → (b ≡ true → p (f x) ≡ false) × Rest
    by p f x some true Rest rest none = let (here, more) = or_parts (p (f x)) (list_any p (map f some)) none in (λ is. here, rest more)
    by p f x some false Rest rest none = (λ is. absurd (true≢false (sym is)), rest none)

pub all-where : {X Y : Type 0} (p : Y → Bool) (f : X → Y) (q : X → Bool) (xs : List X) → list_all p (map f (filter q xs)) ≡ true → AllByRecursion (λ x. q x ≡ true → p (f x) ≡ true) xs
all-where p f q [] all = tt
all-where p f q (x ∷ xs) all = by p f x (filter q xs) (q x) (AllByRecursion (λ x. q x ≡ true → p (f x) ≡ true) xs) (all-where p f q xs) all
  where
    by : {X Y : Type 0} (p : Y → Bool) (f : X → Y) (x : X) (some : List X) (b : Bool) (Rest : Type 0) → (list_all p (map f some) ≡ true → Rest)
        → list_all p (map f (cond b (x ∷ some) some)) ≡ true → (b ≡ true → p (f x) ≡ true) × Rest
    by p f x some true Rest rest all = let (here, more) = and_parts (p (f x)) (list_all p (map f some)) all in (λ is. here, rest more)
    by p f x some false Rest rest all = (λ is. absurd (true≢false (sym is)), rest all)

map-self : {X : Type 0} (xs : List X) → map (λ x. x) xs ≡ xs
map-self [] = refl
map-self (x ∷ xs) = ap (λ more. x ∷ more) (map-self xs)

none-filter : {X : Type 0} (p : X → Bool) (q : X → Bool) (xs : List X) → list_any p (filter q xs) ≡ false → AllByRecursion (λ x. q x ≡ true → p x ≡ false) xs
none-filter p q xs none = none-where p (λ x. x) q xs (ap (list_any p) (map-self (filter q xs)) ∙ none)

pub all-unflat : {X Y : Type 0} (P : Y → Type 0) (f : X → List Y) (xs : List X) → AllByRecursion P (flat_map f xs) → AllByRecursion (λ x. AllByRecursion P (f x)) xs
all-unflat P f [] all = tt
all-unflat P f (x ∷ xs) all = (all_front P (f x) (flat_map f xs) all, all-unflat P f xs (all_back P (f x) (flat_map f xs) all))

pub all-both : {X : Type 0} (P Q R : X → Type 0) (xs : List X) → ((x : X) → P x → Q x → R x) → AllByRecursion P xs → AllByRecursion Q xs → AllByRecursion R xs
all-both P Q R [] f ps qs = tt
all-both P Q R (x ∷ xs) f (p, ps) (q, qs) = (f x p q, all-both P Q R xs f ps qs)

any-filtered : {X : Type 0} (p q : X → Bool) (xs : List X) → list_any p (filter q xs) ≡ true → (x : X) × Contains xs x × (q x ≡ true) × (p x ≡ true)
any-filtered p q [] h = absurd (true≢false (sym h))
any-filtered p q (x ∷ xs) h = by p q x xs (filter q xs) (q x) refl (p x) refl h (any-filtered p q xs)
  where
    by : {X : Type 0} (p q : X → Bool) (x : X) (xs some : List X) (b : Bool) → q x ≡ b → (c : Bool) → p x ≡ c → list_any p (cond b (x ∷ some) some) ≡ true
        → (list_any p some ≡ true → (y : X) × Contains xs y × (q y ≡ true) × (p y ≡ true)) → (y : X) × Contains (x ∷ xs) y × (q y ≡ true) × (p y ≡ true)
    by p q x xs some true e true f h later = (x, contains_here x xs, e, f)
    by p q x xs some true e false f h later =
        let (y, there, one, other) = later (sym (ap (λ b. b || list_any p some) f) ∙ h) in (y, contains_there x xs y there, one, other)
    by p q x xs some false e c f h later = let (y, there, one, other) = later h in (y, contains_there x xs y there, one, other)

-- ---- addresses

module _ (k : Known) (goal : Goal) (rows : list_all (λ i. same_inst (k.row i).inst i) k.instances ≡ true) (own : list_all (λ want. bytes_eq want.inst.dep goal.dep) goal.rows ≡ true) where
  abbrev dep : List ℕ
  dep = goal.dep

  abbrev seen : View
  seen = view k dep

  -- an instance of the goal is of the deployment
  pub in-dep : (i : Inst) → is_in (Some goal) i ≡ true → bytes_eq i.dep dep ≡ true
  in-dep i h = by (find (λ want. same_inst i want.inst) goal.rows) refl h
    where
      by : (found : Option GoalRow) → find (λ want. same_inst i want.inst) goal.rows ≡ found → is_some found ≡ true → bytes_eq i.dep dep ≡ true
      by None e some = absurd (true≢false (sym some))
      by (Some want) e some =
          let (same, there) = find_some (λ (w : GoalRow). same_inst i w.inst) goal.rows want e in
          ap (λ (j : Inst). bytes_eq j.dep dep) (inst-is i want.inst same) ∙ all_at (λ (w : GoalRow). bytes_eq w.inst.dep dep ≡ true) goal.rows want (passes (λ w. bytes_eq w.inst.dep dep) goal.rows own) there

  not-kept : (i : Inst) (a : ℕ) → another_keeps seen.rows goal i a ≡ false → sound.another_keeps k goal i a ≡ false
  not-kept i a none =
      none_pass (λ j. not (same_inst i j) && (is_in (Some goal) j && has_addr a (k.row j).make)) k.instances
      (all-both (λ j. bytes_eq j.dep dep ≡ true → keeps_row (k.row j) ≡ false) (λ j. same_inst (k.row j).inst j ≡ true) (λ j. keeps_own j ≡ false) k.instances
      (λ j here same. by j here same (bytes_eq j.dep dep) refl)
      (none-where keeps_row k.row (λ j. bytes_eq j.dep dep) k.instances none) (passes (λ j. same_inst (k.row j).inst j) k.instances rows))
    where
      keeps_row : Row → Bool
      keeps_row row = not (same_inst i row.inst) && (is_in (Some goal) row.inst && has_addr a row.make)

      keeps_own : Inst → Bool
      keeps_own j = not (same_inst i j) && (is_in (Some goal) j && has_addr a (k.row j).make)

      outside : (j : Inst) → bytes_eq j.dep dep ≡ false → (b : Bool) → is_in (Some goal) j ≡ b → (not (same_inst i j) && (b && has_addr a (k.row j).make)) ≡ false
      outside j other true e = absurd (true≢false (sym (in-dep j e) ∙ other))
      outside j other false e = and_right (not (same_inst i j)) false refl

      by : (j : Inst) → (bytes_eq j.dep dep ≡ true → keeps_row (k.row j) ≡ false) → same_inst (k.row j).inst j ≡ true → (b : Bool) → bytes_eq j.dep dep ≡ b → keeps_own j ≡ false
      by j here same true e =
          ap (λ (l : Inst). not (same_inst i l) && (is_in (Some goal) l && has_addr a (k.row j).make)) (sym (inst-is (k.row j).inst j same)) ∙ here e
      by j here same false e = outside j e (is_in (Some goal) j) refl

  -- ---- slots

  module _ (a : ℕ) (untaken : is_held (held_elsewhere k dep) a ≡ false) where
    abbrev pub Elsewhere : Held → Type 0
    Elsewhere it = not (bytes_eq (dep_of k it.owner) dep) ≡ true → (it.addr.0 == a) ≡ false

    elsewhere : AllByRecursion Elsewhere (held k)
    elsewhere = none-filter (λ it. it.addr.0 == a) (λ it. not (bytes_eq (dep_of k it.owner) dep)) (held k) untaken

    pub of-rows : AllByRecursion Elsewhere (held_by_rows k)
    of-rows =
        all_front Elsewhere (held_by_rows k) (held_by_goals k)
        (all_front Elsewhere (held_by_rows k ++ held_by_goals k) (held_by_machines k)
        (all_front Elsewhere ((held_by_rows k ++ held_by_goals k) ++ held_by_machines k) (held_by_slots k) elsewhere))

    of-machines : AllByRecursion Elsewhere (held_by_machines k)
    of-machines =
        all_back Elsewhere (held_by_rows k ++ held_by_goals k) (held_by_machines k)
        (all_front Elsewhere ((held_by_rows k ++ held_by_goals k) ++ held_by_machines k) (held_by_slots k) elsewhere)

    pub other-row : (i : Inst) (make : Option Make) → bytes_eq i.dep dep ≡ false → AllByRecursion Elsewhere (of_make (Instance i) make) → has_addr a make ≡ false
    other-row i None other all = refl
    other-row i (Some make) other all = any_map (λ b. b == a) (λ (it : NetAddr). it.addr.0) make.nets ∙ each make.nets all
      where
        each : (nets : List NetAddr) → AllByRecursion Elsewhere (map (λ it. record { owner = Instance i; net = it.net; addr = it.addr }) nets) → list_any (λ (it : NetAddr). it.addr.0 == a) nets ≡ false
        each [] all = refl
        each (net ∷ nets) (here, more) = or_from (net.addr.0 == a) (list_any (λ (it : NetAddr). it.addr.0 == a) nets) (here (ap not other)) (each nets more)

    no-row : list_any (λ row. has_addr a row.make) seen.rows ≡ false → list_any (λ i. has_addr a (k.row i).make) k.instances ≡ false
    no-row none =
        none_pass (λ i. has_addr a (k.row i).make) k.instances
        (all-both (λ i. bytes_eq i.dep dep ≡ true → has_addr a (k.row i).make ≡ false) (λ i. AllByRecursion Elsewhere (of_make (Instance i) (k.row i).make)) (λ i. has_addr a (k.row i).make ≡ false) k.instances
        (λ i here all. by i here all (bytes_eq i.dep dep) refl)
        (none-where (λ (row : Row). has_addr a row.make) k.row (λ i. bytes_eq i.dep dep) k.instances none)
        (all-unflat Elsewhere (λ i. of_make (Instance i) (k.row i).make) k.instances of-rows))
      where
        by : (i : Inst) → (bytes_eq i.dep dep ≡ true → has_addr a (k.row i).make ≡ false) → AllByRecursion Elsewhere (of_make (Instance i) (k.row i).make) → (b : Bool) → bytes_eq i.dep dep ≡ b
            → has_addr a (k.row i).make ≡ false
        by i here all true e = here e
        by i here all false e = other-row i (k.row i).make e all

    no-machine : is_held seen.leftover a ≡ false → is_held (held_by_machines k) a ≡ false
    no-machine none =
        none_pass (λ it. it.addr.0 == a) (held_by_machines k)
        (all-both (λ it. bytes_eq (dep_of k it.owner) dep ≡ true → (it.addr.0 == a) ≡ false) Elsewhere (λ it. (it.addr.0 == a) ≡ false) (held_by_machines k)
        (λ it mine theirs. by it mine theirs (bytes_eq (dep_of k it.owner) dep) refl)
        (none-filter (λ it. it.addr.0 == a) (λ it. bytes_eq (dep_of k it.owner) dep) (held_by_machines k) none) of-machines)
      where
        by : (it : Held) → (bytes_eq (dep_of k it.owner) dep ≡ true → (it.addr.0 == a) ≡ false) → Elsewhere it → (b : Bool) → bytes_eq (dep_of k it.owner) dep ≡ b → (it.addr.0 == a) ≡ false
        by it mine theirs true e = mine e
        by it mine theirs false e = theirs (ap not e)

  not-used : (a : ℕ) → free.is_used seen a ≡ false → (sound.is_used k a || is_wanted k goal a) ≡ false
  not-used a none =
      let (untaken, more) = or_parts (is_held seen.taken a) (is_held seen.leftover a || is_own seen a) none in
      let (unleft, mine) = or_parts (is_held seen.leftover a) (is_own seen a) more in
      let (unrecorded, unwanted) = or_parts (list_any (λ row. has_addr a row.make) seen.rows) (is_wanted k goal a) mine in
      or_from (sound.is_used k a) (is_wanted k goal a)
      (or_from (list_any (λ i. has_addr a (k.row i).make) k.instances) (is_held (held_by_machines k) a) (no-row a untaken unrecorded) (no-machine a untaken unleft)) unwanted

  pub addresses-sound : HasFreeAddresses seen goal → has_addresses k goal ≡ true
  addresses-sound it =
      and_from (are_distinct eqb (row_addrs goal ++ slot_addrs goal)) _ it.distinct
      (and_from (list_all (λ a. not (is_held (held_elsewhere k dep) a)) (row_addrs goal ++ slot_addrs goal)) _ it.untaken
      (and_from (sound.are_rows_free k goal) _
      (all_pass (λ want. list_all (λ a. not (sound.another_keeps k goal want.inst a)) (addrs want.make)) goal.rows
      (all_map (λ want. list_all (λ a. not (another_keeps seen.rows goal want.inst a)) (addrs want.make) ≡ true) (λ want. list_all (λ a. not (sound.another_keeps k goal want.inst a)) (addrs want.make) ≡ true) goal.rows
      (λ want h. all_pass (λ a. not (sound.another_keeps k goal want.inst a)) (addrs want.make)
      (all_map (λ a. not (another_keeps seen.rows goal want.inst a) ≡ true) (λ a. not (sound.another_keeps k goal want.inst a) ≡ true) (addrs want.make)
      (λ a h. ap not (not-kept want.inst a (not-true (another_keeps seen.rows goal want.inst a) h))) (passes (λ a. not (another_keeps seen.rows goal want.inst a)) (addrs want.make) h)))
      (passes (λ want. list_all (λ a. not (another_keeps seen.rows goal want.inst a)) (addrs want.make)) goal.rows it.unshared)))
      (all_pass (λ a. not (sound.is_used k a || is_wanted k goal a)) (slot_addrs goal)
      (all_map (λ a. not (free.is_used seen a) ≡ true) (λ a. not (sound.is_used k a || is_wanted k goal a) ≡ true) (slot_addrs goal)
      (λ a h. ap not (not-used a (not-true (free.is_used seen a) h))) (passes (λ a. not (free.is_used seen a)) (slot_addrs goal) it.spare)))))

-- ---- instances and keys

pub instances-sound : (k : Known) (goal : Goal) → HasSoundRows k.last_call goal → has_instances k goal ≡ true
instances-sound k goal it =
    and_from (are_distinct same_inst (map inst_of goal.rows)) (list_all (is_row_of k goal) goal.rows) it.distinct
    (all_pass (is_row_of k goal) goal.rows
    (all-both (λ want. bytes_eq want.inst.dep goal.dep ≡ true) (λ want. (has_plan goal want && nat_le want.fresh_after k.last_call) ≡ true) (λ want. is_row_of k goal want ≡ true) goal.rows
    (λ want dep rest. and_from (bytes_eq want.inst.dep goal.dep) (has_plan goal want && nat_le want.fresh_after k.last_call) dep rest)
    (passes (λ want. bytes_eq want.inst.dep goal.dep) goal.rows it.of_the_deployment)
    (all-both (λ want. has_plan goal want ≡ true) (λ want. nat_le want.fresh_after k.last_call ≡ true) (λ want. (has_plan goal want && nat_le want.fresh_after k.last_call) ≡ true) goal.rows
    (λ want plan fresh. and_from (has_plan goal want) (nat_le want.fresh_after k.last_call) plan fresh)
    (passes (has_plan goal) goal.rows it.planned) (passes (λ want. nat_le want.fresh_after k.last_call) goal.rows it.fresh))))

compiled-are : (k : Known) (dep : List ℕ) → AreKeysListed k dep → (λ (key : Key). readiness.is_among key (view k dep).compiled) ≡ is_compiled k
compiled-are k dep listed = λ i key. listed key i

pub keys-sound : (k : Known) (goal : Goal) → AreKeysListed k goal.dep → HasSoundKeys (view k goal.dep).compiled goal → (are_in_order (is_compiled k) goal.keys && has_slots goal) ≡ true
keys-sound k goal listed it =
    and_from (are_in_order (is_compiled k) goal.keys) (has_slots goal) (sym (ap (λ test. are_in_order test goal.keys) (compiled-are k goal.dep listed)) ∙ it.ordered) it.slotted

pub keys-left-sound : (k : Known) (goal : Goal) → AreKeysListed k goal.dep → HasKeysLeft (view k goal.dep).compiled goal → (are_left (is_compiled k) goal.keys && has_slots goal) ≡ true
keys-left-sound k goal listed it =
    and_from (are_left (is_compiled k) goal.keys) (has_slots goal)
    (sym (ap (λ test. are_left test goal.keys) (compiled-are k goal.dep listed)) ∙ and_from (list_all (λ work. not (readiness.is_among work.key (view k goal.dep).compiled)) goal.keys) _ it.uncompiled it.can_be_compiled)
    it.slotted

-- ---- ties

offered-by-goal : (k : Known) (tie : Tie) (dep : List ℕ) → dep ≡ tie.provider.dep → is_offered tie.provider tie.kind (known_offers k dep).offers ≡ true
    → (is_offered tie.provider tie.kind (k.shared tie.provider.dep) && is_offered tie.provider tie.kind (offers_in (k.goal tie.provider.dep))) ≡ true
offered-by-goal k tie dep same offered =
    subst (λ d. (is_offered tie.provider tie.kind (k.shared d) && is_offered tie.provider tie.kind (offers_in (k.goal d))) ≡ true) same
    (go (k.shared dep) offered)
  where
    test : Offer → Bool
    test offer = same_bytes_joint offer.joint tie.provider && bytes_eq offer.kind tie.kind

    current : List Offer
    current = offers_in (k.goal dep)

    joint-is : (a b : Joint) → same_bytes_joint a b ≡ true → a ≡ b
    joint-is a b h =
        let (d, rest) = and_parts (bytes_eq a.dep b.dep) _ h in
        let (g, rest') = and_parts (bytes_eq a.group b.group) _ rest in
        let (j, l) = and_parts (bytes_eq a.job b.job) (bytes_eq a.link b.link) rest' in
        let d_is = (bytes_eq-Decides a.dep b.dep).0 d in
        let g_is = (bytes_eq-Decides a.group b.group).0 g in
        let j_is = (bytes_eq-Decides a.job b.job).0 j in
        let l_is = (bytes_eq-Decides a.link b.link).0 l in
        λ i. record { dep = d_is i; group = g_is i; job = j_is i; link = l_is i }

    here : (offer : Offer) → test offer ≡ true → is_offered offer.joint offer.kind current ≡ true → is_offered tie.provider tie.kind current ≡ true
    here offer same there =
        let (joint, kind) = and_parts (same_bytes_joint offer.joint tie.provider) (bytes_eq offer.kind tie.kind) same in
        let joint_is : offer.joint ≡ tie.provider = joint-is offer.joint tie.provider joint in
        let kind_is : offer.kind ≡ tie.kind = (bytes_eq-Decides offer.kind tie.kind).0 kind in
        subst (λ (kd : List ℕ). is_offered tie.provider kd current ≡ true) kind_is (subst (λ (j : Joint). is_offered j offer.kind current ≡ true) joint_is there)

    go : (offers : List Offer) → list_any test (filter (λ offer. is_offered offer.joint offer.kind current) offers) ≡ true → (list_any test offers && is_offered tie.provider tie.kind current) ≡ true
    go offers h =
        let (offer, there, kept, same) = any-filtered test (λ offer. is_offered offer.joint offer.kind current) offers h in
        and_from (list_any test offers) (is_offered tie.provider tie.kind current) (any_from test offers offer there same) (here offer same kept)

tie-kept : (k : Known) (goal : Goal) (tie : Tie) → is_tie_offered (view k goal.dep).known goal.dep tie ≡ true → is_tie_kept k goal tie ≡ true
tie-kept k goal tie h =
    elim (or_cases (bytes_eq tie.provider.dep goal.dep) (list_any (offers_it tie) (map (known_offers k) k.deployments)) h) [
      | inl own ↦ or_left (bytes_eq tie.provider.dep goal.dep) _ own
      | inr there ↦
          let (dep, within, offers) = any_some (λ dep. offers_it tie (known_offers k dep)) k.deployments (sym (any_map (offers_it tie) (known_offers k) k.deployments) ∙ there) in
          let (name, offered) = and_parts (bytes_eq dep tie.provider.dep) (is_offered tie.provider tie.kind (known_offers k dep).offers) offers in
          or_right (bytes_eq tie.provider.dep goal.dep) _ (offered-by-goal k tie dep ((bytes_eq-Decides dep tie.provider.dep).0 name) offered)
    ]

pub ties-sound : (k : Known) (goal : Goal) → AreTiesOffered (view k goal.dep).known goal.dep goal.ties → list_all (is_tie_kept k goal) goal.ties ≡ true
ties-sound k goal it =
    all_pass (is_tie_kept k goal) goal.ties
    (all_map (λ tie. is_tie_offered (view k goal.dep).known goal.dep tie ≡ true) (λ tie. is_tie_kept k goal tie ≡ true) goal.ties (tie-kept k goal) (passes (is_tie_offered (view k goal.dep).known goal.dep) goal.ties it))

-- ---- all

pub is-sound :
    (manifest : Contents) (config : Config) (releases : List Release) (stemcells : List Stemcell) (k : Known) (recreate : Bool) (it : Goal)
    → IsSound manifest → AreApart config.plan.subnets → AreRecordsInOrder k manifest.name
    → IsGoal manifest (Some config) releases stemcells (view k manifest.name) recreate (Ok it)
    → (is_sound_goal k Deploy it ≡ true) × (is_sound_goal k Fix it ≡ true)
is-sound manifest config releases stemcells k recreate it checked apart orderly told =
    let seen : View = view k manifest.name in
    let dep_is : manifest.name ≡ it.dep = sym (is-made manifest config releases stemcells seen recreate it told).dep_is in
    let planned : HasSoundRows k.last_call it = has-sound-rows manifest config releases stemcells seen recreate it checked told in
    let instances : has_instances k it ≡ true = instances-sound k it planned in
    let free_ : HasFreeAddresses (view k it.dep) it =
    subst (λ dep. HasFreeAddresses (view k dep) it) dep_is (has-free-addresses manifest config releases stemcells seen recreate it checked apart orderly.addresses told) in
    let addresses : has_addresses k it ≡ true = addresses-sound k it orderly.rows planned.of_the_deployment free_ in
    let keys : (are_in_order (is_compiled k) it.keys && has_slots it) ≡ true = keys-sound k it (subst (AreKeysListed k) dep_is orderly.compiled) (subst (λ dep. HasSoundKeys (view k dep).compiled it) dep_is (has-sound-keys manifest config releases stemcells seen recreate it told)) in
    let ties : list_all (is_tie_kept k it) it.ties ≡ true =
    ties-sound k it (subst (λ dep. AreTiesOffered (view k dep).known it.dep it.ties) dep_is (has-ties-offered manifest config releases stemcells seen recreate it orderly.offers told)) in
    let offers : has_offers it ≡ true = has-own-offers manifest config releases stemcells seen recreate it told in
    let all : (has_instances k it && (has_addresses k it && ((are_in_order (is_compiled k) it.keys && has_slots it) && (list_all (is_tie_kept k it) it.ties && (has_offers it && true))))) ≡ true =
    and_from (has_instances k it) _ instances
    (and_from (has_addresses k it) _ addresses
    (and_from (are_in_order (is_compiled k) it.keys && has_slots it) _ keys
    (and_from (list_all (is_tie_kept k it) it.ties) _ ties (and_from (has_offers it) true offers refl)))) in
    (all, all)
