-- The keys of a goal are in compile order, and there is a machine for them.
use Rattle.std.proofs.Common.{◌≡◌, ◌∙◌, ℕ, suc, Bool, true, false, true≢false, ◌||◌, not, cond, max, nat_le, List, [], ◌∷◌, Option, Some, None, Ok, length, ap, refl, sym, subst, inl, inr, ◌⊎◌, arith}
use Rattle.std.specs.List.{AllByRecursion, Contains, filter_map, list_all, list_any}
use Rattle.std.specs.List.Sorted.{IsSorted}
use Rattle.std.specs.Option.{option_map}
use Rattle.std.proofs.lemmas.Bool.{and_from, cases_lt, le-leb, or_cases, or_from, or_left, or_right}
use Rattle.bosh_base.specs.declared.addr.Addr.{Addr}
use Rattle.bosh_base.specs.declared.goal.Goal.{Goal}
use Rattle.bosh_base.specs.declared.key.Key.{Key}
use Rattle.bosh_base.specs.declared.key.KeyWork.{KeyWork}
use Rattle.bosh_base.specs.declared.make.Make.{Make}
use Rattle.bosh_base.specs.declared.release.PackageSpec.{PackageSpec}
use Rattle.bosh_base.specs.declared.release.Release.{Release}
use Rattle.bosh_base.specs.declared.stemcell.Stemcell.{Stemcell}
use Rattle.bosh_base.specs.declared.view.View.{View}
use Rattle.bosh_alike.proofs.ElementLemmas.{given_from}
use Rattle.bosh_cloudcfg.specs.declared.config.Config.{Config}
use Rattle.bosh_compile.specs.CompileOrder.{compile_cmp}
use Rattle.bosh_compile.specs.Level.{needs, one_above}
use Rattle.bosh_compile.specs.Readiness.{is_among, same_key}
use Rattle.bosh_compile.proofs.KeyLemmas.{same_key_decides}
use Rattle.bosh_goal.specs.Goal.{IsGoal}
use Rattle.bosh_history.specs.Keys.{Leveled, are_after, are_in_order, comes_after, is_listed, level_after, leveled_cmp, leveled_work}
use Rattle.bosh_rows.specs.SoundSnapshot.{is_less}
use Rattle.bosh_keys.proofs.ListLemmas.{flat_from, flat_into, mapped_from, mapped_into}
use Rattle.bosh_keys.proofs.WorkLemmas.{named_at}
use Rattle.bosh_keys.specs.Works.{AreKeys, all_works, asked_keys, group_works, job_works, key_named, key_of, package_name, work_of}
use Rattle.bosh_lookup.specs.Table.{first_named}
use Rattle.bosh_manifest.specs.declared.manifest.Contents.{Contents}
use Rattle.bosh_needed.specs.Needed.{IsNeeded, by}
use Rattle.bosh_pool.proofs.ListLemmas.{Pairs, any_from, any_some, recursion_from_contains}
use Rattle.bosh_release_files.specs.Files.{in_order}
use Rattle.bosh_slots.specs.Slots.{slots}
use Rattle.bosh_manifest_names.specs.Used.{UsedGroup}
use Rattle.bosh_manifest_names.specs.Uses.{uses}
use Rattle.laws_goals.specs.Keys.{HasSoundKeys}
use Rattle.laws_goals.proofs.ListLemmas.{all_at, all_from_index, all_map, all_pass, none_pass}
use Rattle.laws_goals.proofs.OrderLemmas.{NoLater, OtherKey, Rises, Unneeded, no-later, once-pairs, rises}
use Rattle.laws_goals.proofs.PartLemmas.{IsMade, is-made}
use Rattle.laws_goals.proofs.SlotLemmas.{some-slot}

-- ---- what a package needs is a package of its release

record IsKeyOf (works : List KeyWork) (key : Key) : Type 0 where
  work : KeyWork
  there : Contains works work
  is : work.key ≡ key

key-known : (release : Release) (stemcell : Stemcell) (name : List ℕ) (key : Key) → key_named release stemcell name ≡ Some key
    → (pack : PackageSpec) × Contains release.packages pack × (key_of stemcell pack ≡ key)
key-known release stemcell name key e = at (first_named package_name release.packages name) refl e
  where
    at : (found : Option PackageSpec) → first_named package_name release.packages name ≡ found → option_map (key_of stemcell) found ≡ Some key
        → (pack : PackageSpec) × Contains release.packages pack × (key_of stemcell pack ≡ key)
    at None f e = absurd (cc)
    at (Some pack) f e = (pack, (named_at release name pack f).0, cc)

needed-known : (groups : List UsedGroup) (work : KeyWork) (key : Key) → Contains (all_works groups) work → Contains work.deps key → IsKeyOf (all_works groups) key
needed-known groups work key there need =
    let (group, in_groups, of_group) = flat_from group_works groups work there in
    let (job, in_jobs, of_job) = flat_from (job_works group.stemcell) group.jobs work of_group in
    let (pack, in_packs, same) = mapped_from (work_of job.release group.stemcell) job.release.packages work of_job in
    let listed : Contains (filter_map (key_named job.release group.stemcell) (in_order pack.deps)) key = subst (λ (w : KeyWork). Contains w.deps key) (sym same) need in
    let (name, in_names, named_) = given_from (key_named job.release group.stemcell) (in_order pack.deps) key listed in
    let (other, in_release, is) = key-known job.release group.stemcell name key named_ in
    record {
      work = work_of job.release group.stemcell other;
      there =
          flat_into group_works groups group (work_of job.release group.stemcell other) in_groups
          (flat_into (job_works group.stemcell) group.jobs job (work_of job.release group.stemcell other) in_jobs
          (mapped_into (work_of job.release group.stemcell) job.release.packages other in_release));
      is = is;
    }

-- ---- one work after another

module _ (compiled : List Key) (level : KeyWork → ℕ) where
  abbrev is_compiled : Key → Bool
  is_compiled key = is_among key compiled

  -- a key is compiled, or is that of a work before or after
  abbrev IsHad : List Leveled → List KeyWork → Key → Type 0
  IsHad before rest key = (is_compiled key ≡ true) ⊎ ((is_listed before key ≡ true) ⊎ (list_any (λ other. same_key key other.key) rest ≡ true))

  abbrev IsNext : List Leveled → List KeyWork → Type 0
  IsNext [] rest = Unit {0}
  IsNext (last ∷ before) rest = Rises level last.work rest

  abbrev Rising : List KeyWork → Type 0
  Rising [] = Unit {0}
  Rising (work ∷ rest) = Rises level work rest

  rising-after : (last : KeyWork) (rest : List KeyWork) → Rises level last rest → Rising rest
  rising-after last [] rise = tt
  rising-after last (work ∷ rest) rise = rise.1

  -- what is known of the works that are left and of those before them
  record AreLeft (before : List Leveled) (rest : List KeyWork) : Type 0 where
    levels : AllByRecursion (λ it. it.level ≡ level it.work) before
    apart : AllByRecursion (λ it. AllByRecursion (λ work. same_key work.key it.work.key ≡ false) rest) before
    next : IsNext before rest
    rising : Rising rest
    had : AllByRecursion (λ work. AllByRecursion (IsHad before rest) work.deps) rest
    above : AllByRecursion (λ work. level work ≡ max (level_after before work) (one_above rest level work)) rest
    pairs : Pairs OtherKey rest
    later : NoLater rest
    uncompiled : AllByRecursion (λ work. is_compiled work.key ≡ false) rest

  none-above : (work : KeyWork) (rest : List KeyWork) → Unneeded work rest → one_above rest level work ≡ 0
  none-above work [] none = refl
  none-above work (other ∷ rest) (here, more) =
      let first : cond (needs work other) (suc (level other)) 0 ≡ 0 = ap (λ b. cond b (suc (level other)) 0) here in
      let others : one_above rest level work ≡ 0 = none-above work rest more in
      grind arith

  level-is : (before : List Leveled) (work : KeyWork) (rest : List KeyWork) → AreLeft before (work ∷ rest) → level_after before work ≡ level work
  level-is before work rest left =
      let whole : level work ≡ max (level_after before work) (one_above (work ∷ rest) level work) = left.above.0 in
      let none : one_above (work ∷ rest) level work ≡ 0 = none-above work (work ∷ rest) left.later.0 in
      let larger : max (level_after before work) 0 ≡ level_after before work = omega arith in
      sym (whole ∙ (ap (max (level_after before work)) none ∙ larger))

  -- a key that the work needs is had before it
  had-before : (before : List Leveled) (work : KeyWork) (rest : List KeyWork) → Unneeded work rest → (key : Key) → Contains work.deps key → IsHad before rest key
      → (is_compiled key || is_listed before key) ≡ true
  had-before before work rest none key need (inl done) = or_left (is_compiled key) (is_listed before key) done
  had-before before work rest none key need (inr (inl listed)) = or_right (is_compiled key) (is_listed before key) listed
  had-before before work rest none key need (inr (inr there)) =
      let (other, within, same) = any_some (λ (v : KeyWork). same_key key v.key) rest there in
      let needed : needs work other ≡ true = any_from (λ each. same_key each other.key) work.deps key need same in
      absurd (true≢false (sym needed ∙ all_at (λ v. needs work v ≡ false) rest other none within))

  comes-after : (before : List Leveled) (work : KeyWork) (rest : List KeyWork) → AreLeft before (work ∷ rest) → comes_after before (leveled_work before work) ≡ true
  comes-after [] work rest left = refl
  comes-after (last ∷ before) work rest left =
      let now : level_after (last ∷ before) work ≡ level work = level-is (last ∷ before) work rest left in
      let was : last.level ≡ level last.work = left.levels.0 in
      ap is_less ((λ i. leveled_cmp (record { work = last.work; level = was i }) (record { work = work; level = now i })) ∙ left.next.0)

  max-moves : (a b c d : ℕ) → b ≡ d → max a (max b c) ≡ max (max d a) c
  max-moves a b c d e = omega arith

  left-next : (before : List Leveled) (work : KeyWork) (rest : List KeyWork) → AreLeft before (work ∷ rest) → AreLeft (leveled_work before work ∷ before) rest
  left-next before work rest left =
      let now : level_after before work ≡ level work = level-is before work rest left in
      record {
        levels = (now, left.levels);
        apart = (
          left.pairs.0,
          all_map (λ (it : Leveled). AllByRecursion (λ w. same_key w.key it.work.key ≡ false) (work ∷ rest)) (λ it. AllByRecursion (λ w. same_key w.key it.work.key ≡ false) rest) before (λ it p. p.1) left.apart,
        );
        next = left.rising;
        rising = rising-after work rest left.rising;
        had =
            all_map (λ w. AllByRecursion (IsHad before (work ∷ rest)) w.deps) (λ w. AllByRecursion (IsHad (leveled_work before work ∷ before) rest) w.deps) rest
            (λ w had. all_map (IsHad before (work ∷ rest)) (IsHad (leveled_work before work ∷ before) rest) w.deps moved had) left.had.1;
        above =
            all_map (λ w. level w ≡ max (level_after before w) (one_above (work ∷ rest) level w)) (λ w. level w ≡ max (level_after (leveled_work before work ∷ before) w) (one_above rest level w)) rest
            (λ w e. e ∙ max-moves (level_after before w) (cond (needs w work) (suc (level work)) 0) (one_above rest level w) (cond (needs w work) (suc (level_after before work)) 0)
            (ap (λ n. cond (needs w work) (suc n) 0) (sym now))) left.above.1;
        pairs = left.pairs.1;
        later = left.later.1;
        uncompiled = left.uncompiled.1;
      }
    where
      moved : (key : Key) → IsHad before (work ∷ rest) key → IsHad (leveled_work before work ∷ before) rest key
      moved key (inl done) = inl done
      moved key (inr (inl listed)) = inr (inl (or_right (same_key key work.key) (is_listed before key) listed))
      moved key (inr (inr there)) =
          elim (or_cases (same_key key work.key) (list_any (λ other. same_key key other.key) rest) there) [
            | inl here ↦ inr (inl (or_left (same_key key work.key) (is_listed before key) here))
            | inr more ↦ inr (inr more)
          ]

  are-after : (rest : List KeyWork) (before : List Leveled) → AreLeft before rest → are_after is_compiled before rest ≡ true
  are-after [] before left = refl
  are-after (work ∷ rest) before left =
      and_from (not (is_compiled work.key || is_listed before work.key)) _
      (ap not (or_from (is_compiled work.key) (is_listed before work.key) left.uncompiled.0
      (none_pass (λ it. same_key work.key it.work.key) before
      (all_map (λ (it : Leveled). AllByRecursion (λ w. same_key w.key it.work.key ≡ false) (work ∷ rest)) (λ it. same_key work.key it.work.key ≡ false) before (λ it p. p.0) left.apart))))
      (and_from (list_all (λ key. is_compiled key || is_listed before key) work.deps) _
      (all_pass (λ key. is_compiled key || is_listed before key) work.deps
      (recursion_from_contains (λ key. (is_compiled key || is_listed before key) ≡ true) work.deps
      (λ key need. had-before before work (work ∷ rest) left.later.0 key need (all_at (IsHad before (work ∷ rest)) work.deps key left.had.0 need))))
      (and_from (comes_after before (leveled_work before work)) (are_after is_compiled (leveled_work before work ∷ before) rest) (comes-after before work rest left)
      (are-after rest (leveled_work before work ∷ before) (left-next before work rest left))))

-- ---- all keys of a goal

module _ (groups : List UsedGroup) (compiled : List Key) (keys : List KeyWork) (needed : AreKeys groups compiled keys) where
  had-key : (work : KeyWork) → Contains keys work → (key : Key) → Contains work.deps key → IsHad compiled needed.ordered.level [] keys key
  had-key work there key need = by_test (is_among key compiled) refl
    where
      by_test : (b : Bool) → is_among key compiled ≡ b → IsHad compiled needed.ordered.level [] keys key
      by_test true e = inl e
      by_test false e =
          let known : IsKeyOf (all_works groups) key = needed-known groups work key (needed.from_works work there) need in
          let asked : IsNeeded (all_works groups) (asked_keys groups) key = by work key (needed.from_works work there) (needed.needed work there) need in
          let listed : Contains keys known.work =
          needed.all known.work known.there (subst (IsNeeded (all_works groups) (asked_keys groups)) (sym known.is) asked) (ap (λ k. is_among k compiled) known.is ∙ e) in
          inr (inr (any_from (λ other. same_key key other.key) keys known.work listed ((same_key_decides key known.work.key).1 (sym known.is))))

  rising-from : (works : List KeyWork) → Pairs OtherKey works → IsSorted (compile_cmp needed.ordered.level) works → Rising compiled needed.ordered.level works
  rising-from [] pairs sorted = tt
  rising-from (work ∷ rest) pairs sorted = rises needed.ordered.level work rest pairs sorted

  all-left : AreLeft compiled needed.ordered.level [] keys
  all-left =
      let level : KeyWork → ℕ = needed.ordered.level in
      let pairs : Pairs OtherKey keys = once-pairs keys needed.once in
      record {
        levels = tt;
        apart = tt;
        next = tt;
        rising = rising-from keys pairs needed.ordered.ordered;
        had =
            recursion_from_contains (λ work. AllByRecursion (IsHad compiled level [] keys) work.deps) keys
            (λ work there. recursion_from_contains (IsHad compiled level [] keys) work.deps (had-key work there));
        above =
            all_map (λ work. level work ≡ one_above keys level work) (λ work. level work ≡ max 0 (one_above keys level work)) keys
            (λ work e. omega arith) (all_from_index (λ work. level work ≡ one_above keys level work) keys needed.ordered.is_level);
        pairs = pairs;
        later = no-later keys needed.ordered.after_dependencies;
        uncompiled = recursion_from_contains (λ work. is_among work.key compiled ≡ false) keys needed.uncompiled;
      }

  pub in-order : are_in_order (λ key. is_among key compiled) keys ≡ true
  in-order = are-after compiled needed.ordered.level keys [] all-left

pub slotted : (config : Config) (keys : ℕ) (own : List Addr) (view : View) (makes : List Make) → slots config keys own view ≡ Ok makes → (nat_le keys 0 || nat_le 1 (length makes)) ≡ true
slotted config keys own view makes e =
    elim (cases_lt 0 keys) [
      | inl some ↦ or_right (nat_le keys 0) (nat_le 1 (length makes)) (le-leb 1 (length makes) (some-slot config keys own view makes e some))
      | inr none ↦ or_left (nat_le keys 0) (nat_le 1 (length makes)) (le-leb keys 0 none)
    ]

pub has-sound-keys :
    (manifest : Contents) (config : Config) (releases : List Release) (stemcells : List Stemcell) (view : View) (recreate : Bool) (it : Goal)
    → IsGoal manifest (Some config) releases stemcells view recreate (Ok it) → HasSoundKeys view.compiled it
has-sound-keys manifest config releases stemcells view recreate it told =
    let made : IsMade manifest config releases stemcells view recreate it = is-made manifest config releases stemcells view recreate it told in
    record { ordered = in-order made.used view.compiled it.keys made.keys_are; slotted = slotted config (length it.keys) made.addrs view it.slots made.slots_are }

pub has-needed-keys :
    (manifest : Contents) (config : Config) (releases : List Release) (stemcells : List Stemcell) (view : View) (recreate : Bool) (it : Goal)
    → IsGoal manifest (Some config) releases stemcells view recreate (Ok it)
    → (used : List UsedGroup) × (uses manifest config releases stemcells ≡ Ok used) × AreKeys used view.compiled it.keys
has-needed-keys manifest config releases stemcells view recreate it told =
    let made : IsMade manifest config releases stemcells view recreate it = is-made manifest config releases stemcells view recreate it told in
    (made.used, made.uses_are, made.keys_are)
