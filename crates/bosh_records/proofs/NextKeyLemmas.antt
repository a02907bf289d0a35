-- The first key that may be compiled, step by step.
use Rattle.std.proofs.Common.{◌≡◌, ◌∙◌, ℕ, ◌+◌, ◌<◌, Bool, true, false, true≢false, ◌&&◌, List, [], ◌∷◌, Option, Some, None, ap, drop, get_or, length, refl, suc, sym, zero}
use Rattle.std.specs.Prelude.{is_none, option_map, slice_index_or, if◌then◌else◌}
use Rattle.std.specs.Option.{option_and_then}
use Rattle.std.proofs.lemmas.List.{drop_more}
use Rattle.bosh_base.specs.declared.goal.Goal.{Goal}
use Rattle.bosh_base.specs.declared.key.KeyWork.{KeyWork}
use Rattle.bosh_progress.specs.Tree.{first_marked}
use Rattle.bosh_records.specs.NextKey.{first_key, goal_for, has_needs, may_compile, next_key}
use Rattle.bosh_records.specs.declared.records.Records.{Records}
use Rattle.bosh_work.specs.declared.work.Work.{Work}

-- where no place is marked, none is
none_marked : (marks : List Bool) (place : ℕ) → first_marked marks ≡ None → slice_index_or marks place false ≡ false
none_marked [] place none = refl
none_marked (true ∷ marks) place none = absurd (true≢false (sym (ap is_none none)))
none_marked (false ∷ marks) zero none = refl
none_marked (false ∷ marks) (suc place) none = none_marked marks place (of_later (first_marked marks) none)
  where
    of_later : (found : Option ℕ) → option_map suc found ≡ None → found ≡ None
    of_later None e = refl
    of_later (Some k) e = absurd (true≢false (sym (ap is_none e)))

-- nor may any key be compiled
pub none_free : (records : Records) (work : Work) (place : ℕ) (keys : List KeyWork) → first_marked work.keys.queue.free ≡ None
    → first_key records work place keys ≡ None
none_free records work place [] none = refl
none_free records work place (key ∷ keys) none =
    ap (λ b. if b && has_needs records key then Some place else first_key records work (place + 1) keys)
    (none_marked work.keys.queue.free place none)
    ∙ none_free records work (place + 1) keys none

-- the key at a place is the first, or those after it are looked through
pub one_more : (records : Records) (work : Work) (keys : List KeyWork) (k : ℕ) (it : KeyWork) → k < length keys → it ≡ get_or keys k it
    → first_key records work k (drop k keys)
    ≡ (if may_compile records work k it then Some k else first_key records work (k + 1) (drop (k + 1) keys))
one_more records work keys k it below is =
    ap (first_key records work k) (drop_more keys k it below ∙ (λ i. sym is i ∷ drop (k + 1) keys))

-- where no key is free, none is next
pub none_next : (records : Records) (work : Work) → first_marked work.keys.queue.free ≡ None → next_key records work ≡ None
none_next records work none = by (goal_for records work.task)
  where
    by : (goal : Option Goal) → option_and_then (λ it. first_key records work 0 it.keys) goal ≡ None
    by None = refl
    by (Some goal) = none_free records work 0 goal.keys none
