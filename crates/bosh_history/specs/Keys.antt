-- The keys of a goal in the order in which they are compiled: by level, then name, then key (this project's profile).
use Rattle.std.specs.Prelude.{ℕ, suc, Bool, true, not, ◌&&◌, ◌||◌, if◌then◌else◌, List, [], ◌∷◌}
use Rattle.std.specs.List.{list_any, list_all}
use Rattle.std.specs.Cmp.Lexicographic.{slice_cmp}
use Rattle.std.specs.Ordering.{nat_cmp, ordering_then}
use Rattle.std.specs.declared.cmp.Ordering.{Ordering}
use Rattle.bosh_base.specs.declared.key.Key.{Key}
use Rattle.bosh_base.specs.declared.key.KeyWork.{KeyWork}
use Rattle.bosh_compile.specs.CompileOrder.{key_cmp}
use Rattle.bosh_compile.specs.Level.{greatest, needs}
use Rattle.bosh_compile.specs.Readiness.{is_among, same_key}
use Rattle.bosh_rows.specs.SoundSnapshot.{is_less}

-- a key with its level: one more than the greatest of those of the goal that it needs
pub record Leveled : Type 0 where
  pub work : KeyWork
  pub level : ℕ

abbrev pub level_after : List Leveled → KeyWork → ℕ
level_after before work = greatest (λ it. if needs work it.work then suc it.level else 0) before

abbrev pub leveled_work : List Leveled → KeyWork → Leveled
leveled_work before work = record { work = work; level = level_after before work }

abbrev pub leveled_cmp : Leveled → Leveled → Ordering
leveled_cmp a b =
    ordering_then (nat_cmp a.level b.level)
    (ordering_then (slice_cmp nat_cmp a.work.name b.work.name) (key_cmp a.work.key b.work.key))

-- it comes after the last of those before it, of which the latest is the first
abbrev pub comes_after : List Leveled → Leveled → Bool
comes_after [] it = true
comes_after (last ∷ before) it = is_less (leveled_cmp last it)

abbrev pub is_listed : List Leveled → Key → Bool
is_listed before key = list_any (λ it. same_key key it.work.key) before

-- none is compiled, none stands twice, what it needs is compiled or stands before it, and it comes after those
abbrev pub are_after : (Key → Bool) → List Leveled → List KeyWork → Bool
are_after is_compiled before [] = true
are_after is_compiled before (work ∷ works) =
    not (is_compiled work.key || is_listed before work.key)
    && (list_all (λ key. is_compiled key || is_listed before key) work.deps
    && (comes_after before (leveled_work before work)
    && are_after is_compiled (leveled_work before work ∷ before) works))

-- the keys, none of which is compiled, are in compile order
abbrev pub are_in_order : (Key → Bool) → List KeyWork → Bool
are_in_order is_compiled works = are_after is_compiled [] works

-- no key stands twice, and what each needs is compiled or stands before it
abbrev pub stand_after_needs : (Key → Bool) → List Key → List KeyWork → Bool
stand_after_needs is_compiled before [] = true
stand_after_needs is_compiled before (work ∷ works) =
    not (is_among work.key before)
    && (list_all (λ key. is_compiled key || is_among key before) work.deps
    && stand_after_needs is_compiled (work.key ∷ before) works)

-- The keys, none of which is compiled, can be compiled one after another. So can what is left of keys in compile order
-- when some are compiled, though what needed those is on a lower level then, and the rest may be out of that order.
abbrev pub are_left : (Key → Bool) → List KeyWork → Bool
are_left is_compiled works =
    list_all (λ work. not (is_compiled work.key)) works && stand_after_needs is_compiled [] works
