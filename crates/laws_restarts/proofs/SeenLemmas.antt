-- What a restart sees of the entries: the one that was kept, where one was, and those that it notes.
use Rattle.std.proofs.Common.{◌≡◌, ◌∙◌, ◌<◌, ◌≤◌, ℕ, ◌+◌, Bool, true, false, List, [], ◌∷◌, ◌++◌, Option, Some, None, ap, append-nil, arith, drop, length, length-append, map, min, refl, subst, sym}
use Rattle.std.specs.Prelude.{nat_lt, slice_get}
use Rattle.std.specs.List.{filter_map}
use Rattle.std.proofs.lemmas.Bool.{lt-ltb, ltb-true}
use Rattle.bosh_base.specs.declared.entry.Entry.{Entry}
use Rattle.bosh_base.specs.declared.moves.Cause.{Cause}
use Rattle.bosh_base.specs.declared.moves.Move.TheVariants as moves
use Rattle.bosh_history.specs.Moments.{durable_entry}
use Rattle.bosh_moves.specs.Found.{kept_at}
use Rattle.bosh_moves.specs.Story.{halts, kept_count}
use Rattle.bosh_world.specs.Restarts.{first_halt}
use Rattle.laws_restarts.proofs.StopLemmas.{drop_front}
use Rattle.laws_sites.specs.Good.{listed}

seam : (es ended : List Entry) (e : Entry) → slice_get ((es ++ e ∷ []) ++ ended) (length es) ≡ Some e
seam [] ended e = refl
seam (x ∷ es) ended e = seam es ended e

behind : (es ended : List Entry) (e : Entry) → drop (length es + 1) ((es ++ e ∷ []) ++ ended) ≡ ended
behind es ended e =
    ap (λ n. drop n ((es ++ e ∷ []) ++ ended)) (sym (length-append es (e ∷ []))) ∙ drop_front (es ++ e ∷ []) ended

behind_all : (es ended : List Entry) → drop (length es + 0) ((es ++ []) ++ ended) ≡ ended
behind_all es ended =
    ap (λ n. drop n ((es ++ []) ++ ended)) (sym (length-append es [])) ∙ drop_front (es ++ []) ended

not_less : (n : ℕ) → nat_lt n n ≡ false
not_less n = by (nat_lt n n) refl
  where
    over : (a : ℕ) → a < a → ⊥
    over a less = grind (arith, less)

    by : (b : Bool) → nat_lt n n ≡ b → nat_lt n n ≡ false
    by false is = is
    by true is = absurd (over n (ltb-true n n is))

-- what was kept and what was noted since, where so many entries were read
pub record IsSeen (es all : List Entry) (read : ℕ) (kept : Option Entry) (ended : List Entry) : Type 0 where
  pub kept_is : kept_at (nat_lt (length es) read) all (length es) ≡ kept
  pub noted_is : drop (min (length es) (length all) + kept_count (Some (nat_lt (length es) read))) all ≡ ended

pub seen : (es all : List Entry) (read : ℕ) (kept : Option Entry) (ended : List Entry)
    → all ≡ (es ++ listed kept) ++ ended → read ≡ length (es ++ listed kept) → IsSeen es all read kept ended
seen es all read kept ended is count =
    subst (λ (them : List Entry). IsSeen es them read kept ended) (sym is)
    (subst (λ (n : ℕ). IsSeen es ((es ++ listed kept) ++ ended) n kept ended) (sym count) (by kept))
  where
    within : (a b c : ℕ) → b ≡ a + c → min a b ≡ a
    within a b c is = omega (arith, is)

    first : (rest : List Entry) → min (length es) (length ((es ++ rest) ++ ended)) ≡ length es
    first rest = within (length es) (length ((es ++ rest) ++ ended)) (length rest + length ended)
        (longer (length ((es ++ rest) ++ ended)) (length (es ++ rest)) (length es) (length rest) (length ended)
        (length-append (es ++ rest) ended) (length-append es rest))
      where
        longer : (all both one two three : ℕ) → all ≡ both + three → both ≡ one + two → all ≡ one + (two + three)
        longer all both one two three outer inner = omega (arith, outer, inner)

    none : nat_lt (length es) (length (es ++ [])) ≡ false
    none = (λ i. nat_lt (length es) (length (append-nil es i))) ∙ not_less (length es)

    some : (e : Entry) → nat_lt (length es) (length (es ++ e ∷ [])) ≡ true
    some e = lt-ltb (length es) (length (es ++ e ∷ [])) (one_more (length es) (length (es ++ e ∷ [])) (length-append es (e ∷ [])))
      where
        one_more : (a b : ℕ) → b ≡ a + 1 → a < b
        one_more a b is = omega (arith, is)

    by : (kept : Option Entry) → IsSeen es ((es ++ listed kept) ++ ended) (length (es ++ listed kept)) kept ended
    by None = record {
      kept_is = ap (λ (b : Bool). kept_at b ((es ++ []) ++ ended) (length es)) none;
      noted_is = (λ i. drop (first [] i + kept_count (Some (none i))) ((es ++ []) ++ ended)) ∙ behind_all es ended;
    }
    by (Some e) = record {
      kept_is = ap (λ (b : Bool). kept_at b ((es ++ e ∷ []) ++ ended) (length es)) (some e) ∙ seam es ended e;
      noted_is = (λ i. drop (first (e ∷ []) i + kept_count (Some (some e i))) ((es ++ e ∷ []) ++ ended))
          ∙ behind es ended e;
    }

-- what is durable by the moves of a restart
pub durable_restart : (off : Bool) (kept : Option Entry) (took : List ℕ) (wrote : Option Entry) (ended : List Entry)
    (halt : Option Cause)
    → filter_map durable_entry (first_halt off ++ (moves.Stop (record { kept = kept; took = took; wrote = wrote })
    ∷ map moves.Note ended ++ halts halt))
    ≡ listed kept ++ ended
durable_restart off kept took wrote ended halt = by off kept
  where
    noted : (ended : List Entry) (halt : Option Cause)
        → filter_map durable_entry (map moves.Note ended ++ halts halt) ≡ ended
    noted [] None = refl
    noted [] (Some cause) = refl
    noted (e ∷ ended) halt = ap (λ es. e ∷ es) (noted ended halt)

    by : (off : Bool) (kept : Option Entry)
        → filter_map durable_entry (first_halt off ++ (moves.Stop (record { kept = kept; took = took; wrote = wrote })
        ∷ map moves.Note ended ++ halts halt))
        ≡ listed kept ++ ended
    by true (Some e) = ap (λ es. e ∷ es) (noted ended halt)
    by true None = noted ended halt
    by false (Some e) = ap (λ es. e ∷ es) (noted ended halt)
    by false None = noted ended halt
