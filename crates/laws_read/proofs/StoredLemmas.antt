-- Entries that are stored in place of others, in their format or in the older one: fronts of them, and stores that hold them.
use Rattle.std.proofs.Common.{◌≡◌, ◌∙◌, List, [], ◌∷◌, ◌++◌, ap, inl, inr, refl, subst, sym}
use Rattle.bosh_base.specs.declared.entry.Entry.{Entry}
use Rattle.bosh_base.specs.declared.entry.Entry.TheVariants as entries
use Rattle.bosh_history.proofs.StoredLemmas.{stored_plain}
use Rattle.bosh_history.specs.Fit.{AreShortened, AreStoredAs, IsFit, IsStoredAs, StandFor, empty, has_numbers, left}
use Rattle.bosh_history.specs.Known.{Known}
use Rattle.bosh_history.specs.Learn.{known_of}
use Rattle.bosh_history.specs.Moments.{Opening, beginning, durable}
use Rattle.bosh_history.specs.Notes.{Outside}
use Rattle.bosh_history.specs.Snapshots.{snapshot_of}
use Rattle.laws_read.proofs.NoteLemmas.{with_known}
use Rattle.laws_runs.proofs.PlainLemmas.{stored_told}

-- ---- what is stored for what is stored

stored_twice : (a b c : Entry) → IsStoredAs a b → IsStoredAs b c → IsStoredAs a c
stored_twice a b c (inl same) next = subst (λ (it : Entry). IsStoredAs it c) (sym same) next
stored_twice a b c (inr older) next = inr (older ∙ stored_plain b c next)

pub all_stored_twice : (xs ys zs : List Entry) → AreStoredAs xs ys → AreStoredAs ys zs → AreStoredAs xs zs
all_stored_twice [] [] zs one two = two
all_stored_twice (x ∷ xs) (y ∷ ys) (z ∷ zs) one two =
    (stored_twice x y z one.0 two.0, all_stored_twice xs ys zs one.1 two.1)
all_stored_twice (x ∷ xs) (y ∷ ys) [] one two = absurd two
all_stored_twice (x ∷ xs) [] zs one two = absurd one
all_stored_twice [] (y ∷ ys) zs one two = absurd one

pub shortened_twice : (xs ys written : List Entry) → AreStoredAs xs ys → AreShortened ys written → AreShortened xs written
shortened_twice (x ∷ []) (y ∷ []) written one short =
    stored_twice x y (entries.Snapshot (snapshot_of (known_of written))) one.0 short
shortened_twice (x ∷ x2 ∷ xs) (y ∷ []) written one short = absurd one.1
shortened_twice xs (y ∷ y2 ∷ ys) written one short = absurd short
shortened_twice xs [] written one short = absurd short
shortened_twice [] (y ∷ []) written one short = absurd one

stand_twice : (xs ys written : List Entry) → AreStoredAs xs ys → StandFor ys written → StandFor xs written
stand_twice xs ys written one (inl alike) = inl (all_stored_twice xs ys written one alike)
stand_twice xs ys written one (inr short) = inr (shortened_twice xs ys written one short)

-- ---- a front, and what comes behind it

-- entries that are stored for two lists, one behind the other
pub record IsParted (stored front rest : List Entry) : Type 0 where
  pub before : List Entry
  pub behind : List Entry
  pub parted : stored ≡ before ++ behind
  pub front_stored : AreStoredAs before front
  pub rest_stored : AreStoredAs behind rest

pub stored_parted : (stored front rest : List Entry) → AreStoredAs stored (front ++ rest) → IsParted stored front rest
stored_parted stored [] rest all = record {
  before = [];
  behind = stored;
  parted = refl;
  front_stored = tt;
  rest_stored = all;
}
stored_parted [] (y ∷ front) rest all = absurd all
stored_parted (x ∷ stored) (y ∷ front) rest all =
    let more : IsParted stored front rest = stored_parted stored front rest all.1 in record {
      before = x ∷ more.before;
      behind = more.behind;
      parted = ap (λ (xs : List Entry). x ∷ xs) more.parted;
      front_stored = (all.0, more.front_stored);
      rest_stored = more.rest_stored;
    }

pub all_joined : (xs ys more others : List Entry) → AreStoredAs xs ys → AreStoredAs more others
    → AreStoredAs (xs ++ more) (ys ++ others)
all_joined [] [] more others one two = two
all_joined (x ∷ xs) (y ∷ ys) more others one two = (one.0, all_joined xs ys more others one.1 two)
all_joined (x ∷ xs) [] more others one two = absurd one
all_joined [] (y ∷ ys) more others one two = absurd one

-- ---- pairs

-- as many calls and tasks are known
same_numbers : (stored written : List Entry) → AreStoredAs stored written
    → has_numbers (known_of stored) ≡ has_numbers (known_of written)
same_numbers stored written all = ap has_numbers (stored_told stored written all)

abbrev stored_in : List Entry → Opening → Opening
stored_in start o = record o { entries = start }

-- a pair is fit in whatever format its entries are stored
pub stored_fit : (outside : Outside) (o : Opening) (start : List Entry) → IsFit outside o → AreStoredAs start o.entries
    → IsFit outside (record o { entries = start })
stored_fit outside o start fit all = by o start fit all
  where
    by : (o : Opening) (start : List Entry) → IsFit outside o → AreStoredAs start o.entries
        → IsFit outside (record o { entries = start })
    by o [] empty all = empty
    by o (e ∷ start) empty all = absurd all
    by o start (left before next session fit pair) all =
        left before (stored_in start next) session fit (record {
          is_run = pair.is_run;
          stopped = pair.stopped;
          entries = stand_twice start next.entries (durable before session) all pair.entries;
          effects = pair.effects;
          has_numbers = same_numbers start next.entries all ∙ pair.has_numbers;
        })

-- .. and a session begins on it as on the other, but for what is known
pub beginning_stored : (o : Opening) (start : List Entry) → AreStoredAs start o.entries
    → beginning (record o { entries = start }) ≡ with_known (known_of start) (beginning o)
beginning_stored o start all =
    λ j. record (with_known (known_of start) (beginning o)) {
      stopped = ap (λ (k : Known). k.tasks) (stored_told start o.entries all) j;
    }
