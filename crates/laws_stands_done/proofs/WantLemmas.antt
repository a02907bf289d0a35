-- How goals want instances: what is said of those of a goal is said no more.
use Rattle.std.proofs.Common.{◌≡◌, ◌∙◌, Bool, true, false, ◌||◌, List, [], ◌∷◌, Option, Some, None, ap}
use Rattle.std.proofs.Common.{refl, sym}
use Rattle.std.specs.Prelude.{fold, option_map, unwrap_or, if◌then◌else◌}
use Rattle.std.specs.BTreeMap.{is_at}
use Rattle.std.specs.Option.{option_and_then, option_map_or}
use Rattle.std.specs.declared.cmp.Ordering.{Ordering}
use Rattle.std.proofs.lemmas.Bool.{false≢true}
use Rattle.bosh_base.specs.Inst.{inst_cmp}
use Rattle.bosh_base.specs.declared.goal.GoalRow.{GoalRow}
use Rattle.bosh_base.specs.declared.inst.Inst.{Inst}
use Rattle.bosh_fold.specs.Tasks.{wants_forgotten, with_want}
use Rattle.bosh_history.specs.Words.{is_among}
use Rattle.bosh_records.specs.Table.{altered, found}
use Rattle.bosh_records.specs.declared.instances.Instance.{Instance}
use Rattle.bosh_rows.specs.Same.{same_inst}
use Rattle.bosh_work.specs.Part.{no_part}
use Rattle.laws_stands_closed.proofs.ClearedLemmas.{each_kept, each_other}
use Rattle.laws_stands_done.proofs.SettledLemmas.{SameInstances}
use Rattle.laws_stands_on.proofs.CallLemmas.{inst_flip}
use Rattle.laws_stands_on.proofs.KeyLemmas.{inst_at, inst_keys}
use Rattle.laws_stands_on.proofs.TableLemmas.{TellsKeys, found_altered}
use Rattle.laws_stands_opened.proofs.WantLemmas.{insts}

-- the same changes at each of several keys
abbrev each : {K X : Type 0} → (K → K → Ordering) → (X → X) → List (K × X) → List K → List (K × X)
each cmp change es keys = fold (λ es key. altered cmp key change es) es keys

-- one after another
pub forgotten_are : (rows : List GoalRow) (es : List (Inst × Instance))
    → wants_forgotten rows es ≡ each inst_cmp (with_want None) es (insts rows)
forgotten_are [] es = refl
forgotten_are (want ∷ rows) es = forgotten_are rows (altered inst_cmp want.inst (with_want None) es)

-- ---- what is cleared

module _ {K X Y : Type 0} (cmp : K → K → Ordering) (tells : TellsKeys cmp) (change : X → X) (read : X → Option Y)
    (clears : (x : X) → read (change x) ≡ None) where
  -- nothing is read after one change where nothing was
  none_after : (b : Bool) (o : Option X) → option_and_then read o ≡ None
      → option_and_then read (if b then option_map change o else o) ≡ None
  none_after true (Some x) none = clears x
  none_after true None none = refl
  none_after false o none = none

  -- .. or after several
  pub none_stays : (keys : List K) (es : List (K × X)) (k : K) → option_and_then read (found cmp es k) ≡ None
      → option_and_then read (found cmp (each cmp change es keys) k) ≡ None
  none_stays [] es k none = none
  none_stays (key ∷ keys) es k none = none_stays keys (altered cmp key change es) k
      (ap (option_and_then read) (found_altered cmp tells key change es k)
      ∙ none_after (is_at (cmp key) k) (found cmp es k) none)

  -- nothing is read of one of them any more
  pub each_cleared : (test : K → K → Bool) → ((a b : K) → is_at (cmp a) b ≡ test b a) → (keys : List K)
      → (es : List (K × X)) (k : K) → is_among test k keys ≡ true
      → option_and_then read (found cmp (each cmp change es keys) k) ≡ None
  each_cleared test same_as [] es k is = absurd (false≢true is)
  each_cleared test same_as (key ∷ keys) es k is =
      by (test k key) refl is (each_cleared test same_as keys (altered cmp key change es) k)
    where
      cleared : (o : Option X) → option_and_then read (option_map change o) ≡ None
      cleared (Some x) = clears x
      cleared None = refl

      by : (b : Bool) → test k key ≡ b → (b || is_among test k keys) ≡ true
          → (is_among test k keys ≡ true
          → option_and_then read (found cmp (each cmp change (altered cmp key change es) keys) k) ≡ None)
          → option_and_then read (found cmp (each cmp change (altered cmp key change es) keys) k) ≡ None
      by true same is more = none_stays keys (altered cmp key change es) k
          (ap (option_and_then read) (found_altered cmp tells key change es k)
          ∙ (λ j. option_and_then read (if (same_as key k ∙ same) j then option_map change (found cmp es k)
          else found cmp es k))
          ∙ cleared (found cmp es k))
      by false other is more = more is

-- ---- instances

pub inst_as : (a b : Inst) → is_at (inst_cmp a) b ≡ same_inst b a
inst_as a b = inst_at a b ∙ inst_flip b a

-- read with what stands for nothing
pub part_read : (o : Option Instance) → option_map_or (λ known. known.part) o no_part
    ≡ unwrap_or (option_and_then (λ (known : Instance). Some known.part) o) no_part
part_read (Some known) = refl
part_read None = refl

-- all else stays as it is
pub forgotten_same : (rows : List GoalRow) (es : List (Inst × Instance)) → SameInstances es (wants_forgotten rows es)
forgotten_same rows es = record {
  rows = λ i. kept (λ known. known.row) (λ known. refl) i;
  calls = λ i. kept (λ known. known.call) (λ known. refl) i;
  parts = λ i. part_read (found inst_cmp (wants_forgotten rows es) i)
      ∙ ap (λ o. unwrap_or o no_part) (kept (λ known. Some known.part) (λ known. refl) i)
      ∙ sym (part_read (found inst_cmp es i));
}
  where
    kept : {Y : Type 0} (read : Instance → Option Y) → ((known : Instance) → read (with_want None known) ≡ read known)
        → (i : Inst)
        → option_and_then read (found inst_cmp (wants_forgotten rows es) i) ≡ option_and_then read (found inst_cmp es i)
    kept read same i =
        ap (λ all. option_and_then read (found inst_cmp all i)) (forgotten_are rows es)
        ∙ each_kept inst_cmp inst_keys (with_want None) read same (insts rows) es i

-- a goal does not want the others
pub forgotten_other : (rows : List GoalRow) (es : List (Inst × Instance)) (i : Inst)
    → is_among same_inst i (insts rows) ≡ false → found inst_cmp (wants_forgotten rows es) i ≡ found inst_cmp es i
forgotten_other rows es i none =
    ap (λ all. found inst_cmp all i) (forgotten_are rows es)
    ∙ each_other inst_cmp inst_keys (with_want None) same_inst inst_as (insts rows) es i none

pub forgotten_own : (rows : List GoalRow) (es : List (Inst × Instance)) (i : Inst)
    → is_among same_inst i (insts rows) ≡ true
    → option_and_then (λ known. known.want) (found inst_cmp (wants_forgotten rows es) i) ≡ None
forgotten_own rows es i is =
    ap (λ all. option_and_then (λ (known : Instance). known.want) (found inst_cmp all i)) (forgotten_are rows es)
    ∙ each_cleared inst_cmp inst_keys (with_want None) (λ known. known.want) (λ known. refl) same_inst inst_as
    (insts rows) es i is
