-- What is told once a compile machine is not there any more.
use Rattle.std.proofs.Common.{◌≡◌, ◌∙◌, ℕ, Bool, true, false, ◌&&◌, not, List, [], ◌∷◌, ◌==◌, filter, map}
use Rattle.std.proofs.Common.{Option, Some, None, ap, refl, sym, subst}
use Rattle.std.specs.Prelude.{eqb, is_some, suc, if◌then◌else◌}
use Rattle.std.specs.Option.{option_eq, option_map}
use Rattle.std.specs.Str.{bytes_eq}
use Rattle.std.proofs.lemmas.Bool.{and_parts, eqb-true, false≢true, or_parts, true≢false}
use Rattle.bosh_base.specs.declared.goal.Goal.{Goal}
use Rattle.bosh_base.specs.declared.key.Key.{Key}
use Rattle.bosh_base.specs.declared.key.KeyWork.{KeyWork}
use Rattle.bosh_compile.proofs.KeyLemmas.{same_key_decides}
use Rattle.bosh_compile.specs.Readiness.{same_key}
use Rattle.bosh_history.specs.Items.{is_leftover}
use Rattle.bosh_history.specs.Known.{Known, Slot, SlotName}
use Rattle.bosh_history.specs.Orders.{same_slot}
use Rattle.bosh_history.specs.Slots.{is_compiled, is_taken, keys_of, takes, works_for}
use Rattle.bosh_history.specs.Words.{holds, is_among, without}
use Rattle.bosh_progress.specs.Tree.{first_marked}
use Rattle.bosh_work.specs.Line.{given_line}
use Rattle.bosh_work.specs.declared.line.Line.{Line}
use Rattle.bosh_work.specs.declared.part.MachineName.{MachineName}
use Rattle.laws_stands.proofs.LineLemmas.{stands_given, stands_on}
use Rattle.laws_stands.proofs.MarkLemmas.{one_more}
use Rattle.laws_stands.specs.LineStands.{LineStands, place_of}
use Rattle.laws_stands.specs.Stands.{AreSwept, key_place}
use Rattle.laws_stands.specs.Told.{Told, is_going}
use Rattle.laws_stands.specs.WorkStands.{is_worked_for, keys_in}
use Rattle.laws_stands_ends.proofs.WithoutLemmas.{any_same, any_without, filter_without}
use Rattle.laws_stands_ends.specs.Dropping.{AllowsDrop, told_dropped}
use Rattle.laws_stands_on.proofs.ChangedLemmas.{eqb_flip}
use Rattle.laws_stands_slots.proofs.SlotTableLemmas.{with_slot_is}
use Rattle.laws_stands_slots.specs.Slots.{named}

-- ---- places

pub none_placed : {T : Type 0} (same : T → T → Bool) (x : T) (xs : List T) → is_among same x xs ≡ false
    → place_of same x xs ≡ None
none_placed same x [] none = refl
none_placed same x (y ∷ xs) none =
    let parts : (same x y ≡ false) × (is_among same x xs ≡ false) = or_parts (same x y) (is_among same x xs) none in
    (λ j. first_marked (parts.0 j ∷ map (same x) xs))
    ∙ ap (option_map suc) (none_placed same x xs parts.1)

pub same_slot_is : (a b : SlotName) → same_slot a b ≡ true → a ≡ b
same_slot_is a b is =
    let both : (eqb a.task b.task ≡ true) × (eqb a.slot b.slot ≡ true) =
    and_parts (eqb a.task b.task) (eqb a.slot b.slot) is in
    λ j. record { task = eqb-true a.task b.task both.0 j; slot = eqb-true a.slot b.slot both.1 j }

-- the place of a key in a goal is its place among the keys
pub key_placed : (key : Key) (goal : Option Goal) → first_marked (map (λ work. same_key work.key key) (keys_of goal))
    ≡ place_of same_key key (keys_in goal)
key_placed key goal = by (keys_of goal)
  where
    flip : (a b : Key) → same_key a b ≡ same_key b a
    flip a b = of (same_key a b) (same_key b a) refl refl
      where
        of : (t u : Bool) → same_key a b ≡ t → same_key b a ≡ u → t ≡ u
        of true true one other = refl
        of false false one other = refl
        of true false one other = absurd (true≢false
            (sym ((same_key_decides b a).1 (sym ((same_key_decides a b).0 one))) ∙ other))
        of false true one other = absurd (true≢false
            (sym ((same_key_decides a b).1 (sym ((same_key_decides b a).0 other))) ∙ one))

    by : (works : List KeyWork) → first_marked (map (λ work. same_key work.key key) works)
        ≡ place_of same_key key (map (λ work. work.key) works)
    by [] = refl
    by (work ∷ works) = λ j. first_marked (flip work.key key j ∷ marks works j)
      where
        marks : (works : List KeyWork) → map (λ work. same_key work.key key) works
            ≡ map (same_key key) (map (λ work. work.key) works)
        marks [] = refl
        marks (work ∷ works) = λ j. flip work.key key j ∷ marks works j

-- ---- what is told

module _ (told : Told) (t s : ℕ) (allows : AllowsDrop told t s) where
  abbrev k : Known
  k = told.known

  abbrev name : MachineName
  name = record { task = t; slot = s }

  abbrev new : Told
  new = told_dropped t s told

  pub some_there : is_some (k.slot t s) ≡ true
  some_there = ap is_some allows.there

  pub slot_now : (u r : ℕ) → new.known.slot u r ≡ (if eqb t u && eqb s r then None else k.slot u r)
  slot_now = with_slot_is t s None k.slot

  -- the slots of the others
  pub slot_other : (x : SlotName) → same_slot (named t s) x ≡ false
      → new.known.slot x.task x.slot ≡ k.slot x.task x.slot
  slot_other x other = slot_now x.task x.slot ∙ (λ j. if other j then None else k.slot x.task x.slot)

  -- what is swept

  left_other : (u : ℕ) (x : SlotName) → same_slot (named t s) x ≡ false
      → is_leftover new.known u x ≡ is_leftover k u x
  left_other u x other = λ j. not (x.task == u)
      && holds (λ (slot : Slot). option_eq bytes_eq (Some slot.dep) (k.task u).dep) (slot_other x other j)

  abbrev still : List MachineName → List MachineName
  still swept = filter (λ x. is_some (new.known.slot x.task x.slot)) swept

  abbrev were : List MachineName → List MachineName
  were swept = filter (λ x. is_some (k.slot x.task x.slot)) swept

  abbrev names : List MachineName → List SlotName
  names xs = map (λ x. record { task = x.task; slot = x.slot }) xs

  pub swept_now : (u : ℕ) (swept : List MachineName) → AreSwept k u swept → AreSwept new.known u swept
  swept_now u swept are = there swept ∙ ap (without same_slot (named t s)) are
      ∙ sym (filter_without same_slot same_slot_is (named t s) (is_leftover k u) (is_leftover new.known u)
      (left_other u) k.machines)
    where
      there : (swept : List MachineName)
          → names (still swept) ≡ without same_slot (named t s) (names (were swept))
      there [] = refl
      there (x ∷ swept) =
          (λ j. names (if is_some (slot_now x.task x.slot j) then x ∷ still swept else still swept))
          ∙ by (eqb t x.task && eqb s x.slot) refl (is_some (k.slot x.task x.slot)) refl (there swept)
        where
          by : (b : Bool) → (eqb t x.task && eqb s x.slot) ≡ b → (c : Bool) → is_some (k.slot x.task x.slot) ≡ c
              → names (still swept) ≡ without same_slot (named t s) (names (were swept))
              → names (if is_some (if b then None else k.slot x.task x.slot) then x ∷ still swept else still swept)
              ≡ without same_slot (named t s) (names (if c then x ∷ were swept else were swept))
          by true is true some more = more
              ∙ (λ j. if sym is j then without same_slot (named t s) (names (were swept))
              else record { task = x.task; slot = x.slot } ∷ without same_slot (named t s) (names (were swept)))
          by true is false some more = more
          by false is true some more =
              (λ j. names (if some j then x ∷ still swept else still swept))
              ∙ ap (λ (xs : List SlotName). record { task = x.task; slot = x.slot } ∷ xs) more
              ∙ (λ j. if sym is j then without same_slot (named t s) (names (were swept))
              else record { task = x.task; slot = x.slot } ∷ without same_slot (named t s) (names (were swept)))
          by false is false some more = (λ j. names (if some j then x ∷ still swept else still swept)) ∙ more

  -- machines that are for a key

  pub worked_other : (u : ℕ) → eqb t u ≡ false → (key : Key) → is_worked_for new.known u key ≡ is_worked_for k u key
  worked_other u other key = any_without same_slot same_slot_is (named t s)
      (λ x. x.task == u && works_for key (k.slot u x.slot))
      (λ x. x.task == u && works_for key (new.known.slot u x.slot))
      (λ x differs. ap (λ o. x.task == u && works_for key o)
      (slot_now u x.slot ∙ (λ j. if other j && eqb s x.slot then None else k.slot u x.slot)))
      (λ x same. λ j. (ap (λ task. eqb task u)
      (sym (ap (λ (x : SlotName). x.task) (same_slot_is (named t s) x same))) ∙ other) j
      && works_for key (k.slot u x.slot)) k.machines

  worked_own : (key : Key) → is_worked_for new.known t key ≡ is_taken k t s key
  worked_own key = any_without same_slot same_slot_is (named t s)
      (takes k t s key) (λ x. x.task == t && works_for key (new.known.slot t x.slot)) others own k.machines
    where
      others : (x : SlotName) → same_slot (named t s) x ≡ false
          → (x.task == t && works_for key (new.known.slot t x.slot)) ≡ takes k t s key x
      others x differs = by (eqb x.task t) refl
        where
          apart : eqb x.task t ≡ true → eqb s x.slot ≡ false
          apart of = of_both (eqb t x.task) (eqb s x.slot) (eqb_flip t x.task ∙ of) differs
            where
              of_both : (a b : Bool) → a ≡ true → (a && b) ≡ false → b ≡ false
              of_both true b is none = none
              of_both false b is none = absurd (false≢true is)

          by : (b : Bool) → eqb x.task t ≡ b → (b && works_for key (new.known.slot t x.slot))
              ≡ (b && (not (x.slot == s) && works_for key (k.slot t x.slot)))
          by false of = refl
          by true of =
              ap (works_for key) (slot_now t x.slot
              ∙ (λ j. if eqb t t && apart of j then None else k.slot t x.slot) ∙ never (eqb t t))
              ∙ (λ j. not (sym (eqb_flip x.slot s ∙ apart of) j) && works_for key (k.slot t x.slot))
            where
              never : (b : Bool) → (if b && false then None else k.slot t x.slot) ≡ k.slot t x.slot
              never true = refl
              never false = refl

      own : (x : SlotName) → same_slot (named t s) x ≡ true → takes k t s key x ≡ false
      own x same =
          (λ j. x.task == t && (not ((eqb_flip x.slot s
          ∙ (and_parts (eqb t x.task) (eqb s x.slot) same).1) j) && works_for key (k.slot t x.slot)))
          ∙ none (x.task == t)
        where
          none : (b : Bool) → (b && false) ≡ false
          none true = refl
          none false = refl

  -- a key that it is not for
  taken_as : (key : Key) → works_for key (k.slot t s) ≡ false → is_taken k t s key ≡ is_worked_for k t key
  taken_as key none = any_same (λ x. x.task == t && works_for key (k.slot t x.slot)) (takes k t s key) each k.machines
    where
      each : (x : SlotName) → takes k t s key x ≡ (x.task == t && works_for key (k.slot t x.slot))
      each x = ap (λ b. x.task == t && b) (by (eqb x.slot s) refl)
        where
          by : (b : Bool) → eqb x.slot s ≡ b
              → (not b && works_for key (k.slot t x.slot)) ≡ works_for key (k.slot t x.slot)
          by true is = sym (ap (λ r. works_for key (k.slot t r)) (eqb-true x.slot s is) ∙ none)
          by false is = refl

  -- the line of keys of its task

  pub keys_given : is_going k t ≡ true → (line : Line Key)
      → LineStands (keys_in (k.task t).goal) (λ key. not (is_compiled k key)) (λ key. not (is_worked_for k t key)) line
      → LineStands (keys_in (k.task t).goal) (λ key. not (is_compiled k key))
      (λ key. not (is_worked_for new.known t key)) (given_line line (key_place k t (allows.row).key))
  keys_given going line line_stands = by (allows.row).key refl
    where
      for_row : (key : Key) → works_for key (k.slot t s) ≡ holds (same_key key) (allows.row).key
      for_row key = ap (works_for key) allows.there

      by : (o : Option Key) → (allows.row).key ≡ o
          → LineStands (keys_in (k.task t).goal) (λ key. not (is_compiled k key))
          (λ key. not (is_worked_for new.known t key)) (given_line line (key_place k t o))
      by None is =
          stands_on (keys_in (k.task t).goal) (λ key. not (is_compiled k key)) (λ key. not (is_worked_for k t key))
          (λ key. not (is_compiled k key)) (λ key. not (is_worked_for new.known t key)) line (λ key. refl)
          (λ key. ap not (worked_own key ∙ taken_as key (for_row key ∙ ap (holds (same_key key)) is))) line_stands
      by (Some key) is =
          subst (λ place. LineStands (keys_in (k.task t).goal) (λ key. not (is_compiled k key))
          (λ key. not (is_worked_for new.known t key)) (given_line line place)) (sym (key_placed key (k.task t).goal))
          (stands_given same_key (λ a b. (same_key_decides a b).0) (keys_in (k.task t).goal) key
          (one_more same_key (λ a b. (same_key_decides a b).0) (keys_in (k.task t).goal) (allows.keys going) key)
          (λ key. not (is_compiled k key)) (λ key. not (is_worked_for k t key)) (λ key. not (is_compiled k key))
          (λ key. not (is_worked_for new.known t key)) line (λ key. refl) (λ other. of other (same_key key other) refl)
          line_stands)
        where
          of : (other : Key) (b : Bool) → same_key key other ≡ b → not (is_worked_for new.known t other)
              ≡ (if b then true else not (is_worked_for k t other))
          of other true same =
              ap not (worked_own other
              ∙ allows.alone other (is ∙ ap Some ((same_key_decides key other).0 same)) going)
          of other false apart = ap not (worked_own other
              ∙ taken_as other (for_row other ∙ ap (holds (same_key other)) is ∙ away (same_key other key) refl))
            where
              away : (c : Bool) → same_key other key ≡ c → c ≡ false
              away false same = refl
              away true same = absurd (true≢false
                  (sym ((same_key_decides key other).1 (sym ((same_key_decides other key).0 same))) ∙ apart))
