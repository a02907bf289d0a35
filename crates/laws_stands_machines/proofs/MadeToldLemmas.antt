-- What is told once a compile machine is recorded that is being made.
use Rattle.std.proofs.Common.{◌≡◌, ◌∙◌, ℕ, Bool, true, false, ◌&&◌, ◌==◌, List, map, not, Option, Some, None, ap, refl, sym, subst}
use Rattle.std.specs.Prelude.{eqb, is_some, if◌then◌else◌, ◌||◌}
use Rattle.std.specs.Option.{option_eq}
use Rattle.std.specs.Ordering.{is_eq}
use Rattle.std.specs.Str.{bytes_eq}
use Rattle.std.specs.declared.cmp.Ordering.TheVariants.{Equal}
use Rattle.std.proofs.lemmas.Bool.{eq-eqb, eqb-true, false≢true, true≢false}
use Rattle.std.proofs.lemmas.Slice.Eq.{bytes_eq-Decides}
use Rattle.bosh_base.specs.declared.key.Key.{Key}
use Rattle.bosh_compile.proofs.KeyLemmas.{same_key_decides}
use Rattle.bosh_compile.specs.Readiness.{same_key}
use Rattle.bosh_history.specs.Items.{is_leftover}
use Rattle.bosh_history.specs.Known.{Known, Slot, SlotName}
use Rattle.bosh_history.specs.Orders.{same_slot, slot_cmp}
use Rattle.bosh_history.specs.Slots.{is_compiled, works_for}
use Rattle.bosh_history.specs.Words.{holds, is_among}
use Rattle.bosh_records.specs.Recorded.{Recorded}
use Rattle.bosh_work.specs.Line.{taken_line}
use Rattle.bosh_work.specs.declared.line.Line.{Line}
use Rattle.bosh_work.specs.declared.part.MachineName.{MachineName}
use Rattle.laws_facts.proofs.OrderLemmas.{any_inserted}
use Rattle.laws_stands.proofs.LineLemmas.{stands_on, stands_taken}
use Rattle.laws_stands.proofs.MarkLemmas.{one_more}
use Rattle.laws_stands.specs.LineStands.{LineStands}
use Rattle.laws_stands.specs.Linked.{same_machine}
use Rattle.laws_stands.specs.Stands.{AreSwept, key_place}
use Rattle.laws_stands.specs.Told.{Told, is_going}
use Rattle.laws_stands.specs.WorkStands.{is_worked_for, keys_in}
use Rattle.laws_stands_ends.proofs.DroppedToldLemmas.{key_placed, same_slot_is}
use Rattle.laws_stands_machines.proofs.InsertedLemmas.{any_but, filter_but, filter_inserted}
use Rattle.laws_stands_machines.specs.Making.{AllowsMake, told_made}
use Rattle.laws_stands_slots.proofs.SlotTableLemmas.{machine_at, with_slot_is}
use Rattle.laws_stands_slots.specs.Slots.{named}

pub slot_equal : (a b : SlotName) → slot_cmp a b ≡ Equal → same_slot a b ≡ true
slot_equal a b is =
    sym (machine_at (record { task = a.task; slot = a.slot }) (record { task = b.task; slot = b.slot })) ∙ ap is_eq is

module _ (told : Told) (it : Recorded) (t s : ℕ) (slot : Slot) (allows : AllowsMake told it t s slot) where
  abbrev k : Known
  k = told.known

  abbrev new : Told
  new = told_made t s slot told

  pub slot_now : (u r : ℕ) → new.known.slot u r ≡ (if eqb t u && eqb s r then Some slot else k.slot u r)
  slot_now = with_slot_is t s (Some slot) k.slot

  pub own_slot : new.known.slot t s ≡ Some slot
  own_slot = slot_now t s ∙ (λ j. if eq-eqb t t refl j && eq-eqb s s refl j then Some slot else k.slot t s)

  -- the slots of the others
  pub slot_other : (x : SlotName) → same_slot (named t s) x ≡ false
      → new.known.slot x.task x.slot ≡ k.slot x.task x.slot
  slot_other x other = slot_now x.task x.slot ∙ (λ j. if other j then Some slot else k.slot x.task x.slot)

  -- ---- what is swept

  leftover_other : (u : ℕ) (x : SlotName) → same_slot (named t s) x ≡ false
      → is_leftover new.known u x ≡ is_leftover k u x
  leftover_other u x other = λ j. not (x.task == u)
      && holds (λ (slot : Slot). option_eq bytes_eq (Some slot.dep) (k.task u).dep) (slot_other x other j)

  -- no open task has it left over
  pub never_left : (u : ℕ) → is_going k u ≡ true → is_leftover new.known u (named t s) ≡ false
  never_left u going =
      (λ j. not (t == u) && holds (λ (slot : Slot). option_eq bytes_eq (Some slot.dep) (k.task u).dep) (own_slot j))
      ∙ by (eqb t u) refl (option_eq bytes_eq (Some slot.dep) (k.task u).dep) refl
    where
      its_dep : (o : Option (List ℕ)) → (k.task u).dep ≡ o → option_eq bytes_eq (Some slot.dep) o ≡ true
          → (k.task u).dep ≡ Some slot.dep
      its_dep None is same = absurd (false≢true same)
      its_dep (Some dep) is same = is ∙ ap Some (sym ((bytes_eq-Decides slot.dep dep).0 same))

      by : (b : Bool) → eqb t u ≡ b → (c : Bool) → option_eq bytes_eq (Some slot.dep) (k.task u).dep ≡ c
          → (not b && c) ≡ false
      by true is c same = refl
      by false other false same = refl
      by false other true same = absurd (allows.alone u other going (its_dep (k.task u).dep refl same))

  pub swept_now : (u : ℕ) (swept : List MachineName) → is_going k u ≡ true
      → is_among same_machine (record { task = t; slot = s }) swept ≡ false → AreSwept k u swept
      → AreSwept new.known u swept
  swept_now u swept going unswept are =
      ap (map (λ (x : MachineName). record { task = x.task; slot = x.slot }))
      (filter_but same_machine (record { task = t; slot = s }) (λ x. is_some (new.known.slot x.task x.slot))
      (λ x. is_some (k.slot x.task x.slot)) (λ x other. ap is_some (slot_other (named x.task x.slot) other))
      swept unswept)
      ∙ are
      ∙ sym (filter_but same_slot (named t s) (is_leftover new.known u) (is_leftover k u) (leftover_other u)
      k.machines allows.unlisted)
      ∙ sym (filter_inserted slot_cmp same_slot slot_equal (named t s) (is_leftover new.known u) (never_left u going)
      k.machines allows.unlisted)

  -- ---- machines that are for a key

  worked_now : (u : ℕ) (key : Key) → is_worked_for new.known u key
      ≡ ((t == u && works_for key (new.known.slot u s)) || is_worked_for k u key)
  worked_now u key =
      any_inserted slot_cmp (λ x. x.task == u && works_for key (new.known.slot u x.slot)) alike (named t s) k.machines
      ∙ ap (λ b. (t == u && works_for key (new.known.slot u s)) || b)
      (any_but same_slot (named t s) (λ x. x.task == u && works_for key (new.known.slot u x.slot))
      (λ x. x.task == u && works_for key (k.slot u x.slot)) other k.machines allows.unlisted)
    where
      alike : (a b : SlotName) → slot_cmp a b ≡ Equal
          → (a.task == u && works_for key (new.known.slot u a.slot))
          ≡ (b.task == u && works_for key (new.known.slot u b.slot))
      alike a b is = ap (λ (x : SlotName). x.task == u && works_for key (new.known.slot u x.slot))
          (same_slot_is a b (slot_equal a b is))

      other : (x : SlotName) → same_slot (named t s) x ≡ false
          → (x.task == u && works_for key (new.known.slot u x.slot))
          ≡ (x.task == u && works_for key (k.slot u x.slot))
      other x apart = by (eqb x.task u) refl
        where
          by : (b : Bool) → eqb x.task u ≡ b
              → (b && works_for key (new.known.slot u x.slot)) ≡ (b && works_for key (k.slot u x.slot))
          by false of = refl
          by true of = ap (works_for key)
              (subst (λ v. new.known.slot v x.slot ≡ k.slot v x.slot) (eqb-true x.task u of) (slot_other x apart))

  pub worked_other : (u : ℕ) → eqb t u ≡ false → (key : Key) → is_worked_for new.known u key ≡ is_worked_for k u key
  worked_other u other key = worked_now u key
      ∙ (λ j. (other j && works_for key (new.known.slot u s)) || is_worked_for k u key)

  worked_own : (key : Key) → is_worked_for new.known t key ≡ (holds (same_key key) slot.key || is_worked_for k t key)
  worked_own key = worked_now t key
      ∙ (λ j. (eq-eqb t t refl j && works_for key (own_slot j)) || is_worked_for k t key)

  -- ---- the line of keys of its task

  pub keys_taken : (line : Line Key)
      → LineStands (keys_in (k.task t).goal) (λ key. not (is_compiled k key)) (λ key. not (is_worked_for k t key)) line
      → LineStands (keys_in (k.task t).goal) (λ key. not (is_compiled k key))
      (λ key. not (is_worked_for new.known t key)) (taken_line line (key_place k t slot.key))
  keys_taken line line_stands = by slot.key refl
    where
      by : (o : Option Key) → slot.key ≡ o
          → LineStands (keys_in (k.task t).goal) (λ key. not (is_compiled k key))
          (λ key. not (is_worked_for new.known t key)) (taken_line line (key_place k t o))
      by None is =
          stands_on (keys_in (k.task t).goal) (λ key. not (is_compiled k key)) (λ key. not (is_worked_for k t key))
          (λ key. not (is_compiled k key)) (λ key. not (is_worked_for new.known t key)) line (λ key. refl)
          (λ key. ap not (worked_own key ∙ ap (λ o. holds (same_key key) o || is_worked_for k t key) is)) line_stands
      by (Some key) is =
          subst (λ place. LineStands (keys_in (k.task t).goal) (λ key. not (is_compiled k key))
          (λ key. not (is_worked_for new.known t key)) (taken_line line place)) (sym (key_placed key (k.task t).goal))
          (stands_taken same_key (λ a b. (same_key_decides a b).0) (keys_in (k.task t).goal) key
          (one_more same_key (λ a b. (same_key_decides a b).0) (keys_in (k.task t).goal) allows.apart key)
          (λ key. not (is_compiled k key)) (λ key. not (is_worked_for k t key)) (λ key. not (is_compiled k key))
          (λ key. not (is_worked_for new.known t key)) line (λ key. refl) (λ other. of other (same_key key other) refl)
          line_stands)
        where
          of : (other : Key) (b : Bool) → same_key key other ≡ b → not (is_worked_for new.known t other)
              ≡ (if b then false else not (is_worked_for k t other))
          of other true same =
              ap not (worked_own other
              ∙ ap (λ o. holds (same_key other) o || is_worked_for k t other) is
              ∙ (λ j. (same_key_decides other key).1 (sym ((same_key_decides key other).0 same)) j
              || is_worked_for k t other))
          of other false apart =
              ap not (worked_own other
              ∙ ap (λ o. holds (same_key other) o || is_worked_for k t other) is
              ∙ (λ j. away (same_key other key) refl j || is_worked_for k t other))
            where
              away : (c : Bool) → same_key other key ≡ c → c ≡ false
              away false same = refl
              away true same = absurd (true≢false
                  (sym ((same_key_decides key other).1 (sym ((same_key_decides other key).0 same))) ∙ apart))
