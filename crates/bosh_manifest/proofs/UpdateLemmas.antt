-- Update rules that were read.
use Rattle.std.proofs.Common.{◌≡◌, ℕ, ℤ, pos, negsuc, ◌+◌, ◌-◌, ◌*◌, ◌^◌, ◌≤◌, ◌==◌, ◌&&◌, Bool, true, false, nat_le, nat_lt, List, [], ◌∷◌, Option, Some, None, Result, Ok, Err, codes, cond, refl, sym, ◌∙◌, subst, inl, inr, arith, unwrap_or}
use Rattle.std.specs.Str.{bytes_eq}
use Rattle.std.proofs.lemmas.Bool.{cases_Bool, ltb-false}
use Rattle.std.proofs.lemmas.Bool.Decides.{nat_tests}
use Rattle.bosh_base.specs.declared.count.Count.{Count}
use Rattle.bosh_base.specs.declared.count.Count.TheVariants.{Whole}
use Rattle.bosh_yaml.specs.Tree.{Tree, null, boolean, integer, text, list, map}
use Rattle.bosh_fields.specs.Answer.{◌>>=◌}
use Rattle.bosh_fields.specs.Field.{optional, optional_value, required, value_at}
use Rattle.bosh_fields.specs.Kind.{a_mapping}
use Rattle.bosh_fields.specs.declared.fault.FieldFault.{FieldFault}
use Rattle.bosh_fields.specs.declared.fault.FieldFault.TheVariants.{Malformed, Limit}
use Rattle.bosh_manifest_update.specs.Amount.{an_amount, both_digits, digit, share, share_in, two_digits, whole}
use Rattle.bosh_manifest_update.specs.Update.{an_own_update, an_update, group_update, optional_amounts, optional_times, required_amounts, required_times, serial, update_from}
use Rattle.bosh_manifest_update.specs.declared.update.Update.{Update}
use Rattle.bosh_manifest.specs.Sound.{IsAmount, IsSoundUpdate}
use Rattle.bosh_manifest.proofs.ReadingLemmas.{both-parts, ok-parts, required-ok, same-ok}

same-some : {A : Type 0} {a b : A} → ◌≡◌ {A = Option A} (Some a) (Some b) → a ≡ b
same-some h = cc

-- a value that is there where a test holds
if-some : (test : Bool) (value : Option ℕ) (n : ℕ) → cond test value None ≡ Some n → (test ≡ true) × (value ≡ Some n)
if-some true value n h = (refl, h)
if-some false value n h = absurd (cc)

digit-ok : (least byte n : ℕ) → digit least byte ≡ Some n → n ≤ 9
digit-ok least byte n h =
    let (met, is) = if-some (nat_le (48 + least) byte && nat_le byte 57) (Some (byte - 48)) n h in
    let same : byte - 48 ≡ n = same-some is in
    grind (arith, nat_tests)

both_digits-ok : (tens ones : Option ℕ) (n : ℕ) → ((a : ℕ) → tens ≡ Some a → a ≤ 9) → ((b : ℕ) → ones ≡ Some b → b ≤ 9) → both_digits tens ones ≡ Some n → n ≤ 100
both_digits-ok (Some a) (Some b) n first second h =
    let same : 10 * a + b ≡ n = same-some h in
    omega (arith, first a refl, second b refl)
both_digits-ok (Some a) None n first second h = absurd (cc)
both_digits-ok None ones n first second h = absurd (cc)

hundred : (test : Bool) (n : ℕ) → cond test (Some 100) None ≡ Some n → n ≤ 100
hundred test n h =
    let (met, is) = if-some test (Some 100) n h in
    let same : 100 ≡ n = same-some is in
    omega arith

-- a share is no more than the whole
share_in-ok : (s : List ℕ) (n : ℕ) → share_in s ≡ Some n → n ≤ 100
share_in-ok [] n h = hundred (bytes_eq [] (codes "100%")) n h
share_in-ok (a ∷ []) n h = hundred (bytes_eq (a ∷ []) (codes "100%")) n h
share_in-ok (a ∷ b ∷ []) n h =
    let (met, is) = if-some (b == 37) (digit 0 a) n h in
    omega (arith, digit-ok 0 a n is)
share_in-ok (a ∷ b ∷ c ∷ []) n h =
    let (met, is) = if-some (c == 37) (two_digits a b) n h in
    both_digits-ok (digit 1 a) (digit 0 b) n (digit-ok 1 a) (digit-ok 0 b) is
share_in-ok (a ∷ b ∷ c ∷ d ∷ more) n h = hundred (bytes_eq (a ∷ b ∷ c ∷ d ∷ more) (codes "100%")) n h

share-ok : (least : ℕ) (key : List ℕ) (percent : Option ℕ) (count : Count) → ((n : ℕ) → percent ≡ Some n → n ≤ 100) → share key percent ≡ Ok count → IsAmount least count
share-ok least key None count within h = absurd (cc)
share-ok least key (Some n) count within h = subst (IsAmount least) (same-ok h) (within n refl)

whole-ok : (least : ℕ) (key : List ℕ) (n : ℤ) (count : Count) → whole least key n ≡ Ok count → IsAmount least count
whole-ok least key (negsuc n) count h = absurd (cc)
whole-ok least key (pos n) count h =
    elim (cases_Bool (nat_lt n least)) [
      | inl below ↦ let never : ◌≡◌ {A = Result Count FieldFault} (Err (Malformed key)) (Ok count) = sym (rw below refl) ∙ h in absurd (cc)
      | inr enough ↦
          let rest : cond (nat_lt n (2 ^ 32)) (Ok (Whole n)) (Err (Limit key)) ≡ Ok count = sym (rw enough refl) ∙ h in
          elim (cases_Bool (nat_lt n (2 ^ 32))) [
            | inl fits ↦
                let same : ◌≡◌ {A = Result Count FieldFault} (Ok (Whole n)) (Ok count) = sym (rw fits refl) ∙ rest in
                subst (IsAmount least) (same-ok same) (ltb-false n least enough)
            | inr beyond ↦ let never : ◌≡◌ {A = Result Count FieldFault} (Err (Limit key)) (Ok count) = sym (rw beyond refl) ∙ rest in absurd (cc)
          ]
    ]

pub amount-ok : (least : ℕ) (key : List ℕ) (t : Tree) (count : Count) → an_amount least key t ≡ Ok count → IsAmount least count
amount-ok least key null count h = absurd (cc)
amount-ok least key (boolean b) count h = absurd (cc)
amount-ok least key (integer n) count h = whole-ok least key n count h
amount-ok least key (text s) count h = share-ok least key (share_in s) count (share_in-ok s) h
amount-ok least key (list ts) count h = absurd (cc)
amount-ok least key (map fs) count h = absurd (cc)

required_amount-ok : (least : ℕ) (key : List ℕ) (holder : Tree) (count : Count) → required (an_amount least) key holder ≡ Ok count → IsAmount least count
required_amount-ok least key holder count h = let (t, read) = required-ok (an_amount least) key holder count h in amount-ok least key t count read

value-or : (least : ℕ) (key : List ℕ) (value : Option Tree) (found : Option Count) (other : Count) → optional_value (an_amount least) key value ≡ Ok found → IsAmount least other → IsAmount least (unwrap_or found other)
value-or least key None found other h sound = subst (λ (o : Option Count). IsAmount least (unwrap_or o other)) (same-ok h) sound
value-or least key (Some t) found other h sound =
    let (count, read, whole) = ok-parts (an_amount least key t) (λ count. Ok (Some count)) found h in
    subst (λ (o : Option Count). IsAmount least (unwrap_or o other)) (same-ok whole) (amount-ok least key t count read)

optional_amount-ok : (least : ℕ) (key : List ℕ) (holder : Tree) (found : Option Count) (other : Count) → optional (an_amount least) key holder ≡ Ok found → IsAmount least other → IsAmount least (unwrap_or found other)
optional_amount-ok least key holder found other h sound = value-or least key (value_at key holder) found other h sound

abbrev made : Count × Count → Option Bool → Update
made amounts flag = record { canaries = amounts.0; limit = amounts.1; serial = unwrap_or flag true }

abbrev made_over : Update → Option Count × Option Count → Option Bool → Update
made_over common amounts flag = record {
  canaries = unwrap_or amounts.0 common.canaries;
  limit = unwrap_or amounts.1 common.limit;
  serial = unwrap_or flag common.serial;
}

-- the rules of a deployment
pub update-ok : (key : List ℕ) (t : Tree) (update : Update) → an_update key t ≡ Ok update → IsSoundUpdate update
update-ok key t update h =
    let (given, mapping, rest) = ok-parts (a_mapping key t) (λ given. required_amounts given >>= λ amounts. required_times given >>= λ times. serial given >>= λ flag. Ok (made amounts flag)) update h in
    let (amounts, read, others) = ok-parts (required_amounts given) (λ amounts. required_times given >>= λ times. serial given >>= λ flag. Ok (made amounts flag)) update rest in
    let (times, timed, last) = ok-parts (required_times given) (λ times. serial given >>= λ flag. Ok (made amounts flag)) update others in
    let (flag, ordered, whole) = ok-parts (serial given) (λ flag. Ok (made amounts flag)) update last in
    let each = both-parts (required (an_amount 0) (codes "canaries") given) (required (an_amount 1) (codes "max_in_flight") given) amounts read in
    subst IsSoundUpdate (same-ok whole) (record {
      canaries = required_amount-ok 0 (codes "canaries") given amounts.0 each.0;
      limit = required_amount-ok 1 (codes "max_in_flight") given amounts.1 each.1;
    })

own_update-ok : (common : Update) (key : List ℕ) (t : Tree) (update : Update) → IsSoundUpdate common → an_own_update common key t ≡ Ok update → IsSoundUpdate update
own_update-ok common key t update sound h =
    let (given, mapping, rest) = ok-parts (a_mapping key t) (λ given. optional_amounts given >>= λ amounts. optional_times given >>= λ times. serial given >>= λ flag. Ok (made_over common amounts flag)) update h in
    let (amounts, read, others) = ok-parts (optional_amounts given) (λ amounts. optional_times given >>= λ times. serial given >>= λ flag. Ok (made_over common amounts flag)) update rest in
    let (times, timed, last) = ok-parts (optional_times given) (λ times. serial given >>= λ flag. Ok (made_over common amounts flag)) update others in
    let (flag, ordered, whole) = ok-parts (serial given) (λ flag. Ok (made_over common amounts flag)) update last in
    let each = both-parts (optional (an_amount 0) (codes "canaries") given) (optional (an_amount 1) (codes "max_in_flight") given) amounts read in
    subst IsSoundUpdate (same-ok whole) (record {
      canaries = optional_amount-ok 0 (codes "canaries") given amounts.0 common.canaries each.0 sound.canaries;
      limit = optional_amount-ok 1 (codes "max_in_flight") given amounts.1 common.limit each.1 sound.limit;
    })

update_from-ok : (common : Update) (value : Option Tree) (update : Update) → IsSoundUpdate common → update_from common value ≡ Ok update → IsSoundUpdate update
update_from-ok common None update sound h = subst IsSoundUpdate (same-ok h) sound
update_from-ok common (Some t) update sound h = own_update-ok common (codes "update") t update sound h

-- the rules of a group, where those of its deployment are sound
pub group_update-ok : (common : Update) (t : Tree) (update : Update) → IsSoundUpdate common → group_update common t ≡ Ok update → IsSoundUpdate update
group_update-ok common t update sound h = update_from-ok common (value_at (codes "update") t) update sound h
