-- An entry is read as it was spelled, in both formats.
use Rattle.std.proofs.Common.{◌≡◌, ℕ, Bool, true, false, cond, eqb, List, [], ◌∷◌, ◌++◌, length, Option, Some, None, refl, sym, ap, subst, ◌∙◌}
use Rattle.std.specs.Prelude.{Result, Ok, Err, IfOk, IsErrOf}
use Rattle.std.proofs.lemmas.Bool.{eqb-true, eq-eqb}
use Rattle.std.proofs.lemmas.List.{append-nil, nil_from_length}
use Rattle.bosh_base.specs.declared.entry.Entry.{Entry}
use Rattle.bosh_base.specs.declared.entry.Entry.TheVariants.{Release, Stemcell, Config, TaskOpen, Begin, End, UpdBegin, UpdDone, Gone, TaskDone, TaskError, Snapshot, Effect, Write, Lost}
use Rattle.bosh_entry.specs.declared.fault.EntryFault.{EntryFault}
use Rattle.bosh_entry.specs.declared.fault.EntryFault.TheVariants.{NotAnEntry, Memory}
use Rattle.bosh_entry.specs.declared.format.Format.{Format}
use Rattle.bosh_entry.specs.declared.format.Format.TheVariants.{Older, Present}
use Rattle.bosh_entry.specs.Reading.{◌>>=◌, IsBytes, byte_at, variant_at}
use Rattle.bosh_entry.specs.Later.{present_at}
use Rattle.bosh_entry.specs.Body.{kind_of, first_of, fields, entry, is_entry, kinds, entry_at, whole, Answers}
use Rattle.bosh_entry.proofs.CodingLemmas.{IsCoding, bind_some, some_is, chosen, byte_takes, making_law, ◌and◌}
use Rattle.bosh_entry.proofs.VariantLemmas.{AreVariants, variant_law, variants_take}
use Rattle.bosh_entry.proofs.NumberLemmas.{number_law}
use Rattle.bosh_entry.proofs.ListLemmas.{text_law}
use Rattle.bosh_entry.proofs.LaterLemmas.{present_law}
use Rattle.bosh_entry.proofs.ReleaseLemmas.{release_law}
use Rattle.bosh_entry.proofs.StemcellLemmas.{stemcell_law}
use Rattle.bosh_entry.proofs.SnapshotLemmas.{snapshot_law}
use Rattle.bosh_entry.proofs.EntryLemmas.{task_open_law, begin_law, end_law, update_law, task_error_law, effect_law, write_law, loss_law}

-- the kind byte and the fields
kind_and_fields : Format → Entry → List ℕ
kind_and_fields format e = kind_of e ∷ fields format e

kinds_again : (e : Entry) (format : Format) (rest : List ℕ) → is_entry format e ≡ true → variant_at 1 (kinds format) (kind_of e) (fields format e ++ rest) ≡ Some (e, rest)
unfolding fields is_entry present_at
kinds_again (Release r) format rest h = (making_law Release and release_law).again (tt, r) rest h
kinds_again (Stemcell s) format rest h = (making_law Stemcell and stemcell_law).again (tt, s) rest h
kinds_again (Config file) format rest h = (making_law Config and text_law).again (tt, file) rest h
kinds_again (TaskOpen t) format rest h = (making_law TaskOpen and task_open_law format).again (tt, t) rest h
kinds_again (Begin b) format rest h = (making_law Begin and begin_law).again (tt, b) rest h
kinds_again (End e) format rest h = (making_law End and end_law).again (tt, e) rest h
kinds_again (UpdBegin u) format rest h = (making_law UpdBegin and update_law).again (tt, u) rest h
kinds_again (UpdDone u) format rest h = (making_law UpdDone and update_law).again (tt, u) rest h
kinds_again (Gone u) format rest h = (making_law Gone and update_law).again (tt, u) rest h
kinds_again (TaskDone n) format rest h = (making_law TaskDone and number_law).again (tt, n) rest h
kinds_again (TaskError t) format rest h = (making_law TaskError and task_error_law format).again (tt, t) rest h
kinds_again (Snapshot s) format rest h = (making_law Snapshot and snapshot_law format).again (tt, s) rest h
kinds_again (Effect e) format rest h = (making_law Effect and effect_law).again (tt, e) rest h
kinds_again (Write w) format rest h = (making_law Write and write_law).again (tt, w) rest h
kinds_again (Lost l) Older rest h = absurd cc
kinds_again (Lost l) Present rest h = (making_law Lost and loss_law).again (tt, l) rest h

kinds_are : (format : Format) → AreVariants (kind_and_fields format) (is_entry format) 1 (kinds format)
unfolding kind_and_fields fields is_entry
kinds_are format = (
  variant_law (making_law Release and release_law) (λ p. refl) (λ p. refl),
  (
    variant_law (making_law Stemcell and stemcell_law) (λ p. refl) (λ p. refl),
    (
      variant_law (making_law Config and text_law) (λ p. refl) (λ p. refl),
      (
        variant_law (making_law TaskOpen and task_open_law format) (λ p. refl) (λ p. refl),
        (
          variant_law (making_law Begin and begin_law) (λ p. refl) (λ p. refl),
          (
            variant_law (making_law End and end_law) (λ p. refl) (λ p. refl),
            (
              variant_law (making_law UpdBegin and update_law) (λ p. refl) (λ p. refl),
              (
                variant_law (making_law UpdDone and update_law) (λ p. refl) (λ p. refl),
                (
                  variant_law (making_law Gone and update_law) (λ p. refl) (λ p. refl),
                  (
                    variant_law (making_law TaskDone and number_law) (λ p. refl) (λ p. refl),
                    (
                      variant_law (making_law TaskError and task_error_law format) (λ p. refl) (λ p. refl),
                      (
                        variant_law (making_law Snapshot and snapshot_law format) (λ p. refl) (λ p. refl),
                        (
                          variant_law (making_law Effect and effect_law) (λ p. refl) (λ p. refl),
                          (
                            variant_law (making_law Write and write_law) (λ p. refl) (λ p. refl),
                            (present_law format (λ e. variant_law (making_law Lost and loss_law) (λ p. refl) (λ p. rw e refl)), tt),
                          ),
                        ),
                      ),
                    ),
                  ),
                ),
              ),
            ),
          ),
        ),
      ),
    ),
  ),
)

guarded : {A : Type 0} (b : Bool) (o : Option A) (y : A) → cond b o None ≡ Some y → (b ≡ true) × (o ≡ Some y)
guarded true o y e = (refl, e)
guarded false o y e = absurd cc

same_head : (a b : ℕ) (xs ys : List ℕ) → a ∷ xs ≡ b ∷ ys → a ≡ b
same_head a b xs ys e = cc

pub entry_law : (format : Format) → IsCoding (entry format) (is_entry format) (entry_at format)
unfolding kind_and_fields entry entry_at
entry_law format = record {
  takes = λ bytes x fits e.
      let first = bind_some (byte_at bytes) (λ (first : ℕ × List ℕ). byte_at first.1 >>= λ kind. cond (eqb first.0 (first_of format kind.0)) (variant_at 1 (kinds format) kind.0 kind.1) None) x e in
      let kind = bind_some (byte_at first.0.1) (λ (kind : ℕ × List ℕ). cond (eqb first.0.0 (first_of format kind.0)) (variant_at 1 (kinds format) kind.0 kind.1) None) x first.2 in
      let guard = guarded (eqb first.0.0 (first_of format kind.0.0)) (variant_at 1 (kinds format) kind.0.0 kind.0.1) x kind.2 in
      let one = byte_takes bytes first.0 fits first.1 in
      let two = byte_takes first.0.1 kind.0 one.0.rest_fits kind.1 in
      let three = variants_take (kind_and_fields format) (is_entry format) 1 (kinds format) (kinds_are format) kind.0.0 kind.0.1 x two.0.rest_fits guard.1 in
      let same : kind.0.0 ≡ kind_of x.0 = same_head _ _ _ _ three.0.parts in
      let known : first.0.0 ≡ first_of format (kind_of x.0) = eqb-true _ _ guard.0 ∙ ap (first_of format) same in (
        record {
          parts = one.0.parts ∙ ap (λ (t : List ℕ). first.0.0 ∷ t) (two.0.parts ∙ three.0.parts) ∙ ap (λ (k : ℕ). k ∷ (kind_and_fields format x.0 ++ x.1)) known;
          rest_fits = three.0.rest_fits;
        },
        three.1,
      );
  again = λ e rest h.
      rw (eq-eqb (first_of format (kind_of e)) (first_of format (kind_of e)) refl) (kinds_again e format rest h);
}

pub whole_takes : (format : Format) (body : List ℕ) (e : Entry) → IsBytes body → whole format body ≡ Some e → (is_entry format e ≡ true) × (body ≡ entry format e)
unfolding whole
whole_takes format body e fits h =
    let x = bind_some (entry_at format body) (λ (x : Entry × List ℕ). cond (eqb (length x.1) 0) (Some x.0) None) e h in
    let end = chosen (eqb (length x.0.1) 0) x.0.0 e x.2 in
    let one = (entry_law format).takes body x.0 fits x.1 in
    let nothing : x.0.1 ≡ [] = nil_from_length x.0.1 (eqb-true _ _ end.0) in
    let parts : body ≡ entry format x.0.0 = one.0.parts ∙ ap (λ (rest : List ℕ). entry format x.0.0 ++ rest) nothing ∙ append-nil (entry format x.0.0) in
    subst (λ (a : Entry). (is_entry format a ≡ true) × (body ≡ entry format a)) end.1 (one.1, parts)

pub whole_again : (format : Format) (e : Entry) → is_entry format e ≡ true → whole format (entry format e) ≡ Some e
unfolding whole
whole_again format e h =
    ap (whole format) (sym (append-nil (entry format e))) ∙ rw ((entry_law format).again e [] h) refl

-- no entry is spelled so
pub whole_none : (format : Format) (body : List ℕ) → whole format body ≡ None → (e : Entry) → is_entry format e ≡ true → body ≡ entry format e → ⊥
whole_none format body none e h same =
    let found : whole format body ≡ Some e = ap (whole format) same ∙ whole_again format e h in
    cc

pub same_entry : (format : Format) (a b : Entry) → is_entry format a ≡ true → is_entry format b ≡ true → entry format a ≡ entry format b → a ≡ b
same_entry format a b ha hb same =
    some_is a b (sym (whole_again format a ha) ∙ ap (whole format) same ∙ whole_again format b hb)

-- ---- what a function answers

pub is_found : (format : Format) (body : List ℕ) (r : Result Entry EntryFault) → IsBytes body → Answers r (whole format body) → IfOk r (λ e. (is_entry format e ≡ true) × (body ≡ entry format e))
is_found format body (Ok e) fits given = whole_takes format body e fits given
is_found format body (Err fault) fits given = tt

pub is_none_spelled : (format : Format) (body : List ℕ) (r : Result Entry EntryFault) → Answers r (whole format body) → IsErrOf r NotAnEntry → (e : Entry) → is_entry format e ≡ true → body ≡ entry format e → ⊥
is_none_spelled format body (Ok e) given is = absurd cc
is_none_spelled format body (Err NotAnEntry) given is = whole_none format body given
is_none_spelled format body (Err Memory) given is = absurd cc
