-- Nothing that a permitted history made durable is damaged, and nothing of a fit pair.
use Rattle.std.proofs.Common.{◌≡◌, ◌<◌, ◌≤◌, ℕ, true, List, [], append-nil, arith, inl, refl, subst, sym}
use Rattle.std.specs.Prelude.{nat_le}
use Rattle.std.proofs.lemmas.Bool.{and_parts, leb-true}
use Rattle.bosh_base.specs.declared.entry.Entry.{Entry}
use Rattle.bosh_base.specs.declared.moves.Move.{Move}
use Rattle.bosh_book.specs.Folds.{IsDamaged}
use Rattle.bosh_history.proofs.KnownLemmas.{known_by_entries}
use Rattle.bosh_history.proofs.StoredLemmas.{stored_itself}
use Rattle.bosh_history.specs.Fit.{AreStoredAs, IsFit, empty, has_numbers, left}
use Rattle.bosh_history.specs.Known.{Known}
use Rattle.bosh_history.specs.Learn.{known_of}
use Rattle.bosh_history.specs.Moments.{Opening, durable}
use Rattle.bosh_history.specs.Notes.{Outside}
use Rattle.bosh_history.specs.Permitted.{IsRun}
use Rattle.laws_read.proofs.AllowedLemmas.{read_allowed}
use Rattle.laws_undamaged.proofs.DamageLemmas.{not_damaged}
use Rattle.laws_undamaged.proofs.FreshLemmas.{run_fresh, stored_fresh}
use Rattle.laws_undamaged.proofs.OutsideLemmas.{HasSoundUploads, run_sound, stored_sound}
use Rattle.laws_undamaged.specs.Settled.{TellsRightly}

pub durable_whole : (outside : Outside) → TellsRightly outside → (o : Opening) (moves : List Move) (stored : List Entry)
    → IsFit outside o → IsRun outside o moves → AreStoredAs stored (durable o moves)
    → (known_of stored).last_call < 18446744073709551615 → (place : ℕ) → IsDamaged stored place → ⊥
durable_whole outside right o moves stored fit run alike numbers =
    not_damaged stored (λ first clear. read_allowed outside o moves stored first fit run alike numbers clear)
    (stored_fresh stored (durable o moves) alike (run_fresh outside right o moves fit run))
    (stored_sound outside right stored (durable o moves) (inl alike)
    (subst HasSoundUploads (known_by_entries o moves) (run_sound outside right o moves fit run))).releases

-- calls have numbers where a history begins
few_calls : (outside : Outside) (o : Opening) → IsFit outside o → (known_of o.entries).last_call < 18446744073709551615
few_calls outside o fit = by (known_of o.entries) (numbers outside o fit)
  where
    numbers : (outside : Outside) (o : Opening) → IsFit outside o → has_numbers (known_of o.entries) ≡ true
    numbers outside o empty = refl
    numbers outside o (left before next session fit pair) = pair.has_numbers

    by : (k : Known) → has_numbers k ≡ true → k.last_call < 18446744073709551615
    by k is =
        let few : k.last_call ≤ 4611686018427387904
        = leb-true k.last_call 4611686018427387904 (and_parts (nat_le k.last_call 4611686018427387904) _ is).0 in
        omega (arith, few)

pub fit_whole : (outside : Outside) → TellsRightly outside → (o : Opening) → IsFit outside o → (place : ℕ)
    → IsDamaged o.entries place → ⊥
fit_whole outside right o fit =
    durable_whole outside right o [] o.entries fit tt
    (subst (AreStoredAs o.entries) (sym (append-nil o.entries)) (stored_itself o.entries)) (few_calls outside o fit)
