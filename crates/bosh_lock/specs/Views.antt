-- What contracts see of passes and turns.
use Rattle.std.specs.Prelude.{ℕ, List, refl}
use Rattle.std.specs.Coded.{Coded, code_by, coded×, coded_ℕ, coded_list}
use Rattle.atomic_table.specs.Seated.{TableId, table_id_coded}

-- which lock it is of, how much it has of 2^32, and the list that it has seen
pub record PassView (I : Type 0) : Type 0 where
  pub lock : TableId
  pub share : ℕ
  pub seen : List I

-- by which a proof tells them apart
abbrev pub pass_code : {I : Type 0} → Coded I → Coded (PassView I)
pass_code {I} item =
    code_by (TableId × (ℕ × List I)) (coded× table_id_coded (coded× coded_ℕ (coded_list item)))
    (λ v. (v.lock, (v.share, v.seen))) (λ p. record { lock = p.0; share = p.1.0; seen = p.1.1 }) (λ _. refl)

-- which lock it is of, its share, the list at enter, and the value
pub record TurnView (S I : Type 0) : Type 0 where
  pub lock : TableId
  pub share : ℕ
  pub entered : List I
  pub value : S

abbrev pub turn_code : {S I : Type 0} → Coded S → Coded I → Coded (TurnView S I)
turn_code {S} {I} value item =
    code_by (TableId × (ℕ × (List I × S))) (coded× table_id_coded (coded× coded_ℕ (coded× (coded_list item) value)))
    (λ v. (v.lock, (v.share, (v.entered, v.value))))
    (λ p. record { lock = p.0; share = p.1.0; entered = p.1.1.0; value = p.1.1.1 }) (λ _. refl)
