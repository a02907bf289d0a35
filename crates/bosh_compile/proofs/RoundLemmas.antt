-- What a round finds out of the levels.
use Rattle.std.proofs.Common.{◌≡◌, ◌≢◌, subst, ℕ, suc, ◌<◌, true, Option, Some, List, arith}
use Rattle.std.specs.List.{Contains}
use Rattle.bosh_base.specs.declared.key.Key.{Key}
use Rattle.bosh_base.specs.declared.key.KeyWork.{KeyWork}
use Rattle.bosh_compile.specs.Level.{needs}
use Rattle.bosh_compile.specs.Rounds.{level_within, Closed}
use Rattle.bosh_compile.specs.Table.{IsNumbering, numbers_by}
use Rattle.bosh_compile.proofs.KeyLemmas.{is_among_decides}
use Rattle.bosh_compile.proofs.LevelLemmas.{one_above-le, le-one_above, within-le, within_settled, within-mono}
use Rattle.bosh_compile.proofs.TableLemmas.{number_of_key, number_among, same_number, has_number}

module _ (works : List KeyWork) (number : Key → Option ℕ) (is : IsNumbering works number) where
  pub stays_closed : (round n : ℕ) → Closed works number round n → Closed works number (suc round) n
  stays_closed round n closed = λ work c at.
      let low = closed work c at in
      let settled = within_settled works round work low in
      omega arith

  module _ (round : ℕ) (work : KeyWork) where
    -- a work whose level is found keeps it
    pub level_kept : level_within works round work ≢ round → level_within works (suc round) work ≡ level_within works round work
    level_kept ne =
        let le = within-le works round work in
        let mono = within-mono works round work in
        let low : level_within works round work < round = omega arith in
        let settled = within_settled works round work low in
        omega arith

    -- a work that needs one whose level is not found stands higher
    pub level_raised : (n : ℕ) (other : KeyWork) → Contains (numbers_by number work.deps) n → Contains works other → number other.key ≡ Some n
        → level_within works round other ≡ round → level_within works (suc round) work ≡ suc round
    level_raised n other needed c at open' =
        let key = number_of_key number work.deps n needed in
        let same : key.0 ≡ other.key = same_number works number is key.0 other.key n key.2 at in
        let need : needs work other ≡ true = (is_among_decides other.key work.deps).1 (subst (λ (k : Key). Contains work.deps k) same key.1) in
        let low = le-one_above works (level_within works round) work other c need in
        let high = within-le works (suc round) work in
        omega arith

    -- a work that came as far as the round and needs none whose level is not found has found its own
    pub level_found : level_within works round work ≡ round → ((n : ℕ) → Contains (numbers_by number work.deps) n → Closed works number round n) → level_within works (suc round) work ≡ round
    level_found came closed =
        let mono = within-mono works round work in
        let high = one_above-le works (level_within works round) work round (λ other c need.
        let at = has_number works number is other c in
        closed at.0 (number_among number work.deps other.key at.0 ((is_among_decides other.key work.deps).0 need) at.1) other c at.1) in
        omega arith
