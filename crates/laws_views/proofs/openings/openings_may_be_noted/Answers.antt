use Rattle.laws_views.proofs.CurrentLemmas.{renewed_sound}
use Rattle.laws_views.proofs.OpenLemmas.{has_source, may_open}
use Rattle.laws_views.proofs.ReadLemmas.{next_known, reads_known}
use Rattle.laws_views.proofs.SoundLemmas.{sound_in_bounds, sound_planned}
use Rattle.laws_views.proofs.ViewLemmas.{stands_at, views_known}
use Rattle.laws_views.proofs.ViewedLemmas.{planned_viewed}
use Rattle.laws_views.proofs.openings.openings_may_be_noted.Goals as goal

pub returns : goal.returns
returns c = λ m told records ask o stands agrees facts recovered viewed few checked planned.
    let read = reads_known m told records stands agrees facts in
    let may = may_open m records facts read
    (next_known m told.calls told.snapped records facts (stands_at m told records stands agrees) few) ask o planned in (
      may,
      sound_in_bounds m.known o may (planned_viewed m records facts read viewed ask o checked planned)
          (sound_planned m records facts (λ dep. views_known m told records dep stands agrees facts viewed)
          (renewed_sound m records facts viewed recovered read (λ dep. views_known m told records dep stands agrees facts viewed))
          read.wanted ask o checked planned),
      has_source records ask o planned,
    )
