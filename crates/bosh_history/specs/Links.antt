-- Links across deployments stay kept (this project's profile; bosh.io, "Links", "cross-deployment links").
use Rattle.std.specs.Prelude.{◌≡◌, Bool, true, ◌||◌, ℕ, List, [], ◌∷◌}
use Rattle.std.specs.List.{list_all}
use Rattle.std.specs.Str.{bytes_eq}
use Rattle.bosh_base.specs.declared.link.Tie.{Tie}
use Rattle.bosh_base.specs.declared.moves.Move.{Move}
use Rattle.bosh_history.specs.Held.{is_offered}
use Rattle.bosh_history.specs.Known.{Known}
use Rattle.bosh_history.specs.Moments.{Opening, Moment, beginning, later}
use Rattle.bosh_history.specs.Openings.{ties_of}

-- a tie to another deployment is to a link that the last done deploy of that one offers, of the tie's type
abbrev pub is_kept : Known → List ℕ → Tie → Bool
is_kept k dep tie = bytes_eq tie.provider.dep dep || is_offered tie.provider tie.kind (k.shared tie.provider.dep)

abbrev pub are_links_kept : Known → Bool
are_links_kept k = list_all (λ dep. list_all (is_kept k dep) (ties_of (k.goal dep))) k.deployments

abbrev pub AreLinksKeptFrom : Moment → List Move → Type 0
AreLinksKeptFrom m [] = are_links_kept m.known ≡ true
AreLinksKeptFrom m (move ∷ moves) = (are_links_kept m.known ≡ true) × AreLinksKeptFrom (later m move) moves

abbrev pub AreLinksKept : Opening → List Move → Type 0
AreLinksKept o moves = AreLinksKeptFrom (beginning o) moves
