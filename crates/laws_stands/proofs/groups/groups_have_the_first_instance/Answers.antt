use Rattle.laws_stands.proofs.GroupLemmas.{first_item_is}
use Rattle.laws_stands.proofs.groups.groups_have_the_first_instance.Goals as goal

pub returns : goal.returns
returns c = λ t idle groups stage can stands. first_item_is t idle can groups stands stage
