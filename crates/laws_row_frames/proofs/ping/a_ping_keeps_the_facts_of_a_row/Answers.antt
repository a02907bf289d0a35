use Rattle.laws_row_frames.proofs.PingCases.{ping_kept}
use Rattle.laws_row_frames.proofs.ping.a_ping_keeps_the_facts_of_a_row.Goals as goal

pub returns : goal.returns
returns c = ping_kept
