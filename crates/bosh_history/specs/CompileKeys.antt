-- No package is compiled twice (bosh.io, "Packages").
use Rattle.std.specs.Prelude.{Bool, true, not, ◌&&◌, Option, Some}
use Rattle.bosh_base.specs.declared.answer.Answer.{Answer}
use Rattle.bosh_base.specs.declared.answer.Answer.TheVariants as answers
use Rattle.bosh_base.specs.declared.call.Call.{Call}
use Rattle.bosh_base.specs.declared.call.Call.TheVariants.{CompilePackage}
use Rattle.bosh_base.specs.declared.entry.Begin.{Begin}
use Rattle.bosh_base.specs.declared.entry.Entry.{Entry}
use Rattle.bosh_base.specs.declared.entry.Entry.TheVariants as entries
use Rattle.bosh_history.specs.Known.{Known}
use Rattle.bosh_history.specs.Moments.{Moment}
use Rattle.bosh_history.specs.Slots.{are_all_compiled, is_compiled}
use Rattle.bosh_history.specs.Steps.{is_compiling}

abbrev pub compiles_new : Moment → Call → Bool
compiles_new m (CompilePackage vm work deps) = not (is_compiled m.known work.key) && not (is_compiling m work.key)
compiles_new m call = true

abbrev pub records_new : Known → Option Begin → Answer → Bool
records_new k (Some b) (answers.Built digest) = new b.call
  where
    new : Call → Bool
    new (CompilePackage vm work deps) = not (is_compiled k work.key)
    new call = true
records_new k begin answer = true

-- An update of a task begins, and is done, only where all keys of its goal are compiled.
abbrev pub compiles_once : Moment → Entry → Bool
compiles_once m (entries.Begin b) = compiles_new m b.call
compiles_once m (entries.End e) = records_new m.known (m.known.begun e.n) e.answer
compiles_once m (entries.UpdBegin u) = are_all_compiled m.known (m.known.task u.task).goal
compiles_once m (entries.UpdDone u) = are_all_compiled m.known (m.known.task u.task).goal
compiles_once m entry = true
