-- What a restart finds, part by part.
use Rattle.std.proofs.Common.{◌≡◌, ◌∙◌, List, Option, Result, Ok, ap, subst}
use Rattle.std.specs.Prelude.{IfOk, find}
use Rattle.std.specs.List.{filter_map}
use Rattle.bosh_base.specs.declared.entry.Entry.{Entry}
use Rattle.bosh_base.specs.declared.moves.Stop as stop
use Rattle.bosh_moves.specs.Found.{call_of, is_written, stop_of}

-- what holds of a value where there is one, at that value
pub if_ok_at : {T F : Type 0} (Says : T → Type 0) (result : Result T F) (value : T) → result ≡ Ok value →
    IfOk result Says → Says value
if_ok_at {T} {F} Says result value is says = subst (λ (r : Result T F). IfOk r Says) is says

pub found_by : (it : stop.Stop) (kept : Option Entry) (effects : List Entry) → it.kept ≡ kept →
    it.took ≡ filter_map call_of effects → it.wrote ≡ find is_written effects → it ≡ stop_of kept effects
found_by it kept effects same took wrote =
    ap (λ entry. record it { kept = entry }) same
    ∙ ap (λ calls. record it { kept = kept; took = calls }) took
    ∙ ap (λ entry. record it { kept = kept; took = filter_map call_of effects; wrote = entry }) wrote
