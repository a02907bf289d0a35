-- Block mappings and sequences by their columns (YAML 1.2, "Block Collection Styles", in this project's profile). What is open is a list of frames, the innermost first; each dash, key and value closes the frames that it does not belong to.
use Rattle.std.specs.Prelude.{ℕ, List, [], ◌∷◌, ◌++◌, Result, Ok, nat_le, nat_lt, ◌==◌, if◌then◌else◌}
use Rattle.bosh_yaml.specs.declared.block.Frame.{Frame}
use Rattle.bosh_yaml.specs.declared.block.Frame.TheVariants.{Whole, Done, Item, List as ListAt, Entry, Map as MapAt}
use Rattle.bosh_yaml.specs.declared.event.Event.{Event}
use Rattle.bosh_yaml.specs.declared.event.Event.TheVariants as event
use Rattle.bosh_yaml.specs.declared.fault.ReadFault.{ReadFault}
use Rattle.bosh_yaml.specs.declared.plain.Leaf.TheVariants as leaf
use Rattle.bosh_yaml.specs.Result.{◌>>=◌}
use Rattle.bosh_yaml.specs.Word.{syntax_fault}

-- events, and the frames that are open after them
abbrev pub Placed : Type 0
Placed = List Event × List Frame

abbrev pub after_events : List Event → Result Placed ReadFault → Result Placed ReadFault
after_events events read = read >>= λ p. Ok (events ++ p.0, p.1)

-- where no value came there is null
abbrev pub nothing : Event
nothing = event.Scalar leaf.Null

-- a dash at a column
abbrev pub place_dash : ℕ → ℕ → List Frame → Result Placed ReadFault
place_dash line column [] = syntax_fault line
place_dash line column (Whole ∷ frames) = Ok (event.OpenList ∷ [], Item column ∷ Done ∷ frames)
place_dash line column (Done ∷ frames) = syntax_fault line
place_dash line column (Item at ∷ frames) =
    if nat_lt at column then Ok (event.OpenList ∷ [], Item column ∷ ListAt at ∷ frames)
    else if column == at then Ok (nothing ∷ [], Item at ∷ frames)
    else after_events (nothing ∷ event.Close ∷ []) (place_dash line column frames)
place_dash line column (ListAt at ∷ frames) =
    if column == at then Ok ([], Item at ∷ frames)
    else after_events (event.Close ∷ []) (place_dash line column frames)
place_dash line column (Entry at ∷ frames) =
    if nat_le at column then Ok (event.OpenList ∷ [], Item column ∷ MapAt at ∷ frames)
    else after_events (nothing ∷ event.Close ∷ []) (place_dash line column frames)
place_dash line column (MapAt at ∷ frames) = after_events (event.Close ∷ []) (place_dash line column frames)

-- a key at a column
abbrev pub place_key : ℕ → ℕ → List ℕ → List Frame → Result Placed ReadFault
place_key line column key [] = syntax_fault line
place_key line column key (Whole ∷ frames) = Ok (event.OpenMap ∷ event.Key line key ∷ [], Entry column ∷ Done ∷ frames)
place_key line column key (Done ∷ frames) = syntax_fault line
place_key line column key (Item at ∷ frames) =
    if nat_lt at column then Ok (event.OpenMap ∷ event.Key line key ∷ [], Entry column ∷ ListAt at ∷ frames)
    else after_events (nothing ∷ event.Close ∷ []) (place_key line column key frames)
place_key line column key (ListAt at ∷ frames) = after_events (event.Close ∷ []) (place_key line column key frames)
place_key line column key (Entry at ∷ frames) =
    if nat_lt at column then Ok (event.OpenMap ∷ event.Key line key ∷ [], Entry column ∷ MapAt at ∷ frames)
    else if column == at then Ok (nothing ∷ event.Key line key ∷ [], Entry at ∷ frames)
    else after_events (nothing ∷ event.Close ∷ []) (place_key line column key frames)
place_key line column key (MapAt at ∷ frames) =
    if column == at then Ok (event.Key line key ∷ [], Entry at ∷ frames)
    else after_events (event.Close ∷ []) (place_key line column key frames)

-- a scalar, a flow form or a literal at a column
abbrev pub place_value : ℕ → ℕ → List Frame → Result (List Frame) ReadFault
place_value line column [] = syntax_fault line
place_value line column (Whole ∷ frames) = Ok (Done ∷ frames)
place_value line column (Item at ∷ frames) = if nat_lt at column then Ok (ListAt at ∷ frames) else syntax_fault line
place_value line column (Entry at ∷ frames) = if nat_lt at column then Ok (MapAt at ∷ frames) else syntax_fault line
place_value line column (frame ∷ frames) = syntax_fault line

-- the end of the text closes all; a text without content is null
abbrev pub closing : Frame → List Event
closing Whole = nothing ∷ []
closing Done = []
closing (Item at) = nothing ∷ event.Close ∷ []
closing (ListAt at) = event.Close ∷ []
closing (Entry at) = nothing ∷ event.Close ∷ []
closing (MapAt at) = event.Close ∷ []

abbrev pub place_end : List Frame → List Event
place_end [] = []
place_end (frame ∷ frames) = closing frame ++ place_end frames
