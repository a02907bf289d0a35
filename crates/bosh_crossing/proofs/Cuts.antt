-- That a struct may be sent to another thread, cut by its fields.
use denote.Param.Send.{AllSend, IsSend, recorded_send, struct_send}
use denote.Struct.Declared.{Declared}
use denote.Struct.Declared as declared

-- a struct, as a field of another
pub field_sent : (T : Declared) → AllSend (declared.fields T) → IsSend ((declared.field T).row)
field_sent T s = struct_send (declared.shape T) s

-- .. and by itself
pub struct_sent : (T : Declared) → AllSend (declared.fields T) → IsSend (declared.row T)
struct_sent T s = recorded_send _ T.D T.to T.to_one (struct_send (declared.shape T) s)
