-- Parts as the code reads them, each where it stands.
use Rattle.std.specs.Option.{option_copied}
use Rattle.bosh_template.specs.declared.piece.Piece.{Piece}
use Rattle.bosh_template.specs.declared.piece.Piece.TheVariants as piece
use Rattle.bosh_template.specs.declared.template.Part.{Part}
use Rattle.bosh_template.specs.declared.template.Part.TheVariants.{Literal, Own, Linked, OneAddr, AllAddrs, Word}

-- the part that a piece is
abbrev pub part : Piece → Part
part (piece.Literal text) = Literal text.now
part (piece.Own name fallback) = Own name.now (option_copied fallback)
part (piece.Linked link name fallback) = Linked link.now name.now (option_copied fallback)
part (piece.OneAddr link index) = OneAddr link.now index
part (piece.AllAddrs link between) = AllAddrs link.now between.now
part (piece.Word word) = Word word
