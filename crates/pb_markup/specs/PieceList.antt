-- What lists in memory stand for.
use Rattle.std.specs.Prelude.{string_bytes}
use Rattle.pb_markup.specs.Pieces as spec
use Rattle.pb_markup.specs.declared.markup.Piece.{Piece}
use Rattle.pb_markup.specs.declared.markup.Piece.TheVariants as piece

abbrev pub piece_of : Piece → spec.Piece
piece_of (piece.Open t attributes) = spec.Open t attributes.items
piece_of (piece.Text text) = spec.Words (string_bytes text)
piece_of (piece.Figure f) = spec.Amount f
piece_of piece.Headline = spec.Headline
piece_of piece.Line = spec.Line
piece_of piece.Close = spec.Close
