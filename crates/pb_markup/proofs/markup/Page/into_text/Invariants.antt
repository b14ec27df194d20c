use Rattle.std.proofs.Common.{◌≡◌, take, map, fold}
use Rattle.pb_markup.specs.PieceList.{piece_of}
use Rattle.pb_markup.specs.Pieces as spec
use Rattle.pb_markup.specs.Shown.{shows_of}
use Rattle.pb_markup.proofs.markup.Page.into_text.Given as goal

abbrev pub invariant-loop-piece : goal.invariant-loop-piece
invariant-loop-piece l =
    l.writing ≡ fold (spec.write (shows_of l.told)) spec.start (map piece_of (take l.piece-index l.piece-items))
