-- What a page is made of, and how it is written.
use Rattle.std.specs.Prelude.{◌≡◌, ◌==◌, ◌||◌, if◌then◌else◌, IfSome, IsSomeAnd, ℕ, Bool, List, [], ◌∷◌, ◌++◌, ◌-◌, Option, zero, suc, codes, fold, length, map, slice_index_or, take}
use Rattle.std.specs.List.{flat_map}
use Rattle.pb_markup.specs.Escapes.{escaped}
use Rattle.pb_markup.specs.Names.{is_void, opening, tag_name}
use Rattle.pb_figures.specs.declared.figure.Figure.{Figure}
use Rattle.pb_markup.specs.declared.tag.Name.{Name}
use Rattle.pb_markup.specs.declared.tag.Tag.{Tag}
use Rattle.pb_markup.specs.declared.tag.Tag.TheVariants.{Html}

-- A piece: the begin of an element with its attributes, text, an amount by its name, the answer in a sentence, the line
-- that the program prints, and the end of the element that began last.
pub data Piece : Type 0 where
  Open : Tag → List (Name × List ℕ) → Piece
  Words : List ℕ → Piece
  Amount : Figure → Piece
  Headline : Piece
  Line : Piece
  Close : Piece

-- A page that is being made stands for its pieces, and for nothing once memory ran out. Where it still stands for some
-- after a step, it did so before, and the step added these.
abbrev pub Adds : Option (List Piece) → List Piece → Option (List Piece) → Type 0
Adds before pieces after = IfSome after (λ all. IsSomeAnd before (λ these. all ≡ these ++ pieces))

-- the same where the pieces are made of a value, for which memory sufficed then
abbrev pub AddsMade : {X : Type 0} → (X → List Piece) → Option (List Piece) → Option X → Option (List Piece) → Type 0
AddsMade pieces before made after =
    IfSome after (λ all. IsSomeAnd made (λ x. IsSomeAnd before (λ these. all ≡ these ++ pieces x)))

-- what the pieces show that say what was found
pub record Shows : Type 0 where
  pub amount : Figure → List ℕ
  pub headline : List ℕ
  pub line : List ℕ

-- an attribute, and the tags at the ends of an element, as they are written
abbrev pub attribute : Name × List ℕ → List ℕ
attribute a = opening a.0 ++ (escaped a.1 ++ codes "\"")

abbrev pub begin_tag : Tag → List (Name × List ℕ) → List ℕ
begin_tag t attributes = codes "<" ++ (tag_name t ++ (flat_map attribute attributes ++ codes ">"))

abbrev pub end_tag : Tag → List ℕ
end_tag t = codes "</" ++ (tag_name t ++ codes ">")

-- a page as far as it is written: its text, and the elements that have begun and not ended, the innermost last
pub record Written : Type 0 where
  pub text : List ℕ
  pub opened : List Tag

abbrev pub innermost : List Tag → Tag
innermost opened = slice_index_or opened (length opened - 1) Html

abbrev pub others : List Tag → List Tag
others opened = take (length opened - 1) opened

-- the begin of an element, which has ended by that if it is void
abbrev pub begin : Written → Tag → List (Name × List ℕ) → Written
begin w t attributes = record {
  text = w.text ++ begin_tag t attributes;
  opened = if is_void t then w.opened else w.opened ++ t ∷ [];
}

-- the end of the innermost element, where there is one
abbrev pub close : Written → Written
close w =
    if length w.opened == 0 then w
    else record { text = w.text ++ end_tag (innermost w.opened); opened = others w.opened }

-- a text behind what is written
abbrev pub add_text : Written → List ℕ → Written
add_text w text = record { text = w.text ++ escaped text; opened = w.opened }

-- one more piece
abbrev pub write : Shows → Written → Piece → Written
write s w (Open t attributes) = begin w t attributes
write s w (Words text) = add_text w text
write s w (Amount f) = add_text w (s.amount f)
write s w Headline = add_text w s.headline
write s w Line = add_text w s.line
write s w Close = close w

-- before the first piece
abbrev pub start : Written
start = record { text = codes "<!DOCTYPE html>\n"; opened = [] }

-- the ends of the n innermost elements
unfoldable pub close_innermost : ℕ → Written → Written
close_innermost zero w = w
close_innermost (suc n) w = close (close_innermost n w)

-- and of all that have not ended
abbrev pub ended : Written → Written
ended w = close_innermost (length w.opened) w

-- The text of a page. Tags nest: each end is that of the element that began last, and none is left open at its end.
abbrev pub rendering : Shows → List Piece → List ℕ
rendering s pieces = (ended (fold (write s) start pieces)).text

-- a byte that means something in markup
abbrev pub is_markup : ℕ → Bool
is_markup b = (b == 60) || ((b == 62) || ((b == 34) || (b == 39)))

-- a piece with its text and the values of its attributes left empty
abbrev pub blank_value : Name × List ℕ → Name × List ℕ
blank_value a = (a.0, [])

abbrev pub blank : Piece → Piece
blank (Open t attributes) = Open t (map blank_value attributes)
blank (Words text) = Words []
blank (Amount f) = Words []
blank Headline = Words []
blank Line = Words []
blank Close = Close
