-- Which characters of a text can't be seen as themselves.
use Rattle.std.specs.Prelude.{ℕ, Bool, ◌==◌, ◌&&◌, ◌||◌, not}
use Rattle.ucd_category.specs.GeneralCategory.{general_category}
use Rattle.ucd_category.specs.GeneralCategoryGroup.{in_group}
use Rattle.ucd_category.specs.declared.GeneralCategoryGroup.TheVariants.{Other, Separator}
use Rattle.ucd_derived.specs.Binary.{is_default_ignorable_code_point}

-- a control, a mark of format, a code point that is private or has no character, a space or the end of a line
abbrev pub is_other_or_separator : ℕ → Bool
is_other_or_separator c = in_group Other (general_category c) || in_group Separator (general_category c)

-- a blank whose category is that of a symbol or a mark: of Braille, an object that isn't there, of Khitan, of music
abbrev pub is_blank : ℕ → Bool
is_blank c = (c == 0x2800) || ((c == 0xFFFC) || ((c == 0x1_6FE4) || (c == 0x1_D159)))

-- it isn't the space, and is one of those, or is to be ignored where it isn't known
unfoldable pub is_hidden : ℕ → Bool
is_hidden c = not (c == 32) && (is_other_or_separator c || (is_default_ignorable_code_point c || is_blank c))
