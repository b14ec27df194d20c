-- Where a joiner is part of how a word or an emoji is written.
use Rattle.std.specs.Prelude.{ℕ, Bool, ◌==◌, ◌&&◌, ◌||◌}
use Rattle.ucd_bidi.specs.JoiningType.{joining_type, joining_type_eq}
use Rattle.ucd_bidi.specs.declared.JoiningType.TheVariants.{DualJoining, LeftJoining, RightJoining}
use Rattle.ucd_category.specs.GeneralCategory.{general_category}
use Rattle.ucd_category.specs.GeneralCategoryGroup.{in_group}
use Rattle.ucd_category.specs.declared.GeneralCategoryGroup.TheVariants.{Letter}
use Rattle.ucd_derived.specs.Binary.{is_grapheme_link}
use Rattle.ucd_emoji.specs.Binary.{is_emoji_presentation}

-- the zero width non-joiner and joiner
abbrev pub is_non_joiner : ℕ → Bool
is_non_joiner c = c == 0x200C

abbrev pub is_joiner : ℕ → Bool
is_joiner c = c == 0x200D

-- behind a sign that drops the vowel of a letter of India, and before a letter
abbrev pub are_conjoined : ℕ → ℕ → Bool
are_conjoined before after = is_grapheme_link before && in_group Letter (general_category after)

-- between two letters that are written as one, as in Arabic
abbrev pub are_cursive : ℕ → ℕ → Bool
are_cursive before after =
    (joining_type_eq (joining_type before) DualJoining || joining_type_eq (joining_type before) LeftJoining)
    && (joining_type_eq (joining_type after) DualJoining || joining_type_eq (joining_type after) RightJoining)

-- between two emoji
abbrev pub are_emoji : ℕ → ℕ → Bool
are_emoji before after = is_emoji_presentation before && is_emoji_presentation after

-- a joiner between these two characters
unfoldable pub is_spelling : ℕ → ℕ → ℕ → Bool
is_spelling before c after =
    (is_non_joiner c && (are_conjoined before after || are_cursive before after))
    || (is_joiner c && (are_conjoined before after || are_emoji before after))
