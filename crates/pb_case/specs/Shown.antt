-- How the line that the program prints is shown. An id of the election's file may stand in it.
use Rattle.std.specs.Prelude.{◌≡◌, ◌&&◌, ◌||◌, nat_le, ℕ, Bool, true, List, length}
use Rattle.std.specs.List.{list_all}

-- a byte of a character of ASCII that is seen, or in UTF-8 of a letter from U+00C0 to U+027F, as ä, ł or é
abbrev pub is_visible_byte : ℕ → Bool
is_visible_byte b =
    (nat_le 32 b && nat_le b 126) || ((nat_le 128 b && nat_le b 191) || (nat_le 195 b && nat_le b 201))

-- a short line of such characters alone
abbrev pub is_plain_line : List ℕ → Bool
is_plain_line line = nat_le (length line) 120 && list_all is_visible_byte line

-- Such a line is shown byte for byte. Any other has its hidden characters by their numbers, and is cut where it is long,
-- which is only tested.
abbrev pub ShowsLine : List ℕ → List ℕ → Type 0
ShowsLine line shown = is_plain_line line ≡ true → shown ≡ line
