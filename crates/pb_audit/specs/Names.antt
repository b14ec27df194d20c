-- The names of elections in a folder.
use Rattle.std.specs.Prelude.{ℕ, List, Bool, ◌&&◌, ◌==◌, not, nat_le, nat_lt, length}
use Rattle.std.specs.List.{list_all}

-- a byte that is no control character
abbrev pub is_seen : ℕ → Bool
is_seen b = nat_le 32 b && not (b == 127)

-- a name that is there and has no control character
abbrev pub is_clean : List ℕ → Bool
is_clean name = nat_lt 0 (length name) && list_all is_seen name
