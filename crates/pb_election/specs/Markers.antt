-- Which section of an election's file a record marks.
use Rattle.std.specs.Prelude.{if◌then◌else◌, Bool, true, false, [], ◌∷◌, Option, Some, None, is_some, codes}
use Rattle.std.specs.Option.{option_map_or}
use Rattle.std.specs.Str.{bytes_eq}
use Rattle.pb_records.specs.Cells.{clean, is_blank}
use Rattle.pb_records.specs.Records.{Field, Rec}
use Rattle.pb_election.specs.Names.{lower}
use Rattle.pb_election.specs.declared.sections.Section.{Section}
use Rattle.pb_election.specs.declared.sections.Section.TheVariants.{Meta, Projects, Votes}

-- the section of a name
abbrev pub section_named : Field → Option Section
section_named name =
    if bytes_eq name (codes "meta") then Some Meta
    else if bytes_eq name (codes "projects") then Some Projects
    else if bytes_eq name (codes "votes") then Some Votes
    else None

-- the section that a record marks: it names it in its first field, and its other fields are empty
unfoldable pub marker_of : Rec → Option Section
marker_of [] = None
marker_of (name ∷ others) = if is_blank others then section_named (lower (clean name)) else None

abbrev pub is_marker : Rec → Bool
is_marker r = is_some (marker_of r)

abbrev pub same_section : Section → Section → Bool
same_section Meta Meta = true
same_section Projects Projects = true
same_section Votes Votes = true
same_section _ _ = false

-- whether a record marks this section
abbrev pub marks : Section → Rec → Bool
marks s r = option_map_or (same_section s) (marker_of r) false
