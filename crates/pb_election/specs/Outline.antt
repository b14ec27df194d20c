-- What the records of an election's file are, by those before them. The file may be one that is refused.
use Rattle.std.specs.Prelude.{if◌then◌else◌, false, List, [], ◌∷◌, Option, Some, None}
use Rattle.std.specs.Option.{option_map_or, option_or}
use Rattle.std.specs.List.{last_or}
use Rattle.pb_records.specs.Records.{Rec}
use Rattle.pb_election.specs.Markers.{is_marker, marker_of}
use Rattle.pb_election.specs.declared.outline.RecordKind.{RecordKind}
use Rattle.pb_election.specs.declared.outline.RecordKind.TheVariants as kind
use Rattle.pb_election.specs.declared.sections.RecordRole.{RecordRole}
use Rattle.pb_election.specs.declared.sections.RecordRole.TheVariants.{First, Header, Inside}
use Rattle.pb_election.specs.declared.sections.Section.{Section}

-- the section of the last marker among some records
unfoldable pub last_marked : List Rec → Option Section
last_marked [] = None
last_marked (r ∷ rs) = option_or (last_marked rs) (marker_of r)

-- before any marker a record is to be the first; right behind a marker it is that section's header; and else it stands
-- inside the section of the last marker
abbrev pub role_by : Option Section → Option Rec → RecordRole
role_by None last = First
role_by (Some s) last = if option_map_or is_marker last false then Header s else Inside s

abbrev pub role_behind : List Rec → RecordRole
role_behind before = role_by (last_marked before) (last_or None before)

-- what a record is in such a role, where it marks no section
abbrev pub kind_in : RecordRole → RecordKind
kind_in First = kind.Stray
kind_in (Header s) = kind.Header s
kind_in (Inside s) = kind.Row s

abbrev pub kind_by : Option Section → RecordRole → RecordKind
kind_by (Some s) role = kind.Marker s
kind_by None role = kind_in role

-- what the record r is behind some records
abbrev pub kind_of : List Rec → Rec → RecordKind
kind_of before r = kind_by (marker_of r) (role_behind before)
