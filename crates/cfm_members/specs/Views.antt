-- The values of views, without places in memory.
use Rattle.std.specs.Prelude.{List, ℕ, ◌-◌, Result}
use Rattle.std.specs.Borrow.{Bor}
use Rattle.pef_words.specs.Refusals.{result_map}
use Rattle.cfm_members.specs.declared.fault.MemberFault.{MemberFault}
use Rattle.cfm_members.specs.declared.member.Member.{Member}
use Rattle.cfm_members.specs.declared.search.Containers.{Containers}
use Rattle.cfm_members.specs.declared.table.FragmentTable.{FragmentTable}
use Rattle.cfm_members.specs.declared.table.Members.{Members}
use Rattle.cfm_members.specs.Members.{MemberIs, TableIs, members_from}
use Rattle.cfm_members.specs.Search.{containers_in}

-- the table that a view shows
abbrev pub table_seen : FragmentTable → TableIs
table_seen t = record { bytes = t.cut.bytes.now; version = t.version; member_count = t.member_count }

-- the name that a view shows, or its error
abbrev pub name_seen : Result (Bor (List ℕ)) MemberFault → Result (List ℕ) MemberFault
name_seen name = result_map (λ b. b.now) name

-- the member that a view shows
abbrev pub member_seen : Member → MemberIs
member_seen m = record { member = m.member; offset = m.offset; header = m.header; name = name_seen m.name; fault = m.fault }

abbrev pub row_seen : Result Member MemberFault → Result MemberIs MemberFault
row_seen row = result_map member_seen row

-- the members that an iterator has before it
abbrev pub left : Members → List (Result MemberIs MemberFault)
left w = members_from w.table.cut.bytes.now w.member (w.table.member_count - w.member) w.at

-- the containers that an iterator has before it
abbrev pub places_left : Containers → List ℕ
places_left w = containers_in w.rest.now w.offset
