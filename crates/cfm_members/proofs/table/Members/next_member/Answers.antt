-- A member and those after it, or one that is cut, which is the last.
use Rattle.std.proofs.Common.{◌∙◌, sym}
use Rattle.cfm_members.proofs.MemberLemmas.{left-cut, left-member}
use Rattle.cfm_members.proofs.table.Members.next_member.Goals as goal

pub returns-in-Some : goal.returns-in-Some
returns-in-Some c =
    let s = c.args.self.now in
    rw (c.member_at.ensures, c.next_place-self.ensures) (left-member s.table.cut.bytes.now s.member s.table.member_count s.at c.in-Some.header c.requires (sym c.read_header.ensures ∙ c.in-Some.is))

pub returns-in-None : goal.returns-in-None
returns-in-None c =
    let s = c.args.self.now in
    left-cut s.table.cut.bytes.now s.member s.table.member_count s.at c.requires (sym c.read_header.ensures ∙ c.in-None.is)
