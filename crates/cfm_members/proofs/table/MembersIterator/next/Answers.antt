-- After the last member nothing is left.
use Rattle.cfm_members.proofs.MemberLemmas.{members_from-end}
use Rattle.cfm_members.proofs.table.MembersIterator.next.Goals as goal

pub returns-then-self-clause-steps : goal.returns-then-self-clause-steps
returns-then-self-clause-steps c =
    let s = c.args.self.now in
    let none = members_from-end s.table.cut.bytes.now s.member s.table.member_count s.at c.if-self.true in (none, none)
