use Rattle.pef_script.proofs.Described.{described-bytes, described-fixup, described-size}
use Rattle.pef_script.proofs.theorems.described_bytes.Goals as goal

pub returns-clause-size : goal.returns-clause-size
returns-clause-size c = described-size

pub returns-clause-outside : goal.returns-clause-outside
returns-clause-outside c address m n s x holds = described-bytes address m n s holds x

pub returns-clause-fixups : goal.returns-clause-fixups
returns-clause-fixups c address m n s i f holds = described-fixup address m n s holds i f
