-- The first sections have certificates.
use Rattle.std.proofs.Common.{take}
use Rattle.pef_write.specs.Linked.{AreCertified, ArePlanned}
use Rattle.pef_write.proofs.linking.link_certificates.Given as goal

abbrev pub invariant-loop-k : goal.invariant-loop-k
invariant-loop-k l = record {
  certified : AreCertified 0 (take l.k l.section-items) l.certificates.items;
  planned : ArePlanned (take l.k l.section-items) l.certificates.items;
}
