use Rattle.std.proofs.Common.{◌≡◌, length}
use Rattle.std.specs.List.{AllByRecursion}
use Rattle.pef_cert.specs.Text.Grammar.{certificates_of}
use Rattle.pef_cert.specs.Text.Printed.{Printable}
use Rattle.pef_cert.specs.Text.Unread.{certificates_left, in_front, unread}
use Rattle.pef_cert.proofs.certificate.Certificate.read.Given as goal

-- the certificates so far and those that are left are all
abbrev pub invariant-certificates : goal.invariant-certificates
invariant-certificates l = record {
  whole : certificates_of l.text ≡ in_front l.certificates.items (certificates_left l.reader);
  printable : AllByRecursion Printable l.certificates.items;
}

abbrev pub decreases-certificates : goal.decreases-certificates
decreases-certificates l = length (unread l.reader).text
