-- The bytes written for a script are those of its linked container.
use Rattle.std.proofs.Common.{◌≡◌, ◌∙◌, ℕ, ◌<◌, ◌^◌, List, IfOk, Result, Ok, Err, length, map, refl, sym, ap, arith}
use Rattle.std.proofs.lemmas.List.{length-map}
use Rattle.pef_cert.specs.Certified.{Certified}
use Rattle.pef_reloc.specs.declared.instr.Instr.{Instr}
use Rattle.pef_reloc.specs.Instrs.{program_length, spelled}
use Rattle.pef_script.specs.Script.{DescribedScript}
use Rattle.pef_script.specs.WellFormed.{ScriptHolds}
use Rattle.pef_write.specs.Linked.{AreCertified, AreLinkCertificates, ArePlanned, AreProgramsFor, IsCertifiedLink, IsLinkedContainer, LinkedContainer, linked_bytes, linked_loader, linked_tables, script_tables}
use Rattle.pef_write.specs.Kept.Encoded.{AreEncoded, AreEncodedFor, HasRoom, container_with, nonempty_from}
use Rattle.pef_write.proofs.CertificateLemmas.{certified_programs}
use Rattle.pef_write.proofs.Fitting.{sections_fit, sizes_of}
use Rattle.pef_write.proofs.Listing.{map-twice}
use Rattle.pef_write.proofs.Programs.{length-programs, own_programs-are}

module _ (s : DescribedScript) (certificates : List Certified) (programs : List (List ℕ)) (lengths : List ℕ) (e : AreEncoded s certificates programs lengths) where
  -- the programs of the certificates
  abbrev pub planned : List (List Instr)
  planned = map (λ c. c.program) certificates

  pub programs_for : AreProgramsFor (length s.sections) s.sections planned
  programs_for = certified_programs (length s.sections) (length s.imports) 0 s.sections certificates e.holds.sections.each e.each.certified

  bytes_as : programs ≡ map spelled planned
  bytes_as = e.each.programs_are ∙ map-twice spelled (λ (c : Certified). c.program) certificates

  -- the programs that have bytes are those of the sections that have fixups
  tables_as : script_tables s (nonempty_from 0 programs) ≡ linked_tables s planned
  tables_as = ap (script_tables s) (ap (nonempty_from 0) bytes_as ∙ sym (own_programs-are (length s.sections) 0 s.sections planned programs_for))

  -- the container that is written
  pub container_is : container_with s programs ≡ linked_bytes s planned
  unfolding linked_loader linked_bytes
  container_is = rw tables_as refl

  container_fits : length (linked_bytes s planned) < 2 ^ 32
  unfolding linked_bytes
  container_fits = (sections_fit s planned e.holds programs_for).size

  -- programs are few, and there is room for them
  pub has_room : HasRoom s programs
  has_room = record {
    holds = e.holds;
    few = omega (arith, ap length bytes_as ∙ length-map planned spelled, length-programs (length s.sections) s.sections planned programs_for, e.holds.sections.count);
    loader = rw tables_as (omega (arith, (sizes_of s planned e.holds programs_for).loader));
    strings = rw tables_as (sizes_of s planned e.holds programs_for).strings;
    container = omega (arith, ap length container_is, container_fits);
  }

  -- what is written is a linked container, with these certificates
  pub is_certified_link : (l : LinkedContainer) → l.bytes ≡ container_with s programs → l.lengths ≡ lengths → IsCertifiedLink s (record { container = l; certificates = certificates })
  is_certified_link l bytes are = record {
    linked = record {
      holds = e.holds;
      programs = planned;
      are = programs_for;
      bytes = bytes ∙ container_is;
      lengths = are ∙ e.each.lengths_are ∙ map-twice program_length (λ (c : Certified). c.program) certificates;
      certificates = certificates;
      certified = e.each.certified;
      programs_are = refl;
    };
    certificates = refl;
    planned = e.each.planned;
  }

  pub is_linked_container : {E : Type 0} (result : Result LinkedContainer E) → IfOk result (λ l. l.bytes ≡ container_with s programs) → IfOk result (λ l. l.lengths ≡ lengths) → IfOk result (λ l. IsLinkedContainer s l)
  is_linked_container (Ok l) bytes are = record { certificates = certificates; certified = is_certified_link l bytes are }
  is_linked_container (Err why) bytes are = tt

-- certificates of all sections of a script are those of a container
pub are_link_certificates : (s : DescribedScript) (certificates : List Certified) → ScriptHolds s → AreCertified 0 s.sections certificates → ArePlanned s.sections certificates → AreLinkCertificates s certificates
are_link_certificates s certificates holds are planned =
    let programs : List (List ℕ) = map (λ c. spelled c.program) certificates in
    let lengths : List ℕ = map (λ c. program_length c.program) certificates in
    let each : AreEncodedFor s.sections certificates programs lengths = record { certified = are; planned = planned; programs_are = refl; lengths_are = refl } in
    let container : LinkedContainer = record { bytes = container_with s programs; lengths = lengths } in
    record {
      container = container;
      certified = is_certified_link s certificates programs lengths (record { holds = holds; each = each }) container refl refl;
    }
