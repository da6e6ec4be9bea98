-- A container that was found in a file and its companion, and written.
use Rattle.std.proofs.Common.{◌≡◌, ◌∙◌, ◌⊎◌, ℕ, Bool, true, false, List, [], ◌∷◌, Option, None, Some, Result, Ok, Err, ap, inl, inr, refl, subst, sym}
use Rattle.std.specs.List.{slice_get}
use Rattle.cfm_members.specs.Contents.{rest_from}
use Rattle.cfm_members.specs.Fragments.{container_numbered}
use Rattle.cfm_members.specs.Search.{containers_in}
use Rattle.cfm_members.specs.declared.member_lookup_fault.MemberLookupFault.{MemberLookupFault}
use Rattle.pef_faults.specs.declared.fault.Fault.{Fault}
use Rattle.pef_faults.specs.declared.fault.Fault.TheVariants.{Fragment, Unwritable, OutOfMemory}
use Rattle.pef_ports.specs.Ports.{FilesPort, Reads, Writes}
use Rattle.pef_ports.specs.declared.ports.FileFault.{FileFault}
use Rattle.pef_ports.specs.declared.ports.FileFault.TheVariants as file_fault
use Rattle.pef_views.specs.Container.{Contained, container_of}
use Rattle.pef_views.specs.Extents.{own_bytes, own_part}
use Rattle.pef_views.specs.declared.fault.ViewFault.{ViewFault}
use Rattle.pef_views.proofs.Laws.{kept_whole}
use Rattle.pef_tool.specs.Answers.Answers.{Answer}
use Rattle.pef_tool.specs.Companions.{CompanionIs, Looks, LooksAt, LooksIf, companion_places}
use Rattle.pef_tool.specs.Extract.{ExtractAnswers, ExtractRefuses, ExtractsInspected, FindsContainer, FindsIn, IsKept, as_fault, extracts, found_beside, found_in, found_with, numbered, refuses}
use Rattle.pef_tool.specs.Spellings.{container_asked}
use Rattle.pef_tool.specs.Kept.Extracting.{ReadEnds, WrittenAnswer}

-- what was read of a companion: its bytes, unless an allocation failed
abbrev IsRead : Result (List ℕ) Fault → Type 0
IsRead read = ((bytes : List ℕ) × (read ≡ Ok bytes)) ⊎ (read ≡ Err OutOfMemory)

-- why nothing was found: an error of the fragment, or an allocation failed
abbrev IsNotFound : Fault → Type 0
IsNotFound why = ((fault : MemberLookupFault) × (Fragment fault ≡ why)) ⊎ (OutOfMemory ≡ why)

fragment_error : (found : Result (List ℕ) MemberLookupFault) (why : Fault) → as_fault found ≡ Err why → IsNotFound why
fragment_error (Ok container) why is = absurd (cc is)
fragment_error (Err fault) why is = inl (fault, cc is)

error_beside : (bytes name : List ℕ) (read : Result (List ℕ) Fault) (why : Fault) → IsRead read → found_beside bytes name read ≡ Err why → IsNotFound why
error_beside bytes name (Ok resources) why read is = fragment_error (container_asked bytes resources name) why is
error_beside bytes name (Err fault) why (inl whole) is = absurd (cc whole.1)
error_beside bytes name (Err fault) why (inr lacks) is = inr (cc (sym lacks ∙ is))

same_companion : (c d : CompanionIs) → Some c ≡ Some d → d ≡ c
same_companion c d is = sym (cc is)

module _ {F : Type 0} (port : FilesPort F) (path : List ℕ) where
  read_at : (before after : F) (place : List ℕ) (c : CompanionIs) → LooksAt port path before after place (Some c) → IsRead c.read
  read_at before after place c (inl found) = inl (found.0, ap (λ (d : CompanionIs). d.read) found.3)
  read_at before after place c (inr lacking) = inr (ap (λ (d : CompanionIs). d.read) lacking.1)

  read_among : (places : List (List ℕ)) (before after : F) (c : CompanionIs) → Looks port path before after places (Some c) → IsRead c.read
  read_among [] before after c looks = absurd (cc looks.0)
  read_among (place ∷ places) before after c (inl here) = subst (λ (d : CompanionIs). IsRead d.read) (same_companion c here.0 here.2) (read_at before after place here.0 here.1)
  read_among (place ∷ places) before after c (inr later) = read_among places later.0 after c later.2

  read_if : (asked : Bool) (before after : F) (c : CompanionIs) → LooksIf asked port before after path (Some c) → IsRead c.read
  read_if true before after c looks = read_among (companion_places path) before after c looks
  read_if false before after c looks = absurd (cc looks.0)

  error_with : (asked : Bool) (before after : F) (bytes name : List ℕ) (companion : Option CompanionIs) (why : Fault)
      → LooksIf asked port before after path companion → found_with bytes name companion ≡ Err why → IsNotFound why
  error_with asked before after bytes name None why looks is = fragment_error (found_in bytes name) why is
  error_with asked before after bytes name (Some c) why looks is = error_beside bytes name c.read why (read_if asked before after c looks) is

  not_found : (before after : F) (bytes name : List ℕ) (why : Fault) → FindsIn port before after path name bytes (Err why) → IsNotFound why
  not_found before after bytes name why finds = error_with _ before after bytes name finds.companion why finds.looked finds.is

  refused : (before after : F) (name out : List ℕ) (why : Fault) → FindsContainer port before after path name (Err why) → ExtractRefuses port before after path name out why
  refused before after name out why found =
      let P : Fault → Type 0 = λ (w : Fault). FindsContainer port before after path name (Err w) → ExtractRefuses port before after path name out w in
      elim (not_found found.between after found.bytes name why found.finds) [
        | inl fault ↦ subst P fault.1 (λ it. it) found
        | inr lacks ↦ subst P lacks (λ it. inr (inr (inl it))) found
      ]

  module _ (before between after : F) (name out container : List ℕ) (found : FindsContainer port before between path name (Ok container)) (answer : Answer) where
    written : (result : Result (Unit {0}) FileFault) → Writes port between after out container result → WrittenAnswer out container (port.reason after) result answer → ExtractAnswers port before after path name out answer
    written (Ok u) writes told = (extracts container, record { between = between; finds = found; written = writes }, told)
    written (Err file_fault.Failed) writes told =
        (refuses (Unwritable told.0 (port.reason after)), (told.1, (container, record { between = between; finds = found; written = writes }), refl), told.2)
    written (Err file_fault.OutOfMemory) writes told =
        (refuses OutOfMemory, inr (inr (inr (container, record { between = between; finds = found; written = writes }))), told)

  -- FILE was read, and the container is found and written
  pub ends : (before read after : F) (name out bytes : List ℕ) (answer : Answer) → Reads port before read path (Ok bytes) → ReadEnds port read after path name out bytes answer → ExtractAnswers port before after path name out answer
  ends before read after name out bytes answer reads (Ok container, between, finds, end) =
      written before between after name out container (record { bytes = bytes; between = read; read = reads; finds = finds }) answer end.0 end.1 end.2
  ends before read after name out bytes answer reads (Err why, between, finds, end) =
      let P : F → Type 0 = λ (last : F). FindsContainer port before last path name (Err why) in
      (refuses why, refused before after name out why (subst P (sym end.0) (record { bytes = bytes; between = read; read = reads; finds = finds })), end.1)

-- what is taken of the bytes from a container on
keeps : (rest : List ℕ) (r : Result Contained ViewFault) → container_of rest ≡ r → IsKept rest r (Ok (own_part rest r))
keeps rest (Ok c) is = (let kept = kept_whole rest c is in (own_bytes c, kept.0, refl, kept.1, kept.2))
keeps rest (Err fault) is = refl

found_numbered : (bytes : List ℕ) (number at : ℕ) → slice_get (containers_in bytes 0) number ≡ Some at → numbered bytes number ≡ Ok (own_part (rest_from bytes at) (container_of (rest_from bytes at)))
unfolding container_numbered
found_numbered bytes number at there = rw there refl

pub extracts_inspected : ExtractsInspected
extracts_inspected bytes number at there =
    let rest = rest_from bytes at in
    let P : Result (List ℕ) MemberLookupFault → Type 0 = λ (found : Result (List ℕ) MemberLookupFault). IsKept rest (container_of rest) found in
    subst P (sym (found_numbered bytes number at there)) (keeps rest (container_of rest) refl)
