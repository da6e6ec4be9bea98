-- The parts of a report, one after the other, are a report.
use Rattle.std.proofs.Common.{◌≡◌, ℕ, List, [], ◌∷◌, length, refl, sym}
use Rattle.cfm_members.specs.Search.{containers_in}
use Rattle.mac_rows.specs.Faults.{faults_of}
use Rattle.mac_rows.specs.FileNotes.{notes_of}
use Rattle.mac_rows.specs.declared.output_format.OutputFormat.TheVariants.{Json}
use Rattle.mac_report.specs.Containers.{Walks, fresh_tally, rest_for, tallied, total}
use Rattle.mac_report.specs.Parts.{AreContainers, PartsJoin}
use Rattle.mac_report.specs.declared.tally.Tally.{Tally}
use Rattle.mac_report.specs.declared.turn.Turn.{Turn}

-- containers one after the other are walked, whatever was counted of those before
walks : (bytes places text : List ℕ) (tally : Tally) (last : Turn) → AreContainers bytes tally.turn places text last
    → (after : Tally) × Walks Json bytes tally places text after × (after.turn ≡ last)
walks bytes [] text tally last are = (tally, (are.0, refl), sym are.1)
walks bytes (at ∷ places) text tally last are =
    let here = are.2 in
    let next = tallied tally (rest_for bytes tally.turn at) here.row in
    let others = walks bytes places are.1 next last are.3 in
    (others.0, (are.0, next, are.1, record { row = here.row; is = here.is.is; printed = here.printed; counted = refl }, others.1, are.4), others.2)

pub parts_join : PartsJoin
parts_join path bytes other containers last are =
    let walked = walks bytes (containers_in bytes 0) containers (fresh_tally bytes) last are in (
      total walked.0 (length (faults_of other bytes)) (length (notes_of other bytes)),
      record {
        containers = containers;
        tally = walked.0;
        walked = walked.1;
        printed = rw walked.2 refl;
        counted = refl;
      },
    )
