-- The sentence, and then the place.
use Rattle.pef_ports.proofs.Laws.Sending.{Sends-short, Sends-then, StopsShort-longer}
use Rattle.pef_faults.specs.Notes.Places.{place_text}
use Rattle.pef_faults.proofs.notes.print_note.Goals as goal

pub returns-in_err-send-in-Place : goal.returns-in_err-send-in-Place
returns-in_err-send-in-Place g c =
    rw (c.in-Place.is) (Sends-short _ c.from_residual.result _ c.from_residual.ensures.1 (StopsShort-longer (place_text c.in-Place.place) c.in_err-send-in-Place.ensures))

pub returns-in_err-print_versions-in-Versions : goal.returns-in_err-print_versions-in-Versions
returns-in_err-print_versions-in-Versions g c =
    rw (c.in-Versions.is) (Sends-short _ c.from_residual-in_err-print_versions-in-Versions.result _ c.from_residual-in_err-print_versions-in-Versions.ensures.1 (StopsShort-longer (place_text c.in-Versions.place) c.in_err-print_versions-in-Versions.ensures))

pub returns-in_ok-send-in-Place : goal.returns-in_ok-send-in-Place
returns-in_ok-send-in-Place g c =
    rw (c.in-Place.is) (Sends-then c.print_place.result (g.W.Sink.stream c.print_place.new.out) c.print_place.new.page.items (place_text c.in-Place.place) c.in_ok-send-in-Place.ensures c.print_place.ensures)

pub returns-in_ok-print_versions-in-Versions : goal.returns-in_ok-print_versions-in-Versions
returns-in_ok-print_versions-in-Versions g c =
    rw (c.in-Versions.is) (Sends-then c.print_place-in-Versions.result (g.W.Sink.stream c.print_place-in-Versions.new.out) c.print_place-in-Versions.new.page.items (place_text c.in-Versions.place) c.in_ok-print_versions-in-Versions.ensures c.print_place-in-Versions.ensures)
