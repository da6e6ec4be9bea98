-- All lines are still to be read, or the container has no error and an allocation failed.
use Rattle.std.proofs.Common.{◌≡◌, ◌∙◌, Some, ap, inl, refl, sym}
use Rattle.std.specs.Prelude.{Option, option_map}
use Rattle.pef_listing.specs.Listed.{Parts, listed_of}
use Rattle.pef_listing.specs.Listing.{listing_text}
use Rattle.pef_listing.specs.Views.{parts}
use Rattle.pef_c.specs.Reports.Unread.{unread_text}
use Rattle.pef_c.specs.declared.reports.unread.Unread.{Unread}
use Rattle.pef_c.proofs.reports.list.pef_list_open.Goals as goal

pub returns-in-Ok-new : goal.returns-in-Ok-new
returns-in-Ok-new c =
    let p : Parts = parts c.in-Ok.read in
    let all : unread_text c.in-Ok-new.boxed.value ≡ listing_text p.container p.loader = ap unread_text c.in-Ok-new.ensures.ok ∙ c.new.ensures ∙ c.lines-lines.ensures in
    (p, sym (ap listed_of c.given.ensures) ∙ sym c.in-Ok.ensures, ap (λ (held : Option Unread). option_map unread_text held) c.put.ensures ∙ ap Some all)

pub returns : goal.returns
returns c =
    let p : Parts = parts c.in-Ok.read in
    (ap (λ (held : Option Unread). option_map unread_text held) c.take-closed.ensures.left, inl (refl, (p, sym (ap listed_of c.given.ensures) ∙ sym c.in-Ok.ensures)))
