-- The values that a listing shows, without places in memory.
use Rattle.pef_views.specs.Views.{contained}
use Rattle.pef_loader.specs.Views.{loaded}
use Rattle.pef_listing.specs.declared.listing.Listing.{Listing}
use Rattle.pef_listing.specs.Listed.{Parts}

-- the parts that are listed
abbrev pub parts : Listing → Parts
parts l = record { container = contained l.container; loader = loaded l.loader }
