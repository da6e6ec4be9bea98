use Rattle.pef_headline.proofs.HeadlineLemmas.{headline-least, headline-prepares, headline-prepares-at, headline-present}
use Rattle.pef_headline.proofs.theorems.headline.Goals as goal

pub returns : goal.returns
returns c = record { prepares = headline-prepares; prepares_at = headline-prepares-at; present = headline-present; least = headline-least }
