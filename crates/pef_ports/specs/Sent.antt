-- The effect of sending a text through a page, on the output and on the page.
use Rattle.std.specs.Prelude.{◌≡◌, ℕ, List, ◌++◌, Result, Ok, Err}
use Rattle.pef_ports.specs.Ports.{Stream, Grows, LastFailed, NoneFailed}

-- the bytes that wait in a page
pub record Waiting : Type 0 where
  pub items : List ℕ

-- of the bytes in the page and then the text, a prefix was written and this is left
pub record Prints (before after : Stream) (page left text : List ℕ) : Type 0 where
  pub sent : List ℕ
  pub out : Grows before.bytes after.bytes sent
  pub whole : sent ++ left ≡ page ++ text
  pub sound : NoneFailed before after

-- a prefix of the bytes in the page and then the text was written, and then a call failed
pub record StopsShort (before after : Stream) (page text : List ℕ) : Type 0 where
  pub sent : List ℕ
  pub left : List ℕ
  pub out : Grows before.bytes after.bytes sent
  pub whole : sent ++ left ≡ page ++ text
  pub failed : LastFailed before after

-- a text was sent, and the part that isn't written yet is in the page; or the output failed
abbrev pub Sends : {A E : Type 0} → Result A E → Stream → Stream → List ℕ → List ℕ → List ℕ → Type 0
Sends (Ok done) before after page page' text = Prints before after page page' text
Sends (Err fault) before after page page' text = StopsShort before after page text
