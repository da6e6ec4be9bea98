-- The word by which a grammar continues after a part that was read or refused.
use Rattle.std.specs.Prelude.{Result, Ok, Err}

-- the rest of the reading after a part that was read; its refusal ends the reading
infixl 10 ◌>>=◌
abbrev pub ◌>>=◌ : {A B F : Type 0} → Result A F → (A → Result B F) → Result B F
(Ok x) >>= f = f x
(Err fault) >>= f = Err fault
