-- Bytes as a string of JSON: base64 with padding (RFC 4648, section 4).
use Rattle.std.specs.Prelude.{ℕ, List}
use Rattle.base64.specs.Engines.{standard}
use Rattle.base64.specs.GeneralPurpose.{encode_of}

-- the inside of the string
unfoldable pub base64_text : List ℕ → List ℕ
base64_text bytes = encode_of standard bytes
