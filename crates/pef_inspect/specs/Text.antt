-- What shows that a container was changed as text is: its line ends, or its characters. The numbers are this project's own.
use Rattle.std.specs.Prelude.{ℕ, ◌+◌, ◌-◌, ◌^◌, ◌==◌, ◌&&◌, ◌||◌, Bool, true, false, not, min, List, [], ◌∷◌, length, nat_le, nat_lt, if◌then◌else◌}
use Rattle.pef_inspect.specs.declared.text.Characters.{Characters}
use Rattle.pef_inspect.specs.declared.text.LineEnds.{LineEnds}
use Rattle.pef_inspect.specs.declared.text.Signs.{Signs}

-- a count of 32 bits, after one more if something holds
abbrev pub counted : ℕ → Bool → ℕ
counted n holds = if holds then min (n + 1) (2 ^ 32 - 1) else n

-- a byte is below 20, and no tab and no end of a line: before an end of a line in a text there is hardly one
abbrev pub is_binary : ℕ → Bool
is_binary b = nat_lt b 0x20 && not (b == 0x09 || (b == 0x0A || b == 0x0D))

-- the ends of lines, after one more byte: the byte before, and whether one before it was such a byte; how many bytes are 0A, 0D, and 0D
-- before 0A; and how many of each follow such a byte
unfoldable pub ends_after : LineEnds → ℕ → LineEnds
ends_after e b =
    let is_feed = b == 0x0A in
    let is_return = b == 0x0D in
    let is_pair = is_feed && e.last == 0x0D in
    record {
      last = b;
      after_binary = is_binary e.last;
      feeds = counted e.feeds is_feed;
      returns = counted e.returns is_return;
      pairs = counted e.pairs is_pair;
      odd_feeds = counted e.odd_feeds (is_feed && is_binary e.last);
      odd_returns = counted e.odd_returns (is_return && is_binary e.last);
      odd_pairs = counted e.odd_pairs (is_pair && e.after_binary);
    }

-- a byte that begins a character of UTF-8 of two bytes, or of three
abbrev pub begins_two : ℕ → Bool
begins_two b = nat_le 0xC2 b && nat_lt b 0xE0

abbrev pub begins_three : ℕ → Bool
begins_three b = nat_le 0xE0 b && nat_lt b 0xF0

-- a byte is a character, or begins one
abbrev pub begins_one : ℕ → Bool
begins_one b = nat_lt b 0x80 || (begins_two b || begins_three b)

-- how many bytes are still to follow one that begins a character
abbrev pub following : ℕ → ℕ
following b = if begins_two b then 1 else if begins_three b then 2 else 0

-- a byte goes on with a character
abbrev pub goes_on : ℕ → Bool
goes_on b = nat_le 0x80 b && nat_lt b 0xC0

-- characters of UTF-8, after one more byte: how many bytes are still to follow, how many characters there are, whether each byte so
-- far is part of one, and whether none is above 7F
unfoldable pub characters_after : Characters → ℕ → Characters
characters_after c b =
    if nat_lt 0 c.left then record {
      left = c.left - 1;
      characters = counted c.characters (c.left == 1);
      are_whole = c.are_whole && goes_on b;
      are_ascii = c.are_ascii && nat_lt b 0x80;
    }
    else record {
      left = following b;
      characters = c.characters;
      are_whole = c.are_whole && begins_one b;
      are_ascii = c.are_ascii && nat_lt b 0x80;
    }

abbrev pub signs_after : Signs → ℕ → Signs
signs_after s b = record { ends = ends_after s.ends b; characters = characters_after s.characters b }

-- .. after some bytes
abbrev pub signs_in : Signs → List ℕ → Signs
signs_in s [] = s
signs_in s (b ∷ bytes) = signs_in (signs_after s b) bytes

-- before the first byte
abbrev pub no_signs : Signs
no_signs = record {
  ends = record { last = 0x20; after_binary = false; feeds = 0; returns = 0; pairs = 0; odd_feeds = 0; odd_returns = 0; odd_pairs = 0 };
  characters = record { left = 0; characters = 0; are_whole = true; are_ascii = true };
}

-- there is no byte of one kind, and many of the other don't follow text
abbrev pub are_many : ℕ → ℕ → Bool
are_many others odd = others == 0 && nat_le 32 odd

-- many pairs don't follow text, and each byte of a kind is in a pair
abbrev pub are_paired : LineEnds → Bool
are_paired e = nat_le 32 e.odd_pairs && (e.pairs == e.feeds || e.pairs == e.returns)

-- how many ends of lines speak for a change, if they do
abbrev pub ends_changed : LineEnds → ℕ
ends_changed e =
    if are_many e.feeds e.odd_returns then e.returns
    else if are_many e.returns e.odd_feeds then e.feeds
    else if are_paired e then e.pairs
    else 0

-- how many characters do, of so many bytes: none of 1,024 bytes is above 7F, or each that is one is part of a character of UTF-8, of
-- which there are 32
abbrev pub characters_changed : Characters → ℕ → ℕ
characters_changed c len =
    if c.are_ascii && nat_le 1024 len then len
    else if c.are_whole && nat_le 32 c.characters then c.characters
    else 0

-- how many bytes or characters say that some bytes were changed as text is; 0 if they weren't
abbrev pub changed_by : Signs → ℕ → ℕ
changed_by s len = if ends_changed s.ends == 0 then characters_changed s.characters len else ends_changed s.ends

unfoldable pub text_signs : List ℕ → ℕ
text_signs bytes = changed_by (signs_in no_signs bytes) (length bytes)
