-- How an operand that takes several words is parsed, if none of them begins with `-`: each word adds one value.
use Rattle.std.proofs.Common.{◌≡◌, ◌<◌, ◌≤◌, ℕ, false, List, [], ◌∷◌, ◌++◌, None, Some, arith, refl, sym, ap, ap₂, ◌∙◌, append_assoc}
use Rattle.std.specs.Prelude.{fold}
use Rattle.std.proofs.lemmas.Bool.{le-ltb, lt-ltb, ne_eqb}
use Rattle.std.proofs.lemmas.List.{append-nil}
use Rattle.clap.specs.Faults.{turn_fault, walk_fault}
use Rattle.clap.specs.Kinds.{or_else, range_kinds, values_kinds}
use Rattle.clap.specs.Simple.{Shape}
use Rattle.clap.specs.Walk.{Rule, Text, Walk, positional, walked}
use Rattle.clap.specs.declared.builder.value_parser.ValueParser.TheVariants.{String}
use Rattle.clap.specs.declared.error.kind.ErrorKind.TheVariants as kind
use Rattle.pef_request.specs.Plain.{ArePlain, IsPlain}

-- some words of the operand are read
unfoldable pub taken : Text → List Text → Walk
taken name words = record {
  held = record { rows = []; pending = Some (name, words); skip = 0 };
  waiting = positional;
  position = 1;
  is_trailing = false;
  stopped = None;
}

-- one word more is one value more
abbrev pub Takes : List Rule → Text → Type 0
Takes rules name = (before : List Text) (word : Text) → IsPlain word → walked rules [] (taken name before) word ≡ taken name (before ++ word ∷ [])

-- .. without a fault
abbrev pub TakesSoundly : Shape → Text → Type 0
TakesSoundly s name = (before : List Text) (word : Text) → IsPlain word → turn_fault s [] (taken name before) word ≡ []

pub all_taken : (rules : List Rule) (name : Text) → Takes rules name → (before words : List Text) → ArePlain words
    → fold (walked rules []) (taken name before) words ≡ taken name (before ++ words)
all_taken rules name takes before [] plain = ap (taken name) (sym (append-nil before))
all_taken rules name takes before (word ∷ words) plain =
    ap (λ (w : Walk). fold (walked rules []) w words) (takes before word plain.0) ∙ all_taken rules name takes (before ++ word ∷ []) words plain.1
    ∙ ap (taken name) (append_assoc before (word ∷ []) words)

pub all_sound : (s : Shape) (name : Text) → Takes s.rules name → TakesSoundly s name → (before words : List Text) → ArePlain words
    → walk_fault s [] (taken name before) words ≡ []
unfolding walk_fault
all_sound s name takes sound before [] plain = refl
all_sound s name takes sound before (word ∷ words) plain =
    ap₂ or_else (sound before word plain.0)
    (ap (λ (w : Walk). walk_fault s [] w words) (takes before word plain.0) ∙ all_sound s name takes sound (before ++ word ∷ []) words plain.1)

-- each word may be a value
pub all_values : (words : List Text) → values_kinds false String words ≡ []
all_values [] = refl
all_values (word ∷ words) = all_values words

-- 1 to `most` words are in the range
pub in_range : (most n : ℕ) → 1 < most → 0 < n → n ≤ most → range_kinds 1 most n ≡ []
in_range most n several some few = rw (ne_eqb n 0 (λ e. omega arith), ne_eqb 1 most (λ e. omega arith), le-ltb n 1 some, le-ltb most n few) refl

-- more words aren't
pub past_range : (most n : ℕ) → 1 < most → most < n → range_kinds 1 most n ≡ kind.TooManyValues ∷ []
past_range most n several many = rw (ne_eqb n 0 (λ e. omega arith), ne_eqb 1 most (λ e. omega arith), le-ltb n 1 (omega arith), lt-ltb most n many) refl
