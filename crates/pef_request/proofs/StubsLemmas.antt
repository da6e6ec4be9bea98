-- How `stubs` parses words that don't begin with `-`: each adds one file, and 1 to 256 are accepted.
use Rattle.std.proofs.Common.{◌≡◌, true, false, List, [], ◌∷◌, Option, None, Some, codes, length, nat_le, arith, refl, ap, ap₂, ◌∙◌, inl, inr}
use Rattle.std.specs.Prelude.{fold}
use Rattle.std.proofs.lemmas.Bool.{leb-false, leb-true}
use Rattle.clap.proofs.OnLiterals.{clap_on_literals}
use Rattle.clap.specs.Faults.{check_fault, defaults_fault, settle_fault, turn_fault, walk_fault}
use Rattle.clap.specs.Kinds.{Kinds, or_else, range_kinds, values_kinds}
use Rattle.clap.specs.Simple.{Shape, filled, with_index}
use Rattle.clap.specs.Walk.{Rule, Text, Walk, finished, nothing_held, settled, walk, walk_from, walked}
use Rattle.clap.specs.declared.builder.value_parser.ValueParser.TheVariants.{String}
use Rattle.clap.specs.declared.error.kind.ErrorKind.{ErrorKind}
use Rattle.clap.specs.declared.error.kind.ErrorKind.TheVariants as kind
use Rattle.pef_request.specs.Arguments.{files_operand, flag, lettered, valued}
use Rattle.pef_request.specs.Stubs.{stubs_command}
use Rattle.pef_request.specs.CommandLine.{asked_at, pef}
use Rattle.pef_request.specs.Plain.{ArePlain, IsPlain, plain_stubs, plain_stubs_of}
use Rattle.pef_request.specs.Requests.{Asked, stubs}
use Rattle.pef_request.proofs.NameLemmas.{at_end, is_or_not, named, no_flag}
use Rattle.pef_request.proofs.OperandLemmas.{Takes, TakesSoundly, all_sound, all_taken, all_values, in_range, past_range, taken}

-- the built command `stubs`, its options and its operand
first_rule : Rule
first_rule = filled (valued (codes "first"))

step_rule : Rule
step_rule = filled (valued (codes "step"))

no_weak_rule : Rule
no_weak_rule = filled (flag (codes "no-weak"))

memory_rule : Rule
memory_rule = filled (flag (codes "memory"))

out_rule : Rule
out_rule = filled (lettered (codes "out") 111)

files_rule : Rule
files_rule = with_index 1 (filled (files_operand (codes "[NAME=]FILE")))

stubs_shape : Shape
stubs_shape = record stubs_command.top { rules = first_rule ∷ step_rule ∷ no_weak_rule ∷ memory_rule ∷ out_rule ∷ files_rule ∷ []; is_built = true; disable_help_flag = true; disable_help_subcommand = true }

first_taken : (word : Text) → IsPlain word → walked stubs_shape.rules [] (walk_from nothing_held) word ≡ taken (codes "[NAME=]FILE") (word ∷ [])
unfolding clap_on_literals first_rule step_rule no_weak_rule memory_rule out_rule files_rule stubs_shape taken
first_taken word plain =
    let a = no_flag word plain in
    rw (a.dashes, a.long, a.short) refl

first_sound : (word : Text) → IsPlain word → turn_fault stubs_shape [] (walk_from nothing_held) word ≡ []
unfolding clap_on_literals first_rule step_rule no_weak_rule memory_rule out_rule files_rule stubs_shape
first_sound word plain =
    let a = no_flag word plain in
    rw (a.dashes, a.long, a.short) refl

next_taken : Takes stubs_shape.rules (codes "[NAME=]FILE")
unfolding clap_on_literals first_rule step_rule no_weak_rule memory_rule out_rule files_rule stubs_shape taken
next_taken before word plain =
    let a = no_flag word plain in
    rw (a.dashes, a.long, a.short) refl

next_sound : TakesSoundly stubs_shape (codes "[NAME=]FILE")
unfolding clap_on_literals first_rule step_rule no_weak_rule memory_rule out_rule files_rule stubs_shape taken
next_sound before word plain =
    let a = no_flag word plain in
    rw (a.dashes, a.long, a.short) refl

-- the request of `stubs` at the end of the walk over its words, with the faults of the walk
stubs_end : Walk → Kinds → Option Asked
stubs_end w faults =
    let s = stubs_shape in
    asked_at
    (or_else (or_else faults (or_else (settle_fault s.rules s.args_override_self w.held) (or_else (defaults_fault (settled s.rules w.held).rows s.rules) (check_fault s (finished s.rules w.held) false)))) [])
    (Some (codes "stubs", finished s.rules w.held))

stubs_ends : (words : List Text) → at_end (named (codes "stubs") words) [] ≡ stubs_end (walk stubs_shape.rules [] nothing_held words) (walk_fault stubs_shape [] (walk_from nothing_held) words)
unfolding pef clap_on_literals named at_end stubs_end stubs_shape first_rule step_rule no_weak_rule memory_rule out_rule files_rule
stubs_ends words = refl

-- the request of `stubs`, by the faults of the number of its words and of the words
stubs_at : Kinds → Kinds → List Text → Option Asked
stubs_at range values words = asked_at (or_else (or_else (or_else range values) []) []) (Some (codes "stubs", finished stubs_shape.rules (taken (codes "[NAME=]FILE") words).held))

stubs_settles : (word : Text) (words : List Text) → stubs_end (taken (codes "[NAME=]FILE") (word ∷ words)) [] ≡ stubs_at (range_kinds 1 256 (length (word ∷ words))) (values_kinds false String (word ∷ words)) (word ∷ words)
unfolding stubs_end stubs_at clap_on_literals stubs_shape first_rule step_rule no_weak_rule memory_rule out_rule files_rule taken
stubs_settles word words = refl

stubs_within : (word : Text) (words : List Text) → stubs_at [] [] (word ∷ words) ≡ Some (stubs (plain_stubs_of (word ∷ words)))
unfolding stubs_at taken stubs_shape first_rule step_rule no_weak_rule memory_rule out_rule files_rule
stubs_within word words = refl

stubs_past : (k : ErrorKind) (words : List Text) → stubs_at (k ∷ []) [] words ≡ None
unfolding stubs_at
stubs_past k words = refl

stubs_counted : (word : Text) (words : List Text) → stubs_at (range_kinds 1 256 (length (word ∷ words))) [] (word ∷ words) ≡ plain_stubs (word ∷ words)
stubs_counted word words =
    let n = length (word ∷ words) in
    elim (is_or_not (nat_le n 256)) [
      | inl few ↦ rw few (ap (λ (range : Kinds). stubs_at range [] (word ∷ words)) (in_range 256 n (omega arith) (omega arith) (leb-true n 256 few)) ∙ stubs_within word words)
      | inr many ↦ rw many (ap (λ (range : Kinds). stubs_at range [] (word ∷ words)) (past_range 256 n (omega arith) (leb-false n 256 many)) ∙ stubs_past kind.TooManyValues (word ∷ words))
    ]

no_files : at_end (named (codes "stubs") []) [] ≡ None
unfolding pef clap_on_literals named at_end
no_files = refl

-- the operands of `stubs`
pub stubs_operands : (words : List Text) → ArePlain words → at_end (named (codes "stubs") words) [] ≡ plain_stubs words
unfolding walk_fault
stubs_operands [] plain = no_files
stubs_operands (word ∷ words) plain =
    let rules = stubs_shape.rules in
    let first = first_taken word plain.0 in
    let ended : walk rules [] nothing_held (word ∷ words) ≡ taken (codes "[NAME=]FILE") (word ∷ words) = ap (λ (w : Walk). fold (walked rules []) w words) first ∙ all_taken rules (codes "[NAME=]FILE") next_taken (word ∷ []) words plain.1 in
    let sound : walk_fault stubs_shape [] (walk_from nothing_held) (word ∷ words) ≡ [] =
    ap₂ or_else (first_sound word plain.0) (ap (λ (w : Walk). walk_fault stubs_shape [] w words) first ∙ all_sound stubs_shape (codes "[NAME=]FILE") next_taken next_sound (word ∷ []) words plain.1) in
    stubs_ends (word ∷ words) ∙ ap₂ stubs_end ended sound ∙ stubs_settles word words
    ∙ ap (λ (values : Kinds). stubs_at (range_kinds 1 256 (length (word ∷ words))) values (word ∷ words)) (all_values (word ∷ words)) ∙ stubs_counted word words
