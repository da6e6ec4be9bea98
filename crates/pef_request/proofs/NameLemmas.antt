-- A word that doesn't begin with `-` is no flag, and a command's name ends the program's own words.
use Rattle.std.proofs.Common.{◌≡◌, ◌⊎◌, Bool, true, false, List, [], ◌∷◌, ◌++◌, Option, None, Some, codes, refl, sym, ap, ap₂, ◌∙◌, inl, inr, append_assoc}
use Rattle.std.specs.Prelude.{fold, is_some}
use Rattle.std.specs.Str.{bytes_eq}
use Rattle.std.proofs.lemmas.Bool.{ne_eqb}
use Rattle.std.proofs.lemmas.List.{append-nil}
use Rattle.clap.specs.Faults.{check_fault, defaults_fault, entered_fault, settle_fault, turn_fault, walk_fault}
use Rattle.clap.specs.Kinds.{Kinds, or_else}
use Rattle.clap.specs.Lexer.{long_of, short_of}
use Rattle.clap.specs.Simple.{Shape, built, entered, names_of}
use Rattle.clap.specs.Walk.{Names, Rule, Text, Walk, finished, idle, nothing_held, settled, subcommand_met, walk, walk_from, walked}
use Rattle.pef_request.specs.CommandLine.{asked_at, asked_by, pef}
use Rattle.pef_request.specs.Plain.{IsPlain}
use Rattle.pef_request.specs.Requests.{Asked}

-- a word that is no flag
pub record IsNoFlag (w : Text) : Type 0 where
  pub dashes : bytes_eq w (45 ∷ 45 ∷ []) ≡ false
  pub long : long_of w ≡ None
  pub short : short_of w ≡ None

pub no_flag : (w : Text) → IsPlain w → IsNoFlag w
no_flag [] plain = record { dashes = refl; long = refl; short = refl }
no_flag (b ∷ w) plain =
    let other = ne_eqb b 45 plain in
    record { dashes = rw other refl; long = rw other refl; short = rw other refl }

-- the words of a command, once it was named
after_name : (rules : List Rule) (names : Names) (name : Text) (w : Walk) (before words : List Text)
    → fold (walked rules names) (record w { stopped = Some (name, before) }) words ≡ record w { stopped = Some (name, before ++ words) }
unfolding walked
after_name rules names name w before [] = ap (λ (xs : List Text). record w { stopped = Some (name, xs) }) (sym (append-nil before))
after_name rules names name w before (word ∷ words) =
    after_name rules names name w (before ++ word ∷ []) words ∙ ap (λ (xs : List Text). record w { stopped = Some (name, xs) }) (append_assoc before (word ∷ []) words)

no_fault_after : (s : Shape) (names : Names) (name : Text) (w : Walk) (before words : List Text)
    → walk_fault s names (record w { stopped = Some (name, before) }) words ≡ []
unfolding walked walk_fault
no_fault_after s names name w before [] = refl
no_fault_after s names name w before (word ∷ words) = no_fault_after s names name w (before ++ word ∷ []) words

pub is_or_not : (b : Bool) → (b ≡ true) ⊎ (b ≡ false)
is_or_not true = inl refl
is_or_not false = inr refl

-- if a command was named
unfoldable pub named : Text → List Text → Walk
named name words = record (walk_from nothing_held) { stopped = Some (name, words) }

-- the request at the end of the walk over the words, with the faults of the walk
unfoldable pub at_end : Walk → Kinds → Option Asked
unfolding pef
at_end w faults =
    let b = built pef in
    let s = b.top in
    asked_at
    (or_else faults (or_else (entered_fault b w.stopped) (or_else (settle_fault s.rules s.args_override_self w.held)
    (or_else (defaults_fault (settled s.rules w.held).rows s.rules) (check_fault s (finished s.rules w.held) (is_some (entered b w.stopped)))))))
    (entered b w.stopped)

asked_at_end : (program : Text) (words : List Text) → asked_by (program ∷ words) ≡ at_end (walk (built pef).top.rules (names_of (built pef)) nothing_held words) (walk_fault (built pef).top (names_of (built pef)) (walk_from nothing_held) words)
unfolding asked_by pef at_end
asked_at_end program words = refl

-- a command's name ends the walk over the program's own words
walked_named : (rules : List Rule) (names : Names) (name command : Text) → subcommand_met names idle name ≡ Some command
    → walked rules names (walk_from nothing_held) name ≡ record (walk_from nothing_held) { stopped = Some (command, []) }
unfolding walked
walked_named rules names name command is = rw is refl

no_fault_named : (s : Shape) (names : Names) (name command : Text) → subcommand_met names idle name ≡ Some command → bytes_eq command (codes "help") ≡ false
    → turn_fault s names (walk_from nothing_held) name ≡ []
no_fault_named s names name command is other = rw (is, other) refl

pub command_named : (program name command : Text) (words : List Text) → subcommand_met (names_of (built pef)) idle name ≡ Some command → bytes_eq command (codes "help") ≡ false
    → asked_by (program ∷ name ∷ words) ≡ at_end (named command words) []
unfolding named walk_fault
command_named program name command words is other =
    let b = built pef in
    let rules = b.top.rules in
    let names = names_of b in
    let first = walked_named rules names name command is in
    let ended : walk rules names nothing_held (name ∷ words) ≡ named command words = ap (λ (w : Walk). fold (walked rules names) w words) first ∙ after_name rules names command (walk_from nothing_held) [] words in
    let sound : walk_fault b.top names (walk_from nothing_held) (name ∷ words) ≡ [] =
    ap₂ or_else (no_fault_named b.top names name command is other) (ap (λ (w : Walk). walk_fault b.top names w words) first ∙ no_fault_after b.top names command (walk_from nothing_held) [] words) in
    asked_at_end program (name ∷ words) ∙ ap₂ at_end ended sound
