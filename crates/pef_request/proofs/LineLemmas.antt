-- How the parse of a command line determines its request.
use Rattle.std.proofs.Common.{◌≡◌, ◌⊎◌, true, List, [], ◌∷◌, Option, None, Some, Err, refl, sym, ap₂, subst, inl, inr, option_map, option_and_then}
use Rattle.std.specs.Box.{box_value}
use Rattle.std.specs.declared.boxed.Box.{Box}
use Rattle.clap.proofs.OnLiterals.{clap_on_literals}
use Rattle.clap.proofs.WalkLemmas.{first_value-rows, raw_values-rows}
use Rattle.clap.specs.Matches.{first_value, found_of, matched_of, raw_values}
use Rattle.clap.specs.Walk.{Row, Text, all_of, first_of, rows_of}
use Rattle.clap.specs.Faults.{is_simple_and_free, fault_of}
use Rattle.clap.specs.Kinds.{Kinds, IsAmong}
use Rattle.clap.specs.Simple.{is_simple, subcommand_of, subcommand_rows}
use Rattle.clap.specs.declared.error.kind.ErrorKind.{ErrorKind}
use Rattle.clap.specs.declared.error.kind.ErrorKind.TheVariants as kind
use Rattle.clap.specs.declared.parser.matches.Found.{Found}
use Rattle.clap.specs.declared.parser.matches.SubCommand.{SubCommand, out-SubCommand}
use Rattle.pef_request.specs.CommandLine.{asked_at, asked_by, command_asked, pef}
use Rattle.pef_request.specs.Kept.Kinds.{fault_of_kind}
use Rattle.pef_request.specs.Requests.{AnswersWords}

-- the program's commands are of the kind whose parse `clap` specifies completely
pub pef_simple : is_simple_and_free pef ≡ true
unfolding pef clap_on_literals
pef_simple = refl

pub pef_plain : is_simple pef ≡ true
unfolding pef clap_on_literals
pef_plain = refl

-- a line without a fault
pub asked_by-good : (words : List Text) (found : Option (Text × List Row)) → fault_of pef words ≡ [] → subcommand_of pef words ≡ found
    → asked_by words ≡ option_and_then (λ f. command_asked f.0 f.1) found
unfolding asked_by
asked_by-good words found none is = ap₂ asked_at none is

-- every kind of error means a failed allocation or an invalid command line
pub fault_of_kind-none : (k : ErrorKind) → AnswersWords (Err (fault_of_kind k)) None
fault_of_kind-none kind.OutOfMemory = tt
fault_of_kind-none _ = refl

-- a refused line
pub asked_at-refused : (k : ErrorKind) (kinds : Kinds) (found : Option (Text × List Row)) → (k ≡ kind.OutOfMemory) ⊎ IsAmong k kinds → AnswersWords (Err (fault_of_kind k)) (asked_at kinds found)
asked_at-refused k kinds found (inl is) =
    let P : ErrorKind → Type 0 = λ e. AnswersWords (Err (fault_of_kind e)) (asked_at kinds found) in
    subst P (sym is) tt
asked_at-refused k [] found (inr among) = absurd among
asked_at-refused k (x ∷ kinds) found (inr among) = fault_of_kind-none k

pub asked_by-refused : (k : ErrorKind) (words : List Text) → (k ≡ kind.OutOfMemory) ⊎ IsAmong k (fault_of pef words) → AnswersWords (Err (fault_of_kind k)) (asked_by words)
unfolding asked_by
asked_by-refused k words refused = asked_at-refused k (fault_of pef words) (subcommand_of pef words) refused

module _ {Z : Type 0} where
  -- the subcommand that was entered has a name and rows
  pub entered_pair : (o : Option (Box SubCommand Z)) (name : Text) (rows : List Row)
      → Some name ≡ option_map (λ b. (out-SubCommand (box_value b)).name.now) o → Some rows ≡ option_map (λ p. p.1) (subcommand_rows o) → subcommand_rows o ≡ Some (name, rows)
  entered_pair None name rows a b = absurd (cc)
  entered_pair (Some s) name rows a b =
      let n : (out-SubCommand (box_value s)).name.now ≡ name = cc in
      let r : rows_of (found_of (out-SubCommand (box_value s)).matches) ≡ rows = cc in
      ap₂ (λ (n : Text) (r : List Row). Some (n, r)) n r

  -- no subcommand was entered
  pub entered_none : (o : Option (Box SubCommand Z)) → None ≡ option_map (λ b. (out-SubCommand (box_value b)).name.now) o → subcommand_rows o ≡ None
  entered_none None a = refl
  entered_none (Some s) a = absurd (cc)

-- the first value of an operand
pub first_in_rows : (found : Found) (name : Text) → first_value found name ≡ first_of name (rows_of found)
first_in_rows found name = first_value-rows found name

-- the values of an operand
pub all_in_rows : (found : Found) (name : Text) → option_map raw_values (matched_of found name) ≡ all_of name (rows_of found)
all_in_rows found name = raw_values-rows found name
