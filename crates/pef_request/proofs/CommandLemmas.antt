-- A command after one more subcommand is added, and an operand that takes several words.
use Rattle.std.proofs.Common.{◌≡◌, ℕ, Bool, ap, ap₂, ◌∙◌, false, max, IfOk, IsSomeAnd, Option, None, Some, Result, Ok, Err, refl}
use Rattle.clap.specs.Words.{App, app_of}
use Rattle.clap.specs.Simple.{with_subcommand}
use Rattle.clap.specs.Walk.{Rule}
use Rattle.clap.specs.declared.builder.arg.Arg.{Arg}
use Rattle.clap.specs.declared.builder.command.Command.{Command}
use Rattle.clap.specs.declared.builder.range.ValueRange.{ValueRange}
use Rattle.clap.specs.declared.builder.command.Command.TheViews.{out-Command}
use Rattle.pef_request.specs.Kept.Commands.{HasOneMore}

-- if both commands are known
pub one_more : {E : Type 0} {before known : App} (more : Result Command E) (added : App) (after : Command)
    → before ≡ known → IfOk more (λ m. app_of m ≡ added) → IfOk more (λ m. (out-Command m).has_globals ≡ false)
    → HasOneMore before more after → app_of after ≡ with_subcommand known added.top
one_more (Ok more) added after is is_added local has = has local ∙ ap₂ with_subcommand is (ap (λ a. a.top) is_added)
one_more (Err fault) added after is is_added local has = absurd has

abbrev pub is_global : Arg → Bool
is_global a = a.global

abbrev pub ranged : Rule → Option ValueRange → Rule
ranged rule range = record rule { range = range }

-- the range of words that the code writes, from 1 up to a number
pub range_of : (most : ℕ) (o : Option ValueRange) (low high : ℕ) → IsSomeAnd o (λ r. r ≡ record { start_inclusive = low; end_inclusive = max high low }) → low ≡ 1 → high ≡ most → max most 1 ≡ most
    → o ≡ Some (record { start_inclusive = 1; end_inclusive = most })
range_of most None low high is low_is high_is above = absurd is
range_of most (Some r) low high is low_is high_is above = rw (is, low_is, high_is, above) refl
