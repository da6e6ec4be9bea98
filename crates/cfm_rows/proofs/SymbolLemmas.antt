-- The symbols of a stub, one after the other.
use Rattle.std.proofs.Common.{◌≡◌, ◌+◌, ◌<◌, ℕ, Bool, false, List, ◌++◌, Some, drop, length, slice_get, ap, sym, ◌∙◌}
use Rattle.std.proofs.lemmas.List.{at_drop_more}
use Rattle.std.proofs.lemmas.Option.{get_or_from_slice_get}
use Rattle.pef_format.specs.Exports.{Export}
use Rattle.pef_rows.specs.Objects.{separator}
use Rattle.cfm_rows.specs.Symbols.{line_if, number_of, symbol_lines, symbol_object, symbol_objects}

-- the line of symbol k comes before those of the symbols after it
pub lines-more : (exports : List Export) (k : ℕ) (x : Export) → k < length exports → Some x ≡ slice_get exports k
    → symbol_lines (drop k exports) ≡ line_if (number_of x) x.name ++ symbol_lines (drop (k + 1) exports)
lines-more exports k x under found =
    at_drop_more symbol_lines exports k x under
    ∙ ap (λ (y : Export). line_if (number_of y) y.name ++ symbol_lines (drop (k + 1) exports)) (get_or_from_slice_get exports k x x (sym found))

-- the same for its object
pub objects-more : (exports : List Export) (k : ℕ) (x : Export) (is_first : Bool) → k < length exports → Some x ≡ slice_get exports k
    → symbol_objects is_first (drop k exports) ≡ (separator is_first ++ symbol_object x) ++ symbol_objects false (drop (k + 1) exports)
objects-more exports k x is_first under found =
    at_drop_more (symbol_objects is_first) exports k x under
    ∙ ap (λ (y : Export). (separator is_first ++ symbol_object y) ++ symbol_objects false (drop (k + 1) exports)) (get_or_from_slice_get exports k x x (sym found))
