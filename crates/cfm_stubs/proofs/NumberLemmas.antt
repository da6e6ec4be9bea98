-- The exports of a stub, symbol by symbol.
use Rattle.std.proofs.Common.{◌≡◌, ◌∙◌, Option, ℕ, ◌+◌, ◌^◌, ◌<◌, ◌≤◌, ◌||◌, true, false, List, [], ◌∷◌, ◌++◌, None, Some, drop, length, map, slice_get, append_assoc, append-nil, refl, sym, ap, subst}
use Rattle.std.specs.Prelude.{if◌then◌else◌}
use Rattle.std.specs.List.{list_any, sum_by}
use Rattle.std.specs.Option.{option_or}
use Rattle.std.proofs.lemmas.Bool.{le-leb, lt-leb}
use Rattle.std.proofs.lemmas.List.{drop_all, map-append}
use Rattle.std.proofs.lemmas.List.Folds.{list_any-append}
use Rattle.std.proofs.lemmas.List.Sums.{sum_by-cons}
use Rattle.pef_format.specs.Exports.{Export, ExportView, export_seen}
use Rattle.pef_words.specs.Refusals.{first_met}
use Rattle.pef_words.proofs.Laws.Lists.{drop-here}
use Rattle.cfm_stubs.specs.declared.fault.StubFault.{StubFault}
use Rattle.cfm_stubs.specs.declared.fault.StubFault.TheVariants as fault
use Rattle.cfm_stubs.specs.Stubs.{FailsAs, exports_from, is_large, is_long, large_number, numbered, stub_refusal, symbol_tests}
use Rattle.cfm_stubs.specs.Symbols.{Symbol}

-- a test of what is left, with the symbol at a place
pub long-here : (xs : List Symbol) (k : ℕ) (s : Symbol) → slice_get xs k ≡ Some s → list_any is_long (drop k xs) ≡ (is_long s || list_any is_long (drop (k + 1) xs))
long-here xs k s there = ap (list_any is_long) (drop-here xs k s there)

pub bytes-here : (xs : List Symbol) (k : ℕ) (s : Symbol) → slice_get xs k ≡ Some s → sum_by (λ (s : Symbol). length s.name) (drop k xs) ≡ length s.name + sum_by (λ (s : Symbol). length s.name) (drop (k + 1) xs)
bytes-here xs k s there = ap (sum_by (λ (s : Symbol). length s.name)) (drop-here xs k s there) ∙ sum_by-cons (λ (s : Symbol). length s.name) s (drop (k + 1) xs)

pub exports-here : (next step : ℕ) (xs : List Symbol) (k : ℕ) (s : Symbol) → slice_get xs k ≡ Some s → exports_from next step (drop k xs) ≡ numbered next s ∷ exports_from (next + step) step (drop (k + 1) xs)
exports-here next step xs k s there = ap (exports_from next step) (drop-here xs k s there)

-- one more export
pub exports-more : (next step : ℕ) (xs : List Symbol) (k : ℕ) (s : Symbol) (e : ExportView) (old new : List ExportView) (all : List Export) → slice_get xs k ≡ Some s → export_seen e ≡ numbered next s → new ≡ old ++ e ∷ []
    → map export_seen old ++ exports_from next step (drop k xs) ≡ all → map export_seen new ++ exports_from (next + step) step (drop (k + 1) xs) ≡ all
exports-more next step xs k s e old new all there seen added before =
    ap (λ es. map export_seen es ++ exports_from (next + step) step (drop (k + 1) xs)) added
    ∙ ap (λ z. z ++ exports_from (next + step) step (drop (k + 1) xs)) (map-append export_seen old (e ∷ []))
    ∙ append_assoc (map export_seen old) (export_seen e ∷ []) (exports_from (next + step) step (drop (k + 1) xs))
    ∙ ap (λ x. map export_seen old ++ (x ∷ exports_from (next + step) step (drop (k + 1) xs))) seen
    ∙ ap (λ z. map export_seen old ++ z) (sym (exports-here next step xs k s there))
    ∙ before

-- .. whose number isn't large
pub small-more : (next : ℕ) (s : Symbol) (e : ExportView) (old new : List ExportView) → export_seen e ≡ numbered next s → new ≡ old ++ e ∷ [] → next < 2 ^ 32 → list_any is_large (map export_seen old) ≡ false → list_any is_large (map export_seen new) ≡ false
small-more next s e old new seen added small before =
    ap (λ es. list_any is_large (map export_seen es)) added
    ∙ ap (list_any is_large) (map-append export_seen old (e ∷ []))
    ∙ list_any-append is_large (map export_seen old) (export_seen e ∷ [])
    ∙ ap (λ b. b || list_any is_large (export_seen e ∷ [])) before
    ∙ ap (λ x. list_any is_large (x ∷ [])) seen
    ∙ ap (λ b. b || false) (lt-leb (2 ^ 32) next small)

-- a fault of the symbols is the one that is reported
pub fails_same : (f : StubFault) → FailsAs f (Some f)
fails_same fault.TooManySymbols = refl
fails_same fault.LongName = refl
fails_same fault.TooManyNameBytes = refl
fails_same fault.PastLastNumber = refl
fails_same fault.UnspellableName = refl
fails_same fault.TooManyBytes = refl
fails_same fault.OutOfMemory = tt

pub fails_first : (first step : ℕ) (symbols : List Symbol) (f : StubFault) → Some f ≡ first_met (symbol_tests symbols) → FailsAs f (stub_refusal first step symbols)
unfolding stub_refusal
fails_first first step symbols f met = subst (FailsAs f) (ap (λ o. option_or o (large_number (exports_from first step symbols))) met) (fails_same f)

-- a large number is reported if there is no such fault
pub fails_large : (first next step : ℕ) (xs : List Symbol) (k : ℕ) (s : Symbol) (old : List Export) → None ≡ first_met (symbol_tests xs) → slice_get xs k ≡ Some s → 2 ^ 32 ≤ next → list_any is_large old ≡ false
    → old ++ exports_from next step (drop k xs) ≡ exports_from first step xs → stub_refusal first step xs ≡ Some fault.PastLastNumber
unfolding stub_refusal
fails_large first next step xs k s old unmet there large small all =
    let any : list_any is_large (exports_from first step xs) ≡ true =
    sym (ap (list_any is_large) all)
    ∙ list_any-append is_large old (exports_from next step (drop k xs))
    ∙ ap (λ b. b || list_any is_large (exports_from next step (drop k xs))) small
    ∙ ap (list_any is_large) (exports-here next step xs k s there)
    ∙ ap (λ b. b || list_any is_large (exports_from (next + step) step (drop (k + 1) xs))) (le-leb (2 ^ 32) next large) in
    ap (λ o. option_or o (large_number (exports_from first step xs))) (sym unmet)
    ∙ ap (λ b. if b then Some fault.PastLastNumber else None) any

-- at the end all exports are there, and there is no fault
pub exports-end : (first next step : ℕ) (xs : List Symbol) (k : ℕ) (es : List Export) → length xs ≤ k → es ++ exports_from next step (drop k xs) ≡ exports_from first step xs → es ≡ exports_from first step xs
exports-end first next step xs k es past all = sym (append-nil es) ∙ ap (λ z. es ++ z) (sym (ap (exports_from next step) (drop_all k xs past))) ∙ all

pub fails_none : (first step : ℕ) (xs : List Symbol) (es : List Export) → None ≡ first_met (symbol_tests xs) → es ≡ exports_from first step xs → list_any is_large es ≡ false → stub_refusal first step xs ≡ None
unfolding stub_refusal
fails_none first step xs es unmet all small =
    ap (λ o. option_or o (large_number (exports_from first step xs))) (sym unmet)
    ∙ ap (λ (es : List Export). large_number es) (sym all)
    ∙ ap (λ b. if b then Some fault.PastLastNumber else None) small

-- a fault is that of a list of reasons if it is that of the first, or of the others if the first isn't there
pub fails_or : (f : StubFault) (a b : Option StubFault) → FailsAs f a → FailsAs f (option_or a b)
fails_or fault.TooManySymbols a b is = ap (λ o. option_or o b) is
fails_or fault.LongName a b is = ap (λ o. option_or o b) is
fails_or fault.TooManyNameBytes a b is = ap (λ o. option_or o b) is
fails_or fault.PastLastNumber a b is = ap (λ o. option_or o b) is
fails_or fault.UnspellableName a b is = ap (λ o. option_or o b) is
fails_or fault.TooManyBytes a b is = ap (λ o. option_or o b) is
fails_or fault.OutOfMemory a b is = tt
