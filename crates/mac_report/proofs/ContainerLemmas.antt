-- How the containers of a file add up.
use Rattle.std.proofs.Common.{◌≡◌, ℕ, List, [], ◌∷◌, ◌++◌, Result, Ok, Err, IfOk, IsErrAnd, refl, sym, subst, append_assoc, append-nil, ◌∙◌, true, false, Bool}
use Rattle.std.specs.Prelude.{◌==◌, nat_lt}
use Rattle.pef_ports.specs.Ports.{Stream}
use Rattle.pef_ports.specs.Sent.{Prints, StopsShort}
use Rattle.pef_ports.proofs.Laws.Sending.{Prints-then, StopsShort-longer, StopsShort-then, sent-nothing}
use Rattle.pef_inspect.specs.declared.limits.Limits.{Limits}
use Rattle.mac_rows.specs.declared.output_format.OutputFormat.{OutputFormat}
use Rattle.mac_report.specs.Containers.{IsRowIf, RowIs, Steps, Walks, cost, fresh_tally, lacking, rest_for, row_text, skipped, tallied}
use Rattle.mac_report.specs.declared.tally.Tally.{Tally}

-- what was sent of the first containers, and what the places that are left add to it
pub record HasWalked (form : OutputFormat) (bytes : List ℕ) (before after : Stream) (page page' : List ℕ) (places : List ℕ) (tally : Tally) (left : List ℕ) : Type 0 where
  pub sent : List ℕ
  pub prints : Prints before after page page' sent
  pub walks : (text : List ℕ) (last : Tally) → Walks form bytes tally left text last → Walks form bytes (fresh_tally bytes) places (sent ++ text) last

-- a row that is known of each container
some_row : (b : Bool) (limits : Limits) (rest : List ℕ) (at : ℕ) → (row : RowIs) × IsRowIf b limits rest at row
some_row true limits rest at = (skipped, refl)
some_row false limits rest at = (lacking at, refl)

-- containers that weren't reached add some text
pub some_walk : (form : OutputFormat) (bytes : List ℕ) (tally : Tally) (places : List ℕ) → (text : List ℕ) × (last : Tally) × Walks form bytes tally places text last
some_walk form bytes tally [] = ([], tally, (refl, refl))
some_walk form bytes tally (at ∷ places) =
    let row = some_row (nat_lt tally.turn.budget (cost (rest_for bytes tally.turn at))) tally.turn.limits (rest_for bytes tally.turn at) at in
    let next = tallied tally (rest_for bytes tally.turn at) row.0 in
    let here = row_text form (tally.turn.containers == 0) row.0 in
    let others = some_walk form bytes next places in
    (here ++ others.0, others.1, (here, next, others.0, record { row = row.0; is = row.1; printed = refl; counted = refl }, others.2, refl))

-- before the first container
pub walked-nothing : (form : OutputFormat) (bytes : List ℕ) (out : Stream) (page places : List ℕ) → HasWalked form bytes out out page page places (fresh_tally bytes) places
walked-nothing form bytes out page places =
    let none = sent-nothing out page [] in
    let P : List ℕ → Type 0 = λ (t : List ℕ). Prints out out page page t in
    record { sent = []; prints = subst P (sym (append-nil none.front) ∙ none.whole) none.prints; walks = λ text last walk. walk }

module _ {form : OutputFormat} {bytes : List ℕ} {before mid after : Stream} {page p places : List ℕ} {tally : Tally} {left : List ℕ} where
  -- the next container
  pub walked-more : {p' : List ℕ} (at : ℕ) (others here : List ℕ) (next : Tally) → HasWalked form bytes before mid page p places tally left → left ≡ at ∷ others
      → Steps form bytes tally at here next → Prints mid after p p' here → HasWalked form bytes before after page p' places next others
  walked-more {p'} at others here next so_far is steps prints = record {
    sent = so_far.sent ++ here;
    prints = Prints-then so_far.prints prints;
    walks = λ text last walk.
        let P : List ℕ → Type 0 = λ (t : List ℕ). Walks form bytes (fresh_tally bytes) places t last in
        let Q : List ℕ → Type 0 = λ (l : List ℕ). Walks form bytes tally l (here ++ text) last in
        subst P (sym (append_assoc so_far.sent here text)) (so_far.walks (here ++ text) last (subst Q (sym is) (here, next, text, steps, walk, refl)));
  }

  -- the output fails at the next container
  pub walked-short : (at : ℕ) (others here : List ℕ) (next : Tally) → HasWalked form bytes before mid page p places tally left → left ≡ at ∷ others
      → Steps form bytes tally at here next → StopsShort mid after p here
      → (text : List ℕ) × (last : Tally) × Walks form bytes (fresh_tally bytes) places text last × StopsShort before after page text
  walked-short at others here next so_far is steps short =
      let rest = some_walk form bytes next others in
      let Q : List ℕ → Type 0 = λ (l : List ℕ). Walks form bytes tally l (here ++ rest.0) rest.1 in
      (so_far.sent ++ (here ++ rest.0), rest.1, so_far.walks (here ++ rest.0) rest.1 (subst Q (sym is) (here, next, rest.0, steps, rest.2, refl)), StopsShort-then so_far.prints (StopsShort-longer rest.0 short))

-- past the last container
pub walked-all : {form : OutputFormat} {bytes : List ℕ} {before after : Stream} {page p places : List ℕ} {tally : Tally} {left : List ℕ} → HasWalked form bytes before after page p places tally left → left ≡ []
    → (text : List ℕ) × Walks form bytes (fresh_tally bytes) places text tally × Prints before after page p text
walked-all {form} {bytes} {before} {after} {page} {p} {places} {tally} {left} so_far none =
    let P : List ℕ → Type 0 = λ (t : List ℕ). Walks form bytes (fresh_tally bytes) places t tally in
    let Q : List ℕ → Type 0 = λ (l : List ℕ). Walks form bytes tally l [] tally in
    (so_far.sent, subst P (append-nil so_far.sent) (so_far.walks [] tally (subst Q (sym none) (refl, refl))), so_far.prints)

-- an error says nothing of a value
pub no_value : {A E : Type 0} (P : A → Type 0) (Q : E → Type 0) (r : Result A E) → IsErrAnd r Q → IfOk r P
no_value P Q (Ok x) err = absurd err
no_value P Q (Err e) err = tt
