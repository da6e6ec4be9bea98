-- A word that isn't empty is printed.
use Rattle.std.proofs.Common.{◌≡◌, ◌≤◌, ◌∷◌, [], List, ℕ, arith, length, refl, subst, sym}
use Rattle.pef_ports.specs.Sent.{Sends}
use Rattle.mac_rows.specs.Unread.{reason_end, unread_error_end}
use Rattle.mac_rows.proofs.unread.print_object_end.Goals as goal

worded : (number : ℕ) (name word : List ℕ) → 1 ≤ length word → unread_error_end number name word ≡ reason_end number name word
unfolding unread_error_end
worded number name [] some = absurd (omega (arith, some))
worded number name (b ∷ word) some = refl

pub returns-in_default : goal.returns-in_default
returns-in_default g c =
    let stream = g.W.Sink.stream in
    let P : List ℕ → Type 0 = λ (text : List ℕ). Sends c.print_tokens.result (stream c.args.out.now) (stream c.print_tokens.new.out) c.args.page.now.items c.print_tokens.new.page.items text in
    subst P (sym (worded c.args.number c.args.name.now c.args.word.now c.in_default.len_at_least)) (rw c.from.ensures at c.print_tokens.ensures)
