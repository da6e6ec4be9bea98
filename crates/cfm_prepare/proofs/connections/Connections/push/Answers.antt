-- The slot of the number is the one after the others.
use Rattle.std.proofs.Common.{◌≡◌, ◌++◌, ◌∷◌, ◌+◌, ℕ, [], false, Some, sym, ap, subst, ◌∙◌}
use Rattle.std.specs.Result.{is_err}
use Rattle.cfm_prepare.specs.Kept.Connections.{AreNumbered, Numbered, open_in}
use Rattle.cfm_prepare.specs.declared.connections.Slot.{Slot}
use Rattle.cfm_prepare.proofs.ConnectionLemmas.{pushed-at, pushed-is}
use Rattle.cfm_prepare.proofs.ListLemmas.{pushed-ok}
use Rattle.cfm_prepare.proofs.connections.Connections.push.Goals as goal

pub invariant_of-self : goal.invariant_of-self
invariant_of-self c =
    let slots = c.self.inside.slots.items in
    let o = c.args.connected in
    let k = c.number-number.result in
    let e = c.is_err.ensures.value in
    let e' = c.if-is_err.false in
    let went : is_err c.push.result ≡ false = cc in
    let s : Slot = record { number = k; connected = Some o } in
    let pushed : c.push.new.self.items ≡ slots ++ s ∷ [] = c.push.ensures.items ∙ pushed-ok c.push.result _ _ went in
    let N : Numbered → Type 0 = λ n. o.number ≡ n.given in
    let number : o.number ≡ c.self.inside.given = subst N (sym c.self.view_is) c.requires.number in
    let same : k ≡ c.self.inside.given = c.number-number.ensures ∙ number in
    let P : ℕ → Type 0 = λ n. AreNumbered 0 (n + 1) (slots ++ (record { number = n; connected = Some o }) ∷ []) in
    subst (AreNumbered 0 (k + 1)) (sym pushed) (subst P (sym same) (pushed-at slots 0 c.self.inside.given o c.self.invariant number))

pub returns-clause-items : goal.returns-clause-items
returns-clause-items c =
    let slots = c.self.inside.slots.items in
    let o = c.args.connected in
    let k = c.number-number.result in
    let e = c.is_err.ensures.value in
    let e' = c.if-is_err.false in
    let went : is_err c.push.result ≡ false = cc in
    let s : Slot = record { number = k; connected = Some o } in
    let pushed : c.push.new.self.items ≡ slots ++ s ∷ [] = c.push.ensures.items ∙ pushed-ok c.push.result _ _ went in
    rw (← c.self.view_is) (ap open_in pushed ∙ pushed-is slots k o)
