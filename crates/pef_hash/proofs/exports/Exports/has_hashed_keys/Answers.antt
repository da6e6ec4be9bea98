-- A name more is hashed. In a searchable table each name is there, and the strings left have room
-- for it.
use Rattle.std.proofs.Common.{◌≡◌, ◌∙◌, ℕ, ◌+◌, None, Some, sym, ap, inl, inr, subst, arith}
use Rattle.std.specs.Option.{option_copied}
use Rattle.std.proofs.lemmas.Bool.Decides.{eqb_tells}
use Rattle.pef_hash.specs.Exports.{name_of}
use Rattle.pef_hash.specs.Views.{table_of}
use Rattle.pef_hash.specs.Kept.Searches.{IsHashed}
use Rattle.pef_hash.proofs.FoundLemmas.{names_length-most, names_length-next, names_length-none}
use Rattle.pef_hash.proofs.exports.Exports.has_hashed_keys.Goals.{then-name-left-via-then-name-left, then-name-left-via-else-name-left+then-not-is_hashed}
use Rattle.pef_hash.proofs.exports.Exports.has_hashed_keys.Goals as goal

pub loop-i-init : goal.loop-i-init
loop-i-init c = record {
  hashed = λ k less. absurd (omega arith);
  rest = omega (arith, names_length-none (table_of c.args.self.now));
}

pub returns-in_default-clause-found : goal.returns-in_default-clause-found
returns-in_default-clause-found c = λ sought.
    let keyed = sought.regular.keyed c.loop-i.i (omega arith) in
    let none : None ≡ name_of (table_of c.args.self.now) c.loop-i.i = sym (ap option_copied c.in_default.is) ∙ c.name.ensures in
    let named = keyed.1 in
    absurd (cc)

pub returns-then-name-left-clause-found : goal.returns-then-name-left-clause-found
returns-then-name-left-clause-found c = λ sought.
    let t = table_of c.args.self.now in
    let named : name_of t c.loop-i.i ≡ Some c.in-Some.name.now = sym c.name.ensures ∙ ap option_copied c.in-Some.is in
    let rest = c.loop-i.invariant.rest in
    let next = names_length-next t c.loop-i.i c.in-Some.name.now named in
    let most = names_length-most t (c.loop-i.i + 1) c.args.self.now.count (omega arith) in
    let within = sought.within in
    elim c.then-name-left.branch [
      | then-name-left-via-then-name-left w ↦ absurd (let long = w.if-name-left in omega arith)
      | then-name-left-via-else-name-left+then-not-is_hashed w ↦ (let found = w.is_hashed.ensures.found sought in let not = w.if-not-is_hashed in absurd (cc))
    ]

pub loop-i-preserved : goal.loop-i-preserved
loop-i-preserved c =
    let t = table_of c.args.self.now in
    let named : name_of t c.loop-i.i ≡ Some c.in-Some.name.now = sym c.name.ensures ∙ ap option_copied c.in-Some.is in
    let rest = c.loop-i.invariant.rest in
    let next = names_length-next t c.loop-i.i c.in-Some.name.now named in
    let room = c.if-name-left.false in
    let here = c.is_hashed.ensures.hashed c.if-not-is_hashed.false in
    record {
      hashed = λ k less. elim (eqb_tells k c.loop-i.i) [
        | inl same ↦ (let P : ℕ → Type 0 = λ k. IsHashed t k in subst P (sym same.1) here)
        | inr other ↦ (let apart = other.1 in c.loop-i.invariant.hashed k (omega arith))
      ];
      rest = omega arith;
    }
