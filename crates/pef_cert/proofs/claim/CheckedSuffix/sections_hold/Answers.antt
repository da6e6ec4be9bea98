use Rattle.std.proofs.Common.{rules, sym, ◌∙◌}
use Rattle.std.proofs.lemmas.Bool.{eqb-true}
use Rattle.pef_cert.proofs.CoverLemmas.{far-met, near-met}
use Rattle.pef_cert.proofs.claim.CheckedSuffix.sections_hold.Goals as goal

pub pairs_hold-requires-clause-met : goal.pairs_hold-requires-clause-met
pairs_hold-requires-clause-met c =
    near-met c.args.self c.args.tested c.args.section c.args.other c.requires.tests c.requires.class (eqb-true _ _ (sym c.has_class.ensures ∙ c.if-has_class.true))

pub pairs_hold-requires-then-pairs_hold-clause-met : goal.pairs_hold-requires-then-pairs_hold-clause-met
pairs_hold-requires-then-pairs_hold-clause-met c =
    far-met c.args.self c.args.tested c.args.section c.args.other c.requires.tests c.requires.class (eqb-true _ _ (sym c.has_class.ensures ∙ c.if-has_class.true))

pub returns-then-pairs_hold : goal.returns-then-pairs_hold
returns-then-pairs_hold c = search rules
