use Rattle.pef_hash.proofs.exports.Exports.find.Goals as goal

pub find_in_chain-requires-clause-leads : goal.find_in_chain-requires-clause-leads
find_in_chain-requires-clause-leads c = c.args.self.now.leads c.if-self.true
