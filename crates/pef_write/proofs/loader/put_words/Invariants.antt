-- The part written and the part left make the whole.
use Rattle.std.proofs.Common.{◌≡◌, ◌++◌, drop, map}
use Rattle.pef_write.specs.declared.field.Field.TheVariants.{Word}
use Rattle.pef_write.specs.Fields.{spelled}
use Rattle.pef_write.proofs.loader.put_words.Given as goal

abbrev pub invariant-loop-word : goal.invariant-loop-word
invariant-loop-word l = l.out.items ++ spelled (map Word (drop l.word-index l.words)) ≡ l.fn.out.items ++ spelled (map Word l.words)
