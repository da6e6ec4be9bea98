-- Facts of labels and certificates, as `specs/` defines them, for the proofs of other crates. A fact in several
-- parts is a record. It is named here if a proof needs its name.

-- the program of a valid certificate is least
pub use Rattle.pef_cert.proofs.Soundness.{valid-least}
-- Classes.
-- the class of a section is one of the existing ones
pub use Rattle.pef_cert.proofs.ClassLemmas.{class_of-below}
-- two sections of one class below the last are the same
pub use Rattle.pef_cert.proofs.ClassLemmas.{class_of-same}
-- a section that isn't among the registers has the last class
pub use Rattle.pef_cert.proofs.ClassLemmas.{class_of-other}
-- the register at a place has that place as its class, and is among the registers
pub use Rattle.pef_cert.proofs.ClassLemmas.{class_of-index, is_among-index}
-- each class has a section that an instruction can name
pub use Rattle.pef_cert.proofs.ClassLemmas.{NumberOf, Numbers, numbers}
-- the base of each fixup is an import or one of the registers
pub use Rattle.pef_cert.proofs.ClassLemmas.{RegisteredBase, all_registered}
-- if a registered base has a class, it is that of a section, below the last
pub use Rattle.pef_cert.proofs.LabelFacts.{base_counts}
-- registers that rise below a number are at most this many
pub use Rattle.pef_cert.proofs.ClaimLemmas.{few_rising}
-- the import index after one more fixup
pub use Rattle.pef_cert.proofs.AdditionLemmas.{index_later}
-- The extension.
-- it is 0 after the last fixup
pub use Rattle.pef_cert.proofs.ExtensionLemmas.{extension-end}
-- it is the label at the offset of the next fixup, and the value of moves away from it
pub use Rattle.pef_cert.proofs.ExtensionLemmas.{extension-away, extension-here}
-- its upper bound
pub use Rattle.pef_cert.proofs.Bounds.{extension-small}
-- an option that has a number, at most another
pub use Rattle.pef_cert.proofs.MinimaLemmas.{AtMost, at_most-weaker}
-- the value away from an offset is one of the values of four moves, and at most those of the short move and the
-- skip
pub use Rattle.pef_cert.proofs.MinimaLemmas.{Moved, far, late, moved-is, moved-near, moved-skip, near, skips}
-- Skips and offers.
-- the change of a register counts 0 if its class stays, and else 1
pub use Rattle.pef_cert.proofs.LabelFacts.{change_most}
pub use Rattle.pef_cert.proofs.SkipLemmas.{change_one, change_zero}
-- a skip's value is 1 plus the extension after the end of one of its runs, and at most that after each
pub use Rattle.pef_cert.proofs.ExtensionLemmas.{skip-is, skip-most}
-- the values after a skip of one word, and of more
pub use Rattle.pef_cert.proofs.ExtensionLemmas.{skips-is}
-- a skip with a value begins at a word of its class
pub use Rattle.pef_cert.proofs.LabelFacts.{skip_has}
-- an offer is a skip and the changes of registers before it, and at most each of these
pub use Rattle.pef_cert.proofs.LabelFacts.{Offered, offer-is, offer-most}
-- the least offer at a fixup, by its base
pub use Rattle.pef_cert.proofs.SkipLemmas.{offer-import, offer-section}
-- the same from the least skip that is kept
pub use Rattle.pef_cert.proofs.ClaimLemmas.{offer-kept_import, offer-kept_section}
-- Feasible labels.
-- labels in order from some fixups on: all of them, from the first on and after it
pub use Rattle.pef_cert.proofs.Falling.{World, world-first, world-next}
pub use Rattle.pef_cert.proofs.Soundness.{whole_world}
-- no flat list of instructions is shorter than the extension
pub use Rattle.pef_cert.proofs.Soundness.{none_shorter}
-- a label is at most an offer, and at most the extension from everywhere
pub use Rattle.pef_cert.proofs.LabelFacts.{label-extension, label-offer}
-- The tests of a fixup's labels.
-- a test under a condition holds if the condition implies it
pub use Rattle.pef_cert.proofs.TestLemmas.{asked-met}
-- the test of a run holds if the value is at most 1 plus the extension after each of its ends
pub use Rattle.pef_cert.proofs.RunLemmas.{numbered_test-met, pairs_test-met, row_test-met}
-- the tests of a section or of an import hold if each of them holds
pub use Rattle.pef_cert.proofs.TestLemmas.{import_tests-met, section_tests-met}
-- a value for which they hold is at most the value after each instruction that adds at the fixup
pub use Rattle.pef_cert.proofs.TestLemmas.{tested}
-- a label is at most the value after each instruction that sets a register, if the change of one register changes
-- it by at most 1
pub use Rattle.pef_cert.proofs.TestLemmas.{sets_falls}
-- the addition of an import has at most two halfwords
pub use Rattle.pef_cert.proofs.TestLemmas.{any_cost}
-- a fixup that tests as an addition of a base at a position is it
pub use Rattle.pef_cert.proofs.FixupsProofs.FixupLemmas.{is_added-is}
-- if all of them hold, labels are feasible at the fixup
pub use Rattle.pef_cert.proofs.TestLemmas.{feasible-tested}
-- Texts.
-- a valid certificate can be printed
pub use Rattle.pef_cert.proofs.TextProofs.ValidPrints.{valid_prints}
-- the printed text of certificates is read as these
pub use Rattle.pef_cert.proofs.TextProofs.ReadsBack.{reads_back}
