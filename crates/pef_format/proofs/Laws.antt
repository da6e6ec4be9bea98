-- Facts of the codes, as `specs/` defines them, for the proofs of other crates.
use Rattle.std.proofs.Common.{◌≡◌, ◌<◌, ◌≤◌, ℕ, negsuc, true, refl, arith}
use Rattle.std.proofs.lemmas.Bool.{leb-true}
use Rattle.std.proofs.lemmas.Bool.Decides.{nat_tests}
use Rattle.pef_format.specs.declared.section.SectionKind.{SectionKind}
use Rattle.pef_format.specs.declared.section.SectionKind.TheVariants.{Code, UnpackedData, PatternData, Constant, Loader, Debug, ExecutableData, Exception, Traceback}
use Rattle.pef_format.specs.declared.section.SectionKind.TheVariants as kind
use Rattle.pef_format.specs.declared.section.Share.{Share}
use Rattle.pef_format.specs.declared.section.Share.TheVariants.{Process, Global, Protected}
use Rattle.pef_format.specs.declared.section.Share.TheVariants as share
use Rattle.pef_format.specs.Exports.{is_export_section}
use Rattle.pef_format.specs.Sections.{is_instantiable, is_named_share, kind_code, kind_of, share_code}
use Rattle.pef_format.specs.Symbols.{is_class}

-- a kind that may be instantiated is that of its code, which fits a byte

pub kind-again : (kind : SectionKind) → is_instantiable kind ≡ true → kind_of (kind_code kind) ≡ kind
unfolding kind_of
kind-again Code named = refl
kind-again UnpackedData named = refl
kind-again PatternData named = refl
kind-again Constant named = refl
kind-again Loader named = absurd (cc)
kind-again Debug named = absurd (cc)
kind-again ExecutableData named = refl
kind-again Exception named = absurd (cc)
kind-again Traceback named = absurd (cc)
kind-again (kind.Other code) named = absurd (cc)

pub kind-small : (kind : SectionKind) → is_instantiable kind ≡ true → kind_code kind < 256
kind-small Code named = omega arith
kind-small UnpackedData named = omega arith
kind-small PatternData named = omega arith
kind-small Constant named = omega arith
kind-small Loader named = omega arith
kind-small Debug named = omega arith
kind-small ExecutableData named = omega arith
kind-small Exception named = omega arith
kind-small Traceback named = omega arith
kind-small (kind.Other code) named = absurd (cc)

-- the code of a share with a name fits a byte
pub share-small : (share : Share) → is_named_share share ≡ true → share_code share < 256
share-small Process named = omega arith
share-small Global named = omega arith
share-small Protected named = omega arith
share-small (share.Other code) named = absurd (cc)

-- a class with a name fits four bits
pub class-small : (code : ℕ) → is_class code ≡ true → code < 16
class-small code named = let least = leb-true code 4 named in omega (arith, least)

-- a negative section of an export is -1 - n for a small n
pub special-small : (n : ℕ) → is_export_section (negsuc n) ≡ true → n ≤ 2
special-small n named = grind (arith, nat_tests)
