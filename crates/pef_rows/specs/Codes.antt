-- The words of the format's codes in JSON, which are those of scripts and of the bindings (this project's own). A code that the
-- format doesn't name has none.
use Rattle.std.specs.Prelude.{ℕ, List, codes}
use Rattle.pef_format.specs.declared.section.SectionKind.{SectionKind}
use Rattle.pef_format.specs.declared.section.SectionKind.TheVariants as kind
use Rattle.pef_format.specs.declared.section.Share.{Share}
use Rattle.pef_format.specs.declared.section.Share.TheVariants as share
use Rattle.pef_format.specs.declared.symbol.SymbolClass.{SymbolClass}
use Rattle.pef_format.specs.declared.symbol.SymbolClass.TheVariants as class

abbrev pub kind_text : SectionKind → List ℕ
kind_text kind.Code = codes "\"code\""
kind_text kind.UnpackedData = codes "\"data\""
kind_text kind.PatternData = codes "\"pattern\""
kind_text kind.Constant = codes "\"const\""
kind_text kind.Loader = codes "\"loader\""
kind_text kind.Debug = codes "\"debug\""
kind_text kind.ExecutableData = codes "\"exec\""
kind_text kind.Exception = codes "\"exception\""
kind_text kind.Traceback = codes "\"traceback\""
kind_text (kind.Other code) = codes "null"

abbrev pub share_text : Share → List ℕ
share_text share.Process = codes "\"process\""
share_text share.Global = codes "\"global\""
share_text share.Protected = codes "\"protected\""
share_text (share.Other code) = codes "null"

-- the member of a symbol for the word of its class
unfoldable pub class_member : SymbolClass → List ℕ
class_member class.Code = codes ",\"class_text\":\"code\""
class_member class.Data = codes ",\"class_text\":\"data\""
class_member class.TransitionVector = codes ",\"class_text\":\"tvector\""
class_member class.Toc = codes ",\"class_text\":\"toc\""
class_member class.Glue = codes ",\"class_text\":\"glue\""
class_member (class.Other code) = codes ",\"class_text\":null"
