-- What the codes of a section header mean (sectionKind and shareKind of PEFSectionHeader, in
-- PEFBinaryFormat.h; Mac OS Runtime Architectures, "PEF Structure", section headers).
use Rattle.std.specs.Prelude.{ℕ, true, false, ◌==◌, Bool, if◌then◌else◌}
use Rattle.pef_format.specs.declared.section.SectionKind.{SectionKind}
use Rattle.pef_format.specs.declared.section.SectionKind.TheVariants.{Code, UnpackedData, PatternData, Constant, Loader, Debug, ExecutableData, Exception, Traceback}
use Rattle.pef_format.specs.declared.section.SectionKind.TheVariants as kind
use Rattle.pef_format.specs.declared.section.Share.{Share}
use Rattle.pef_format.specs.declared.section.Share.TheVariants.{Process, Global, Protected}
use Rattle.pef_format.specs.declared.section.Share.TheVariants as share

-- the code of a kind (kPEFCodeSection and the eight after it)
abbrev pub kind_code : SectionKind → ℕ
kind_code Code = 0
kind_code UnpackedData = 1
kind_code PatternData = 2
kind_code Constant = 3
kind_code Loader = 4
kind_code Debug = 5
kind_code ExecutableData = 6
kind_code Exception = 7
kind_code Traceback = 8
kind_code (kind.Other code) = code

-- the kind with a code
unfoldable pub kind_of : ℕ → SectionKind
kind_of code =
    if code == 0 then Code
    else if code == 1 then UnpackedData
    else if code == 2 then PatternData
    else if code == 3 then Constant
    else if code == 4 then Loader
    else if code == 5 then Debug
    else if code == 6 then ExecutableData
    else if code == 7 then Exception
    else if code == 8 then Traceback
    else kind.Other code

-- the kinds that may be instantiated
abbrev pub is_instantiable : SectionKind → Bool
is_instantiable Code = true
is_instantiable UnpackedData = true
is_instantiable PatternData = true
is_instantiable Constant = true
is_instantiable ExecutableData = true
is_instantiable kind = false

-- pattern-initialized data: the raw bytes are the packed image
abbrev pub is_packed : SectionKind → Bool
is_packed PatternData = true
is_packed kind = false

-- imports, exports and relocations
abbrev pub is_loader : SectionKind → Bool
is_loader Loader = true
is_loader kind = false

-- the code of a share (kPEFProcessShare, kPEFGlobalShare, kPEFProtectedShare)
abbrev pub share_code : Share → ℕ
share_code Process = 1
share_code Global = 4
share_code Protected = 5
share_code (share.Other code) = code

-- the share with a code
unfoldable pub share_of : ℕ → Share
share_of code = if code == 1 then Process else if code == 4 then Global else if code == 5 then Protected else share.Other code

-- the shares that the format names
abbrev pub is_named_share : Share → Bool
is_named_share Process = true
is_named_share Global = true
is_named_share Protected = true
is_named_share share = false
