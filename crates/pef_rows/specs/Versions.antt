-- Versions as people write them, by the custom of NumVersion (MacTypes.h): 01206003 (hexadecimal) is 1.2b3.
use Rattle.std.specs.Prelude.{ℕ, ◌/◌, ◌%◌, ◌==◌, ◌&&◌, Bool, false, List, [], ◌++◌, Option, None, Some, codes, decimal, nat_le, if◌then◌else◌}
use Rattle.cfm_members.specs.Versions.{version_of}
use Rattle.cfm_members.specs.declared.num_version.NumVersion.{NumVersion}
use Rattle.cfm_members.specs.declared.num_version.Stage.{Stage}
use Rattle.cfm_members.specs.declared.num_version.Stage.TheVariants.{Development, Alpha, Beta, Final, Other}

-- the letter of a stage, none of an unknown code
abbrev pub letter_of : Stage → Option (List ℕ)
letter_of Development = Some (codes "d")
letter_of Alpha = Some (codes "a")
letter_of Beta = Some (codes "b")
letter_of Final = Some (codes "f")
letter_of (Other code) = None

-- a final version without a number is written without a letter
abbrev pub is_plain : Stage → ℕ → Bool
is_plain Development release = false
is_plain Alpha release = false
is_plain Beta release = false
is_plain Final release = release == 0
is_plain (Other code) release = false

-- a text, or nothing
abbrev pub left_out : Bool → List ℕ → List ℕ
left_out out text = if out then [] else text

-- a version with the letter of its stage, or a number that isn't such a version
abbrev pub lettered : NumVersion → Option (List ℕ) → List ℕ
lettered v None = codes "-"
lettered v (Some letter) =
    decimal v.major ++ codes "." ++ decimal v.minor
    ++ left_out (v.bug == 0) (codes ".") ++ left_out (v.bug == 0) (decimal v.bug)
    ++ left_out (is_plain v.stage v.release) letter ++ left_out (is_plain v.stage v.release) (decimal v.release)

-- its first four places, of four bits each, are decimal digits
abbrev pub has_digits : ℕ → Bool
has_digits n = nat_le (n / 0x1000_0000) 9 && (nat_le (n / 0x0100_0000 % 16) 9 && (nat_le (n / 0x0010_0000 % 16) 9 && nat_le (n / 0x0001_0000 % 16) 9))

-- the letter of a version's stage, none if its digits are none
abbrev pub letter_if : Bool → Stage → Option (List ℕ)
letter_if digits stage = if digits then letter_of stage else None

-- the version that a number is
unfoldable pub version_text : ℕ → List ℕ
version_text n = lettered (version_of n) (letter_if (has_digits n) (version_of n).stage)
