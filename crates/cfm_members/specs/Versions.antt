-- Version numbers by custom (NumVersion of MacTypes.h; Inside Macintosh: Macintosh Toolbox Essentials, the version
-- resource): two decimal digits, two digits of four bits, a stage and a number.
use Rattle.std.specs.Prelude.{ℕ, ◌+◌, ◌*◌, ◌/◌, ◌%◌, ◌==◌, if◌then◌else◌}
use Rattle.cfm_members.specs.declared.num_version.NumVersion.{NumVersion}
use Rattle.cfm_members.specs.declared.num_version.Stage.{Stage}
use Rattle.cfm_members.specs.declared.num_version.Stage.TheVariants.{Development, Alpha, Beta, Final, Other}

-- the stage with a code (developStage, alphaStage, betaStage, finalStage)
abbrev pub stage_of : ℕ → Stage
stage_of code =
    if code == 0x20 then Development
    else if code == 0x40 then Alpha
    else if code == 0x60 then Beta
    else if code == 0x80 then Final
    else Other code

-- the parts of a version number
abbrev pub version_of : ℕ → NumVersion
version_of n = record {
  major = n / 0x1000_0000 * 10 + n / 0x0100_0000 % 16;
  minor = n / 0x0010_0000 % 16;
  bug = n / 0x0001_0000 % 16;
  stage = stage_of (n / 256 % 256);
  release = n % 256;
}
