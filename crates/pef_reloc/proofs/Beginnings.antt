-- Whether a first halfword begins an instruction of two.
use Rattle.std.proofs.Common.{◌≡◌, ℕ, ◌+◌, ◌*◌, ◌/◌, ◌%◌, ◌==◌, Bool, true, false, cond, Option, None, Some, refl}
use Rattle.std.specs.Option.{is_some}
use Rattle.pef_reloc.specs.declared.instr.Instr.{Instr}
use Rattle.pef_reloc.specs.declared.instr.Instr.TheVariants.{LgByImport, LgBySection, LgRepeat, LgSetSectC, LgSetSectD, SetPosition}
use Rattle.pef_reloc.specs.Decoding.{long_instr, section_instr}

one_of : (a b c : Bool) (x y z x' y' z' : Instr) (o o' : Option Instr) → is_some o ≡ is_some o'
    → is_some (cond a (Some x) (cond b (Some y) (cond c (Some z) o))) ≡ is_some (cond a (Some x') (cond b (Some y') (cond c (Some z') o')))
one_of true b c x y z x' y' z' o o' same = refl
one_of false true c x y z x' y' z' o o' same = refl
one_of false false true x y z x' y' z' o o' same = refl
one_of false false false x y z x' y' z' o o' same = same

where_met : (d : Bool) (o o' : Option Instr) → is_some o ≡ is_some o' → is_some (cond d o None) ≡ is_some (cond d o' None)
where_met true o o' same = same
where_met false o o' same = refl

on_section : (op s t : ℕ) → is_some (section_instr op s) ≡ is_some (section_instr op t)
on_section op s t = one_of (op == 0) (op == 1) (op == 2) (LgBySection s) (LgSetSectC s) (LgSetSectD s) (LgBySection t) (LgSetSectC t) (LgSetSectD t) None None refl

numbered : (w v u : ℕ) → is_some (cond (w / 1024 == 0x2D) (section_instr (w / 64 % 16) (w % 64 * 0x10000 + v)) None) ≡ is_some (cond (w / 1024 == 0x2D) (section_instr (w / 64 % 16) (w % 64 * 0x10000 + u)) None)
numbered w v u =
    where_met (w / 1024 == 0x2D) (section_instr (w / 64 % 16) (w % 64 * 0x10000 + v)) (section_instr (w / 64 % 16) (w % 64 * 0x10000 + u))
    (on_section (w / 64 % 16) (w % 64 * 0x10000 + v) (w % 64 * 0x10000 + u))

-- the second halfword doesn't matter for that
pub begins_with : (w v u : ℕ) → is_some (long_instr w v) ≡ is_some (long_instr w u)
unfolding long_instr
begins_with w v u =
    one_of (w / 1024 == 0x28) (w / 1024 == 0x29) (w / 1024 == 0x2C)
    (SetPosition (w % 1024 * 0x10000 + v)) (LgByImport (w % 1024 * 0x10000 + v)) (LgRepeat (w / 64 % 16 + 1) (w % 64 * 0x10000 + v))
    (SetPosition (w % 1024 * 0x10000 + u)) (LgByImport (w % 1024 * 0x10000 + u)) (LgRepeat (w / 64 % 16 + 1) (w % 64 * 0x10000 + u))
    (cond (w / 1024 == 0x2D) (section_instr (w / 64 % 16) (w % 64 * 0x10000 + v)) None)
    (cond (w / 1024 == 0x2D) (section_instr (w / 64 % 16) (w % 64 * 0x10000 + u)) None)
    (numbered w v u)
