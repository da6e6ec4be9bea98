-- The program of a valid certificate is least.
use Rattle.std.proofs.Common.{◌≡◌, ℕ, ◌+◌, ◌≤◌, ◌<◌, true, List, [], ◌∷◌, length, refl, ap, sym, ◌∙◌, subst, arith, Some}
use Rattle.pef_reloc.specs.declared.fixup.Fixup.{Fixup}
use Rattle.pef_reloc.specs.declared.instr.Instr.{Instr}
use Rattle.pef_reloc.specs.Deliveries.{Delivers, MakesFrom, StandsAfter, index_after, is_flat_instr}
use Rattle.pef_reloc.specs.Fixups.{fixups_fit}
use Rattle.pef_reloc.specs.Instrs.{instr_length, program_length}
use Rattle.pef_reloc.specs.Steps.{Least, State, is_flat, next_state, start}
use Rattle.pef_reloc.proofs.Laws.{first_delivers, flat_parts}
use Rattle.pef_cert.specs.Labels.{Labels, class_of, classes}
use Rattle.pef_cert.specs.Extension.{extension, extension_at, offer_at}
use Rattle.pef_cert.specs.Feasible.{Feasible}
use Rattle.pef_cert.specs.Certified.{Certified}
use Rattle.pef_cert.specs.Valid.{RegistersOf, Trusted, Valid, labels_of}
use Rattle.pef_cert.proofs.ClassLemmas.{all_registered, numbers}
use Rattle.pef_cert.proofs.ExtensionLemmas.{extension-end}
use Rattle.pef_cert.proofs.Falling.{World, falls, world-after, world-first, world_left}
use Rattle.pef_cert.proofs.LabelFacts.{Stands, extension-label, extension-set_c, extension-set_d, label-extension, label-offer}

-- from a state at which labels are in order, no flat list that makes the fixups has fewer halfwords than the
-- extension
pub none_shorter : (xs : List Instr) (l : Labels) (s : State) (fixups : List Fixup) → World l s.import_index fixups → is_flat xs ≡ true → MakesFrom s fixups xs → extension_at l fixups s ≤ program_length xs
none_shorter [] l s fixups w flat makes =
    let none = ap (λ fs. extension l fs s.position (class_of l.registers s.c) (class_of l.registers s.d)) (sym makes.is) ∙ extension-end l s.position (class_of l.registers s.c) (class_of l.registers s.d) in
    omega (arith, none)
none_shorter (x ∷ xs) l s fixups w flat makes =
    let parts = flat_parts x xs flat in
    let first = first_delivers x xs s fixups makes in
    let one = falls l x s fixups first.left w parts.first first.delivers in
    let others = none_shorter xs l (next_state x s) first.left (world_left l x s fixups first.left w first.delivers) parts.others first.makes in
    omega (arith, one, others)

-- labels that are feasible for fixups that fit are in order from the first one on
pub whole_world : (l : Labels) (fixups : List Fixup) → fixups_fit fixups ≡ true → RegistersOf fixups l.registers → Feasible l fixups → World l 0 fixups
whole_world l fixups fit registers feasible = record {
  numbers = numbers fixups l fit registers;
  registered = all_registered fixups l.registers registers;
  feasible = feasible.each;
}

-- and from each one on
pub trusted_world : (l : Labels) (fixups made left : List Fixup) (s : State) → Trusted l fixups made left → StandsAfter made s → World l s.import_index left
trusted_world l fixups made left s t behind =
    subst (λ (index : ℕ). World l index left) (sym behind.index)
    (world-after l 0 made left (subst (λ (fs : List Fixup). World l 0 fs) t.parts (whole_world l fixups t.fit t.registers t.feasible)))

-- a valid certificate's program is least
pub valid-least : (fixups : List Fixup) (c : Certified) → fixups_fit fixups ≡ true → Valid fixups c → Least fixups c.program
valid-least fixups c fit valid = record {
  flat = valid.flat;
  makes = valid.makes;
  shortest = λ others flat makes. subst (λ (n : ℕ). n ≤ program_length others) (sym valid.length_is)
      (none_shorter others (labels_of c (length fixups)) start fixups (whole_world (labels_of c (length fixups)) fixups fit valid.registers valid.feasible) flat (record { is = makes }));
}

-- a state after some fixups
behind : List Fixup → State
behind made = record { position = 0; import_index = index_after made 0; c = 0; d = 0 }

trusted_stands : (l : Labels) (fixups made rest : List Fixup) (f : Fixup) → Trusted l fixups made (f ∷ rest) → Stands l (index_after made 0) f rest
unfolding behind
trusted_stands l fixups made rest f t = world-first l (index_after made 0) f rest (trusted_world l fixups made (f ∷ rest) (behind made) t (record { index = refl }))

-- the facts from which the extension's fall follows
pub trusted-falls : (l : Labels) (fixups made rest left : List Fixup) (s : State) (x : Instr) → Trusted l fixups made rest → StandsAfter made s → is_flat_instr x ≡ true → Delivers x s rest left → extension_at l rest s ≤ instr_length x + extension_at l left (next_state x s)
trusted-falls l fixups made rest left s x t at flat delivers = falls l x s rest left (trusted_world l fixups made rest s t at) flat delivers

pub trusted-offer : (l : Labels) (fixups made rest : List Fixup) (f : Fixup) (c d x : ℕ) → Trusted l fixups made (f ∷ rest) → c < classes l → d < classes l → offer_at l f rest c d ≡ Some x → l.label (length (f ∷ rest)) c d ≤ x
trusted-offer l fixups made rest f c d x t under_c under_d e = label-offer l (index_after made 0) f rest c d x (trusted_stands l fixups made rest f t) under_c under_d e

pub trusted-label : (l : Labels) (fixups made rest : List Fixup) (f : Fixup) (p c d : ℕ) → Trusted l fixups made (f ∷ rest) → c < classes l → d < classes l → l.label (length (f ∷ rest)) c d ≤ extension l (f ∷ rest) p c d
trusted-label l fixups made rest f p c d t under_c under_d = label-extension l (index_after made 0) f rest p c d (trusted_stands l fixups made rest f t) under_c under_d

pub trusted-extension : (l : Labels) (fixups made rest : List Fixup) (f : Fixup) (p c d : ℕ) → Trusted l fixups made (f ∷ rest) → extension l (f ∷ rest) p c d ≤ 2 + l.label (length (f ∷ rest)) c d
trusted-extension l fixups made rest f p c d t = extension-label l f rest p c d

pub trusted-set_c : (l : Labels) (fixups made rest : List Fixup) (f : Fixup) (p c c' d : ℕ) → Trusted l fixups made (f ∷ rest) → c < classes l → c' < classes l → d < classes l → extension l (f ∷ rest) p c d ≤ 1 + extension l (f ∷ rest) p c' d
trusted-set_c l fixups made rest f p c c' d t under under' under_d = extension-set_c l (index_after made 0) f rest p c c' d (trusted_stands l fixups made rest f t) under under' under_d

pub trusted-set_d : (l : Labels) (fixups made rest : List Fixup) (f : Fixup) (p c d d' : ℕ) → Trusted l fixups made (f ∷ rest) → c < classes l → d < classes l → d' < classes l → extension l (f ∷ rest) p c d ≤ 1 + extension l (f ∷ rest) p c d'
trusted-set_d l fixups made rest f p c d d' t under_c under under' = extension-set_d l (index_after made 0) f rest p c d d' (trusted_stands l fixups made rest f t) under_c under under'
