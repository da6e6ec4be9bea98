-- From every state an instruction leads on, if labels are feasible and reached.
use Rattle.std.proofs.Common.{◌≡◌, ◌≢◌, ℕ, suc, ◌+◌, ◌-◌, ◌*◌, ◌/◌, ◌%◌, ◌<◌, ◌≤◌, ◌⊎◌, inl, inr, true, false, ◌==◌, nat_le, List, [], ◌∷◌, ◌++◌, length, Some, refl, ap, sym, ◌∙◌, subst, arith, eq-eqb}
use Rattle.std.specs.List.{AllByRecursion}
use Rattle.std.proofs.lemmas.Bool.{and_from, le-leb, lt-ltb}
use Rattle.std.proofs.lemmas.Bool.Decides.{eqb_tells}
use Rattle.pef_reloc.specs.declared.fixup.Base.TheVariants.{Section}
use Rattle.pef_reloc.specs.declared.fixup.Fixup.{Fixup}
use Rattle.pef_reloc.specs.declared.instr.Instr.{Instr}
use Rattle.pef_reloc.specs.declared.instr.Instr.TheVariants.{BySectDWithSkip, IncrPosition, SetPosition, SmSetSectC, SmSetSectD}
use Rattle.pef_reloc.specs.Deliveries.{Delivers, index_after, index_past, is_flat_instr}
use Rattle.pef_reloc.specs.Fixups.{fixup_fits}
use Rattle.pef_reloc.specs.Steps.{State, additions, next_state, row}
use Rattle.pef_reloc.proofs.Laws.{fixup_fits-parts, index_kept}
use Rattle.pef_cert.specs.Labels.{Labels, class_of, has_class}
use Rattle.pef_cert.specs.Extension.{change, extension, extension_at, offer_at, skip, skips_at}
use Rattle.pef_cert.specs.Feasible.{label_at}
use Rattle.pef_cert.proofs.Laws.{AtMost, Moved, Offered, World, at_most-weaker, base_counts, class_of-below, class_of-same, extension-away, extension-here, far, label-offer, late, moved-is, moved-skip, near, offer-is, offer-most, skip-is, skip_has, skips, skips-is, world-first, world-next}
use Rattle.pef_plan.specs.Reached.{LeadsOn, ReachedFrom}

-- labels that are feasible and reached from some fixups on, with the import index there
pub record Planned (l : Labels) (index : ℕ) (fixups : List Fixup) : Type 0 where
  pub world : World l index fixups
  pub reached : ReachedFrom l index fixups
  pub fit : AllByRecursion (λ f. fixup_fits f ≡ true) fixups

pub planned-next : (l : Labels) (index : ℕ) (f : Fixup) (rest : List Fixup) → Planned l index (f ∷ rest) → Planned l (index_past f.base index) rest
planned-next l index f rest p = record { world = world-next l index f rest p.world; reached = p.reached.1; fit = p.fit.1 }

pub planned-after : (l : Labels) (index : ℕ) (made left : List Fixup) → Planned l index (made ++ left) → Planned l (index_after made index) left
planned-after l index [] left p = p
planned-after l index (f ∷ made) left p = planned-after l (index_past f.base index) made left (planned-next l index f (made ++ left) p)

pub planned_left : (l : Labels) (x : Instr) (s : State) (fixups left : List Fixup) → Planned l s.import_index fixups → Delivers x s fixups left → Planned l (next_state x s).import_index left
planned_left l x s fixups left p delivers =
    subst (λ (index : ℕ). Planned l index left) (sym (index_kept x s))
    (planned-after l s.import_index (additions x s) left (subst (λ (fs : List Fixup). Planned l s.import_index fs) delivers.is p))

-- a move to the offset, from anywhere
led_far : (l : Labels) (s : State) (f : Fixup) (rest : List Fixup) → fixup_fits f ≡ true → extension_at l (f ∷ rest) s ≡ 2 + label_at l (f ∷ rest) s → LeadsOn l s (f ∷ rest)
led_far l s f rest fits is =
    let inside = (fixup_fits-parts f fits).inside in
    let here = extension-here l f rest f.offset (class_of l.registers s.c) (class_of l.registers s.d) refl in
    record {
      instr = SetPosition f.offset;
      left = f ∷ rest;
      flat = lt-ltb f.offset 0x4000000 (omega (arith, inside));
      delivers = record { is = refl };
      falls = omega (arith, here, is);
    }

increment_fits : (e : ℕ) → 1 ≤ e → e ≤ 4096 → is_flat_instr (IncrPosition e) ≡ true
increment_fits e some few = and_from (nat_le 1 e) (nat_le e 4096) (le-leb 1 e some) (le-leb e 4096 few)

-- a move to the offset, from shortly before it
led_near : (l : Labels) (s : State) (f : Fixup) (rest : List Fixup) → 1 ≤ f.offset - s.position → f.offset - s.position ≤ 4096 → 1 + label_at l (f ∷ rest) s ≤ extension_at l (f ∷ rest) s → LeadsOn l s (f ∷ rest)
led_near l s f rest after before low =
    let end : s.position + (f.offset - s.position) ≡ f.offset = omega (arith, after) in
    let here = extension-here l f rest (s.position + (f.offset - s.position)) (class_of l.registers s.c) (class_of l.registers s.d) end in
    record {
      instr = IncrPosition (f.offset - s.position);
      left = f ∷ rest;
      flat = increment_fits (f.offset - s.position) after before;
      delivers = record { is = refl };
      falls = omega (arith, here, low);
    }

-- with the register C set, an offer is one less
offer_set_c : (l : Labels) (f : Fixup) (rest : List Fixup) (c d x : ℕ) (o : Offered l f rest c d x) → (c == o.class_c) ≡ false → (y : ℕ) × (x ≡ 1 + y) × AtMost (offer_at l f rest o.class_c d) y
offer_set_c l f rest c d x o other =
    let sum : x ≡ (1 + change d o.class_d) + o.skip_value = rw other at o.is in
    let most = offer-most l f rest o.class_c d o.class_c o.class_d o.skip_value o.under_c o.under_d (record { value = o.skip_value; is = o.skips_is; low = omega arith }) in
    let free : (change o.class_c o.class_c + change d o.class_d) + o.skip_value ≤ change d o.class_d + o.skip_value = rw (eq-eqb o.class_c o.class_c refl) (omega arith) in
    (change d o.class_d + o.skip_value, omega (arith, sum), at_most-weaker (offer_at l f rest o.class_c d) _ (change d o.class_d + o.skip_value) most free)

-- the same with D set
offer_set_d : (l : Labels) (f : Fixup) (rest : List Fixup) (c d x : ℕ) (o : Offered l f rest c d x) → (d == o.class_d) ≡ false → (y : ℕ) × (x ≡ 1 + y) × AtMost (offer_at l f rest c o.class_d) y
offer_set_d l f rest c d x o other =
    let sum : x ≡ (change c o.class_c + 1) + o.skip_value = rw other at o.is in
    let most = offer-most l f rest c o.class_d o.class_c o.class_d o.skip_value o.under_c o.under_d (record { value = o.skip_value; is = o.skips_is; low = omega arith }) in
    let free : (change c o.class_c + change o.class_d o.class_d) + o.skip_value ≤ change c o.class_c + o.skip_value = rw (eq-eqb o.class_d o.class_d refl) (omega arith) in
    (change c o.class_c + o.skip_value, omega (arith, sum), at_most-weaker (offer_at l f rest c o.class_d) _ (change c o.class_c + o.skip_value) most free)

-- with both registers unchanged, the offer is the value of a skip
offer_unset : (l : Labels) (f : Fixup) (rest : List Fixup) (c d x : ℕ) (o : Offered l f rest c d x) → ((c == o.class_c) ≡ true) × (c ≡ o.class_c) → ((d == o.class_d) ≡ true) × (d ≡ o.class_d) → skips_at l f rest c d ≡ Some x
offer_unset l f rest c d x o same_c same_d =
    let value : x ≡ (0 + 0) + o.skip_value = rw (same_c.0, same_d.0) at o.is in
    let one : skips_at l f rest c d ≡ skips_at l f rest o.class_c d = ap (λ k. skips_at l f rest k d) same_c.1 in
    let two : skips_at l f rest o.class_c d ≡ skips_at l f rest o.class_c o.class_d = ap (λ k. skips_at l f rest o.class_c k) same_d.1 in
    let worth : x ≡ o.skip_value = omega (arith, value) in
    one ∙ two ∙ o.skips_is ∙ ap Some (sym worth)

-- how far a skip goes, in words
pub whole_words : (ahead : ℕ) → (ahead % 4 == 0) ≡ true → 4 * (ahead / 4) ≡ ahead
whole_words ahead even =
    elim (eqb_tells (ahead % 4) 0) [
      | inl same ↦ (let e = same.1 in omega (arith, e))
      | inr other ↦ (let no : true ≡ false = sym even ∙ other.0 in absurd (cc))
    ]

-- a skip from before the offset
led_skip : (l : Labels) (s : State) (f : Fixup) (rest : List Fixup) (x : ℕ) → World l s.import_index (f ∷ rest) → 4 ≤ f.offset - s.position → f.offset - s.position ≤ 1020 → ((f.offset - s.position) % 4 == 0) ≡ true → skips_at l f rest (class_of l.registers s.c) (class_of l.registers s.d) ≡ Some x → extension_at l (f ∷ rest) s ≡ x → LeadsOn l s (f ∷ rest)
led_skip l s f rest x w after before even e is =
    let c : ℕ = class_of l.registers s.c in
    let d : ℕ = class_of l.registers s.d in
    let u : ℕ = (f.offset - s.position) / 4 in
    let has = skip_has (has_class l.registers d f.base) (1 + extension l rest (f.offset + 4) c d) (skip l 62 (f.offset + 4) c d rest) x (sym (skips-is l f rest c d) ∙ e) in
    let base = base_counts l f.base d (world-first l s.import_index f rest w).here has in
    let skipped = skip-is l 63 f.offset c d base.0 x (f ∷ rest) base.1 base.2 e in
    let words = whole_words (f.offset - s.position) even in
    let same : base.0 ≡ s.d = class_of-same l.registers base.0 s.d base.1 base.2 in
    let from : f.offset ≡ s.position + 4 * u = omega (arith, words, after) in
    let few = skipped.under in
    let end : f.offset + 4 * suc skipped.count ≡ s.position + (4 * u + 4 * suc skipped.count) = omega (arith, from) in
    let there = ap (λ p. extension l skipped.left p c d) end in
    let worth = skipped.is in
    record {
      instr = BySectDWithSkip u (suc skipped.count);
      left = skipped.left;
      flat = and_from (nat_le u 255) (nat_le (suc skipped.count) 63) (le-leb u 255 (omega (arith, words, before))) (le-leb (suc skipped.count) 63 (omega (arith, few)));
      delivers = record { is = skipped.words ∙ ap (λ k. row (suc skipped.count) f.offset 4 (Section k) ++ skipped.left) same ∙ ap (λ p. row (suc skipped.count) p 4 (Section s.d) ++ skipped.left) from };
      falls = omega (arith, there, worth, is);
    }

-- an offer, taken from before the offset
led_offer : (l : Labels) (s : State) (f : Fixup) (rest : List Fixup) (x : ℕ) → World l s.import_index (f ∷ rest) → s.position ≢ f.offset → 4 ≤ f.offset - s.position → f.offset - s.position ≤ 1020 → ((f.offset - s.position) % 4 == 0) ≡ true → offer_at l f rest (class_of l.registers s.c) (class_of l.registers s.d) ≡ Some x → extension_at l (f ∷ rest) s ≡ x → LeadsOn l s (f ∷ rest)
led_offer l s f rest x w away after before even e is =
    let c : ℕ = class_of l.registers s.c in
    let d : ℕ = class_of l.registers s.d in
    let o = offer-is l f rest c d x e in
    elim (eqb_tells c o.class_c) [
      | inr other ↦
          (let to = w.numbers.of o.class_c o.under_c in
          let less = offer_set_c l f rest c d x o other.0 in
          let sum = less.1 in
          let next = extension-away l f rest s.position o.class_c d away in
          let low = moved-skip (f.offset - s.position) (l.label (length (f ∷ rest)) o.class_c d) (offer_at l f rest o.class_c d) less.0 after before even less.2 in
          let there = ap (λ k. extension l (f ∷ rest) s.position k d) to.is in
          record {
            instr = SmSetSectC to.number;
            left = f ∷ rest;
            flat = lt-ltb to.number 512 to.small;
            delivers = record { is = refl };
            falls = omega (arith, there, next, low, sum, is);
          })
      | inl same_c ↦ elim (eqb_tells d o.class_d) [
        | inr other ↦
            (let to = w.numbers.of o.class_d o.under_d in
            let less = offer_set_d l f rest c d x o other.0 in
            let sum = less.1 in
            let next = extension-away l f rest s.position c o.class_d away in
            let low = moved-skip (f.offset - s.position) (l.label (length (f ∷ rest)) c o.class_d) (offer_at l f rest c o.class_d) less.0 after before even less.2 in
            let there = ap (λ k. extension l (f ∷ rest) s.position c k) to.is in
            record {
              instr = SmSetSectD to.number;
              left = f ∷ rest;
              flat = lt-ltb to.number 512 to.small;
              delivers = record { is = refl };
              falls = omega (arith, there, next, low, sum, is);
            })
        | inl same_d ↦
            led_skip l s f rest x w after before even (offer_unset l f rest c d x o same_c same_d) is
      ]
    ]

at_most_or : (a b : ℕ) → (a ≤ b) ⊎ (b < a)
at_most_or a b = grind arith

-- a move so far that a skip does the rest
led_before : (l : Labels) (s : State) (f : Fixup) (rest : List Fixup) (w : ℕ) → 4096 < f.offset - s.position → f.offset - s.position ≤ 5116 → offer_at l f rest (class_of l.registers s.c) (class_of l.registers s.d) ≡ Some w → extension_at l (f ∷ rest) s ≡ 1 + w → LeadsOn l s (f ∷ rest)
led_before l s f rest w beyond before e is =
    let c : ℕ = class_of l.registers s.c in
    let d : ℕ = class_of l.registers s.d in
    let p : ℕ = s.position + (f.offset - s.position - 1020) in
    let ahead : f.offset - p ≡ 1020 = omega (arith, beyond) in
    let off : p ≢ f.offset = omega (arith, beyond) in
    let next = extension-away l f rest p c d off in
    let low = moved-skip (f.offset - p) (l.label (length (f ∷ rest)) c d) (offer_at l f rest c d) w (omega (arith, ahead)) (omega (arith, ahead)) (eq-eqb ((f.offset - p) % 4) 0 (omega (arith, ahead))) (record { value = w; is = e; low = omega arith }) in
    record {
      instr = IncrPosition (f.offset - s.position - 1020);
      left = f ∷ rest;
      flat = increment_fits (f.offset - s.position - 1020) (omega (arith, beyond)) (omega (arith, before));
      delivers = record { is = refl };
      falls = omega (arith, next, low, is);
    }

led_late : (l : Labels) (s : State) (f : Fixup) (rest : List Fixup) (w : ℕ) → World l s.import_index (f ∷ rest) → 1 ≤ f.offset - s.position → f.offset - s.position ≤ 5116 → offer_at l f rest (class_of l.registers s.c) (class_of l.registers s.d) ≡ Some w → extension_at l (f ∷ rest) s ≡ 1 + w → LeadsOn l s (f ∷ rest)
led_late l s f rest w world after before e is =
    elim (at_most_or (f.offset - s.position) 4096) [
      | inr beyond ↦ led_before l s f rest w beyond before e is
      | inl within ↦
          (let low = label-offer l s.import_index f rest (class_of l.registers s.c) (class_of l.registers s.d) w (world-first l s.import_index f rest world) (class_of-below l s.c) (class_of-below l s.d) e in
          led_near l s f rest after within (omega (arith, low, is)))
    ]

led_away : (l : Labels) (s : State) (f : Fixup) (rest : List Fixup) (x : ℕ) → World l s.import_index (f ∷ rest) → fixup_fits f ≡ true → s.position ≢ f.offset → Moved (f.offset - s.position) (label_at l (f ∷ rest) s) (offer_at l f rest (class_of l.registers s.c) (class_of l.registers s.d)) x → extension_at l (f ∷ rest) s ≡ x → LeadsOn l s (f ∷ rest)
led_away l s f rest x w fits away (far e) is = led_far l s f rest fits (is ∙ e)
led_away l s f rest x w fits away (near after before e) is = led_near l s f rest after before (omega (arith, e, is))
led_away l s f rest x w fits away (skips after before even e) is = led_offer l s f rest x w away after before even e is
led_away l s f rest x w fits away (late v after before e sum) is = led_late l s f rest v w after before e (is ∙ sum)

-- from every state an instruction leads on
pub leads : (l : Labels) (s : State) (f : Fixup) (rest : List Fixup) → Planned l s.import_index (f ∷ rest) → LeadsOn l s (f ∷ rest)
leads l s f rest p =
    elim (eqb_tells s.position f.offset) [
      | inl here ↦ p.reached.0 s (record { position = here.1; index_is = refl })
      | inr away ↦ led_away l s f rest _ p.world p.fit.0 away.1
          (moved-is (f.offset - s.position) (label_at l (f ∷ rest) s) (offer_at l f rest (class_of l.registers s.c) (class_of l.registers s.d)))
          (extension-away l f rest s.position (class_of l.registers s.c) (class_of l.registers s.d) away.1)
    ]
