-- The passes of a block. Each register is moved on by the same number in each pass, or set to the same value. So after the first pass all
-- passes move it alike, and the last one is the furthest on: if that isn't refused, none is.
use Rattle.std.proofs.Common.{◌≡◌, ℕ, zero, suc, ◌+◌, ◌*◌, ◌≤◌, Bool, true, false, cond, not, List, [], ◌∷◌, map, nat_lt, nat_le, None, Some, refl, ap, sym, subst, ◌∙◌, ◌⊎◌, inl, inr, arith, mul-le-mul_left, mul-le-mul_right, ◌^◌}
use Rattle.std.proofs.lemmas.Bool.{leb-true, le-leb, lt-ltb, ltb-true}
use Rattle.std.specs.Option.{option_map, option_or}
use Rattle.pef_reloc.specs.Applied.{fault_at}
use Rattle.pef_reloc.specs.declared.fixup.Base.TheVariants.{Import, Section}
use Rattle.pef_reloc.specs.declared.instr.Instr.{Instr}
use Rattle.pef_reloc.specs.declared.instr.Instr.TheVariants.{BySectDWithSkip, BySectC, BySectD, TVector12, TVector8, VTable8, ImportRun, SmByImport, SmSetSectC, SmSetSectD, SmBySection, IncrPosition, SmRepeat, SetPosition, LgByImport, LgRepeat, LgBySection, LgSetSectC, LgSetSectD}
use Rattle.pef_reloc.specs.declared.stop.Stop.{Stop}
use Rattle.pef_reloc.specs.declared.stop.Stop.TheVariants.{PastEnd, NoImport, NoSection}
use Rattle.pef_reloc.specs.declared.verifying.Sizes.{Sizes}
use Rattle.pef_reloc.specs.Steps.{Act, State, acts_of, add, added, need, next_state, numbered, pairs, row, state_after}
use Rattle.pef_reloc.specs.Unrolled.{Step, instrs_in, repeated}
use Rattle.pef_reloc.specs.Verified.{act_stop, first_stop, run_stop}
use Rattle.pef_reloc.specs.Kept.Walks.{MovesOn, WalksTo}
use Rattle.pef_reloc.specs.declared.verifying.Walk.{Walk}
use Rattle.pef_reloc.proofs.WalkLemmas.{not_stopped, walks-then}
use Rattle.pef_words.proofs.Laws.Refusals.{neither}

-- a register is moved on by a number, or set to it
record Shifts (get : State → ℕ) (f : State → State) : Type 0 where
  n : ℕ
  by : ((s : State) → get (f s) ≡ get s + n) ⊎ ((s : State) → get (f s) ≡ n)

-- .. or it stays or is set
record Keeps (get : State → ℕ) (f : State → State) : Type 0 where
  n : ℕ
  by : ((s : State) → get (f s) ≡ get s) ⊎ ((s : State) → get (f s) ≡ n)

record Effects (f : State → State) : Type 0 where
  position : Shifts (λ s. s.position) f
  imports : Shifts (λ s. s.import_index) f
  c : Keeps (λ s. s.c) f
  d : Keeps (λ s. s.d) f

shift-then : (get : State → ℕ) (f g : State → State) → Shifts get f → Shifts get g → Shifts get (λ s. g (f s))
shift-then get f g first second = by first.by second.by
  where
    by : ((s : State) → get (f s) ≡ get s + first.n) ⊎ ((s : State) → get (f s) ≡ first.n) → ((s : State) → get (g s) ≡ get s + second.n) ⊎ ((s : State) → get (g s) ≡ second.n) → Shifts get (λ s. g (f s))
    by (inl a) (inl b) = record { n = first.n + second.n; by = inl (λ s. let x = a s in let y = b (f s) in omega (arith, x, y)) }
    by (inr a) (inl b) = record { n = first.n + second.n; by = inr (λ s. let x = a s in let y = b (f s) in omega (arith, x, y)) }
    by other (inr b) = record { n = second.n; by = inr (λ s. b (f s)) }

keep-then : (get : State → ℕ) (f g : State → State) → Keeps get f → Keeps get g → Keeps get (λ s. g (f s))
keep-then get f g first second = by first.by second.by
  where
    by : ((s : State) → get (f s) ≡ get s) ⊎ ((s : State) → get (f s) ≡ first.n) → ((s : State) → get (g s) ≡ get s) ⊎ ((s : State) → get (g s) ≡ second.n) → Keeps get (λ s. g (f s))
    by (inl a) (inl b) = record { n = 0; by = inl (λ s. b (f s) ∙ a s) }
    by (inr a) (inl b) = record { n = first.n; by = inr (λ s. b (f s) ∙ a s) }
    by other (inr b) = record { n = second.n; by = inr (λ s. b (f s)) }

effects-then : (f g : State → State) → Effects f → Effects g → Effects (λ s. g (f s))
effects-then f g first second = record {
  position = shift-then (λ s. s.position) f g first.position second.position;
  imports = shift-then (λ s. s.import_index) f g first.imports second.imports;
  c = keep-then (λ s. s.c) f g first.c second.c;
  d = keep-then (λ s. s.d) f g first.d second.d;
}

stays : (get : State → ℕ) (f : State → State) → ((s : State) → get (f s) ≡ get s) → Shifts get f
stays get f same = record { n = 0; by = inl (λ s. let x = same s in omega (arith, x)) }

kept : (get : State → ℕ) (f : State → State) → ((s : State) → get (f s) ≡ get s) → Keeps get f
kept get f same = record { n = 0; by = inl same }

-- an instruction that only moves the position
moves : (f : State → State) (n : ℕ) → ((s : State) → f s ≡ record s { position = s.position + n }) → Effects f
moves f n is = record {
  position = record { n = n; by = inl (λ s. ap (λ (t : State). t.position) (is s)) };
  imports = stays (λ s. s.import_index) f (λ s. ap (λ (t : State). t.import_index) (is s));
  c = kept (λ s. s.c) f (λ s. ap (λ (t : State). t.c) (is s));
  d = kept (λ s. s.d) f (λ s. ap (λ (t : State). t.d) (is s));
}

-- an instruction that sets the index of the next import
names : (f : State → State) (k : ℕ) → ((s : State) → f s ≡ record s { position = s.position + 4; import_index = k + 1 }) → Effects f
names f k is = record {
  position = record { n = 4; by = inl (λ s. ap (λ (t : State). t.position) (is s)) };
  imports = record { n = k + 1; by = inr (λ s. ap (λ (t : State). t.import_index) (is s)) };
  c = kept (λ s. s.c) f (λ s. ap (λ (t : State). t.c) (is s));
  d = kept (λ s. s.d) f (λ s. ap (λ (t : State). t.d) (is s));
}

sets-c : (f : State → State) (k : ℕ) → ((s : State) → f s ≡ record s { c = k }) → Effects f
sets-c f k is = record {
  position = stays (λ s. s.position) f (λ s. ap (λ (t : State). t.position) (is s));
  imports = stays (λ s. s.import_index) f (λ s. ap (λ (t : State). t.import_index) (is s));
  c = record { n = k; by = inr (λ s. ap (λ (t : State). t.c) (is s)) };
  d = kept (λ s. s.d) f (λ s. ap (λ (t : State). t.d) (is s));
}

sets-d : (f : State → State) (k : ℕ) → ((s : State) → f s ≡ record s { d = k }) → Effects f
sets-d f k is = record {
  position = stays (λ s. s.position) f (λ s. ap (λ (t : State). t.position) (is s));
  imports = stays (λ s. s.import_index) f (λ s. ap (λ (t : State). t.import_index) (is s));
  c = kept (λ s. s.c) f (λ s. ap (λ (t : State). t.c) (is s));
  d = record { n = k; by = inr (λ s. ap (λ (t : State). t.d) (is s)) };
}

nothing : (f : State → State) → ((s : State) → f s ≡ s) → Effects f
nothing f is = record {
  position = stays (λ s. s.position) f (λ s. ap (λ (t : State). t.position) (is s));
  imports = stays (λ s. s.import_index) f (λ s. ap (λ (t : State). t.import_index) (is s));
  c = kept (λ s. s.c) f (λ s. ap (λ (t : State). t.c) (is s));
  d = kept (λ s. s.d) f (λ s. ap (λ (t : State). t.d) (is s));
}

instr-effects : (instr : Instr) → Effects (next_state instr)
instr-effects (BySectDWithSkip skip count) = moves (next_state (BySectDWithSkip skip count)) (4 * skip + 4 * count) (λ s. refl)
instr-effects (BySectC n) = moves (next_state (BySectC n)) (4 * n) (λ s. refl)
instr-effects (BySectD n) = moves (next_state (BySectD n)) (4 * n) (λ s. refl)
instr-effects (TVector12 n) = moves (next_state (TVector12 n)) (12 * n) (λ s. refl)
instr-effects (TVector8 n) = moves (next_state (TVector8 n)) (8 * n) (λ s. refl)
instr-effects (VTable8 n) = moves (next_state (VTable8 n)) (8 * n) (λ s. refl)
instr-effects (ImportRun n) = record {
  position = record { n = 4 * n; by = inl (λ s. refl) };
  imports = record { n = n; by = inl (λ s. refl) };
  c = kept (λ s. s.c) (next_state (ImportRun n)) (λ s. refl);
  d = kept (λ s. s.d) (next_state (ImportRun n)) (λ s. refl);
}
instr-effects (SmByImport k) = names (next_state (SmByImport k)) k (λ s. refl)
instr-effects (SmSetSectC k) = sets-c (next_state (SmSetSectC k)) k (λ s. refl)
instr-effects (SmSetSectD k) = sets-d (next_state (SmSetSectD k)) k (λ s. refl)
instr-effects (SmBySection k) = moves (next_state (SmBySection k)) 4 (λ s. refl)
instr-effects (IncrPosition e) = moves (next_state (IncrPosition e)) e (λ s. refl)
instr-effects (SetPosition q) = record {
  position = record { n = q; by = inr (λ s. refl) };
  imports = stays (λ s. s.import_index) (next_state (SetPosition q)) (λ s. refl);
  c = kept (λ s. s.c) (next_state (SetPosition q)) (λ s. refl);
  d = kept (λ s. s.d) (next_state (SetPosition q)) (λ s. refl);
}
instr-effects (LgByImport k) = names (next_state (LgByImport k)) k (λ s. refl)
instr-effects (LgBySection k) = moves (next_state (LgBySection k)) 4 (λ s. refl)
instr-effects (LgSetSectC k) = sets-c (next_state (LgSetSectC k)) k (λ s. refl)
instr-effects (LgSetSectD k) = sets-d (next_state (LgSetSectD k)) k (λ s. refl)
instr-effects (SmRepeat blocks count) = nothing (next_state (SmRepeat blocks count)) (λ s. refl)
instr-effects (LgRepeat blocks count) = nothing (next_state (LgRepeat blocks count)) (λ s. refl)

effects : (instrs : List Instr) → Effects (state_after instrs)
effects [] = nothing (state_after []) (λ s. refl)
effects (x ∷ xs) = effects-then (next_state x) (state_after xs) (instr-effects x) (effects xs)

-- neither register is further on than in another state
record Below (s t : State) : Type 0 where
  position : s.position ≤ t.position
  imports : s.import_index ≤ t.import_index

shift-below : (get : State → ℕ) (f : State → State) (s t : State) → Shifts get f → get s ≤ get t → get (f s) ≤ get (f t)
shift-below get f s t shifts low = elim shifts.by [
  | inl more ↦ (let x = more s in let y = more t in omega (arith, x, y, low))
  | inr set ↦ (let x = set s in let y = set t in omega (arith, x, y))
]

below-next : (f : State → State) (s t : State) → Effects f → Below s t → Below (f s) (f t)
below-next f s t e low = record {
  position = shift-below (λ s. s.position) f s t e.position low.position;
  imports = shift-below (λ s. s.import_index) f s t e.imports low.imports;
}

-- a word that ends in the memory, and one before it
inside : (b : Bool) (stop : Stop) → cond b None (Some stop) ≡ None → b ≡ true
inside true stop none = refl
inside false stop none = absurd (cc none)

word-below : (z : Sizes) (p q j k : ℕ) → p ≤ q → act_stop z (add (added q (Section k))) ≡ None → act_stop z (add (added p (Section j))) ≡ None
word-below z p q j k low none =
    let there = leb-true (q + 4) z.memory (inside (nat_le (q + 4) z.memory) (PastEnd q) none) in
    rw (le-leb (p + 4) z.memory (omega (arith, low, there))) refl

import-below : (z : Sizes) (p q i j : ℕ) → p ≤ q → i ≤ j → act_stop z (add (added q (Import j))) ≡ None → act_stop z (add (added p (Import i))) ≡ None
import-below z p q i j low few none = by (nat_lt j z.imports) refl none
  where
    by : (b : Bool) → nat_lt j z.imports ≡ b → cond (not b) (Some (NoImport q)) (cond (nat_le (q + 4) z.memory) None (Some (PastEnd q))) ≡ None → act_stop z (add (added p (Import i))) ≡ None
    by false absent none = absurd (cc none)
    by true exists none =
        let under = ltb-true j z.imports exists in
        let there = leb-true (q + 4) z.memory (inside (nat_le (q + 4) z.memory) (PastEnd q) none) in
        rw (lt-ltb i z.imports (omega (arith, few, under)), le-leb (p + 4) z.memory (omega (arith, low, there))) refl

need-below : (z : Sizes) (p q k : ℕ) → act_stop z (need q k) ≡ None → act_stop z (need p k) ≡ None
need-below z p q k none = rw (inside (nat_lt k z.sections) (NoSection q) none) refl

row-below : (z : Sizes) (n p q w j k : ℕ) → p ≤ q → first_stop z (map add (row n q w (Section k))) ≡ None → first_stop z (map add (row n p w (Section j))) ≡ None
unfolding row first_stop
row-below z zero p q w j k low none = refl
row-below z (suc n) p q w j k low none =
    let both = neither (act_stop z (add (added q (Section k)))) (first_stop z (map add (row n (q + w) w (Section k)))) none in
    let rest = row-below z n (p + w) (q + w) w j k (omega (arith, low)) both.1 in
    rw (word-below z p q j k low both.0, rest) refl

pairs-below : (z : Sizes) (n p q w j k l m : ℕ) → p ≤ q → first_stop z (map add (pairs n q w (Section k) (Section m))) ≡ None → first_stop z (map add (pairs n p w (Section j) (Section l))) ≡ None
unfolding pairs first_stop
pairs-below z zero p q w j k l m low none = refl
pairs-below z (suc n) p q w j k l m low none =
    let first = neither (act_stop z (add (added q (Section k)))) _ none in
    let second = neither (act_stop z (add (added (q + 4) (Section m)))) (first_stop z (map add (pairs n (q + w) w (Section k) (Section m)))) first.1 in
    let rest = pairs-below z n (p + w) (q + w) w j k l m (omega (arith, low)) second.1 in
    rw (word-below z p q j k low first.0, word-below z (p + 4) (q + 4) l m (omega (arith, low)) second.0, rest) refl

numbered-below : (z : Sizes) (n p q i j : ℕ) → p ≤ q → i ≤ j → first_stop z (map add (numbered n q j)) ≡ None → first_stop z (map add (numbered n p i)) ≡ None
unfolding numbered first_stop
numbered-below z zero p q i j low few none = refl
numbered-below z (suc n) p q i j low few none =
    let both = neither (act_stop z (add (added q (Import j)))) (first_stop z (map add (numbered n (q + 4) (j + 1)))) none in
    let rest = numbered-below z n (p + 4) (q + 4) (i + 1) (j + 1) (omega (arith, low)) (omega (arith, few)) both.1 in
    rw (import-below z p q i j low few both.0, rest) refl

-- one act
one-below : (z : Sizes) (x y : Act) → (act_stop z y ≡ None → act_stop z x ≡ None) → first_stop z (y ∷ []) ≡ None → first_stop z (x ∷ []) ≡ None
unfolding first_stop
one-below z x y low none = let both = neither (act_stop z y) None none in rw (low both.0) refl

-- .. and two
two-below : (z : Sizes) (x y x' y' : Act) → (act_stop z y ≡ None → act_stop z x ≡ None) → (act_stop z y' ≡ None → act_stop z x' ≡ None) → first_stop z (y ∷ y' ∷ []) ≡ None → first_stop z (x ∷ x' ∷ []) ≡ None
unfolding first_stop
two-below z x y x' y' low low' none =
    let first = neither (act_stop z y) (option_or (act_stop z y') None) none in
    let second = neither (act_stop z y') None first.1 in
    rw (low first.0, low' second.0) refl

none-below : (z : Sizes) → first_stop z [] ≡ None
unfolding first_stop
none-below z = refl

-- an instruction that isn't refused in a state isn't refused in one below it
instr-below : (z : Sizes) (instr : Instr) (s t : State) → Below s t → first_stop z (acts_of instr t) ≡ None → first_stop z (acts_of instr s) ≡ None
instr-below z (BySectDWithSkip skip count) s t low none = (let p = low.position in row-below z count (s.position + 4 * skip) (t.position + 4 * skip) 4 s.d t.d (omega (arith, p)) none)
instr-below z (BySectC n) s t low none = row-below z n s.position t.position 4 s.c t.c low.position none
instr-below z (BySectD n) s t low none = row-below z n s.position t.position 4 s.d t.d low.position none
instr-below z (TVector12 n) s t low none = pairs-below z n s.position t.position 12 s.c t.c s.d t.d low.position none
instr-below z (TVector8 n) s t low none = pairs-below z n s.position t.position 8 s.c t.c s.d t.d low.position none
instr-below z (VTable8 n) s t low none = row-below z n s.position t.position 8 s.d t.d low.position none
instr-below z (ImportRun n) s t low none = numbered-below z n s.position t.position s.import_index t.import_index low.position low.imports none
instr-below z (SmByImport k) s t low none = one-below z (add (added s.position (Import k))) (add (added t.position (Import k))) (import-below z s.position t.position k k low.position (omega arith)) none
instr-below z (SmSetSectC k) s t low none = one-below z (need s.position k) (need t.position k) (need-below z s.position t.position k) none
instr-below z (SmSetSectD k) s t low none = one-below z (need s.position k) (need t.position k) (need-below z s.position t.position k) none
instr-below z (SmBySection k) s t low none = two-below z (need s.position k) (need t.position k) (add (added s.position (Section k))) (add (added t.position (Section k))) (need-below z s.position t.position k) (word-below z s.position t.position k k low.position) none
instr-below z (IncrPosition e) s t low none = none-below z
instr-below z (SetPosition q) s t low none = none-below z
instr-below z (LgByImport k) s t low none = one-below z (add (added s.position (Import k))) (add (added t.position (Import k))) (import-below z s.position t.position k k low.position (omega arith)) none
instr-below z (LgBySection k) s t low none = two-below z (need s.position k) (need t.position k) (add (added s.position (Section k))) (add (added t.position (Section k))) (need-below z s.position t.position k) (word-below z s.position t.position k k low.position) none
instr-below z (LgSetSectC k) s t low none = one-below z (need s.position k) (need t.position k) (need-below z s.position t.position k) none
instr-below z (LgSetSectD k) s t low none = one-below z (need s.position k) (need t.position k) (need-below z s.position t.position k) none
instr-below z (SmRepeat blocks count) s t low none = none-below z
instr-below z (LgRepeat blocks count) s t low none = none-below z

-- .. and so for a block
block-below : (z : Sizes) (block : List Step) (s t : State) → Below s t → run_stop z block t ≡ None → run_stop z block s ≡ None
unfolding run_stop
block-below z [] s t low none = refl
block-below z (x ∷ xs) s t low none =
    let both = neither (option_map (fault_at x.0) (first_stop z (acts_of x.1 t))) (run_stop z xs (next_state x.1 t)) none in
    let here = instr-below z x.1 s t low (not_stopped x.0 (first_stop z (acts_of x.1 t)) both.0) in
    rw (here, block-below z xs (next_state x.1 s) (next_state x.1 t) (below-next (next_state x.1) s t (instr-effects x.1) low) both.1) refl

state-same : (s t : State) → s.position ≡ t.position → s.import_index ≡ t.import_index → s.c ≡ t.c → s.d ≡ t.d → s ≡ t
state-same s t position imports c d = fields s.position t.position s.import_index t.import_index s.c t.c s.d t.d position imports c d
  where
    fields : (p p' i i' c c' d d' : ℕ) → p ≡ p' → i ≡ i' → c ≡ c' → d ≡ d' → ◌≡◌ {A = State} (record { position = p; import_index = i; c = c; d = d }) (record { position = p'; import_index = i'; c = c'; d = d' })
    fields p p' i i' c c' d d' position imports same-c same-d = cc (position, imports, same-c, same-d)

-- the registers after a pass, moved on this many times by the same numbers
abbrev at-pass : State → ℕ → ℕ → ℕ → State
at-pass s p i k = record s { position = s.position + p * k; import_index = s.import_index + i * k }

-- a pass from a state after a pass, which moves the registers by these numbers
pub record Settled (block : List Instr) (s : State) (p i : ℕ) : Type 0 where
  pub before : State
  pub after : s ≡ state_after block before
  pub position : (state_after block s).position ≡ s.position + p
  pub imports : (state_after block s).import_index ≡ s.import_index + i

-- what a register is after a pass from further on
shift-at : (get : State → ℕ) (f : State → State) (b s t : State) (n k : ℕ) → Shifts get f → get s ≡ get (f b) → get (f s) ≡ get s + n → get t ≡ get s + n * k → get (f t) ≡ get s + n * (k + 1)
shift-at get f b s t n k shifts after more at = elim shifts.by [
  | inl moves ↦ (let x = moves s in let y = moves t in omega (arith, x, y, more, at))
  | inr set ↦ (let x = set s in let y = set t in let z = set b in
      let none : n ≡ 0 = omega (arith, x, z, after, more) in
      let P : ℕ → Type 0 = λ m. get (f t) ≡ get s + m * (k + 1) in subst P (sym none) (omega (arith, x, y, z, after)))
]

keep-at : (get : State → ℕ) (f : State → State) (b s t : State) → Keeps get f → get s ≡ get (f b) → get t ≡ get s → get (f t) ≡ get s
keep-at get f b s t keeps after at = elim keeps.by [
  | inl stays ↦ stays t ∙ at
  | inr set ↦ set t ∙ sym (after ∙ set b)
]

next-pass : (block : List Instr) (s : State) (p i k : ℕ) → Settled block s p i → state_after block (at-pass s p i k) ≡ at-pass s p i (k + 1)
next-pass block s p i k it =
    let f = state_after block in
    let e = effects block in
    let t = at-pass s p i k in
    state-same (f t) (at-pass s p i (k + 1))
    (shift-at (λ x. x.position) f it.before s t p k e.position (ap (λ (x : State). x.position) it.after) it.position refl)
    (shift-at (λ x. x.import_index) f it.before s t i k e.imports (ap (λ (x : State). x.import_index) it.after) it.imports refl)
    (keep-at (λ x. x.c) f it.before s t e.c (ap (λ (x : State). x.c) it.after) refl)
    (keep-at (λ x. x.d) f it.before s t e.d (ap (λ (x : State). x.d) it.after) refl)

first-pass : (s : State) (p i : ℕ) → at-pass s p i 0 ≡ s
first-pass s p i = state-same (at-pass s p i 0) s (omega arith) (omega arith) refl refl

passes-below : (s : State) (p i k n : ℕ) → k ≤ n → Below (at-pass s p i k) (at-pass s p i n)
passes-below s p i k n low =
    let more = mul-le-mul_left {m = k} {n = n} p low in
    let later = mul-le-mul_left {m = k} {n = n} i low in
    record { position = omega (arith, more); imports = omega (arith, later) }

-- the passes from one on, if the last one isn't refused
passes-walk : (z : Sizes) (block : List Step) (s : State) (p i last n k : ℕ) → Settled (instrs_in block) s p i → run_stop z block (at-pass s p i last) ≡ None → k + n ≡ last + 1 → WalksTo z (at-pass s p i k) (at-pass s p i (last + 1)) (repeated n block) None
unfolding run_stop
passes-walk z block s p i last zero k it fine all =
    let same : k ≡ last + 1 = omega (arith, all) in
    record { fault = refl; after = λ none. ap (at-pass s p i) (sym same) }
passes-walk z block s p i last (suc n) k it fine all =
    let here = block-below z block (at-pass s p i k) (at-pass s p i last) (passes-below s p i k last (omega (arith, all))) fine in
    let next = next-pass (instrs_in block) s p i k it in
    let rest = passes-walk z block s p i last n (k + 1) it fine (omega (arith, all)) in
    walks-then z (at-pass s p i k) (at-pass s p i (k + 1)) (at-pass s p i (last + 1)) block (repeated n block) None
    (record { fault = here; after = λ none. sym next }) rest

-- all passes after one, if the last one isn't refused. It begins where the registers are moved on by as many passes as come before it
pub passes-leap : (z : Sizes) (block : List Step) (s far end : State) (p i more : ℕ) → Settled (instrs_in block) s p i
    → far.position ≡ s.position + p * more → far.import_index ≡ s.import_index + i * more → far.c ≡ (state_after (instrs_in block) s).c → far.d ≡ (state_after (instrs_in block) s).d
    → WalksTo z far end block None → WalksTo z s end (repeated (more + 1) block) None
passes-leap z block s far end p i more it position imports c d last =
    let f = state_after (instrs_in block) in
    let e = effects (instrs_in block) in
    let same-c = keep-at (λ x. x.c) f it.before s s e.c (ap (λ (x : State). x.c) it.after) refl in
    let same-d = keep-at (λ x. x.d) f it.before s s e.d (ap (λ (x : State). x.d) it.after) refl in
    let at : far ≡ at-pass s p i more = state-same far (at-pass s p i more) position imports (c ∙ same-c) (d ∙ same-d) in
    let fine = subst (λ x. run_stop z block x ≡ None) at last.fault in
    let done : end ≡ at-pass s p i (more + 1) = last.after refl ∙ (ap f at ∙ next-pass (instrs_in block) s p i more it) in
    let walk = passes-walk z block s p i more (more + 1) 0 it fine (omega arith) in
    subst (λ x. WalksTo z s x (repeated (more + 1) block) None) (sym done)
    (subst (λ x. WalksTo z x (at-pass s p i (more + 1)) (repeated (more + 1) block) None) (first-pass s p i) walk)

-- a move by one pass, after passes that each move no further
pub moves-far : (w last after : Walk) (by index more passes : ℕ) → more + 1 ≡ passes → by ≤ 2 ^ 17 → index ≤ 2 ^ 17 → last.position ≡ w.position + by * more → last.import_index ≡ w.import_index + index * more
    → MovesOn last after (2 ^ 17) → MovesOn w after (2 ^ 17 * passes)
moves-far w last after by index more passes all near few position imports moves =
    let far = mul-le-mul_right {m = by} {n = 2 ^ 17} more near in
    let many = mul-le-mul_right {m = index} {n = 2 ^ 17} more few in
    let p = moves.position in
    let i = moves.imports in
    record { position = omega (arith, far, position, p, all); imports = omega (arith, many, imports, i, all) }
