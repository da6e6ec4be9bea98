-- The walk of a program along fixups: the program is flat and makes them exactly if the walk
-- reaches their end.
use Rattle.std.proofs.Common.{◌≡◌, ℕ, ◌+◌, ◌-◌, ◌<◌, ◌≤◌, inl, inr, Bool, true, false, ◌==◌, List, [], ◌∷◌, ◌++◌, length, cond, Option, None, Some, refl, ap, sym, ◌∙◌, arith}
use Rattle.std.specs.Option.{option_and_then}
use Rattle.std.proofs.Math.Path.{ap₂}
use Rattle.std.proofs.lemmas.Bool.Decides.{eqb_tells}
use Rattle.pef_reloc.specs.declared.fixup.Base.{Base}
use Rattle.pef_reloc.specs.declared.fixup.Base.TheVariants.{Import}
use Rattle.pef_reloc.specs.declared.fixup.Fixup.{Fixup}
use Rattle.pef_reloc.specs.declared.instr.Instr.{Instr}
use Rattle.pef_reloc.specs.Deliveries.{is_flat_instr}
use Rattle.pef_reloc.specs.Steps.{Makes, State, added, additions, is_flat, next_state, numbered, pairs, row, start, state_after, trace}
use Rattle.pef_reloc.proofs.Laws.{flat_parts, flat_more, row-more, row-end, pairs-more, pairs-end, numbered-more, numbered-end}
use Rattle.pef_cert.specs.Fixups.Additions.{behind, after_first, is_added}
use Rattle.pef_cert.specs.Fixups.Answers.{Says}
use Rattle.pef_cert.specs.Fixups.Kept.Walks.{Place, passed, placed, start_place, stepped, walked}
use Rattle.pef_cert.proofs.FixupsProofs.FixupLemmas.{is_added-is, is_added-refl}

-- no fixup is left
abbrev pub at_end : Option Place → Bool
at_end None = false
at_end (Some p) = length p.left == 0

ended : (left : List Fixup) → (length left == 0) ≡ true → left ≡ []
ended [] e = refl
ended (f ∷ rest) e =
    elim (eqb_tells (length (f ∷ rest)) 0) [
      | inl same ↦ absurd (omega (arith, same.1))
      | inr other ↦ (let wrong : true ≡ false = sym e ∙ other.0 in absurd (cc))
    ]

-- one more addition
after_some : (a : Fixup) (made left rest : List Fixup) (all : Option (List Fixup)) → behind (a ∷ made) left ≡ all → Some rest ≡ after_first a.offset a.base left → behind made rest ≡ all
after_some a made left rest all so first = ap (option_and_then (behind made)) first ∙ so

after_none : (a : Fixup) (made left : List Fixup) (all : Option (List Fixup)) → behind (a ∷ made) left ≡ all → None ≡ after_first a.offset a.base left → None ≡ all
after_none a made left all so first = ap (option_and_then (behind made)) first ∙ so

after_nothing : (made left : List Fixup) (all : Option (List Fixup)) → made ≡ [] → behind made left ≡ all → Some left ≡ all
after_nothing made left all none so = ap (λ made. behind made left) (sym none) ∙ so

pub words-next : (n i p w : ℕ) (b : Base) (left rest : List Fixup) (all : Option (List Fixup)) → i < n → behind (row (n - i) p w b) left ≡ all → Some rest ≡ after_first p b left → behind (row (n - (i + 1)) (p + w) w b) rest ≡ all
words-next n i p w b left rest all under so first =
    after_some (added p b) (row (n - (i + 1)) (p + w) w b) left rest all (ap (λ made. behind made left) (sym (row-more n i p w b under)) ∙ so) first

pub words-fail : (n i p w : ℕ) (b : Base) (left : List Fixup) (all : Option (List Fixup)) → i < n → behind (row (n - i) p w b) left ≡ all → None ≡ after_first p b left → None ≡ all
words-fail n i p w b left all under so first =
    after_none (added p b) (row (n - (i + 1)) (p + w) w b) left all (ap (λ made. behind made left) (sym (row-more n i p w b under)) ∙ so) first

pub words-end : (n i p w : ℕ) (b : Base) (left : List Fixup) (all : Option (List Fixup)) → n ≤ i → behind (row (n - i) p w b) left ≡ all → Some left ≡ all
words-end n i p w b left all past so = after_nothing (row (n - i) p w b) left all (row-end n i p w b past) so

pub pairs-first : (n i p w : ℕ) (b b' : Base) (left rest : List Fixup) (all : Option (List Fixup)) → i < n → behind (pairs (n - i) p w b b') left ≡ all → Some rest ≡ after_first p b left → behind (added (p + 4) b' ∷ pairs (n - (i + 1)) (p + w) w b b') rest ≡ all
pairs-first n i p w b b' left rest all under so first =
    after_some (added p b) (added (p + 4) b' ∷ pairs (n - (i + 1)) (p + w) w b b') left rest all (ap (λ made. behind made left) (sym (pairs-more n i p w b b' under)) ∙ so) first

pub pairs-second : (n i p w : ℕ) (b b' : Base) (left rest : List Fixup) (all : Option (List Fixup)) → behind (added (p + 4) b' ∷ pairs (n - (i + 1)) (p + w) w b b') left ≡ all → Some rest ≡ after_first (p + 4) b' left → behind (pairs (n - (i + 1)) (p + w) w b b') rest ≡ all
pairs-second n i p w b b' left rest all so first = after_some (added (p + 4) b') (pairs (n - (i + 1)) (p + w) w b b') left rest all so first

pub pairs-fail : (n i p w : ℕ) (b b' : Base) (left : List Fixup) (all : Option (List Fixup)) → i < n → behind (pairs (n - i) p w b b') left ≡ all → None ≡ after_first p b left → None ≡ all
pairs-fail n i p w b b' left all under so first =
    after_none (added p b) (added (p + 4) b' ∷ pairs (n - (i + 1)) (p + w) w b b') left all (ap (λ made. behind made left) (sym (pairs-more n i p w b b' under)) ∙ so) first

pub pairs-fail_second : (n i p w : ℕ) (b b' : Base) (left : List Fixup) (all : Option (List Fixup)) → behind (added (p + 4) b' ∷ pairs (n - (i + 1)) (p + w) w b b') left ≡ all → None ≡ after_first (p + 4) b' left → None ≡ all
pairs-fail_second n i p w b b' left all so first = after_none (added (p + 4) b') (pairs (n - (i + 1)) (p + w) w b b') left all so first

pub pairs-last : (n i p w : ℕ) (b b' : Base) (left : List Fixup) (all : Option (List Fixup)) → n ≤ i → behind (pairs (n - i) p w b b') left ≡ all → Some left ≡ all
pairs-last n i p w b b' left all past so = after_nothing (pairs (n - i) p w b b') left all (pairs-end n i p w b b' past) so

pub imports-next : (n i p m : ℕ) (left rest : List Fixup) (all : Option (List Fixup)) → i < n → behind (numbered (n - i) p m) left ≡ all → Some rest ≡ after_first p (Import m) left → behind (numbered (n - (i + 1)) (p + 4) (m + 1)) rest ≡ all
imports-next n i p m left rest all under so first =
    after_some (added p (Import m)) (numbered (n - (i + 1)) (p + 4) (m + 1)) left rest all (ap (λ made. behind made left) (sym (numbered-more n i p m under)) ∙ so) first

pub imports-fail : (n i p m : ℕ) (left : List Fixup) (all : Option (List Fixup)) → i < n → behind (numbered (n - i) p m) left ≡ all → None ≡ after_first p (Import m) left → None ≡ all
imports-fail n i p m left all under so first =
    after_none (added p (Import m)) (numbered (n - (i + 1)) (p + 4) (m + 1)) left all (ap (λ made. behind made left) (sym (numbered-more n i p m under)) ∙ so) first

pub imports-end : (n i p m : ℕ) (left : List Fixup) (all : Option (List Fixup)) → n ≤ i → behind (numbered (n - i) p m) left ≡ all → Some left ≡ all
imports-end n i p m left all past so = after_nothing (numbered (n - i) p m) left all (numbered-end n i p m past) so

-- the fixups left, and those made before them
first_is : (a f : Fixup) (made rest left : List Fixup) (b : Bool) → is_added a.offset a.base f ≡ b → (behind made rest ≡ Some left → rest ≡ made ++ left) → option_and_then (behind made) (cond b (Some rest) None) ≡ Some left → f ∷ rest ≡ a ∷ (made ++ left)
first_is a f made rest left true is others e = ap₂ (λ g fs. g ∷ fs) (is_added-is a.offset a.base f is) (others e)
first_is a f made rest left false is others e = absurd (cc)

pub after-is : (made fixups left : List Fixup) → behind made fixups ≡ Some left → fixups ≡ made ++ left
after-is [] fixups left e = cc
after-is (a ∷ made) [] left e = absurd (cc)
after-is (a ∷ made) (f ∷ rest) left e = first_is a f made rest left (is_added a.offset a.base f) refl (after-is made rest left) e

pub after-made : (made left : List Fixup) → behind made (made ++ left) ≡ Some left
after-made [] left = refl
after-made (a ∷ made) left = rw (is_added-refl a.offset a.base a refl) (after-made made left)

-- an instruction that was passed
record Passed (x : Instr) (p q : Place) : Type 0 where
  flat : is_flat_instr x ≡ true
  state : q.state ≡ next_state x p.state
  left : p.left ≡ additions x p.state ++ q.left

placed_is : (x : Instr) (p q : Place) (left : Option (List Fixup)) → behind (additions x p.state) p.left ≡ left → placed (next_state x p.state) left ≡ Some q → is_flat_instr x ≡ true → Passed x p q
placed_is x p q None e is flat = absurd (cc)
placed_is x p q (Some rest) e is flat =
    let same : ◌≡◌ {A = Place} (record { state = next_state x p.state; left = rest }) q = cc in
    record {
      flat = flat;
      state = sym (ap (λ (t : Place). t.state) same);
      left = after-is (additions x p.state) p.left rest e ∙ ap (λ (t : Place). additions x p.state ++ t.left) same;
    }

passed_if : (x : Instr) (p q : Place) (b : Bool) → is_flat_instr x ≡ b → cond b (stepped x p) None ≡ Some q → Passed x p q
passed_if x p q true flat e = placed_is x p q (behind (additions x p.state) p.left) refl e flat
passed_if x p q false flat e = absurd (cc)

passed-is : (x : Instr) (p q : Place) → passed x p ≡ Some q → Passed x p q
passed-is x p q e = passed_if x p q (is_flat_instr x) refl e

-- a program that was walked along
record Made (xs : List Instr) (p : Place) : Type 0 where
  flat : is_flat xs ≡ true
  makes : trace xs p.state ≡ p.left

made_more : (x : Instr) (xs : List Instr) (p : Place) (o : Option Place) (t : Place) → passed x p ≡ o → ((q : Place) → walked xs q ≡ Some t → Made xs q) → option_and_then (walked xs) o ≡ Some t → Made (x ∷ xs) p
made_more x xs p None t e others is = absurd (cc)
made_more x xs p (Some q) t e others is =
    let first = passed-is x p q e in
    let more = others q is in
    record {
      flat = flat_more x xs first.flat more.flat;
      makes = ap (λ s. additions x p.state ++ trace xs s) (sym first.state) ∙ (ap (λ fs. additions x p.state ++ fs) more.makes ∙ sym first.left);
    }

walked-made : (xs : List Instr) (p t : Place) → t.left ≡ [] → walked xs p ≡ Some t → Made xs p
walked-made [] p t none e =
    let same : p ≡ t = cc in
    record { flat = refl; makes = sym (ap (λ (q : Place). q.left) same ∙ none) }
walked-made (x ∷ xs) p t none e = made_more x xs p (passed x p) t refl (λ q. walked-made xs q t none) e

-- and a program that is flat and makes the fixups is walked along to their end
made-walked : (xs : List Instr) (s : State) (fixups : List Fixup) → is_flat xs ≡ true → trace xs s ≡ fixups → walked xs (record { state = s; left = fixups }) ≡ Some (record { state = state_after xs s; left = [] })
made-walked [] s fixups flat makes = ap (λ (fs : List Fixup). walked [] (record { state = s; left = fs })) (sym makes)
made-walked (x ∷ xs) s fixups flat makes =
    let parts = flat_parts x xs flat in
    let others = made-walked xs (next_state x s) (trace xs (next_state x s)) parts.others refl in
    ap (λ fs. walked (x ∷ xs) (record { state = s; left = fs })) (sym makes)
    ∙ rw (parts.first, after-made (additions x s) (trace xs (next_state x s))) others

-- the test of a program
pub walk-says : (xs : List Instr) (fixups : List Fixup) (o : Option Place) (answer : Bool) → o ≡ walked xs (start_place fixups) → answer ≡ at_end o → Says answer ((is_flat xs ≡ true) × Makes fixups xs)
walk-says xs fixups None answer is e = (
  λ yes. absurd (cc),
  λ made. let all = is ∙ made-walked xs start fixups made.0 made.1 in absurd (cc),
)
walk-says xs fixups (Some t) answer is e = (
  λ yes. let m = walked-made xs (start_place fixups) t (ended t.left (sym e ∙ yes)) (sym is) in (m.flat, m.makes),
  λ made. let all = is ∙ made-walked xs start fixups made.0 made.1 in e ∙ ap (λ (q : Option Place). at_end q) all,
)
