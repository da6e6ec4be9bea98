-- Steps after many hops.
use Rattle.std.proofs.Common.{◌≡◌, ℕ, zero, suc, ◌+◌, ◌-◌, ◌<◌, List, Option, None, Some, Ok, Err, refl, sym, ap, ◌∙◌, subst, arith}
use Rattle.std.specs.Prelude.{Result}
use Rattle.std.specs.Option.{option_and_then, option_map_or}
use Rattle.pef_format.specs.declared.export.ExportValue.{ExportValue}
use Rattle.pef_format.specs.declared.export.ExportValue.TheVariants.{Reexport}
use Rattle.pef_format.specs.Exports.{Export, value_of}
use Rattle.pef_loader.specs.Loader.{Loaded, export_of}
use Rattle.pef_loader.proofs.Laws.{named_is}
use Rattle.cfm_store.specs.Stores.{Pair}
use Rattle.cfm_closure.specs.Faults.{BindRefusal}
use Rattle.cfm_closure.specs.Fragments.{export_count, loader_at}
use Rattle.cfm_closure.specs.Reexports.{MeetsAgain, hops, met, next_of}
use Rattle.cfm_closure.specs.Targets.{Hop, ends, follow, followed, hop, through}
use Rattle.cfm_closure.proofs.HopLemmas.{GoesOn, goes_on}

-- the import that a value passes on, 0 for any other value
abbrev import_of_value : ExportValue → ℕ
import_of_value (Reexport import) = import
import_of_value value = 0

abbrev import_of_export : Export → ℕ
import_of_export e = import_of_value (value_of e.fields.section e.fields.value)

-- the import that an export passes on
pub passed_on : List Pair → ℕ × ℕ → ℕ
passed_on pairs x = option_map_or import_of_export (option_and_then (λ l. export_of l x.1) (loader_at pairs x.0)) 0

-- the facts of a hop that continues
pub record Onward (pairs : List Pair) (v : ℕ × ℕ) (x w : ℕ × ℕ) : Type 0 where
  pub goes : GoesOn pairs v.0 v.1 x.0 x.1 w.1
  pub place : w ≡ (x.0, passed_on pairs x)
  pub below : x.1 < export_count pairs x.0

onward_from : (pairs : List Pair) (p j q e k : ℕ) → hop pairs p j ≡ Ok (through q e k) → Onward pairs (p, j) (q, e) (q, k)
unfolding passed_on
onward_from pairs p j q e k is =
    let g = goes_on pairs p j q e k is in
    let n = named_is g.loader g.symbol.name e g.named in
    let passed : passed_on pairs (q, e) ≡ k =
    ap (λ o. option_map_or import_of_export (option_and_then (λ l. export_of l e) o) 0) g.read
    ∙ ap (λ o. option_map_or import_of_export o 0) g.there
    ∙ ap import_of_value g.value in
    let count : export_count pairs q ≡ g.loader.header.export_count = ap (λ o. option_map_or (λ (l : Loaded). l.header.export_count) o 0) g.read in
    record { goes = g; place = ap (λ k. (q, k)) (sym passed); below = let b = n.below in omega arith }

pub onward : (pairs : List Pair) (v : ℕ × ℕ) (next : (ℕ × ℕ) × (ℕ × ℕ)) → next_of (hop pairs v.0 v.1) ≡ Some next → Onward pairs v next.0 next.1
onward pairs v next is = by (hop pairs v.0 v.1) refl is
  where
    by : (r : Result Hop BindRefusal) → hop pairs v.0 v.1 ≡ r → next_of r ≡ Some next → Onward pairs v next.0 next.1
    by (Ok (ends target)) was is = absurd (cc)
    by (Ok (through q e k)) was is =
        let same : ((q, e), (q, k)) ≡ next = cc in
        let P : (ℕ × ℕ) × (ℕ × ℕ) → Type 0 = λ next. Onward pairs v next.0 next.1 in
        subst P same (onward_from pairs v.0 v.1 q e k was)
    by (Err r) was is = absurd (cc)

module _ (pairs : List Pair) where
  -- hops after hops
  pub hops-then : (m n : ℕ) (v w : ℕ × ℕ) → hops pairs m v ≡ Some w → hops pairs (m + n) v ≡ hops pairs n w
  unfolding hops
  hops-then zero n v w is =
      let same : v ≡ w = cc in
      let e : 0 + n ≡ n = omega arith in
      ap (λ m. hops pairs m v) e ∙ ap (hops pairs n) same
  hops-then (suc m) n v w is =
      let e : suc m + n ≡ suc (m + n) = omega arith in
      ap (λ k. hops pairs k v) e ∙ by (next_of (hop pairs v.0 v.1)) is (λ u. hops-then m n u w)
    where
      by : (o : Option ((ℕ × ℕ) × (ℕ × ℕ))) → option_and_then (λ next. hops pairs m next.1) o ≡ Some w → ((u : ℕ × ℕ) → hops pairs m u ≡ Some w → hops pairs (m + n) u ≡ hops pairs n w) → option_and_then (λ next. hops pairs (m + n) next.1) o ≡ hops pairs n w
      by None is deeper = absurd (cc)
      by (Some next) is deeper = deeper next.1 is

  -- an import reached by many hops was reached by fewer from somewhere
  pub hops-before : (m n : ℕ) (v w : ℕ × ℕ) → hops pairs (m + n) v ≡ Some w → (u : ℕ × ℕ) × (hops pairs m v ≡ Some u)
  unfolding hops
  hops-before zero n v w is = (v, refl)
  hops-before (suc m) n v w is =
      let e : suc (m + n) ≡ suc m + n = omega arith in
      by (next_of (hop pairs v.0 v.1)) (ap (λ k. hops pairs k v) e ∙ is) (λ u. hops-before m n u w)
    where
      by : (o : Option ((ℕ × ℕ) × (ℕ × ℕ))) → option_and_then (λ next. hops pairs (m + n) next.1) o ≡ Some w → ((u : ℕ × ℕ) → hops pairs (m + n) u ≡ Some w → (t : ℕ × ℕ) × (hops pairs m u ≡ Some t)) → (t : ℕ × ℕ) × (option_and_then (λ next. hops pairs m next.1) o ≡ Some t)
      by None is deeper = absurd (cc)
      by (Some next) is deeper = deeper next.1 is

  -- n hops that all continue
  pub record Goes (n : ℕ) (v : ℕ × ℕ) : Type 0 where
    pub to : ℕ × ℕ
    pub is : hops pairs n v ≡ Some to

  -- there is no result within n hops exactly if one more hop continues
  pub follow-none : (n : ℕ) (v : ℕ × ℕ) → follow n pairs v.0 v.1 ≡ None → Goes (suc n) v
  unfolding follow hops
  follow-none zero v none = by (hop pairs v.0 v.1) refl none
    where
      by : (r : Result Hop BindRefusal) → hop pairs v.0 v.1 ≡ r → followed (λ q k. None) r ≡ None → Goes 1 v
      by (Ok (ends target)) was none = absurd (cc)
      by (Ok (through q e k)) was none = record { to = (q, k); is = ap (λ r. option_and_then (λ next. hops pairs 0 next.1) (next_of r)) was }
      by (Err r) was none = absurd (cc)
  follow-none (suc n) v none = by (hop pairs v.0 v.1) refl none (λ u. follow-none n u)
    where
      by : (r : Result Hop BindRefusal) → hop pairs v.0 v.1 ≡ r → followed (follow n pairs) r ≡ None → ((u : ℕ × ℕ) → follow n pairs u.0 u.1 ≡ None → Goes (suc n) u) → Goes (suc (suc n)) v
      by (Ok (ends target)) was none deeper = absurd (cc)
      by (Ok (through q e k)) was none deeper =
          let g = deeper (q, k) none in
          record { to = g.to; is = ap (λ r. option_and_then (λ next. hops pairs (suc n) next.1) (next_of r)) was ∙ g.is }
      by (Err r) was none deeper = absurd (cc)

  pub follow-on : (n : ℕ) (v : ℕ × ℕ) → Goes (suc n) v → follow n pairs v.0 v.1 ≡ None
  unfolding follow hops
  follow-on zero v g = by (hop pairs v.0 v.1) g.is
    where
      by : (r : Result Hop BindRefusal) → option_and_then (λ next. hops pairs 0 next.1) (next_of r) ≡ Some g.to → followed (λ q k. None) r ≡ None
      by (Ok (ends target)) is = absurd (cc)
      by (Ok (through q e k)) is = refl
      by (Err r) is = absurd (cc)
  follow-on (suc n) v g = by (hop pairs v.0 v.1) g.is (λ u. follow-on n u)
    where
      by : (r : Result Hop BindRefusal) → option_and_then (λ next. hops pairs (suc n) next.1) (next_of r) ≡ Some g.to → ((u : ℕ × ℕ) → Goes (suc n) u → follow n pairs u.0 u.1 ≡ None) → followed (follow n pairs) r ≡ None
      by (Ok (ends target)) is deeper = absurd (cc)
      by (Ok (through q e k)) is deeper = deeper (q, k) (record { to = g.to; is = is })
      by (Err r) is deeper = absurd (cc)

  -- a way that comes back is endless
  returns : (d : ℕ) (w : ℕ × ℕ) → hops pairs (suc d) w ≡ Some w → (n : ℕ) → (m : ℕ) × (hops pairs (n + m) w ≡ Some w)
  unfolding hops
  returns d w back zero = (0, refl)
  returns d w back (suc n) = by (returns d w back n)
    where
      by : (r : (m : ℕ) × (hops pairs (n + m) w ≡ Some w)) → (m : ℕ) × (hops pairs (suc n + m) w ≡ Some w)
      by (zero, is) =
          let e : n ≡ n + 0 = omega arith in
          let here : hops pairs n w ≡ Some w = ap (λ k. hops pairs k w) e ∙ is in
          let e' : suc n + d ≡ n + suc d = omega arith in
          (d, ap (λ k. hops pairs k w) e' ∙ hops-then n (suc d) w w here ∙ back)
      by (suc m, is) = let e : suc n + m ≡ n + suc m = omega arith in (m, ap (λ k. hops pairs k w) e ∙ is)

  -- .. and so is a way that leads there
  pub goes_for_ever : (a d : ℕ) (v w : ℕ × ℕ) → hops pairs a v ≡ Some w → hops pairs (suc d) w ≡ Some w → (n : ℕ) → Goes n v
  goes_for_ever a d v w there back n =
      let r = returns d w back n in
      let far : hops pairs (a + (n + r.0)) v ≡ Some w = hops-then a (n + r.0) v w there ∙ r.1 in
      let e : n + (a + r.0) ≡ a + (n + r.0) = omega arith in
      let near = hops-before n (a + r.0) v w (ap (λ k. hops pairs k v) e ∙ far) in
      record { to = near.0; is = near.1 }

  -- the hop after n hops, if one more continues
  pub record Step (n : ℕ) (v : ℕ × ℕ) : Type 0 where
    pub at : ℕ × ℕ
    pub reached : hops pairs n v ≡ Some at
    pub next : (ℕ × ℕ) × (ℕ × ℕ)
    pub is : next_of (hop pairs at.0 at.1) ≡ Some next
    pub leads : hops pairs (n + 1) v ≡ Some next.1
    pub meets : met pairs n v ≡ Some next.0

  pub step_at : (n : ℕ) (v : ℕ × ℕ) → Goes (suc n) v → Step n v
  unfolding hops
  step_at n v g =
      let e : n + 1 ≡ suc n = omega arith in
      let one = ap (λ k. hops pairs k v) e ∙ g.is in
      let before = hops-before n 1 v g.to one in
      by before.0 before.1 (next_of (hop pairs before.0.0 before.0.1)) refl (sym (hops-then n 1 v before.0 before.1) ∙ one)
    where
      by : (at : ℕ × ℕ) → hops pairs n v ≡ Some at → (o : Option ((ℕ × ℕ) × (ℕ × ℕ))) → next_of (hop pairs at.0 at.1) ≡ o → hops pairs 1 at ≡ Some g.to → Step n v
      by at reached None is one = absurd (let e : None ≡ Some g.to = sym (ap (λ o. option_and_then (λ (next : (ℕ × ℕ) × (ℕ × ℕ)). hops pairs 0 next.1) o) is) ∙ one in cc)
      by at reached (Some next) is one = record {
        at = at;
        reached = reached;
        next = next;
        is = is;
        leads = hops-then n 1 v at reached ∙ ap (λ o. option_and_then (λ (next : (ℕ × ℕ) × (ℕ × ℕ)). hops pairs 0 next.1) o) is;
        meets = ap (λ o. option_and_then (λ (w : ℕ × ℕ). option_and_then (λ (next : (ℕ × ℕ) × (ℕ × ℕ)). Some next.0) (next_of (hop pairs w.0 w.1))) o) reached
            ∙ ap (λ o. option_and_then (λ (next : (ℕ × ℕ) × (ℕ × ℕ)). Some next.0) o) is;
      }

  -- an export that is visited leads to the import that it passes on
  pub met-leads : (n : ℕ) (v x : ℕ × ℕ) → met pairs n v ≡ Some x → hops pairs (n + 1) v ≡ Some (x.0, passed_on pairs x)
  unfolding hops
  met-leads n v x is = by (hops pairs n v) refl is
    where
      on : (at : ℕ × ℕ) → hops pairs n v ≡ Some at → (o : Option ((ℕ × ℕ) × (ℕ × ℕ))) → next_of (hop pairs at.0 at.1) ≡ o → option_and_then (λ next. Some next.0) o ≡ Some x → hops pairs (n + 1) v ≡ Some (x.0, passed_on pairs x)
      on at reached None is met = absurd (cc)
      on at reached (Some next) is met =
          let o = onward pairs at next is in
          let same : next.0 ≡ x = cc in
          hops-then n 1 v at reached
          ∙ ap (λ o. option_and_then (λ (next : (ℕ × ℕ) × (ℕ × ℕ)). hops pairs 0 next.1) o) is
          ∙ ap Some o.place
          ∙ ap (λ (x : ℕ × ℕ). Some (x.0, passed_on pairs x)) same

      by : (o : Option (ℕ × ℕ)) → hops pairs n v ≡ o → option_and_then (λ w. option_and_then (λ next. Some next.0) (next_of (hop pairs w.0 w.1))) o ≡ Some x → hops pairs (n + 1) v ≡ Some (x.0, passed_on pairs x)
      by None reached met = absurd (cc)
      by (Some at) reached met = on at reached (next_of (hop pairs at.0 at.1)) refl met

  -- so a way on which an export is visited again has no end
  pub meets_again-for_ever : (v : ℕ × ℕ) → MeetsAgain pairs v → (n : ℕ) → Goes n v
  meets_again-for_ever v m n =
      let a = met-leads m.first v m.export m.was in
      let b = met-leads m.second v m.export m.again in
      let later = m.later in
      let apart : m.second + 1 ≡ m.first + 1 + suc (m.second - m.first - 1) = omega arith in
      let back = sym (hops-then (m.first + 1) (suc (m.second - m.first - 1)) v (m.export.0, passed_on pairs m.export) a) ∙ ap (λ k. hops pairs k v) (sym apart) ∙ b in
      goes_for_ever (m.first + 1) (m.second - m.first - 1) v (m.export.0, passed_on pairs m.export) a back n
