-- A struct of one pointer, which owns a value on the heap or nothing: its machine value, and steps that open and close it. And the
-- heap, as an argument of a generic call.
use Rattle.std.proofs.Common.{◌≡◌, ◌++◌, ◌∙◌, List, [], ◌∷◌, Option, None, Some, true, refl, lit<}
use seplogic.Ra.Ura.{Ura}
use mir.Syntax.{Dict, ty_ptr, ty_struct, tcons, tnil, impl, dnil}
use mir.Val.{Val, vstruct, vcons, vnil, of_list}
use mir.Raw.{raw as bare}
use types.Logic.{Logic}
use types.Kit.{Item, Goal, Seq, Step, step, ‵, ◌$◌, fpick, use0}
use denote.Builtin.{RawPtr}
use denote.Exit.{no}
use denote.Param.{arg, layout}
use denote.Param.Laws.{Laws, arg_laws}
use denote.RattleType.{RattleType}
use denote.RawPtr.{Ptr, block_ptr, null_ptr, ptr_val}
use denote.Shadow.{makes_shadow, pure_l}
use denote.Struct.Struct.{Struct}
use Rattle.core.proofs.alloc.Calls.{Al}
use Rattle.core.proofs.cell.Inside.{Good}
use Rattle.std.proofs.alloc.Global.TheLaws as heap_laws
use Rattle.std.specs.contracts.alloc.Global as heap
use Rattle.std.specs.Option.{is_some}
use Rattle.std.specs.Box.Ownership.{box_owns}
use Rattle.std.specs.declared.alloc.Global.{Global}
use Rattle.std.specs.contracts.impls.GlobalAllocator.TheImpl.{ghosts, dict}
use Rattle.pef_c.specs.Handles.{boxed}

-- a struct owns what its fields own, whatever its name is
abbrev fields : RattleType
fields = Struct (record { name = []; args = []; types = []; fields = RawPtr ∷ [] })

abbrev pub word : Ptr → Val
word p = vstruct (vcons (ptr_val p) vnil)

pub pointer_typed : (p : Ptr) → Good ty_ptr (ptr_val p)
pointer_typed (block_ptr b o) = (tt, tt)
pointer_typed null_ptr = (tt, record { fits = lit< tt })

pub word_typed : (p : Ptr) → Good (ty_struct [] (tcons ty_ptr tnil)) (word p)
word_typed (block_ptr b o) = (tt, (tt, tt))
word_typed null_ptr = (tt, (record { fits = lit< tt }, tt))

module _ (R : RattleType) {M : Type 1} {𝓤 : Ura M} {𝓛 : Logic 𝓤} {K : Type 0} {Γ : List (Item 𝓤)} {G : Goal 𝓤 𝓛.H} where
  pub opened : K → (p : Ptr) (held : Option R.Denot) (vs : List Val) → (vs ≡ word p ∷ [] → Seq K 𝓛 (‵ (boxed R p held) ∷ Γ) G)
      → Seq K 𝓛 (‵ (fields.own_val (p, tt) vs) ∷ ‵ (boxed R p held) ∷ Γ) G
  opened t p held vs k = pure_l t (fields.own_val (p, tt) vs) (λ s. k (s.1.0 ∙ (λ i. vstruct (of_list (s.1.1.0 i ++ [])) ∷ [])))

  pub closed : K → (p : Ptr) → Step K 𝓛 (‵ (fields.own_val (p, tt) (word p ∷ [])) ∷ Γ) G Γ G
  closed t p = step (λ s. use0 𝓛 (‵ (fields.own_val (p, tt) (word p ∷ []))) (makes_shadow 𝓛 (fields.own_val (p, tt) (word p ∷ [])) (λ _. (tt, (tt, tt))) ((ptr_val p ∷ [], tt), (refl, (refl, tt)))) $ s)

  -- [what the value owns, with the right to free its block]
  pub full : K → (p : Ptr) (held : Option R.Denot) → is_some held ≡ true
      → ((a : Global) (x : R.Denot) → Some x ≡ held → Seq K 𝓛 (‵ (box_owns (ghosts.dealloc_token a) R p x) ∷ Γ) G) → Seq K 𝓛 (‵ (boxed R p held) ∷ Γ) G
  full t p None some k = absurd (cc)
  full t p (Some x) some k = fpick t (λ a. k a x refl)

abbrev pub heap_row : RattleType
heap_row = arg (bare (layout heap.the_row)) no heap.the_row

abbrev pub heap_ok : Laws heap_row
heap_ok = arg_laws (bare (layout heap.the_row)) no heap.the_row heap_laws.the_row_laws refl

-- the heap's handle has no drop of its own
abbrev pub no_drop : Dict
no_drop = impl ("pef_c::Destruct++none::drop" ∷ []) (tcons (layout heap_row) tnil) dnil

abbrev pub heap_al : Al
heap_al = record { row = heap_row; laws = heap_ok; g = ghosts; d = dict; drops = no_drop }
