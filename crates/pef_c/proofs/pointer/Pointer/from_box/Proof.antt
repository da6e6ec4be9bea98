-- The box gives its pointer, with what it owns there.
use Rattle.pef_c.proofs.WalkSteps.{◌≡◌, ◌++◌, ◌∙◌, List, [], ◌∷◌, Some, refl, ap, proved_at, leaves, Goes-blank, handle_tells, box_owns, box_out, box_in, pair_Typed, SProp, emp, id⊢, ftrue, flft, ◌⊑◌, ⊑_static, fact, fact_i, tables, inst_fn, Fn, Args, a_type, dcons, dnil, ty_ptr, Val, vptr, vstruct, of_list, WpFn, alloc_all, pass_all, free_all, look_at, get, get_in, sets, lands_as, ‵, raw, ◌⊛◌, some, later, prop, ◌$◌, ◌∵◌, !, qed, by, move, drop, split, split3, join, fsplit, fjoin, fpick, fpack, pick, use0, use1, use2, await, regoal, feq_l, agg, sub, whole, stop, fld, of_opd, no_more, and_then, returns, enter, RawPtr, param, bounded, layout, RattleType, owns, Ptr, ptr_val, types_at, plain, nothing, only, heard, Tuple, calls_at, Ended, Lasts, lasts, triple_of, framed, Stays, stay_dropped, walk_of}
use Rattle.std.proofs.impls.GlobalAllocator.TheImpl.Met as heap_met
use Rattle.std.specs.contracts.alloc.Global as heap
use Rattle.std.specs.contracts.impls.GlobalAllocator.TheImpl.{ghosts, dict}
use Rattle.std.specs.declared.alloc.Global.{Global}
use Rattle.std_alloc.specs.contracts.boxed.Box as boxed
use Rattle.std_alloc.proofs.BoxSteps.Form as box
use base.Share
use denote.Param.NoDrop.{glues}
use Rattle.pef_c.proofs.Pointers.{heap_row, heap_ok, no_drop, heap_al, word, pointer_typed, word_typed, closed}
use Rattle.std_alloc.specs.contracts.boxed.Box.into_raw_with_allocator as g
use Rattle.std_alloc.proofs.boxed.Box.into_raw_with_allocator.Met.{met}
use Rattle.pef_c.specs.contracts.pointer.Pointer.from_box as f
use Rattle.pef_c.proofs.pointer.Pointer.from_box.Statement.{statement}
use Rattle.pef_c.proofs.pointer.Pointer.from_box.Code as code

pub from_box_spec : {M : Type 1} → statement M
unfolding Rattle.pef_c.proofs.Destruct++none.drop.Code.code
from_box_spec {M} 𝓤 𝓛 𝓜 𝓡 wired T laws drops glue =
    let 𝓣 = tables 𝓤 𝓛.H 𝓜 𝓡 𝓡.env in let F : Ended = f.ended T drops in let c = f.clauses T drops 𝓛 𝓜.mem 𝓡.returns in
    let args : Args = bounded (a_type ∷ []) (T, tt) (dcons drops dnil) in let fn : Fn = inst_fn args code.function in let R : RattleType = param 0 T in
    let H : RattleType = heap_row in
    let E : box.Bx = record { row = T; laws = laws; al = heap_al } in let given = plain (λ _. boxed.the_row R heap.the_row ghosts) in
    let stays : Stays F.signature.params F.kept = (stay_dropped given F.kept.0, tt) in
    proved_at 𝓛 F stays c 𝓜 𝓡 (Goes-blank 𝓛 1 given F.kept.0 (λ κs x w. tt), tt) (f.Key.name args) fn (code.unfolded 𝓤 𝓛.H 𝓜 𝓡 wired (T, tt) drops) (λ z are.
    let κ = z.0.0.0 in let q = z.0.1.0 in let x = z.0.3.0 in let Post : Val → SProp 𝓤 = (walk_of 𝓛 F stays c).post z in
    let Alive : Type 0 = κ ⊑ T.lives in let Static : Type 0 = κ ⊑ H.lives in let Kept : Type 0 = Some x.value ≡ Some x.value in
    let tokens = ‵ (flft κ (Share.left q)) ⊛ (‵ (flft κ (Share.right q)) ⊛ ‵ ftrue) in let Pair : RattleType = Tuple (RawPtr ∷ H ∷ []) in
    qed 𝓛 (((‵ (flft κ q) ⊛ ‵ ftrue) ⊛ ‵ (owns (types_at F.signature.params z.0.0) z.0.3 z.0.4)) ∷ (raw (fact 𝓤 Alive) ⊛ ‵ ftrue) ∷ []) ∵
    move ! (1 ∷ []) $ split ! $ heard ! Alive (λ alive. drop ! $ split ! $ split ! $ move ! (2 ∷ []) $ fsplit ! $
    box_out E ! x z.0.4.0 (λ b o h at told fits. box_in E ! x b o x.value at refl $ let w : Val = box.word E h b o in
    let G = triple_of 𝓛 (g.signature T H ghosts dict no_drop drops) (g.spec T H ghosts dict no_drop drops 𝓛 𝓜.mem 𝓡.returns) in
    let y : G.Ghost = (((κ, (κ, tt)), (Share.left q, (Share.right q, tt)), tt, (x, tt), (w ∷ [], tt)), tt) in
    fjoin ! $ move ! (1 ∷ []) $ use1 𝓛 (‵ (flft κ (Share.left q)) ⊛ ‵ (flft κ (Share.right q))) (𝓛.lfts.lft_split κ q) $ split ! $
    move ! (1 ∷ 3 ∷ []) $ join ! $ move ! (1 ∷ 0 ∷ []) $ join ! $ join ! $ nothing ! $ use0 𝓛 (raw (fact 𝓤 Static)) (fact_i 𝓤 Static (emp 𝓤) (⊑_static κ)) $ join ! $
    use0 𝓛 (raw (fact 𝓤 Alive)) (fact_i 𝓤 Alive (emp 𝓤) alive) $ join ! $ move ! (1 ∷ 0 ∷ []) $ join ! $ use1 𝓛 (raw (G.pre y)) (id⊢ 𝓤 _) $
    regoal ! (λ (us : List Val). prop (WpFn 𝓤 𝓛.H 𝓣.C 𝓣.Λ fn us Post)) (λ i. told i ++ []) refl $
    let typed = pair_Typed ty_ptr (layout H) (vptr b o) h (tt, tt) fits in
    enter ! 𝓣.C 𝓣.Λ fn (w ∷ []) Post $ alloc_all ! (λ l. pass_all ! refl (typed, tt) $ sets ! (of_opd ! (get ! refl)) refl typed $
    calls_at ! (framed 𝓤 𝓛.H 𝓜 𝓣) G (met 𝓤 𝓛 𝓜 𝓡 (code.calls-std_alloc::boxed::Box::into_raw_with_allocator 𝓡.env wired) T H laws heap_ok ghosts dict no_drop drops
    (heap_met.passed 𝓡.env (code.calls-std_heap::GlobalAllocator::allocate 𝓡.env wired) (code.calls-std_heap::GlobalAllocator::deallocate 𝓡.env wired) (code.calls-std_heap::GlobalAllocator::grow 𝓡.env wired) (code.calls-std_heap::GlobalAllocator::shrink 𝓡.env wired) M 𝓤 𝓛 𝓜 𝓡)
    (glues "pef_c::Destruct++none::drop" 𝓡.env (code.calls-pef_c::Destruct++none::drop 𝓡.env wired) H heap_ok M 𝓤 𝓛 𝓜 𝓡) glue) y (and_then ! (get ! refl) (no_more !)) (λ u.
    use1 𝓛 (later (some (λ (r : Ptr × Global). (tokens ⊛ ‵ (Pair.own_val r (u ∷ []))) ⊛ some (λ (ls : Lasts (g.ended T H ghosts dict no_drop drops) y.0.0 y.0.3). ‵ (lasts (g.ended T H ghosts dict no_drop drops) y.0.0 y.0.3 ls)
    ⊛ (raw (fact 𝓤 (r.1 ≡ x.alloc)) ⊛ ‵ (box_owns (ghosts.dealloc_token x.alloc) R r.0 x.value)))))) (id⊢ 𝓤 _) $
    await ! tt $ pick ! (λ r. split ! $ move ! (1 ∷ []) $ pick ! (λ ls. split3 ! $ drop ! $ drop ! $
    fpack ! Global (λ heap. box_owns (ghosts.dealloc_token heap) R r.0 x.value) x.alloc $ move ! (1 ∷ []) $ split ! $ move ! (1 ∷ []) $
    fpick ! (λ parts. fsplit ! $ feq_l ! (λ pair_is. fsplit ! $ feq_l ! (λ pointer_is. fsplit ! $ handle_tells heap_al ! r.1 parts.1.0 (λ h' heap_is fits'. drop ! $ drop ! $
    -- [the tokens; the value on the heap]
    lands_as ! (ap only (pair_is ∙ (λ i. vstruct (of_list (pointer_is i ++ (heap_is i ++ []))) ∷ []))) refl (pair_Typed ty_ptr (layout H) (ptr_val r.0) h' (pointer_typed r.0) fits') $
    sets ! (of_opd ! (get_in ! (fld ! refl (stop !)) (sub ! 0 refl (whole !)))) refl (pointer_typed r.0) $
    sets ! (agg ! (and_then ! (get ! refl) (no_more !))) refl (word_typed r.0) $ returns ! (look_at ! 0 refl) $ free_all ! refl $
    split3 ! $ use2 𝓛 (‵ (flft κ q)) (𝓛.lfts.lft_join κ q) $ join ! $ move ! (1 ∷ []) $ closed R ! r.0 $ fjoin ! $
    use0 𝓛 (raw (fact 𝓤 Kept)) (fact_i 𝓤 Kept (emp 𝓤) refl) $ nothing ! $ nothing ! $ fjoin ! $ move ! (3 ∷ 0 ∷ 2 ∷ 1 ∷ []) $
    by ! (leaves 𝓛 F stays c z (word r.0) (record { at = r.0; value = Some x.value }) (tt, tt) (tt, tt)))))))))))))
