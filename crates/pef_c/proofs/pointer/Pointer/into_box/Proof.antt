-- The pointer gives the box, which owns what the pointer owned.
use Rattle.pef_c.proofs.WalkSteps.{◌≡◌, ◌++◌, ◌∙◌, List, [], ◌∷◌, Some, true, refl, sym, ap, subst, proved_at, leaves, Goes-blank, handle_tells, after, Good, box_out, box_in, pair_Typed, SProp, emp, id⊢, ftrue, flft, ◌⊑◌, ⊑_static, fact, fact_i, tables, inst_fn, Fn, Args, a_type, dcons, dnil, ty_ptr, Val, vptr, WpFn, Env, alloc_all, pass_all, free_all, look_at, get, get_in, sets, lands_last, env, ‵, raw, ◌⊛◌, some, later, prop, at_ret, ◌$◌, ◌∵◌, !, qed, by, move, drop, split, split3, join, fsplit, fjoin, pick, use0, use1, use2, await, rewrite, regoal, feq_i, sub, whole, stop, fld, of_opd, no_more, and_then, first, blocks, exec, returns, enter, param, bounded, layout, RattleType, owns, ptr_val, types_at, plain, nothing, only, heard, calls_at_last, Ended, Lasts, lasts, triple_of, framed, Stays, stay_dropped, walk_of, Goes-dropped}
use Rattle.std.proofs.impls.GlobalAllocator.TheImpl.Met as heap_met
use Rattle.std.specs.contracts.alloc.Global as heap
use Rattle.std.specs.contracts.impls.GlobalAllocator.TheImpl.{ghosts, dict}
use Rattle.std_alloc.proofs.BoxSteps.Form as box
use base.Share
use denote.Param.NoDrop.{glues}
use Rattle.std.specs.Option.{is_some}
use Rattle.pef_c.specs.contracts.pointer.Pointer as pointer
use Rattle.pef_c.proofs.Pointers.{heap_row, heap_ok, no_drop, heap_al, word, pointer_typed, word_typed, opened, full}
use Rattle.std_alloc.specs.contracts.boxed.Box.from_raw as g
use Rattle.std_alloc.proofs.boxed.Box.from_raw.Met.{met}
use Rattle.pef_c.specs.contracts.pointer.Pointer.into_box as f
use Rattle.pef_c.proofs.pointer.Pointer.into_box.Statement.{statement}
use Rattle.pef_c.proofs.pointer.Pointer.into_box.Code as code

pub into_box_spec : {M : Type 1} → statement M
unfolding Rattle.pef_c.proofs.Destruct++none.drop.Code.code
into_box_spec {M} 𝓤 𝓛 𝓜 𝓡 wired T laws drops glue =
    let 𝓣 = tables 𝓤 𝓛.H 𝓜 𝓡 𝓡.env in let F : Ended = f.ended T drops in let c = f.clauses T drops 𝓛 𝓜.mem 𝓡.returns in
    let args : Args = bounded (a_type ∷ []) (T, tt) (dcons drops dnil) in let fn : Fn = inst_fn args code.function in let R : RattleType = param 0 T in
    let H : RattleType = heap_row in
    let E : box.Bx = record { row = T; laws = laws; al = heap_al } in let Boxed : RattleType = box.B E in let given = plain (λ _. pointer.the_row R) in let alone = plain (λ _. heap.the_row) in
    let stays : Stays F.signature.params F.kept = (stay_dropped given F.kept.0, (stay_dropped alone F.kept.1.0, tt)) in
    proved_at 𝓛 F stays c 𝓜 𝓡 (Goes-blank 𝓛 1 given F.kept.0 (λ κs x w. tt), (Goes-dropped 𝓛 1 alone F.kept.1.0 (λ κs x w. refl), tt)) (f.Key.name args) fn (code.unfolded 𝓤 𝓛.H 𝓜 𝓡 wired (T, tt) drops) (λ z are.
    let κ = z.0.0.0 in let q = z.0.1.0 in let v = z.0.3.0 in let a = z.0.3.1.0 in let Post : Val → SProp 𝓤 = (walk_of 𝓛 F stays c).post z in
    let Alive : Type 0 = κ ⊑ T.lives in let Static : Type 0 = κ ⊑ H.lives in let Full : Type 0 = is_some v.value ≡ true in
    let tokens = ‵ (flft κ (Share.left q)) ⊛ (‵ (flft κ (Share.right q)) ⊛ ‵ ftrue) in
    qed 𝓛 (((‵ (flft κ q) ⊛ ‵ ftrue) ⊛ ‵ (owns (types_at F.signature.params z.0.0) z.0.3 z.0.4)) ∷ (raw (fact 𝓤 Alive) ⊛ raw (fact 𝓤 Full)) ∷ []) ∵
    move ! (1 ∷ []) $ split ! $ heard ! Alive (λ alive. heard ! Full (λ some_value. split ! $ split ! $ move ! (2 ∷ []) $ fsplit ! $ fsplit ! $
    opened R ! v.at v.value z.0.4.0 (λ told. full R ! v.at v.value some_value (λ heap x is. move ! (1 ∷ []) $ fsplit ! $ handle_tells heap_al ! a z.0.4.1.0 (λ h heap_is fits.
    -- [the allocator; nothing; the value; the token; nothing]
    let G = triple_of 𝓛 (g.signature T H ghosts dict no_drop) (g.spec T H ghosts dict no_drop 𝓛 𝓜.mem 𝓡.returns) in
    let y : G.Ghost = (((κ, (κ, tt)), (Share.left q, (Share.right q, tt)), tt, (a, (v.at, tt)), (h ∷ [], (ptr_val v.at ∷ [], tt))), x) in
    move ! (1 ∷ []) $ feq_i ! (List Val) (ptr_val v.at ∷ []) (ptr_val v.at ∷ []) refl $ fjoin ! $ move ! (1 ∷ 0 ∷ []) $ fjoin ! $
    move ! (2 ∷ []) $ use1 𝓛 (‵ (flft κ (Share.left q)) ⊛ ‵ (flft κ (Share.right q))) (𝓛.lfts.lft_split κ q) $ split ! $
    move ! (1 ∷ 4 ∷ []) $ join ! $ move ! (1 ∷ 0 ∷ []) $ join ! $ join ! $ move ! (1 ∷ []) $ use0 𝓛 (raw (fact 𝓤 Static)) (fact_i 𝓤 Static (emp 𝓤) (⊑_static κ)) $ join ! $
    use0 𝓛 (raw (fact 𝓤 Alive)) (fact_i 𝓤 Alive (emp 𝓤) alive) $ join ! $ move ! (1 ∷ 0 ∷ []) $ join ! $ use1 𝓛 (raw (G.pre y)) (id⊢ 𝓤 _) $
    regoal ! (λ (us : List Val). prop (WpFn 𝓤 𝓛.H 𝓣.C 𝓣.Λ fn us Post)) (λ i. told i ++ (heap_is i ++ [])) refl $
    enter ! 𝓣.C 𝓣.Λ fn (word v.at ∷ h ∷ []) Post $ alloc_all ! (λ l. pass_all ! refl (word_typed v.at, (fits, tt)) $ let En : Env 𝓤 𝓛.H = env fn.locals l in
    sets ! (of_opd ! (get_in ! (fld ! refl (stop !)) (sub ! 0 refl (whole !)))) refl (pointer_typed v.at) $ first ! $ blocks ! $
    calls_at_last ! (framed 𝓤 𝓛.H 𝓜 𝓣) G (met 𝓤 𝓛 𝓜 𝓡 (code.calls-std_alloc::boxed::Box::from_raw 𝓡.env wired) T H laws heap_ok ghosts dict no_drop
    (heap_met.passed 𝓡.env (code.calls-std_heap::GlobalAllocator::allocate 𝓡.env wired) (code.calls-std_heap::GlobalAllocator::deallocate 𝓡.env wired) (code.calls-std_heap::GlobalAllocator::grow 𝓡.env wired) (code.calls-std_heap::GlobalAllocator::shrink 𝓡.env wired) M 𝓤 𝓛 𝓜 𝓡)
    (glues "pef_c::Destruct++none::drop" 𝓡.env (code.calls-pef_c::Destruct++none::drop 𝓡.env wired) H heap_ok M 𝓤 𝓛 𝓜 𝓡)) y (and_then ! (get ! refl) (and_then ! (get ! refl) (no_more !))) (λ u.
    use1 𝓛 (later (some (λ (r : Boxed.Denot). (tokens ⊛ ‵ (Boxed.own_val r (u ∷ []))) ⊛ some (λ (ls : Lasts (g.ended T H ghosts dict no_drop) y.0.0 y.0.3). ‵ (lasts (g.ended T H ghosts dict no_drop) y.0.0 y.0.3 ls)
    ⊛ (raw (fact 𝓤 (r.value ≡ x)) ⊛ raw (fact 𝓤 (r.alloc ≡ a))))))) (id⊢ 𝓤 _) $
    await ! tt $ pick ! (λ r. split ! $ move ! (1 ∷ []) $ pick ! (λ ls. split3 ! $ drop ! $ heard ! (r.value ≡ x) (λ same. drop ! $ split ! $ move ! (1 ∷ []) $
    box_out E ! r (u ∷ []) (λ b o h' at us fits'. box_in E ! r b o r.value at refl $ rewrite ! 0 (λ (ws : List Val). ‵ (Boxed.own_val r ws)) (sym us) refl $
    -- [the box; the tokens]
    let typed = subst (Good (layout Boxed)) (sym (ap only us)) (pair_Typed ty_ptr (layout H) (vptr b o) h' (tt, tt) fits') in
    lands_last ! refl typed $ exec ! 𝓣.C 𝓣.Λ En (after 2 fn.body) (at_ret En Post) $ sets ! (of_opd ! (get ! refl)) refl typed $ returns ! (look_at ! 0 refl) $ free_all ! refl $
    move ! (1 ∷ []) $ split3 ! $ use2 𝓛 (‵ (flft κ q)) (𝓛.lfts.lft_join κ q) $ join ! $
    use0 𝓛 (raw (fact 𝓤 (Some r.value ≡ v.value))) (fact_i 𝓤 (Some r.value ≡ v.value) (emp 𝓤) (ap Some same ∙ is)) $ nothing ! $ nothing ! $ fjoin ! $ nothing ! $ fjoin ! $ move ! (2 ∷ 0 ∷ 3 ∷ 1 ∷ []) $
    by ! (leaves 𝓛 F stays c z u r (tt, (tt, tt)) (tt, (tt, tt)))))))))))))))
