-- The pointer is the same, and owns the same.
use Rattle.pef_c.proofs.WalkSteps.{◌≡◌, ◌++◌, List, [], ◌∷◌, refl, proved_at, leaves, Goes-blank, SProp, emp, ftrue, fact, fact_i, tables, Fn, Val, WpFn, alloc_all, pass_all, free_all, look_at, get, get_in, sets, ‵, raw, ◌⊛◌, prop, ◌$◌, ◌∵◌, !, qed, by, move, drop, split, fsplit, fjoin, use0, regoal, agg, sub, whole, stop, fld, of_opd, no_more, and_then, returns, enter, owns, types_at, plain, static_lft, nothing, alive, Stays, stay_dropped, walk_of}
use Rattle.pef_c.proofs.Pointers.{word, pointer_typed, word_typed, opened, closed}
use Rattle.cfm_prepare.specs.contracts.context.Context as context
use Rattle.pef_c.specs.contracts.contexts.handle.Handle as handle
use Rattle.pef_c.specs.contracts.contexts.handle.unseal as f
use Rattle.pef_c.proofs.contexts.handle.unseal.Statement.{statement}
use Rattle.pef_c.proofs.contexts.handle.unseal.Code as code

pub unseal_spec : {M : Type 1} → statement M
unseal_spec 𝓤 𝓛 𝓜 𝓡 wired =
    let 𝓣 = tables 𝓤 𝓛.H 𝓜 𝓡 𝓡.env in let c = f.clauses 𝓛 𝓜.mem 𝓡.returns in let fn : Fn = code.function in
    let R = context.the_row static_lft in let given = plain (λ _. handle.the_row) in
    let stays : Stays f.ended.signature.params f.ended.kept = (stay_dropped given f.ended.kept.0, tt) in
    proved_at 𝓛 f.ended stays c 𝓜 𝓡 (Goes-blank 𝓛 0 given f.ended.kept.0 (λ κs x w. tt), tt) f.Key.name fn (code.unfolded 𝓤 𝓛.H 𝓜 𝓡 wired) (λ z are.
    let x = z.0.3.0 in let vs = z.0.4.0 in let Post : Val → SProp 𝓤 = (walk_of 𝓛 f.ended stays c).post z in let Same : Type 0 = x.value ≡ x.value in
    qed 𝓛 ((raw (alive 𝓛 f.signature z.0.0 z.0.1) ⊛ ‵ (owns (types_at f.signature.params z.0.0) z.0.3 z.0.4)) ∷ ‵ ftrue ∷ []) ∵
    move ! (1 ∷ []) $ drop ! $ split ! $ move ! (1 ∷ []) $ fsplit ! $ move ! (1 ∷ []) $ drop ! $ fsplit ! $
    opened R ! x.at x.value vs (λ told. regoal ! (λ (us : List Val). prop (WpFn 𝓤 𝓛.H 𝓣.C 𝓣.Λ fn us Post)) (λ i. told i ++ []) refl $
    -- [the value on the heap; the tokens]
    enter ! 𝓣.C 𝓣.Λ fn (word x.at ∷ []) Post $ alloc_all ! (λ l. pass_all ! refl (word_typed x.at, tt) $
    sets ! (of_opd ! (get_in ! (fld ! refl (stop !)) (sub ! 0 refl (whole !)))) refl (pointer_typed x.at) $
    sets ! (of_opd ! (get ! refl)) refl (pointer_typed x.at) $
    sets ! (agg ! (and_then ! (get ! refl) (no_more !))) refl (word_typed x.at) $
    returns ! (look_at ! 0 refl) $ free_all ! refl $ closed R ! x.at $ fjoin ! $
    use0 𝓛 (raw (fact 𝓤 Same)) (fact_i 𝓤 Same (emp 𝓤) refl) $ nothing ! $ nothing ! $ fjoin ! $ move ! (3 ∷ 0 ∷ 2 ∷ 1 ∷ []) $
    by ! (leaves 𝓛 f.ended stays c z (word x.at) (record { at = x.at; value = x.value }) (tt, tt) (tt, tt)))))
