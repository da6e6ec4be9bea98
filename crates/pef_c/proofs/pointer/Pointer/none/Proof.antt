-- A null pointer owns nothing.
use Rattle.pef_c.proofs.WalkSteps.{◌≡◌, [], ◌∷◌, Option, None, refl, proved_at, leaves, SProp, emp, ftrue, fact, fact_i, tables, inst_fn, Fn, Args, a_type, dcons, dnil, Val, alloc_all, pass_all, free_all, look_at, sets, ‵, raw, ◌⊛◌, ◌$◌, ◌∵◌, !, qed, by, move, drop, split, fjoin, use0, agg, lit, no_more, and_then, returns, enter, param, bounded, RattleType, null_ptr, nothing, Ended, alive, Stays, walk_of}
use Rattle.pef_c.proofs.Pointers.{word, word_typed, closed}
use Rattle.pef_c.specs.contracts.pointer.Pointer.none as f
use Rattle.pef_c.proofs.pointer.Pointer.none.Statement.{statement}
use Rattle.pef_c.proofs.pointer.Pointer.none.Code as code

pub none_spec : {M : Type 1} → statement M
none_spec 𝓤 𝓛 𝓜 𝓡 wired T laws drops glue =
    let 𝓣 = tables 𝓤 𝓛.H 𝓜 𝓡 𝓡.env in let E : Ended = f.ended T drops in let c = f.clauses T drops 𝓛 𝓜.mem 𝓡.returns in
    let args : Args = bounded (a_type ∷ []) (T, tt) (dcons drops dnil) in let fn : Fn = inst_fn args code.function in let R : RattleType = param 0 T in
    let stays : Stays E.signature.params E.kept = tt in
    proved_at 𝓛 E stays c 𝓜 𝓡 tt (f.Key.name args) fn (code.unfolded 𝓤 𝓛.H 𝓜 𝓡 wired (T, tt) drops) (λ z are.
    let Post : Val → SProp 𝓤 = (walk_of 𝓛 E stays c).post z in let empty : Option T.Denot = None in let Empty : Type 0 = empty ≡ empty in
    qed 𝓛 ((raw (alive 𝓛 E.signature z.0.0 z.0.1) ⊛ ‵ ftrue) ∷ raw ((c z.0.0 z.0.3).requires z.1) ∷ []) ∵ move ! (1 ∷ []) $ drop ! $ split ! $ move ! (1 ∷ []) $
    -- [owning nothing; the tokens]
    enter ! 𝓣.C 𝓣.Λ fn [] Post $ alloc_all ! (λ l. pass_all ! refl tt $
    sets ! (agg ! (and_then ! (lit ! tt) (no_more !))) refl (word_typed null_ptr) $
    returns ! (look_at ! 0 refl) $ free_all ! refl $ closed R ! null_ptr $ fjoin ! $
    use0 𝓛 (raw (fact 𝓤 Empty)) (fact_i 𝓤 Empty (emp 𝓤) refl) $ nothing ! $ move ! (3 ∷ 0 ∷ 2 ∷ 1 ∷ []) $
    by ! (leaves 𝓛 E stays c z (word null_ptr) (record { at = null_ptr; value = None }) tt tt)))
