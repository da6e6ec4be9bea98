-- The names that the proofs by hand cite.
pub use Rattle.std.proofs.Common.{◌≡◌, ◌++◌, ◌∙◌, List, [], ◌∷◌, Option, None, Some, true, refl, sym, ap, subst}
pub use Rattle.std.proofs.raw_atomic.Walks.{proved_at, leaves}
pub use Rattle.core.proofs.alloc.Calls.{Goes-blank, handle_tells}
pub use Rattle.core.proofs.alloc.Shapes.{after}
pub use Rattle.core.proofs.cell.Inside.{Good}
pub use Rattle.std.specs.Box.Ownership.{box_owns}
pub use Rattle.std_alloc.proofs.BoxSteps.Steps.{box_out, box_in}
pub use Rattle.std_alloc.proofs.Pairs.{pair_Typed}
pub use base.Logic.{SProp, emp, id⊢}
pub use base.Fml.{ftrue, flft}
pub use contract.BorrowLft.{◌⊑◌, ⊑_static}
pub use contract.Monad.{fact, fact_i}
pub use contract.Running.{tables}
pub use mir.MapTy.{inst_fn}
pub use mir.Syntax.{Fn, Args, a_type, dcons, dnil, ty_ptr}
pub use mir.Val.{Val, vptr, vstruct, of_list}
pub use prog.Wp.{WpFn, Env}
pub use types.ByLocal.{alloc_all, pass_all, free_all, look_at, get, get_in, sets, lands_as, lands_last, env}
pub use types.Kit.{‵, raw, ◌⊛◌, some, later, prop, at_ret, ◌$◌, ◌∵◌, !, qed, by, move, drop, split, split3, join, fsplit, fjoin, fpick, fpack, pick, use0, use1, use2, await, rewrite, regoal, feq_l, feq_i}
pub use types.Part.{agg, sub, whole}
pub use types.Run.{stop, fld, lit, of_opd, no_more, and_then, first, blocks, exec, returns, enter}
pub use denote.Builtin.{RawPtr}
pub use denote.Param.{param, bounded, layout}
pub use denote.RattleType.{RattleType, owns}
pub use denote.RawPtr.{Ptr, null_ptr, ptr_val}
pub use denote.Signature.{types_at, plain, static_lft}
pub use denote.Steps.{nothing, only, heard}
pub use denote.Struct.Tuple.{Tuple}
pub use denote.Triple.Call.{calls_at, calls_at_last}
pub use denote.Triple.Clauses.{Ended, Lasts, lasts}
pub use denote.Triple.Entry.{alive}
pub use denote.Triple.Spec.{triple_of}
pub use denote.Triple.Table.{framed}
pub use denote.Triple.Walked.{Stays, stay_dropped, walk_of, Goes-dropped}
