-- What the handles own.
use Rattle.std.specs.Prelude.{Option, None, Some}
use base.Fml.{Fml, fex, ftrue}
use denote.RattleType.{RattleType}
use denote.RawPtr.{Ptr}
use denote.Signature.{static_lft}
use Rattle.std.specs.Box.Ownership.{box_owns}
use Rattle.std.specs.declared.alloc.Global.{Global}
use Rattle.std.specs.contracts.impls.GlobalAllocator.TheImpl.{ghosts}
use Rattle.cfm_prepare.specs.contracts.context.Context as context
use Rattle.cfm_prepare.specs.Contexts.{ContextState}
use Rattle.pef_c.specs.contracts.reports.unread.Unread as unread
use Rattle.pef_c.specs.declared.reports.unread.Unread.{Unread}

-- a value on the heap, with the right to free its block; or nothing
abbrev pub boxed : (R : RattleType) → Ptr → Option R.Denot → Fml
boxed R p None = ftrue
boxed R p (Some x) = fex Global (λ heap. box_owns (ghosts.dealloc_token heap) R p x)

-- a context, or nothing
abbrev pub handle_owns : Ptr → Option ContextState → Fml
handle_owns p held = boxed (context.the_row static_lft) p held

-- a text that is read part by part, or nothing
abbrev pub text_owns : Ptr → Option Unread → Fml
text_owns p held = boxed (unread.the_row static_lft) p held
