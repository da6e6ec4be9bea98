-- The next row of a table of fragments.
use Rattle.std.proofs.Common.{◌≡◌, ◌∷◌, ◌++◌, ◌∙◌, Bool, List, Option, Result, ap, sym}
use Rattle.cfm_members.specs.Members.{MemberIs}
use Rattle.cfm_members.specs.declared.fault.MemberFault.{MemberFault}
use Rattle.mac_rows.specs.Fragments.{FragmentIs, fragment_in, fragments_text, maybe_fragment, stays_first}
use Rattle.mac_rows.specs.MacParts.{MemberTableIs}
use Rattle.mac_rows.specs.declared.output_format.OutputFormat.{OutputFormat}

pub next_row : (form : OutputFormat) (is_first : Bool) (t : MemberTableIs) (rows others : List (Result MemberIs MemberFault)) (row : Result MemberIs MemberFault) (fragment : Option FragmentIs)
    → rows ≡ row ∷ others → fragment ≡ fragment_in t row
    → fragments_text form is_first t rows ≡ maybe_fragment form is_first fragment ++ fragments_text form (stays_first is_first fragment) t others
next_row form is_first t rows others row fragment is fragment_is =
    ap (fragments_text form is_first t) is ∙ ap (λ (f : Option FragmentIs). maybe_fragment form is_first f ++ fragments_text form (stays_first is_first f) t others) (sym fragment_is)
