-- Which fragment a library entry means (Mac OS Runtime Architectures, "Code Fragment Manager",
-- "Preparing a Fragment"; the options are those of PEFImportedLibrary).
use Rattle.std.specs.Prelude.{ℕ, Bool, List, Option, None, Some, Result, Ok, Err, if◌then◌else◌}
use Rattle.std.specs.Option.{option_map_or}
use Rattle.std.specs.Result.{result_unwrap_or}
use Rattle.pef_format.specs.Symbols.{options_of}
use Rattle.pef_format.specs.declared.place.Part.TheVariants as part
use Rattle.pef_loader.specs.Library.{Library}
use Rattle.pef_loader.specs.Loader.{library_of}
use Rattle.cfm_closure.specs.declared.versions.Definition.{Definition}
use Rattle.cfm_closure.specs.declared.versions.Implementation.{Implementation}
use Rattle.cfm_closure.specs.declared.versions.Fit.{Fit}
use Rattle.cfm_closure.specs.declared.versions.Fit.TheVariants.{Fits, TooOld, TooNew}
use Rattle.cfm_store.specs.Stores.{Pair, place_of}
use Rattle.cfm_closure.specs.Versions.{fit_of}
use Rattle.pef_words.specs.Results.{◌>>=◌}
use Rattle.cfm_closure.specs.Faults.{BindRefusal, library_missing, implementation_too_old, implementation_too_new}
use Rattle.cfm_closure.specs.Fragments.{Fragment, fragment_of, part_place}

-- a weak library is absent, and any other is refused
abbrev pub absent_or : Bool → BindRefusal → Result (Option ℕ) BindRefusal
absent_or weak refusal = if weak then Ok None else Err refusal

-- the versions of a library entry, and of the found fragment
abbrev pub definition_of : Library → Definition
definition_of l = record { current = l.fields.current; old_imp = l.fields.old_imp }

abbrev pub implementation_of : Fragment → Implementation
implementation_of g = record { current = g.container.header.current_version; old_def = g.container.header.old_def_version }

-- how the versions of a library entry and of the found fragment fit
abbrev pub fit_with : Library → Fragment → Fit
fit_with l g = fit_of (definition_of l) (implementation_of g)

-- the found fragment, if its versions serve entry i of a fragment. A refusal is about oldImpVersion
abbrev pub bound_by : Fit → Fragment → ℕ → Library → Fragment → ℕ → Result (Option ℕ) BindRefusal
bound_by Fits f i l g q = Ok (Some q)
bound_by TooOld f i l g q = absent_or (options_of l.fields.options).weak (implementation_too_old f.name l.name (part_place f part.Library i 4) (definition_of l) (implementation_of g))
bound_by TooNew f i l g q = absent_or (options_of l.fields.options).weak (implementation_too_new f.name l.name (part_place f part.Library i 4) (definition_of l) (implementation_of g))

-- the found fragment is read, also for a weak library, and then its versions are checked. A refusal is about the name
abbrev pub bound_at : List Pair → Fragment → ℕ → Library → Option ℕ → Result (Option ℕ) BindRefusal
bound_at pairs f i l None = absent_or (options_of l.fields.options).weak (library_missing f.name l.name (part_place f part.Library i 0))
bound_at pairs f i l (Some q) = fragment_of pairs q >>= (λ g. bound_by (fit_with l g) f i l g q)

-- the fragment of a library entry of a fragment: one of the store, or none if it is absent
unfoldable pub bound : List Pair → Fragment → ℕ → Library → Result (Option ℕ) BindRefusal
bound pairs f i l = bound_at pairs f i l (place_of pairs l.name)

-- the fragment of library entry l of the fragment in a place; none past the last entry
unfoldable pub bound_to : List Pair → ℕ → ℕ → Result (Option ℕ) BindRefusal
bound_to pairs p l = fragment_of pairs p >>= (λ f. option_map_or (bound pairs f l) (library_of f.loader l) (Ok None))

-- the fragment of entry l, if it exists
abbrev pub library_at : List Pair → ℕ → ℕ → Option ℕ
library_at pairs p l = result_unwrap_or (bound_to pairs p l) None
