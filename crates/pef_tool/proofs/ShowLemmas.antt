-- A script that is linked and prepared alone is shown as the script describes. Only its closure, room or memory can be
-- missing, and its bytes are never the reason.
use Rattle.std.proofs.Common.{◌≡◌, ℕ, zero, suc, List, [], ◌∷◌, Some, Ok, Err, Contains, codes, inl, inr, refl, sym, ap, subst, ◌∙◌, arith}
use Rattle.std.specs.Option.{option_and_then, option_map_or, unwrap_or}
use Rattle.cfm_store.specs.Stores.{Pair, name_at, pair_of}
use Rattle.cfm_closure.specs.Faults.{BindRefusal, FailsAs}
use Rattle.cfm_closure.specs.Fragments.{loader_at}
use Rattle.cfm_closure.specs.declared.fault.BindFault.{BindFault}
use Rattle.cfm_closure.specs.declared.fault.BindFault.TheVariants as bind_fault
use Rattle.cfm_closure.specs.Closures.{Closed, closed_of}
use Rattle.cfm_closure.specs.Promises.{AllRead, IsOfBinding}
use Rattle.cfm_closure.proofs.Laws.{closed-refused}
use Rattle.cfm_prepare.proofs.Laws.{lacks-room}
use Rattle.cfm_sections.specs.Prepared.{entry_address}
use Rattle.cfm_memory.specs.Extents.{LackRoom, no_instances}
use Rattle.cfm_prepare.specs.Fragments.{extents_in, places_of}
use Rattle.cfm_prepare.specs.Placing.{LacksRoom}
use Rattle.cfm_prepare.specs.declared.fragment_fault.FragmentFault.TheVariants as fragment_fault
use Rattle.cfm_prepare.specs.Contexts.{ContextState, Open, fresh_state}
use Rattle.cfm_prepare.specs.Readers.{entries_of, main_address}
use Rattle.cfm_prepare.specs.Steps.{MayNotPrepare, Prepares}
use Rattle.cfm_prepare.specs.declared.fault.PrepareFault.{PrepareFault}
use Rattle.cfm_prepare.specs.declared.fault.PrepareFault.TheVariants as prepare_fault
use Rattle.pef_faults.specs.declared.fault.Fault.TheVariants.{Prepare}
use Rattle.pef_loader.specs.Loader.{init_of, main_of, term_of}
use Rattle.pef_script.specs.Script.{DescribedScript}
use Rattle.pef_write.specs.Linked.{IsLinked, IsLinkedContainer, LinkedContainer}
use Rattle.pef_tool.specs.Kept.Rooted.{RootEnds, RootOutcome, root_answer}
use Rattle.pef_tool.specs.Kept.Rooted as rooted
use Rattle.pef_tool.specs.Kept.Showing.{ScriptEnds}
use Rattle.pef_tool.specs.Limits.{memory_limit}
use Rattle.pef_headline.specs.Now.{described_extents}
use Rattle.pef_headline.specs.Others.{HasForeign}
use Rattle.pef_tool.specs.Show.{FailsToBind, IsShown, ShowOutcome, single_store, refuses, show_answer, shows}
use Rattle.pef_tool.proofs.AloneLemmas.{is-found, new-is, open-is, prepared-alone, root-is}
use Rattle.pef_headline.proofs.Laws.{described-from, extents-in, extents_are, linked-read, linked_fragment, loader-is, read_as_linked, refused-image, refused-program}

-- if all fragments are read, the refusal of a closure isn't because of their bytes
fails_to_bind : (bytes : List ℕ) (fault : BindFault) → ((r : BindRefusal) → closed_of (single_store bytes) 0 ≡ Err r → IsOfBinding r) → FailsAs fault (closed_of (single_store bytes) 0) → FailsToBind bytes fault
fails_to_bind bytes (bind_fault.Container f v) of fails = of _ fails
fails_to_bind bytes (bind_fault.Loader f v place) of fails = of _ fails
fails_to_bind bytes (bind_fault.LibraryMissing f l place) of fails = fails
fails_to_bind bytes (bind_fault.SymbolMissing f l s place) of fails = fails
fails_to_bind bytes (bind_fault.ImplementationTooOld f l place needed found) of fails = fails
fails_to_bind bytes (bind_fault.ImplementationTooNew f l place needed found) of fails = fails
fails_to_bind bytes (bind_fault.ReexportLoop f s place) of fails = fails
fails_to_bind bytes (bind_fault.InitLoop f place) of fails = fails
fails_to_bind bytes bind_fault.OutOfMemory of fails = fails

-- the elements of a list with the first position alone
only-first : (p : ℕ) → Contains (0 ∷ []) p → p ≡ 0
only-first p (zero, low, is) = sym is
only-first p (suc k, low, is) = absurd (omega (arith, low))

-- how `show` ends with a script whose preparation ends in this way, in the same words
pub record EndsRooted (script : DescribedScript) (root : RootOutcome) : Type 0 where
  pub outcome : ShowOutcome
  pub ends : ScriptEnds script outcome
  pub said : show_answer outcome ≡ root_answer root

module _ (script : DescribedScript) (k : LinkedContainer) (link : IsLinkedContainer script k) where
  abbrev linked : IsLinked script k
  linked = link.certified.linked

  abbrev alone : List Pair
  alone = single_store k.bytes

  abbrev start : ContextState
  start = fresh_state alone memory_limit

  -- the prepared fragment is what the script describes
  shown_of : (s : ContextState) (number : ℕ) → Prepares start (codes "it") number s → IsShown script s number
  shown_of s number done =
      let stands = prepared-alone k.bytes memory_limit s number done in
      let described = described-from script k linked alone 0 refl s stands.now in
      let places = places_of s.present 0 in
      let loader = loader-is script k linked alone 0 refl in
      let tables = (read_as_linked script k linked alone 0 refl).of.tables in
      let connected = open-is k.bytes memory_limit s number done in
      let main : option_and_then main_of (loader_at alone 0) ≡ script.main = ap (option_and_then main_of) loader ∙ tables.main in
      record {
        container = k;
        linked = link;
        prepared = done;
        alone = record {
          name = ap (λ pairs. unwrap_or (name_at pairs 0) []) done.pairs;
          order = ap (λ x. option_map_or (λ (o : Open). o.closed.order) x []) connected;
          init_order = ap (λ x. option_map_or (λ (o : Open). o.closed.init_order) x []) connected;
          entries = ap (option_and_then (λ (o : Open). entries_of s.present o 0)) connected
              ∙ ap Some (rw (ap (option_and_then init_of) loader ∙ tables.init, main, ap (option_and_then term_of) loader ∙ tables.term) refl);
          main = ap (option_and_then (main_address s.present)) connected ∙ ap (entry_address places) main;
        };
        described = described.0;
        lowest = described.2 ∙ stands.lowest;
        first = described.1 ∙ stands.first;
        others = stands.others;
      }

  -- if it is refused for lack of room, its sections find none, and the refusal names it
  no_room : (new : List ℕ) (name : List ℕ) → new ≡ 0 ∷ [] → LacksRoom alone (no_instances memory_limit) new name → LackRoom (no_instances memory_limit) (described_extents script) × (name ≡ codes "it")
  no_room new name is lacks =
      let fragment = linked_fragment script k linked alone 0 refl in
      let P : List ℕ → Type 0 = λ ps. LacksRoom alone (no_instances memory_limit) ps name in
      let extents = extents-in script k linked alone 0 refl ∙ extents_are script k linked fragment.container fragment.loader (read_as_linked script k linked alone 0 refl).of in
      go extents (subst P is lacks)
    where
      go : extents_in alone 0 ≡ described_extents script → LacksRoom alone (no_instances memory_limit) (0 ∷ []) name → LackRoom (no_instances memory_limit) (described_extents script) × (name ≡ codes "it")
      go extents (inl here) = (subst (λ es. LackRoom (no_instances memory_limit) es) extents here.0, here.1)
      go extents (inr later) = absurd (later.3)

  -- its closure is that of the first position
  closure_there : (root : ℕ) (closed : Closed) → root ≡ 0 → closed_of alone root ≡ Ok closed → closed_of alone 0 ≡ Ok closed
  closure_there root closed is has = subst (λ (p : ℕ). closed_of alone p ≡ Ok closed) is has

  -- no fragment of it is one that wasn't linked
  all_linked : (new : List ℕ) (name : List ℕ) → new ≡ 0 ∷ [] → HasForeign alone new name → ⊥
  all_linked new name is has =
      let at = only-first has.position (subst (λ ps. Contains ps has.position) is has.member) in
      has.foreign script (record { container = k; linked = linked; bytes = ap (λ p. (pair_of alone p).bytes) at })

  all_read : AllRead alone
  all_read zero inside = linked-read script k alone 0 linked refl
  all_read (suc p) inside = absurd (omega (arith, inside))

  lacks_closure : (root : ℕ) (fault : BindFault) → root ≡ 0 → FailsAs fault (closed_of alone root) → FailsToBind k.bytes fault
  lacks_closure root fault is fails =
      let P : ℕ → Type 0 = λ p. FailsAs fault (closed_of alone p) in
      fails_to_bind k.bytes fault (λ r refused. closed-refused alone all_read 0 r (omega arith) refused) (subst P is fails)

  -- so the only reasons why it isn't prepared are a missing closure, missing room or a failed allocation
  unprepared : (fault : PrepareFault) → MayNotPrepare start (codes "it") fault → EndsRooted script (rooted.refuses fault)
  unprepared prepare_fault.TooManyConnections why = absurd (omega (arith, why))
  unprepared prepare_fault.RootMissing why = absurd (is-found k.bytes why.1)
  unprepared (prepare_fault.Bind f) why = record {
    outcome = refuses (Prepare (prepare_fault.Bind f));
    ends = record { container = k; linked = link; fails = lacks_closure why.0.root f (root-is k.bytes why.0.root why.0.is) why.1 };
    said = refl;
  }
  unprepared (prepare_fault.TooManyBytes f) why = absurd why.passes
  unprepared (prepare_fault.TooManyStepsInAll f) why = absurd why.passes
  unprepared (prepare_fault.Fragment (fragment_fault.NoRoom f place)) why =
      let lacks = no_room _ f.now (new-is k.bytes memory_limit why.closure) (lacks-room _ _ _ _ f.now place why.why) in
      record {
        outcome = refuses (Prepare (prepare_fault.Fragment (fragment_fault.NoRoom f place)));
        ends = record {
          container = k;
          linked = link;
          closed = why.closure.closed;
          closure = closure_there why.closure.has.root why.closure.closed (root-is k.bytes why.closure.has.root why.closure.has.is) why.closure.is;
          lacks = lacks.0;
          refused = why;
          said = lacks.1;
        };
        said = refl;
      }
  unprepared (prepare_fault.Fragment (fragment_fault.Pack f e place)) why = absurd (all_linked _ f.now (new-is k.bytes memory_limit why.closure) (refused-image alone (no_instances memory_limit) _ f.now (record { fault = e; place = place }) why.why))
  unprepared (prepare_fault.Fragment (fragment_fault.Reloc f e section place)) why = absurd (all_linked _ f.now (new-is k.bytes memory_limit why.closure) (refused-program alone [] (no_instances memory_limit) _ f.now (record { fault = e; section = section; place = place }) why.why))
  unprepared (prepare_fault.Fragment fragment_fault.OutOfMemory) why = record { outcome = refuses (Prepare (prepare_fault.Fragment fragment_fault.OutOfMemory)); ends = tt; said = refl }
  unprepared prepare_fault.OutOfMemory why = record { outcome = refuses (Prepare prepare_fault.OutOfMemory); ends = tt; said = refl }

  -- `show` ends with it as its preparation does
  pub root-shown : (root : RootOutcome) → RootEnds alone (codes "it") root → EndsRooted script root
  root-shown (rooted.prepares s number) done = record { outcome = shows s number; ends = shown_of s number done; said = refl }
  root-shown (rooted.refuses fault) why = unprepared fault why
