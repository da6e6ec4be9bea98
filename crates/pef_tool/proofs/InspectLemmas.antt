-- How the files of `inspect` add up.
use Rattle.std.proofs.Common.{◌≡◌, ◌+◌, ◌-◌, ◌^◌, ℕ, List, [], ◌∷◌, ◌++◌, Option, None, Some, Result, Ok, Err, codes, IfErr, IfOk, min, refl, sym, subst, append_assoc, append-nil, ◌∙◌, IsErrAnd, inr}
use Rattle.std.specs.declared.alloc.Global.{Global}
use Rattle.std.specs.declared.vec.Vec.{Vec}
use Rattle.mac_rows.specs.DataFiles.{DataFileIs}
use Rattle.mac_rows.specs.Unread.{unread_because, unread_counts, unread_text}
use Rattle.mac_rows.specs.declared.output_format.OutputFormat.{OutputFormat}
use Rattle.pef_faults.specs.Faults.{fault_name, fault_number, fault_reason}
use Rattle.pef_faults.specs.declared.fault.Fault.{Fault}
use Rattle.pef_faults.specs.declared.fault.Fault.TheVariants as fault
use Rattle.pef_ports.specs.Ports.{FilesPort, Grows, Reads, Stream}
use Rattle.pef_ports.specs.Sent.{Prints, StopsShort}
use Rattle.pef_ports.specs.declared.input.InputFault.TheVariants.{Unreadable, OutOfMemory}
use Rattle.pef_ports.proofs.Laws.Sending.{Prints-then, StopsShort-longer, StopsShort-then, sent-nothing}
use Rattle.pef_tool.specs.Companions.{CompanionIs}
use Rattle.pef_tool.specs.Inspect.{Inspects, IsPrinted, IsPrintedBeside, ReadsPath, Reported}
use Rattle.pef_tool.specs.Kept.Inspecting.{read_seen}
use Rattle.pef_tool.specs.Reading.{StopsFile}

module _ {F : Type 0} (port : FilesPort F) (before after : F) (path : List ℕ) where
  -- a file that wasn't read
  path_failed : (why : Fault) → StopsFile port before after path why → ReadsPath port before after path (Err why)
  path_failed (fault.Unreadable told reason) stops = stops
  path_failed fault.OutOfMemory stops = stops
  path_failed (fault.Unwritable told reason) stops = absurd stops
  path_failed (fault.Script f told) stops = absurd stops
  path_failed (fault.Listing f) stops = absurd stops
  path_failed (fault.Certificate f) stops = absurd stops
  path_failed fault.SectionsDiffer stops = absurd stops
  path_failed (fault.Input f) stops = absurd stops
  path_failed (fault.Prepare f) stops = absurd stops
  path_failed (fault.Fragment f) stops = absurd stops
  path_failed (fault.Untold path why) stops = absurd stops
  path_failed fault.StoreFull stops = absurd stops
  path_failed (fault.Stub f) stops = absurd stops

  -- the result of reading a file
  pub path_read : (r : Result (Vec ℕ Global) Fault) → IfOk r (λ bytes. Reads port before after path (Ok bytes.items)) → IfErr r (λ why. StopsFile port before after path why)
      → ReadsPath port before after path (read_seen r)
  path_read (Ok bytes) read refused = read
  path_read (Err why) read refused = path_failed why refused

-- what was sent of the first files, and what the files that are left add to it
pub record HasInspected {F R : Type 0} (port : FilesPort F) (stream : R → Stream) (form : OutputFormat) (first files : F) (start input : R) (before after : Stream) (page : List ℕ) (paths : List (List ℕ)) (errors : ℕ) (left : List (List ℕ)) : Type 0 where
  pub sent : List ℕ
  pub prints : Prints before after [] page sent
  pub inspects : (last : F) (end : R) (text : List ℕ) (all : ℕ) → Inspects port stream form files last input end left errors text all → Inspects port stream form first last start end paths 0 (sent ++ text) all

module _ {F R : Type 0} (port : FilesPort F) (stream : R → Stream) (form : OutputFormat) where
  -- a file that wasn't reached has a report
  unreached : (files : F) (input : R) (path : List ℕ)
      → Reported port stream None form files files input input path (unread_because form path (fault_number fault.OutOfMemory) (fault_name fault.OutOfMemory) (fault_reason fault.OutOfMemory)) 1
  unreached files input path = record {
    read = Err fault.OutOfMemory;
    companion = None;
    pair = record { between = files; rest = input; is = inr (refl, refl, refl); looks = ((refl, refl), refl) };
    printed = record {
      own = unread_because form path (fault_number fault.OutOfMemory) (fault_name fault.OutOfMemory) (fault_reason fault.OutOfMemory);
      own_errors = 1;
      beside = [];
      beside_errors = 0;
      first = (refl, refl);
      second = (refl, refl);
      texts = sym (append-nil _);
      sum = refl;
    };
  }

  -- files that weren't reached have some reports
  some_reports : (files : F) (input : R) (paths : List (List ℕ)) (errors : ℕ) → (text : List ℕ) × (all : ℕ) × Inspects port stream form files files input input paths errors text all
  some_reports files input [] errors = ([], errors, (refl, refl, refl, refl))
  some_reports files input (path ∷ paths) errors =
      let here = unread_because form path (fault_number fault.OutOfMemory) (fault_name fault.OutOfMemory) (fault_reason fault.OutOfMemory) in
      let others = some_reports files input paths (min (errors + 1) (2 ^ 64 - 1)) in
      (here ++ others.0, others.1, (files, input, here, 1, others.0, unreached files input path, others.2, refl))

  -- before the first file
  pub inspected-nothing : (files : F) (input : R) (out : Stream) (paths : List (List ℕ)) → HasInspected port stream form files files input input out out [] paths 0 paths
  inspected-nothing files input out paths =
      let none = sent-nothing out [] [] in
      let P : List ℕ → Type 0 = λ (t : List ℕ). Prints out out [] [] t in
      record { sent = []; prints = subst P (sym (append-nil none.front) ∙ none.whole) none.prints; inspects = λ last end text all inspects. inspects }

  module _ {first files : F} {start input : R} {before mid : Stream} {page : List ℕ} {paths : List (List ℕ)} {errors : ℕ} {left : List (List ℕ)} where
    -- the next file
    pub inspected-more : (between : F) (rest : R) (after : Stream) (page' path : List ℕ) (others : List (List ℕ)) (here : List ℕ) (more : ℕ)
        → HasInspected port stream form first files start input before mid page paths errors left → left ≡ path ∷ others
        → Reported port stream None form files between input rest path here more → Prints mid after page page' here
        → HasInspected port stream form first between start rest before after page' paths (min (errors + more) (2 ^ 64 - 1)) others
    inspected-more between rest after page' path others here more so_far is reported prints = record {
      sent = so_far.sent ++ here;
      prints = Prints-then so_far.prints prints;
      inspects = λ last end text all inspects.
          let P : List ℕ → Type 0 = λ (t : List ℕ). Inspects port stream form first last start end paths 0 t all in
          let Q : List (List ℕ) → Type 0 = λ (l : List (List ℕ)). Inspects port stream form files last input end l errors (here ++ text) all in
          subst P (sym (append_assoc so_far.sent here text)) (so_far.inspects last end (here ++ text) all (subst Q (sym is) (between, rest, here, more, text, reported, inspects, refl)));
    }

    -- the output fails at the next file
    pub inspected-short : (between : F) (rest : R) (after : Stream) (path : List ℕ) (others : List (List ℕ)) (here : List ℕ) (more : ℕ)
        → HasInspected port stream form first files start input before mid page paths errors left → left ≡ path ∷ others
        → Reported port stream None form files between input rest path here more → StopsShort mid after page here
        → (text : List ℕ) × (all : ℕ) × Inspects port stream form first between start rest paths 0 text all × StopsShort before after [] text
    inspected-short between rest after path others here more so_far is reported short =
        let next = some_reports between rest others (min (errors + more) (2 ^ 64 - 1)) in
        let Q : List (List ℕ) → Type 0 = λ (l : List (List ℕ)). Inspects port stream form files between input rest l errors (here ++ next.0) next.1 in (
          so_far.sent ++ (here ++ next.0),
          next.1,
          so_far.inspects between rest (here ++ next.0) next.1 (subst Q (sym is) (between, rest, here, more, next.0, reported, next.2, refl)),
          StopsShort-then so_far.prints (StopsShort-longer next.0 short),
        )

    -- past the last file
    pub inspected-all : HasInspected port stream form first files start input before mid page paths errors left → left ≡ []
        → (text : List ℕ) × Inspects port stream form first files start input paths 0 text errors × Prints before mid [] page text
    inspected-all so_far none =
        let P : List ℕ → Type 0 = λ (t : List ℕ). Inspects port stream form first files start input paths 0 t errors in
        let Q : List (List ℕ) → Type 0 = λ (l : List (List ℕ)). Inspects port stream form files files input input l errors [] errors in
        (so_far.sent, subst P (append-nil so_far.sent) (so_far.inspects files input [] errors (subst Q (sym none) (refl, refl, refl, refl))), so_far.prints)

-- some report on what was read
some_printed : (form : OutputFormat) (path : List ℕ) (other : Option DataFileIs) (read : Result (List ℕ) Fault) → (text : List ℕ) × (errors : ℕ) × IsPrinted form path other read text errors
some_printed form path other (Ok bytes) = (unread_text form path 99 (codes "OutOfMemory"), 1, (unread_counts, inr (refl, refl), refl))
some_printed form path other (Err why) = (unread_because form path (fault_number why) (fault_name why) (fault_reason why), 1, (refl, refl))

-- .. on a companion that wasn't reached
pub some_beside : (form : OutputFormat) (path : List ℕ) (read : Result (List ℕ) Fault) (companion : Option CompanionIs) → (text : List ℕ) × (errors : ℕ) × IsPrintedBeside form path read companion text errors
some_beside form path (Ok bytes) (Some c) = some_printed form c.path (Some (record { path = path; bytes = bytes })) c.read
some_beside form path (Ok bytes) None = ([], 0, (refl, refl))
some_beside form path (Err why) companion = ([], 0, (refl, refl))

-- what was written of a text that was sent whole
pub delivered : {before after : Stream} {text : List ℕ} → Prints before after [] [] text → Grows before.bytes after.bytes text
delivered {before} {after} {text} prints =
    let P : List ℕ → Type 0 = λ (t : List ℕ). Grows before.bytes after.bytes t in
    subst P (sym (append-nil prints.sent) ∙ prints.whole) prints.out

-- an error says nothing of a value
pub no_value : {A E : Type 0} (P : A → Type 0) (Q : E → Type 0) (r : Result A E) → IsErrAnd r Q → IfOk r P
no_value P Q (Ok x) err = absurd err
no_value P Q (Err e) err = tt
