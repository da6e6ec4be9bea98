-- How `show` ends, by its steps before.
use Rattle.std.proofs.Common.{◌≡◌, List, ℕ, Ok, Err, sym, ap, subst, ◌∙◌}
use Rattle.std.specs.declared.alloc.Global.{Global}
use Rattle.std.specs.declared.vec.Vec.{Vec}
use Rattle.cfm_prepare.specs.declared.fault.PrepareFault.TheVariants as prepare_fault
use Rattle.cfm_prepare.specs.declared.fragment_fault.FragmentFault.TheVariants as fragment_fault
use Rattle.pef_faults.specs.declared.fault.Fault.{Fault}
use Rattle.pef_faults.specs.declared.fault.Fault.TheVariants as fault
use Rattle.pef_ports.specs.Input.{ReadsInput}
use Rattle.pef_ports.specs.Ports.{Stream}
use Rattle.pef_ports.specs.declared.input.InputFault.{InputFault}
use Rattle.pef_ports.specs.declared.input.InputFault.TheVariants.{Unreadable, TooLong, OutOfMemory}
use Rattle.pef_script.specs.Text.Grammar.{script_of}
use Rattle.pef_script.specs.Script.{DescribedScript}
use Rattle.pef_tool.specs.Kept.Linking.{RefusesText}
use Rattle.pef_tool.specs.Kept.Showing.{ScriptEnds, ScriptRefuses}
use Rattle.pef_tool.specs.Limits.{input_limit}
use Rattle.pef_tool.specs.Show.{ShowEnds, ShowOutcome, ShowRefuses, WasRead, refuses, shows}
use Rattle.pef_tool.proofs.OutcomeLemmas.{fails_same}

-- what was read of an input
was_read : (before after : Stream) (read : Vec ℕ Global) → ReadsInput (Ok read) before after input_limit → WasRead before after read.items
was_read before after read reads = record { whole = reads.0; short = reads.2; sound = reads.3 }

module _ (before after : Stream) (read : Vec ℕ Global) (text : List ℕ) (reads : ReadsInput (Ok read) before after input_limit) (same : text ≡ read.items) where
  -- `show` is refused as its script is
  refused_with : (script : DescribedScript) (why : Fault) → script_of text ≡ Ok script → ScriptRefuses script why → ShowRefuses before after why
  refused_with script (fault.Prepare (prepare_fault.Bind f)) is ends = record { text = read.items; input = was_read before after read reads; script = script; is_script = ap script_of (sym same) ∙ is; lacks = ends }
  refused_with script (fault.Prepare (prepare_fault.Fragment fragment_fault.OutOfMemory)) is ends = ((read.items, reads.1, reads.2), reads.3)
  refused_with script (fault.Prepare prepare_fault.OutOfMemory) is ends = ((read.items, reads.1, reads.2), reads.3)
  refused_with script (fault.Prepare (prepare_fault.Fragment (fragment_fault.NoRoom f place))) is ends = record { text = read.items; input = was_read before after read reads; script = script; is_script = ap script_of (sym same) ∙ is; lacks = ends }
  refused_with script (fault.Prepare (prepare_fault.Fragment (fragment_fault.Pack f k place))) is ends = absurd ends.said
  refused_with script (fault.Prepare (prepare_fault.Fragment (fragment_fault.Reloc f k section place))) is ends = absurd ends.said
  refused_with script (fault.Prepare prepare_fault.TooManyConnections) is ends = absurd ends.said
  refused_with script (fault.Prepare (prepare_fault.TooManyBytes f)) is ends = absurd ends.said
  refused_with script (fault.Prepare (prepare_fault.TooManyStepsInAll f)) is ends = absurd ends.said
  refused_with script (fault.Prepare prepare_fault.RootMissing) is ends = absurd ends.said
  refused_with script fault.OutOfMemory is ends = ((read.items, reads.1, reads.2), reads.3)
  refused_with script (fault.Script f told) is ends = absurd ends
  refused_with script (fault.Listing f) is ends = absurd ends
  refused_with script (fault.Certificate f) is ends = absurd ends
  refused_with script fault.SectionsDiffer is ends = absurd ends
  refused_with script (fault.Input f) is ends = absurd ends
  refused_with script (fault.Fragment f) is ends = absurd ends
  refused_with script (fault.Untold path why) is ends = absurd ends
  refused_with script fault.StoreFull is ends = absurd ends
  refused_with script (fault.Stub f) is ends = absurd ends
  refused_with script (fault.Unreadable path reason) is ends = absurd ends
  refused_with script (fault.Unwritable path reason) is ends = absurd ends

  -- `show` ends as its script does
  pub ends_with : (script : DescribedScript) (o : ShowOutcome) → script_of text ≡ Ok script → ScriptEnds script o → ShowEnds before after o
  ends_with script (shows s number) is ends = record {
    text = read.items;
    input = was_read before after read reads;
    script = script;
    is_script = ap script_of (sym same) ∙ is;
    shown = ends;
  }
  ends_with script (refuses why) is ends = refused_with script why is ends

  -- an input whose script isn't linked ends it
  pub no_script_shown : (why : Fault) → RefusesText text why → ShowRefuses before after why
  no_script_shown (fault.Script f told) fails = record {
    input = subst (WasRead before after) (sym (fails.0 ∙ same)) (was_read before after read reads);
    refused = fails_same f text told.now (sym fails.0) fails.1;
  }
  no_script_shown fault.OutOfMemory fails = ((read.items, reads.1, reads.2), reads.3)
  no_script_shown (fault.Listing f) fails = absurd fails
  no_script_shown (fault.Certificate f) fails = absurd fails
  no_script_shown fault.SectionsDiffer fails = absurd fails
  no_script_shown (fault.Input f) fails = absurd fails
  no_script_shown (fault.Prepare f) fails = absurd fails
  no_script_shown (fault.Fragment f) fails = absurd fails
  no_script_shown (fault.Untold path why) fails = absurd fails
  no_script_shown fault.StoreFull fails = absurd fails
  no_script_shown (fault.Stub f) fails = absurd fails
  no_script_shown (fault.Unreadable path reason) fails = absurd fails
  no_script_shown (fault.Unwritable path reason) fails = absurd fails

-- an input that can't be read ends it
pub fault_ends : (before after : Stream) (f : InputFault) → ReadsInput (Err f) before after input_limit → ShowRefuses before after (fault.Input f)
fault_ends before after Unreadable reads = reads
fault_ends before after TooLong reads = reads
fault_ends before after OutOfMemory reads = reads
