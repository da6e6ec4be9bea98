-- A run that reported an error is explained by the help for this error and what is known of it.
use Rattle.std.proofs.Common.{◌≡◌, ◌⊎◌, inl, inr, subst}
use Rattle.pef_faults.specs.Faults.{fault_number}
use Rattle.pef_faults.specs.declared.fault.Fault.{Fault}
use Rattle.pef_ports.specs.Ports.{Stream}
use Rattle.pef_refusals.specs.Help.{help_of}
use Rattle.pef_tool.specs.Answers.Answers.{IsDelivered}
use Rattle.pef_tool.specs.Answers.Faults.{fault_answer}
use Rattle.pef_tool.specs.Explain.{Explains, NotesHelp}
use Rattle.pef_faults.specs.Notes.Notes.{note_of}
use Rattle.pef_tool.specs.declared.answers.outcome.Outcome.{Outcome}
use Rattle.pef_tool.specs.declared.answers.outcome.Outcome.TheVariants.{OutputFailed}

pub explained : (fault : Fault) (outcome : Outcome) (out printed notes noted : Stream) → IsDelivered out printed (fault_answer fault) outcome → Explains outcome notes noted
    → (outcome ≡ OutputFailed) ⊎ NotesHelp (help_of (fault_number fault)) (note_of fault) notes noted
unfolding fault_answer
explained fault outcome out printed notes noted (inl whole) explains = inr (subst (λ (o : Outcome). Explains o notes noted) whole.2 explains)
explained fault outcome out printed notes noted (inr short) explains = inl short.2
