mod ContainerProofs
mod ContextProofs
mod FoundLemmas
mod Pointers
mod WalkSteps
