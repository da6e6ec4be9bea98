mod ContainerLemmas
mod PartLemmas
mod QuietLemmas
