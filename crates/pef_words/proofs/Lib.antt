pub mod Laws
mod Numbers
