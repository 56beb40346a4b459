pub mod NamedLaws
mod Cases
