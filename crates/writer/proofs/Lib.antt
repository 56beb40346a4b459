pub mod RuleLaws
pub mod StoreLaws
pub mod NamedLaws
pub mod Names
pub mod SizeLaws
pub mod StoredBytes
pub mod WriteLaws
pub mod RoundTrip
