pub mod LogReader
