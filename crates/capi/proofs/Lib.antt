-- An assembly as its bodies are read.
pub mod AssemblyRead
