-- 02's question whether anything of an assembly hits.
pub mod Assemblies
pub mod Steps
