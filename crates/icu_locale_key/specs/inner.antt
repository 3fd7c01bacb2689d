pub mod Universe
pub mod KeyRun
pub mod AtOnce
