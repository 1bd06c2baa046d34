-- Bodies as they are read, and what their lists are where they are taken.
pub mod BodiesRead
pub mod Taken
