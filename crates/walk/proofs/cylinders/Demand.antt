-- Demand 1 of the cylinder query, and the order of every box's ends.
pub mod Cylinders
pub mod BoxesOrdered
