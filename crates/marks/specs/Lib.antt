-- Request 14, "Marking another simulator". To read, and to believe: Marks. What holds of it: Theorems, with their proofs in proofs/.
pub mod Marks
pub mod Theorems
-- Nobody has to believe these. Computing lists the definitions, so that antt can be told to compute them; MarkRows has rows worked by hand.
pub mod Computing
pub mod MarkRows
