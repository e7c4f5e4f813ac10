-- What the theorems of NearestWhole.antt and NearestRoot.antt and the proofs of the code rest on. No promise of a call is said here.
pub mod Fields
pub mod Squares
pub mod Roots
