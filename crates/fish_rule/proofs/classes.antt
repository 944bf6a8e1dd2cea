-- Classes of steps: what several steps leave, and why the rule is kept by it.
pub mod Allowed
pub mod BoundariesStay
pub mod BoundaryStores
pub mod ChainsStay
pub mod FactsStay
pub mod LinkOne
pub mod Loads
pub mod ControlStores
pub mod OnRegistry
pub mod OpensStay
pub mod OtherViews
pub mod OwnEpoch
pub mod OwnWords
pub mod PassesKnow
pub mod WordsStay
