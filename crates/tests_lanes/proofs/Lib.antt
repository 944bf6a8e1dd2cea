pub mod NewLanes
