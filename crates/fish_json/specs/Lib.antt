pub mod Contents
pub mod Lines
pub mod Reading
pub mod Row
pub mod Tape
pub mod within
