pub mod Along
pub mod Between
pub mod Covering
pub mod Crossing
pub mod Free
pub mod Idle
pub mod Inhabited
pub mod Inside
pub mod Lengths
pub mod Looped
pub mod Loops
pub mod RouteMarks
pub mod Meets
pub mod OnArcs
pub mod Once
pub mod Passing
pub mod Rest
pub mod Routes
pub mod Seen
pub mod Segments
pub mod Sights
pub mod Spread
pub mod States
pub mod Switched
pub mod Views
pub mod Ways
pub mod FarEnds
pub mod Placewise
mod Counting
pub mod Requests
pub mod OneNode
mod Sources
mod Bare
mod Terms
pub mod Runs
pub mod Spans
mod Backward
mod Levels
mod Agreement
mod Reach
mod Firsts
pub mod Ends
pub mod Parting
pub mod Standing
mod RunLaw
mod Convergence
pub mod Marks
pub mod RunRounds
pub mod StillRings
pub mod Fixpoint
pub mod Tracing
mod Lists
mod Scenes
mod Rounds
