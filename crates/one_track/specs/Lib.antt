pub mod OneTrack
