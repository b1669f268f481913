-- That the script which the lab writes of a run replays as the run went.
pub mod Replays
