-- A session of a script: no world before an accepted `enclave`, whose limits are judged by the script's profile, and
-- one from then on. Each command has a response: an event is a step of the world, a read changes nothing, and a policy
-- opens the world anew, where no event was taken.
pub mod GoingOn
pub mod Inner
pub mod Reads
pub mod Session
pub mod ShownViews
pub mod Standing
