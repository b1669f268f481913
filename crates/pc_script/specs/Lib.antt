-- A script's text is cut at line feeds, and a line at spaces. The words of a line are those of one command of the
-- table, or it has no reply, or it is a fault. What the commands are answered is a machine's; what is written is the
-- text of each answer. The walk over the lines tells an observer of each, so that what replays, explains and draws a
-- script goes over the same lines.
pub mod Grammar
pub mod Inner
pub mod Left
pub mod Responses
pub mod Scripts
pub mod Sessions
pub mod Text
pub mod Versions
