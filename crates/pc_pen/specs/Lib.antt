-- What a picture is made of, whatever it is of: marks, which are whole elements whose texts have no markup, a canvas on
-- which they are composed, and the frame around them.
pub mod Canvases
pub mod Drawn
pub mod Escapes
pub mod Phrases
pub mod Pictures
pub mod TerminalLines
