-- What would make a refused line accepted: what a line asks for, what there is behind steps, and that advised steps
-- end by the line itself.
pub mod Advices
pub mod Behind
pub mod Deeds
