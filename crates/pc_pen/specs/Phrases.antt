-- What is said of counts in a picture.
use Rattle.std.specs.Prelude.{◌==◌, ℕ, List, ◌++◌, if◌then◌else◌, codes, decimal}

-- `1 item`, `2 items`
abbrev pub count_text : ℕ → List ℕ → List ℕ
count_text number noun =
    if number == 1 then codes "1 " ++ noun else (decimal number ++ (codes " " ++ (noun ++ codes "s")))
