-- The picture of waits.
use Rattle.std.specs.Prelude.{◌≡◌, ℕ, List, [], ◌∷◌, ◌++◌, Option, Some, None, flat_map, codes, decimal}
use Rattle.pc_pen.specs.Pictures.{AreMarks, picture_text}
use Rattle.pc_table.specs.Percentiles.{figures_of}
use Rattle.pc_table.specs.declared.figures.Figures.{Figures}
use Rattle.pc_table.specs.declared.form.Column.{Column}

-- a percentile in ticks; `-` where there are no waits
abbrev pub ticks_text : Option ℕ → List ℕ
ticks_text None = codes "-"
ticks_text (Some ticks) = decimal ticks

-- `waits N, p50 A, p90 B, p99 C`
abbrev pub figures_text : Figures → List ℕ
figures_text figures =
    codes "waits " ++ (decimal figures.waits ++ (codes ", p50 " ++ (ticks_text figures.p50
    ++ (codes ", p90 " ++ (ticks_text figures.p90 ++ (codes ", p99 " ++ ticks_text figures.p99))))))

-- `NAME: waits N, p50 A, p90 B, p99 C`
abbrev pub titled : List ℕ → Figures → List ℕ
titled name figures = name ++ (codes ": " ++ figures_text figures)

-- the same of a run, by its name and all of its waits
abbrev pub column_title : Column → List ℕ
column_title column = titled column.name.now (figures_of column.summary)

-- what is told of all runs, in their order, with `; ` between
abbrev pub waits_title : List Column → List ℕ
waits_title [] = []
waits_title (column ∷ columns) = column_title column ++ flat_map (λ other. codes "; " ++ column_title other) columns

-- The picture of the waits of runs: it tells of each how many there were and how long they lasted, and has marks beside
pub record IsPictureOfWaits (columns : List Column) (text : List ℕ) : Type 0 where
  pub width : ℕ
  pub height : ℕ
  pub marks : List ℕ
  pub are_marks : AreMarks marks
  pub told : text ≡ picture_text width height (waits_title columns) marks
