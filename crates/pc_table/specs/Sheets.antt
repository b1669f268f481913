-- How the rows are written.
use Rattle.std.specs.Prelude.{ℕ, ◌-◌, ◌==◌, max, if◌then◌else◌, List, [], ◌∷◌, ◌++◌, length, map, flat_map, Option}
use Rattle.std.specs.Prelude.{Some}
use Rattle.std.specs.Prelude.{None, codes, decimal, replicate, slice_index_or}
use Rattle.std.specs.List.{join_with_byte, range_with_len}
use Rattle.std.specs.Option.{option_map}
use Rattle.pc_load.specs.Loads.{Demand}
use Rattle.pc_table.specs.Percentiles.{percentile}
use Rattle.pc_table.specs.Rows.{rows_of}
use Rattle.pc_table.specs.Values.{names_in, values_in}
use Rattle.pc_table.specs.declared.form.Column.{Column}
use Rattle.pc_table.specs.declared.form.Form.{Form}
use Rattle.pc_table.specs.declared.form.Layout.{Layout}
use Rattle.pc_table.specs.declared.form.Layout.TheVariants.{Table, Csv}
use Rattle.pc_table.specs.declared.rows.Percents.{Percents}
use Rattle.pc_table.specs.declared.rows.Percents.TheVariants.{Few, Each}
use Rattle.pc_table.specs.declared.rows.Rows.{Rows}

-- a name without spaces
abbrev pub joined : List ℕ → List ℕ
joined name = map (λ byte. if byte == 32 then 95 else byte) name

-- a row's name as it is written
abbrev pub name_text : Layout → List ℕ → List ℕ
name_text Table name = name
name_text Csv name = joined name

-- a value as it is written
abbrev pub value_text : Layout → Option (List ℕ) → List ℕ
value_text layout (Some value) = value
value_text Table None = codes "-"
value_text Csv None = []

-- a percentile as it is written
abbrev pub percentile_text : Layout → List ℕ → ℕ → List ℕ
percentile_text layout ticks percent = value_text layout (option_map decimal (percentile percent ticks))

-- the percentiles of all waits, of which CSV tells all
abbrev pub percents_in : Layout → Percents
percents_in Table = Few
percents_in Csv = Each

-- the names of all rows, behind that of the runs
abbrev pub names_of : Layout → List Rows → List (List ℕ)
names_of layout rows = codes "variant" ∷ map (name_text layout) (flat_map names_in rows)

-- the name of a run, and its value in each row
abbrev pub cells_of : Layout → List Rows → Column → List (List ℕ)
cells_of layout rows column =
    column.name.now ∷ map (value_text layout) (flat_map (λ each. values_in each column.summary) rows)

-- the length of the longest text
abbrev pub widest : List (List ℕ) → ℕ
widest [] = 0
widest (text ∷ texts) = max (length text) (widest texts)

-- so many spaces as the text is shorter
abbrev pub filling : ℕ → List ℕ → List ℕ
filling width text = replicate (width - length text) 32

-- a cell of the table, filled up in front to the longest of its column
abbrev pub cell_text : ℕ → List (List ℕ) → List ℕ
cell_text place column =
    let text = slice_index_or column place [] in codes "  " ++ (filling (widest column) text ++ text)

-- a line of the table: the row's name, filled up behind to the longest, and its cells
abbrev pub line_text : List (List ℕ) → List (List (List ℕ)) → ℕ → List ℕ
line_text names columns place =
    let text = slice_index_or names place [] in
    text ++ (filling (widest names) text ++ (flat_map (cell_text place) columns ++ codes "\n"))

-- the table: a line for each name
abbrev pub table_text : List (List ℕ) → List (List (List ℕ)) → List ℕ
table_text names columns = flat_map (line_text names columns) (range_with_len 0 (length names))

-- a line of CSV
abbrev pub csv_line : List (List ℕ) → List ℕ
csv_line texts = join_with_byte 44 texts ++ codes "\n"

-- a sheet: its rows as lines, or its columns
abbrev pub sheet_text : Layout → List (List ℕ) → List (List (List ℕ)) → List ℕ
sheet_text Table names columns = table_text names columns
sheet_text Csv names columns = flat_map csv_line (names ∷ columns)

-- the text that compares runs of a load
abbrev pub text_of : Form → Demand → List Column → List ℕ
text_of form load columns =
    let rows = rows_of (percents_in form.layout) form.per_cpu load columns in
    sheet_text form.layout (names_of form.layout rows) (map (cells_of form.layout rows) columns)
