-- Pictures as SVG, whatever they are of.
use Rattle.std.specs.Prelude.{◌≡◌, ◌==◌, ℕ, Bool, true, not, ◌||◌, List, [], ◌∷◌, ◌++◌, Option, Some, None, codes}
use Rattle.std.specs.Prelude.{decimal}
use Rattle.std.specs.List.{list_all}
use Rattle.pc_pen.specs.declared.shape.Shape.{Shape}
use Rattle.pc_pen.specs.declared.shape.Shape.TheVariants.{Rectangle, Straight, Path}

-- ---- marks

-- a byte by which markup begins or ends: `&`, `<` or `>`
abbrev pub is_markup : ℕ → Bool
is_markup byte = (byte == 38) || (byte == 60) || (byte == 62)

-- a text that has no markup of its own
abbrev pub IsPlain : List ℕ → Type 0
IsPlain text = list_all (λ byte. not (is_markup byte)) text ≡ true

-- the names of shapes
abbrev pub shape_name : Shape → List ℕ
shape_name Rectangle = codes "rect"
shape_name Straight = codes "line"
shape_name Path = codes "path"

-- a shape, and what is told of it where the pointer rests
abbrev pub shape_text : List ℕ → List ℕ → List ℕ → List ℕ
shape_text name attributes title =
    codes "<" ++ (name
    ++ (codes " " ++ (attributes ++ (codes "><title>" ++ (title ++ (codes "</title></" ++ (name ++ codes ">")))))))

-- words in a picture
abbrev pub words_text : List ℕ → List ℕ → List ℕ
words_text attributes words = codes "<text " ++ (attributes ++ (codes ">" ++ (words ++ codes "</text>")))

-- Whole elements, one after another, each on a line of its own, all of whose texts are plain
pub data AreMarks : List ℕ → Type 0 where
  none : AreMarks []
  shape : {marks : List ℕ} (kind : Shape) (attributes title : List ℕ) → IsPlain attributes → IsPlain title
      → AreMarks marks → AreMarks (shape_text (shape_name kind) attributes title ++ 10 ∷ marks)
  words : {marks : List ℕ} (attributes said : List ℕ) → IsPlain attributes → IsPlain said
      → AreMarks marks → AreMarks (words_text attributes said ++ 10 ∷ marks)

-- Whole elements of these kinds, none of words, in this order
pub data AreMarksOf : List (Option Shape) → List ℕ → Type 0 where
  no_marks : AreMarksOf [] []
  shape_first : {kinds : List (Option Shape)} {marks : List ℕ} (kind : Shape) (attributes title : List ℕ)
      → IsPlain attributes → IsPlain title → AreMarksOf kinds marks
      → AreMarksOf (Some kind ∷ kinds) (shape_text (shape_name kind) attributes title ++ 10 ∷ marks)
  words_first : {kinds : List (Option Shape)} {marks : List ℕ} (attributes said : List ℕ)
      → IsPlain attributes → IsPlain said → AreMarksOf kinds marks
      → AreMarksOf (None ∷ kinds) (words_text attributes said ++ 10 ∷ marks)

-- ---- pictures

-- the first line of a picture of this size
abbrev pub head_text : ℕ → ℕ → List ℕ
head_text width height =
    codes "<svg xmlns=\"http://www.w3.org/2000/svg\" width=\""
    ++ (decimal width ++ (codes "\" height=\"" ++ (decimal height
    ++ (codes "\" viewBox=\"0 0 "
    ++ (decimal width ++ (codes " " ++ (decimal height ++ codes "\" font-family=\"sans-serif\">\n")))))))

-- what stands before the marks of a picture: its size, and what it says of itself
abbrev pub opening_text : ℕ → ℕ → List ℕ → List ℕ
opening_text width height title = head_text width height ++ (codes "<title>" ++ (title ++ codes "</title>\n"))

-- the end of a picture
abbrev pub end_text : List ℕ
end_text = codes "</svg>\n"

-- a picture: its size, what it says of itself, its marks, and its end
abbrev pub picture_text : ℕ → ℕ → List ℕ → List ℕ → List ℕ
picture_text width height title marks =
    head_text width height ++ (codes "<title>" ++ (title ++ (codes "</title>\n" ++ (marks ++ end_text))))
