-- The picture of waits.
use Rattle.std.proofs.Common.{◌≡◌, ℕ, List, [], ◌++◌, Some, subst}
use Rattle.pc_pen.specs.Drawn.{Pictures}
use Rattle.pc_pen.specs.Pictures.{picture_text}
use Rattle.pc_table.specs.declared.form.Column.{Column}
use Rattle.pc_curves.specs.Waits.{IsPictureOfWaits, waits_title}

-- a picture that was added to nothing, with the title of these runs
pub drawn : (columns : List Column) (title before text : List ℕ) → title ≡ waits_title columns → before ≡ [] → Pictures title (Some before) (Some text) → IsPictureOfWaits columns text
drawn columns title before text same empty picture =
    let whole : text ≡ before ++ picture_text picture.width picture.height title picture.marks = picture.written in
    let alone : text ≡ picture_text picture.width picture.height title picture.marks =
    subst (λ b. text ≡ b ++ picture_text picture.width picture.height title picture.marks) empty whole in
    record {
      width = picture.width;
      height = picture.height;
      marks = picture.marks;
      are_marks = picture.are_marks;
      told = subst (λ t. text ≡ picture_text picture.width picture.height t picture.marks) same alone;
    }
