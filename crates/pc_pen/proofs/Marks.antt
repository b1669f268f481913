-- Marks, one after another, and pictures of them.
use Rattle.std.proofs.Common.{◌≡◌, ℕ, subst, sym, map, get_or, ◌+◌, ◌<◌, ◌≤◌, length, take, List, [], ◌∷◌, ◌++◌, true, false, refl, ap, ◌∙◌, Option, Some, None, append_assoc, codes, Result, Ok, Err, OnOk}
use Rattle.std.specs.Io.KnownBytes.{Appends}
use Rattle.std.proofs.KnownBytes.{Appends-nil, Appends-trans}
use Rattle.std.proofs.lemmas.List.{map-append, take_all, take_more}
use Rattle.pc_pen.specs.Drawn.{Marks, MarksOf, Pictures}
use Rattle.pc_pen.specs.Pictures.{AreMarks, none, shape, words, AreMarksOf, no_marks, shape_first, words_first, IsPlain, is_markup, shape_text, shape_name, words_text, head_text, opening_text, end_text}
use Rattle.pc_pen.specs.declared.shape.Shape.{Shape}

-- ---- plain texts

abbrev pub IsMarkup : ℕ → Type 0
IsMarkup b = is_markup b ≡ true

abbrev pub IsNoMarkup : ℕ → Type 0
IsNoMarkup b = is_markup b ≡ false

-- ---- marks

pub AreMarks-append : {one other : List ℕ} → AreMarks one → AreMarks other → AreMarks (one ++ other)
AreMarks-append none after = after
AreMarks-append {other} (shape {marks} kind attributes title h k rest) after =
    rw (append_assoc (shape_text (shape_name kind) attributes title) (10 ∷ marks) other) (shape kind attributes title h k (AreMarks-append rest after))
AreMarks-append {other} (words {marks} attributes said h k rest) after =
    rw (append_assoc (words_text attributes said) (10 ∷ marks) other) (words attributes said h k (AreMarks-append rest after))

pub Marks-none : (known : Option (List ℕ)) → Marks known known
Marks-none known = ([], none, Appends-nil known)

pub Marks-trans : (before now after : Option (List ℕ)) → Marks before now → Marks now after → Marks before after
Marks-trans before now after h k = (h.0 ++ k.0, AreMarks-append h.1 k.1, Appends-trans before now after h.0 k.0 h.2 k.2)

-- marks of some kinds are marks
pub AreMarks-from : {kinds : List (Option Shape)} {marks : List ℕ} → AreMarksOf kinds marks → AreMarks marks
AreMarks-from no_marks = none
AreMarks-from (shape_first kind attributes title h k rest) = shape kind attributes title h k (AreMarks-from rest)
AreMarks-from (words_first attributes said h k rest) = words attributes said h k (AreMarks-from rest)

pub Marks-from : (kinds : List (Option Shape)) (before after : Option (List ℕ)) → MarksOf kinds before after → Marks before after
Marks-from kinds before after h = (h.0, AreMarks-from h.1, h.2)

pub AreMarksOf-append : {kinds more : List (Option Shape)} {one other : List ℕ} → AreMarksOf kinds one → AreMarksOf more other → AreMarksOf (kinds ++ more) (one ++ other)
AreMarksOf-append no_marks after = after
AreMarksOf-append {other} (shape_first {marks} kind attributes title h k rest) after =
    rw (append_assoc (shape_text (shape_name kind) attributes title) (10 ∷ marks) other) (shape_first kind attributes title h k (AreMarksOf-append rest after))
AreMarksOf-append {other} (words_first {marks} attributes said h k rest) after =
    rw (append_assoc (words_text attributes said) (10 ∷ marks) other) (words_first attributes said h k (AreMarksOf-append rest after))

pub MarksOf-none : (known : Option (List ℕ)) → MarksOf [] known known
MarksOf-none known = ([], no_marks, Appends-nil known)

pub MarksOf-trans : (kinds more : List (Option Shape)) (before now after : Option (List ℕ)) → MarksOf kinds before now → MarksOf more now after → MarksOf (kinds ++ more) before after
MarksOf-trans kinds more before now after h k = (h.0 ++ k.0, AreMarksOf-append h.1 k.1, Appends-trans before now after h.0 k.0 h.2 k.2)

-- the marks of the items up to one, and then its own
pub MarksOf-next : {A : Type 0} (kind : A → Option Shape) (items : List A) (at : ℕ) (other : A) → at < length items
    → (before now after : Option (List ℕ)) → MarksOf (map kind (take at items)) before now → MarksOf (kind (get_or items at other) ∷ []) now after
    → MarksOf (map kind (take (at + 1) items)) before after
MarksOf-next kind items at other less before now after h k =
    subst (λ kinds. MarksOf kinds before after) (sym (ap (map kind) (take_more items at other less) ∙ map-append kind (take at items) (get_or items at other ∷ [])))
    (MarksOf-trans _ _ before now after h k)

-- the marks of all items
pub MarksOf-all : {A : Type 0} (kind : A → Option Shape) (items : List A) (at : ℕ) → length items ≤ at
    → (before after : Option (List ℕ)) → MarksOf (map kind (take at items)) before after → MarksOf (map kind items) before after
MarksOf-all kind items at past before after h = subst (λ xs. MarksOf (map kind xs) before after) (take_all at items past) h

Marks-shape : (kind : Shape) (attributes title : List ℕ) (before after : Option (List ℕ)) → IsPlain attributes → IsPlain title
    → Appends before after (shape_text (shape_name kind) attributes title ++ 10 ∷ []) → MarksOf (Some kind ∷ []) before after
Marks-shape kind attributes title before after h k written = (_, shape_first kind attributes title h k no_marks, written)

Marks-words : (attributes said : List ℕ) (before after : Option (List ℕ)) → IsPlain attributes → IsPlain said
    → Appends before after (words_text attributes said ++ 10 ∷ []) → MarksOf (None ∷ []) before after
Marks-words attributes said before after h k written = (_, words_first attributes said h k no_marks, written)

-- ---- texts that are written piece by piece

-- a text, and what the last call wrote after it
pub then_ok : {A E : Type 0} (answer : Result A E) (before now after : Option (List ℕ)) (text more all : List ℕ)
    → Appends before now text → OnOk answer (Appends now after more) → text ++ more ≡ all → OnOk answer (Appends before after all)
then_ok (Ok x) before now after text more all h k is = subst (λ t. Appends before after t) is (Appends-trans before now after text more h k)
then_ok (Err e) before now after text more all h k is = tt

-- marks, and those of the last call
pub Marks-trans_ok : {A E : Type 0} (answer : Result A E) (before now after : Option (List ℕ)) → Marks before now → OnOk answer (Marks now after) → OnOk answer (Marks before after)
Marks-trans_ok (Ok x) before now after h k = Marks-trans before now after h k
Marks-trans_ok (Err e) before now after h k = tt

pub Marks-shape_ok : {A E : Type 0} (answer : Result A E) (kind : Shape) (attributes title : List ℕ) (before after : Option (List ℕ)) → IsPlain attributes → IsPlain title
    → OnOk answer (Appends before after (shape_text (shape_name kind) attributes title ++ 10 ∷ [])) → OnOk answer (MarksOf (Some kind ∷ []) before after)
Marks-shape_ok (Ok x) kind attributes title before after h k written = Marks-shape kind attributes title before after h k written
Marks-shape_ok (Err e) kind attributes title before after h k written = tt

pub Marks-words_ok : {A E : Type 0} (answer : Result A E) (attributes said : List ℕ) (before after : Option (List ℕ)) → IsPlain attributes → IsPlain said
    → OnOk answer (Appends before after (words_text attributes said ++ 10 ∷ [])) → OnOk answer (MarksOf (None ∷ []) before after)
Marks-words_ok (Ok x) attributes said before after h k written = Marks-words attributes said before after h k written
Marks-words_ok (Err e) attributes said before after h k written = tt

-- ---- pictures

grouped : (head opening title close marks end : List ℕ)
    → ((head ++ (opening ++ (title ++ close))) ++ marks) ++ end ≡ head ++ (opening ++ (title ++ (close ++ (marks ++ end))))
grouped head opening title close marks end = simp append_assoc refl

-- the opening, the marks, and the end
picture_of : (width height : ℕ) (title : List ℕ) (before one two after : Option (List ℕ)) → Appends before one (opening_text width height title)
    → Marks one two → Appends two after end_text → Pictures title before after
picture_of width height title before one two after front marks back =
    let whole = Appends-trans before two after _ _ (Appends-trans before one two _ _ front marks.2) back in
    record {
      width = width;
      height = height;
      marks = marks.0;
      are_marks = marks.1;
      written = subst (λ t. Appends before after t) (grouped (head_text width height) (codes "<title>") title (codes "</title>\n") marks.0 end_text) whole;
    }

-- the same of the answer of the call that writes the end
pub picture_ok : {A E : Type 0} (answer : Result A E) (width height : ℕ) (title : List ℕ) (before one two after : Option (List ℕ))
    → Appends before one (opening_text width height title) → Marks one two → OnOk answer (Appends two after end_text) → OnOk answer (Pictures title before after)
picture_ok (Ok x) width height title before one two after front marks back = picture_of width height title before one two after front marks back
picture_ok (Err e) width height title before one two after front marks back = tt
