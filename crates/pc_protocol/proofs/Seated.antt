-- What seats show where one of them has changed.
use Rattle.std.proofs.Common.{◌≡◌, ◌⊎◌, ◌==◌, ℕ, zero, suc, ◌<◌, ◌≤◌, ◌+◌, true, false, List, [], ◌∷◌, ◌++◌, length, take, drop, Some, None, slice_get, set, get_or, max, not, filter, nat_lt, if◌then◌else◌, refl, sym, ◌∙◌, ap, subst, inl, inr, arith}
use Rattle.std.proofs.lemmas.Bool.Decides.{eqb_tells, nat_tests}
use Rattle.std.proofs.lemmas.Option.{slice_get-get_or, slice_get_within}
use Rattle.std.specs.Global.{Vec}
use Rattle.std.specs.List.{range_with_len}
use Rattle.std.proofs.lemmas.List.{append-nil, map-id}
use Rattle.std.proofs.lemmas.List.Elements.{filter-append}
use Rattle.std.proofs.lemmas.List.FromFn.{map-range_with_len_more}
use Rattle.pc_join.specs.Sets.{IsSameSet, Members, as_members}
use Rattle.pc_agent.specs.PlainAgent.{Set}
use Rattle.pc_kernel.specs.Steps.{at}
use Rattle.pc_world.proofs.Places.{at_other, at_same}
use Rattle.pc_protocol.specs.declared.seats.Due.{Due}
use Rattle.pc_protocol.specs.declared.seats.Due.TheVariants as due
use Rattle.pc_protocol.specs.declared.seats.Note.{Note as KeptNote}
use Rattle.pc_protocol.specs.declared.seats.Seat.{Seat}
use Rattle.pc_protocol.specs.declared.seats.Stage.{Stage as KeptStage}
use Rattle.pc_protocol.specs.declared.seats.Stage.TheVariants as kept_stage
use Rattle.pc_protocol.specs.Protocol.{Note, Stage, asks, begins, others, puts, telling, telling_others, waits}
use Rattle.pc_protocol.specs.Seats.{AreNotes, AreSeats, AsksBelow, AsksOthers, EmptiesMail, IsDue, IsDueAt, LeavesMail, PutsNext, SetsStage, ShowsNote, ShowsSeat, ShowsStage, TakesNote, Tells, by_stage, choices_at, choices_of, telling_below}

-- one note more
pub notes_more : (keeps : List KeptNote) (notes : List Note) (keep : KeptNote) (note : Note) → AreNotes keeps notes → ShowsNote keep note → AreNotes (keeps ++ keep ∷ []) (notes ++ note ∷ [])
notes_more [] [] keep note h one = (one, tt)
notes_more [] (n ∷ notes) keep note h one = absurd h
notes_more (k ∷ keeps) [] keep note h one = absurd h
notes_more (k ∷ keeps) (n ∷ notes) keep note h one = (h.0, notes_more keeps notes keep note h.1 one)

-- a note less, which stood at a place
pub record Without (keeps : List KeptNote) (notes : List Note) (i : ℕ) (keep : KeptNote) : Type 0 where
  pub before : List Note
  pub note : Note
  pub behind : List Note
  pub split : notes ≡ before ++ note ∷ behind
  pub shows : ShowsNote keep note
  pub rest : AreNotes (take i keeps ++ drop (suc i) keeps) (before ++ behind)

pub note_out : (keeps : List KeptNote) (notes : List Note) (i : ℕ) (keep : KeptNote) → slice_get keeps i ≡ Some keep → AreNotes keeps notes → Without keeps notes i keep
note_out [] notes i keep e h = cc
note_out (k ∷ keeps) [] i keep e h = absurd h
note_out (k ∷ keeps) (n ∷ notes) zero keep e h =
    let same : k ≡ keep = cc in
    record { before = []; note = n; behind = notes; split = refl; shows = subst (λ j. ShowsNote j n) same h.0; rest = h.1 }
note_out (k ∷ keeps) (n ∷ notes) (suc i) keep e h =
    let out = note_out keeps notes i keep e h.1 in
    record { before = n ∷ out.before; note = out.note; behind = out.behind; split = ap (λ l. n ∷ l) out.split; shows = out.shows; rest = (h.0, out.rest) }

set_here : {X : Type 0} (xs : List X) (i : ℕ) (x : X) → i < length xs → slice_get (set xs i x) i ≡ Some x
set_here [] i x low = absurd (omega arith)
set_here (y ∷ xs) zero x low = refl
set_here (y ∷ xs) (suc i) x low = set_here xs i x (omega arith)

pub length_set : {X : Type 0} (xs : List X) (i : ℕ) (x : X) → length (set xs i x) ≡ length xs
length_set [] i x = refl
length_set (y ∷ xs) zero x = refl
length_set (y ∷ xs) (suc i) x = ap suc (length_set xs i x)

set_elsewhere : {X : Type 0} (xs : List X) (i j : ℕ) (x : X) → (j ≡ i → ⊥) → slice_get (set xs i x) j ≡ slice_get xs j
set_elsewhere [] i j x other = refl
set_elsewhere (y ∷ xs) zero zero x other = absurd (other refl)
set_elsewhere (y ∷ xs) zero (suc j) x other = refl
set_elsewhere (y ∷ xs) (suc i) zero x other = refl
set_elsewhere (y ∷ xs) (suc i) (suc j) x other = set_elsewhere xs i j x (λ e. other (ap suc e))

pub seat_at : (seats : List Seat) (place : ℕ) (seat d : Seat) → place < length seats → seat ≡ get_or seats place d → slice_get seats place ≡ Some seat
seat_at seats place seat d low e = slice_get-get_or seats place d low ∙ ap Some (sym e)

-- where one seat has changed, and what it shows with it
pub seats_set : (seats : List Seat) (place : ℕ) (is : Seat) (stages stages' : ℕ → Stage) (mails mails' : ℕ → List ℕ) (boxes boxes' : ℕ → List Note) → place < length seats
    → ((c : ℕ) → (c ≡ place → ⊥) → (stages' c ≡ stages c) × (mails' c ≡ mails c) × (boxes' c ≡ boxes c)) → ShowsSeat is (stages' place) (mails' place) (boxes' place)
    → AreSeats seats stages mails boxes → AreSeats (set seats place is) stages' mails' boxes'
seats_set seats place is stages stages' mails mails' boxes boxes' low same shows h c seat there = elim (eqb_tells c place) [
  | inl e ↦
      let met : slice_get (set seats place is) place ≡ Some seat = ap (slice_get (set seats place is)) (sym e.1) ∙ there in
      let here : slice_get (set seats place is) place ≡ Some is = set_here seats place is low in
      let it : is ≡ seat = cc in
      subst (λ s. ShowsSeat s (stages' c) (mails' c) (boxes' c)) it (subst (λ d. ShowsSeat is (stages' d) (mails' d) (boxes' d)) (sym e.1) shows)
  | inr n ↦
      let s = same c n.1 in
      let was = h c seat (sym (set_elsewhere seats place c is n.1) ∙ there) in
      record {
        stage = subst (ShowsStage seat.stage) (sym s.0) was.stage;
        mail = was.mail ∙ sym s.1;
        notes = subst (AreNotes seat.notes.items) (sym s.2) was.notes;
      }
]

-- which stage is kept
pub shows_begins : (s : Stage) → ShowsStage kept_stage.Begins s → s ≡ begins
shows_begins begins h = refl
shows_begins (puts n k cpus) h = absurd h
shows_begins waits h = absurd h

pub shows_waits : (s : Stage) → ShowsStage kept_stage.Waits s → s ≡ waits
shows_waits begins h = absurd h
shows_waits (puts n k cpus) h = absurd h
shows_waits waits h = refl

pub shows_puts : (aseq delta : ℕ) (left : Vec ℕ) (s : Stage) → ShowsStage (kept_stage.Puts aseq delta left) s → s ≡ puts aseq delta left.items
shows_puts aseq delta left begins h = absurd h
shows_puts aseq delta left (puts n k cpus) h = let a = h.0 in let b = h.1 in let c = h.2 in cc
shows_puts aseq delta left waits h = absurd h

-- a list, cut in front of and behind one of its elements
pub cut_at : {X : Type 0} (xs : List X) (i : ℕ) (x : X) → slice_get xs i ≡ Some x → xs ≡ take i xs ++ x ∷ drop (suc i) xs
cut_at [] i x e = cc
cut_at (y ∷ xs) zero x e = let same : y ≡ x = cc in ap (λ z. z ∷ xs) same
cut_at (y ∷ xs) (suc i) x e = ap (λ l. y ∷ l) (cut_at xs i x e)

module _ (seats : List Seat) (place : ℕ) (seat : Seat) (low : place < length seats) (there : slice_get seats place ≡ Some seat) where
  pub stage_is_set : (kept : KeptStage) → SetsStage place kept seats (set seats place (record seat { stage = kept }))
  stage_is_set kept stage stages mails boxes shows h =
      let was = h place seat there in
      seats_set seats place (record seat { stage = kept }) stages (at stages place stage) mails mails boxes boxes low (λ c n. (at_other stages place c stage n, refl, refl))
      record { stage = subst (ShowsStage kept) (sym (at_same stages place stage)) shows; mail = was.mail; notes = was.notes } h

  pub is_told : (notes : Vec KeptNote) (keep : KeptNote) → notes.items ≡ seat.notes.items ++ keep ∷ [] → Tells place keep seats (set seats place (record seat { notes = notes }))
  is_told notes keep more note stages mails boxes shows h =
      let was = h place seat there in
      let box = boxes place ++ note ∷ [] in
      seats_set seats place (record seat { notes = notes }) stages stages mails mails boxes (at boxes place box) low (λ c n. (refl, refl, at_other boxes place c box n))
      record {
        stage = was.stage;
        mail = was.mail;
        notes = subst (AreNotes notes.items) (sym (at_same boxes place box)) (subst (λ l. AreNotes l box) (sym more) (notes_more seat.notes.items (boxes place) keep note was.notes shows));
      } h

  pub is_struck : (aseq delta : ℕ) (left rest : Vec ℕ) (i to : ℕ) → seat.stage ≡ kept_stage.Puts aseq delta left → slice_get left.items i ≡ Some to
      → rest.items ≡ take i left.items ++ drop (i + 1) left.items → PutsNext place delta to seats (set seats place (record seat { stage = kept_stage.Puts aseq delta rest }))
  is_struck aseq delta left rest i to at_put stood out stages mails boxes h =
      let was = h place seat there in
      let next : suc i ≡ i + 1 = omega arith in
      let before = take i left.items in
      let behind = drop (i + 1) left.items in
      let stage = puts aseq delta (before ++ behind) in
      let whole : left.items ≡ before ++ to ∷ behind = subst (λ j. left.items ≡ take i left.items ++ to ∷ drop j left.items) next (cut_at left.items i to stood) in
      let putting : stages place ≡ puts aseq delta left.items = shows_puts aseq delta left (stages place) (subst (λ s. ShowsStage s (stages place)) at_put was.stage) in (
        record { n = aseq; before = before; behind = behind; at_put = putting ∙ ap (puts aseq delta) whole },
        seats_set seats place (record seat { stage = kept_stage.Puts aseq delta rest }) stages (at stages place stage) mails mails boxes boxes low (λ c n. (at_other stages place c stage n, refl, refl))
            record { stage = subst (ShowsStage (kept_stage.Puts aseq delta rest)) (sym (at_same stages place stage)) (refl, refl, out); mail = was.mail; notes = was.notes } h,
      )

  pub mail_is_left : (mail : Vec ℕ) (k : ℕ) → mail.items ≡ seat.mail.items ++ k ∷ [] → LeavesMail place k seats (set seats place (record seat { mail = mail }))
  mail_is_left mail k more stages mails boxes h =
      let was = h place seat there in
      let held = mails place ++ k ∷ [] in
      seats_set seats place (record seat { mail = mail }) stages stages mails (at mails place held) boxes boxes low (λ c n. (refl, at_other mails place c held n, refl))
      record { stage = was.stage; mail = more ∙ ap (λ l. l ++ k ∷ []) was.mail ∙ sym (at_same mails place held); notes = was.notes } h

  pub mail_is_emptied : (mail : Vec ℕ) → mail.items ≡ [] → EmptiesMail place seat.mail.items seats (set seats place (record seat { mail = mail }))
  mail_is_emptied mail none stages mails boxes h =
      let was = h place seat there in (
        sym was.mail,
        seats_set seats place (record seat { mail = mail }) stages stages mails (at mails place []) boxes boxes low (λ c n. (refl, at_other mails place c [] n, refl))
            record { stage = was.stage; mail = none ∙ sym (at_same mails place []); notes = was.notes } h,
      )

  pub note_is_taken : (notes : Vec KeptNote) (i : ℕ) (keep : KeptNote) → slice_get seat.notes.items i ≡ Some keep → notes.items ≡ take i seat.notes.items ++ drop (i + 1) seat.notes.items
      → TakesNote place keep seats (set seats place (record seat { notes = notes }))
  note_is_taken notes i keep stood rest stages mails boxes h =
      let was = h place seat there in
      let out = note_out seat.notes.items (boxes place) i keep stood was.notes in
      let next : suc i ≡ i + 1 = omega arith in
      let box = out.before ++ out.behind in (
        record { before = out.before; note = out.note; behind = out.behind; in_box = out.split; shows = out.shows },
        seats_set seats place (record seat { notes = notes }) stages stages mails mails boxes (at boxes place box) low (λ c n. (refl, refl, at_other boxes place c box n))
            record {
              stage = was.stage;
              mail = was.mail;
              notes = subst (AreNotes notes.items) (sym (at_same boxes place box)) (subst (λ l. AreNotes l box) (sym rest) (subst (λ j. AreNotes (take i seat.notes.items ++ drop j seat.notes.items) box) next out.rest));
            } h,
      )

-- an agent that is not there is told nothing
pub nobody_told : (seats : List Seat) (place : ℕ) (keep : KeptNote) → length seats ≤ place → Tells place keep seats seats
nobody_told seats place keep high note stages mails boxes shows h c seat there =
    let low = slice_get_within seats c seat there in
    let other : (c ≡ place → ⊥) = (λ e. omega arith) in
    let was = h c seat there in
    record { stage = was.stage; mail = was.mail; notes = subst (AreNotes seat.notes.items) (sym (at_other boxes place c (boxes place ++ note ∷ []) other)) was.notes }

pub positive : (n : ℕ) → nat_lt 0 n ≡ true → 0 < n
positive n e = grind (arith, nat_tests)

-- nothing is left where there is no mailbox
pub no_mailbox : (seats : List Seat) (place k : ℕ) → length seats ≤ place → LeavesMail place k seats seats
no_mailbox seats place k high stages mails boxes h c seat there =
    let low = slice_get_within seats c seat there in
    let other : (c ≡ place → ⊥) = (λ e. omega arith) in
    let was = h c seat there in
    record { stage = was.stage; mail = was.mail ∙ sym (at_other mails place c (mails place ++ k ∷ []) other); notes = was.notes }

-- what stands at a place
pub note_at : (notes : List KeptNote) (i : ℕ) (note d : KeptNote) → i < length notes → note ≡ get_or notes i d → slice_get notes i ≡ Some note
note_at notes i note d low e = slice_get-get_or notes i d low ∙ ap Some (sym e)

pub cpu_at : (cpus : List ℕ) (i cpu d : ℕ) → i < length cpus → cpu ≡ get_or cpus i d → slice_get cpus i ≡ Some cpu
cpu_at cpus i cpu d low e = slice_get-get_or cpus i d low ∙ ap Some (sym e)

-- a choice that the seat at the place has
pub low_choice : (seats : List Seat) (place choice : ℕ) (seat : Seat) (many : ℕ) → slice_get seats place ≡ Some seat → many ≡ choices_at seat → choice < many → choice < choices_of (slice_get seats place)
low_choice seats place choice seat many there e low = subst (λ o. choice < choices_of o) (sym there) (subst (λ n. choice < n) e low)

-- the seat that is due is the one at the place
due_here : (seats : List Seat) (place : ℕ) (seat : Seat) (next : Due) → slice_get seats place ≡ Some seat → IsDueAt seats place next → IsDue seat.stage next
due_here seats place seat next there h = let met = h.1 in let same : h.0 ≡ seat = cc in subst (λ s. IsDue s.stage next) same h.2

take_waits : (kept : KeptStage) (many : ℕ) → IsDue kept due.Take → by_stage kept many ≡ many
take_waits kept_stage.Begins many h = absurd h
take_waits (kept_stage.Puts aseq delta left) many h = absurd h
take_waits kept_stage.Waits many h = refl

-- an agent that takes a note has no choice beyond its notes
pub no_note_left : (seats : List Seat) (place : ℕ) (seat : Seat) (choice : ℕ) → slice_get seats place ≡ Some seat → IsDueAt seats place due.Take → length seat.notes.items ≤ choice
    → choices_of (slice_get seats place) ≤ choice
no_note_left seats place seat choice there h few =
    subst (λ o. choices_of o ≤ choice) (sym there) (subst (λ m. m ≤ choice) (sym (take_waits seat.stage (length seat.notes.items) (due_here seats place seat due.Take there h))) few)

-- one that puts what it sent has none beyond those that are left
pub no_put_left : (seats : List Seat) (place : ℕ) (seat : Seat) (aseq delta : ℕ) (left : Vec ℕ) (choice : ℕ) → slice_get seats place ≡ Some seat
    → seat.stage ≡ kept_stage.Puts aseq delta left → IsDueAt seats place due.Put → length left.items ≤ choice → choices_of (slice_get seats place) ≤ choice
no_put_left seats place seat aseq delta left choice there at_put h few =
    let some : 0 < length left.items = subst (λ s. IsDue s due.Put) at_put (due_here seats place seat due.Put there h) in
    let most : max 1 (length left.items) ≤ choice = omega arith in
    subst (λ o. choices_of o ≤ choice) (sym there) (subst (λ s. by_stage s (length seat.notes.items) ≤ choice) (sym at_put) most)

-- the same notes, by other words
pub seats_as : (seats : List Seat) (stages : ℕ → Stage) (mails : ℕ → List ℕ) (boxes boxes' : ℕ → List Note) → ((c : ℕ) → c < length seats → boxes' c ≡ boxes c)
    → AreSeats seats stages mails boxes → AreSeats seats stages mails boxes'
seats_as seats stages mails boxes boxes' same h c seat there =
    let was = h c seat there in
    record { stage = was.stage; mail = was.mail; notes = subst (AreNotes seat.notes.items) (sym (same c (slice_get_within seats c seat there))) was.notes }

get_more : {X : Type 0} (xs : List X) (x y : X) (i : ℕ) → slice_get (xs ++ x ∷ []) i ≡ Some y → (slice_get xs i ≡ Some y) ⊎ (x ≡ y)
get_more [] x y zero e = inr cc
get_more [] x y (suc i) e = absurd (let no : ⊥ = cc in no)
get_more (z ∷ xs) x y zero e = inl e
get_more (z ∷ xs) x y (suc i) e = get_more xs x y i e

pub no_more : (xs : List ℕ) → length xs ≡ 0 → xs ≡ []
no_more [] e = refl
no_more (x ∷ xs) e = absurd (omega arith)

pub length_more : {X : Type 0} (xs : List X) (x : X) → length (xs ++ x ∷ []) ≡ length xs + 1
length_more [] x = refl
length_more (y ∷ xs) x = let rest = length_more xs x in omega arith

-- no agent is there yet
pub seats_none : (seats : List Seat) → seats ≡ [] → AreSeats seats (λ c. begins) (λ c. []) (λ c. [])
seats_none seats none c seat there = absurd (let gone : slice_get seats c ≡ None = ap (λ l. slice_get l c) none in let no : ⊥ = cc in no)

-- one agent more, which has done nothing yet
pub seats_more : (seats : List Seat) (more : Seat) → more.stage ≡ kept_stage.Begins → more.mail.items ≡ [] → more.notes.items ≡ [] → AreSeats seats (λ c. begins) (λ c. []) (λ c. [])
    → AreSeats (seats ++ more ∷ []) (λ c. begins) (λ c. []) (λ c. [])
seats_more seats more at_begin no_mail no_note h c seat there = elim (get_more seats more seat c there) [
  | inl before ↦ h c seat before
  | inr same ↦
      subst (λ s. ShowsSeat s begins [] []) same record { stage = subst (λ s. ShowsStage s begins) (sym at_begin) tt; mail = no_mail; notes = subst (λ l. AreNotes l []) (sym no_note) tt }
]

module _ (cpu : ℕ) (note : Note) (boxes : ℕ → List Note) where
  abbrev below : ℕ → ℕ → List Note
  below n = telling_below n cpu note boxes

  -- all that are below are asked
  pub told_all : (n d : ℕ) → d < n → below n d ≡ telling_others cpu note boxes d
  told_all n d low = let yes : nat_lt d n ≡ true = grind (arith, nat_tests) in ap (λ b. if b then telling_others cpu note boxes d else boxes d) yes

  pub not_yet : (n d : ℕ) → n ≤ d → below n d ≡ boxes d
  not_yet n d high = let no : nat_lt d n ≡ false = grind (arith, nat_tests) in ap (λ b. if b then telling_others cpu note boxes d else boxes d) no

  -- the asker itself is not
  pub told_but_self : (n d : ℕ) → n ≡ cpu → below (n + 1) d ≡ below n d
  told_but_self n d self = elim (eqb_tells d n) [
    | inl e ↦
        let here : (d == cpu) ≡ true = grind (arith, nat_tests) in
        let low : d < n + 1 = omega arith in
        let high : n ≤ d = omega arith in
        told_all (n + 1) d low ∙ ap (λ b. if b then boxes d else boxes d ++ note ∷ []) here ∙ sym (not_yet n d high)
    | inr other ↦ let away = other.1 in let same : nat_lt d (n + 1) ≡ nat_lt d n = grind (arith, nat_tests) in ap (λ b. if b then telling_others cpu note boxes d else boxes d) same
  ]

  -- another one is
  pub told_next : (n d : ℕ) → (n ≡ cpu → ⊥) → below (n + 1) d ≡ at (below n) n (below n n ++ note ∷ []) d
  told_next n d self = elim (eqb_tells d n) [
    | inl e ↦
        let away : (d == cpu) ≡ false = grind (arith, nat_tests) in
        let low : d < n + 1 = omega arith in
        let box = below n n ++ note ∷ [] in
        told_all (n + 1) d low ∙ ap (λ b. if b then boxes d else boxes d ++ note ∷ []) away ∙ ap (λ m. boxes m ++ note ∷ []) e.1 ∙ ap (λ l. l ++ note ∷ []) (sym (not_yet n n (omega arith)))
        ∙ sym (ap (λ m. at (below n) n box m) e.1 ∙ at_same (below n) n box)
    | inr other ↦
        let away = other.1 in
        let same : nat_lt d (n + 1) ≡ nat_lt d n = grind (arith, nat_tests) in
        ap (λ b. if b then telling_others cpu note boxes d else boxes d) same ∙ sym (at_other (below n) n d (below n n ++ note ∷ []) other.1)
  ]

module _ (cpu : ℕ) (known : Members) (first : List Seat) where
  pub asks_none : AsksBelow 0 cpu known first first
  asks_none asked stages mails boxes same h = seats_as first stages mails boxes (telling_below 0 cpu (asks cpu asked) boxes) (λ d low. not_yet cpu (asks cpu asked) boxes 0 d (omega arith)) h

  pub asks_on : (n : ℕ) (seats : List Seat) → n ≡ cpu → AsksBelow n cpu known first seats → AsksBelow (n + 1) cpu known first seats
  asks_on n seats self before asked stages mails boxes same h =
      seats_as seats stages mails (telling_below n cpu (asks cpu asked) boxes) (telling_below (n + 1) cpu (asks cpu asked) boxes) (λ d low. told_but_self cpu (asks cpu asked) boxes n d self) (before asked stages mails boxes same h)

  pub asks_next : (n : ℕ) (seats new : List Seat) (keep : KeptNote) → (n ≡ cpu → ⊥) → ((known_set : Set) → IsSameSet known (as_members known_set) → ShowsNote keep (asks cpu known_set)) → Tells n keep seats new
      → AsksBelow n cpu known first seats → AsksBelow (n + 1) cpu known first new
  asks_next n seats new keep other shows tells before asked stages mails boxes same h =
      let note = asks cpu asked in
      let old = telling_below n cpu note boxes in
      seats_as new stages mails (telling n note old) (telling_below (n + 1) cpu note boxes) (λ d low. told_next cpu note boxes n d other) (tells note stages mails old (shows asked same) (before asked stages mails boxes same h))

  pub asks_all : (n : ℕ) (seats : List Seat) → length seats ≤ n → AsksBelow n cpu known first seats → AsksOthers cpu known first seats
  asks_all n seats many before asked stages mails boxes same h =
      let note = asks cpu asked in
      seats_as seats stages mails (telling_below n cpu note boxes) (telling_others cpu note boxes) (λ d low. sym (told_all cpu note boxes n d (omega arith))) (before asked stages mails boxes same h)

-- the agents of the CPUs below a place, but for one
range_more : (n : ℕ) → range_with_len 0 (n + 1) ≡ range_with_len 0 n ++ n ∷ []
range_more n = sym (map-id (range_with_len 0 (n + 1))) ∙ map-range_with_len_more (λ k. k) 0 n n (omega arith) ∙ ap (λ l. l ++ n ∷ []) (map-id (range_with_len 0 n))

others_more : (c n : ℕ) → others c (n + 1) ≡ others c n ++ filter (λ d. not (d == c)) (n ∷ [])
others_more c n = ap (filter (λ d. not (d == c))) (range_more n) ∙ filter-append (λ d. not (d == c)) (range_with_len 0 n) (n ∷ [])

pub others_next : (c n : ℕ) → (n ≡ c → ⊥) → others c (n + 1) ≡ others c n ++ n ∷ []
others_next c n other = let away : (n == c) ≡ false = grind (arith, nat_tests) in others_more c n ∙ ap (λ b. others c n ++ (if not b then n ∷ [] else [])) away

pub others_self : (c n : ℕ) → n ≡ c → others c (n + 1) ≡ others c n
others_self c n e = let here : (n == c) ≡ true = grind (arith, nat_tests) in others_more c n ∙ ap (λ b. others c n ++ (if not b then n ∷ [] else [])) here ∙ append-nil (others c n)
