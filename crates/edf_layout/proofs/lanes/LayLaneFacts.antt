-- The TALs of a lane are laid out one by one.
use Rattle.std.proofs.Common.{◌≡◌, ℕ, Bool, true, false, List, [], ◌∷◌, ◌++◌, map, Ok, Err, refl, ap, ◌∙◌, sym, subst, append_assoc}
use Rattle.std.proofs.lemmas.List.{map-append, append-nil}
use Rattle.edf_fields.specs.declared.faults.cause.TalCause.{TalCause}
use Rattle.edf_stream.specs.annotation.Notes.{NoteValue}
use Rattle.edf_tal.specs.Reading.{Item, behind}
use Rattle.edf_tal.specs.Tals.{TalValue}
use Rattle.edf_layout.specs.body.BodyLayouts.{PlacedTal, content_of, timekeeping_of, lane_contents}
use Rattle.edf_layout.specs.body.LaneLayouts.{TalLayout, IsLaidLane}
use Rattle.edf_layout.specs.body.LaneReading.{keeps_now, layout_at, contents_by, IsLaidAs}
use Rattle.edf_layout.proofs.body.ContentFacts.{cons-first, cons-rest, not-nil}
use Rattle.edf_layout.proofs.body.LayoutFacts.{spelled_of, said_of}
use Rattle.edf_layout.proofs.lanes.LaneReadFacts.{first-read}

-- what is left of a lane behind the TALs that are laid out
pub record Left (notes : List NoteValue) (keeps : Bool) (tals : List TalValue) (layouts : List TalLayout) (laid : List PlacedTal) (rest : List ℕ) (items : List Item) : Type 0 where
  pub left : List TalValue
  pub spellings : List TalLayout
  pub there : IsLaidLane rest left spellings
  pub items_are : items ≡ map Ok left
  pub spelled : spelled_of laid ++ spellings ≡ layouts
  pub said : said_of laid ++ contents_by (keeps_now keeps laid) notes left ≡ contents_by keeps notes tals

pub all-left : (notes : List NoteValue) (keeps : Bool) (tals : List TalValue) (layouts : List TalLayout) (lane : List ℕ) (items : List Item) → (items ≡ map Ok tals)
    → IsLaidLane lane tals layouts → Left notes keeps tals layouts [] lane items
all-left notes keeps tals layouts lane items read laid = record {
  left = tals;
  spellings = layouts;
  there = laid;
  items_are = read;
  spelled = refl;
  said = refl;
}

-- nothing is left
pub none-left : (notes : List NoteValue) (keeps : Bool) (tals : List TalValue) (layouts : List TalLayout) (laid : List PlacedTal) (rest : List ℕ) (items : List Item)
    → items ≡ [] → Left notes keeps tals layouts laid rest items → IsLaidAs notes keeps tals layouts laid
none-left notes keeps tals layouts laid rest items none l = ends l.left l.spellings l.there (sym l.items_are ∙ none) l.spelled l.said
  where
    nothing : (b : Bool) → contents_by b notes [] ≡ []
    nothing true = refl
    nothing false = refl

    ends : (left : List TalValue) (spellings : List TalLayout) → IsLaidLane rest left spellings → map {B = Item} Ok left ≡ [] → spelled_of laid ++ spellings ≡ layouts
        → said_of laid ++ contents_by (keeps_now keeps laid) notes left ≡ contents_by keeps notes tals → IsLaidAs notes keeps tals layouts laid
    ends [] [] there e spelled said = record {
      spelled = sym (append-nil (spelled_of laid)) ∙ spelled;
      said = sym (append-nil (said_of laid)) ∙ ap (λ x. said_of laid ++ x) (sym (nothing (keeps_now keeps laid))) ∙ said;
    }
    ends [] (s ∷ ss) there e spelled said = absurd there
    ends (t ∷ ts) spellings there e spelled said = absurd (let one : Item = Ok t in not-nil one (map Ok ts) (sym e))

-- a lane of TALs has no fault
pub no-fault : (notes : List NoteValue) (keeps : Bool) (tals : List TalValue) (layouts : List TalLayout) (laid : List PlacedTal) (rest : List ℕ) (items more : List Item) (cause : TalCause)
    → items ≡ Err cause ∷ more → Left notes keeps tals layouts laid rest items → ⊥
no-fault notes keeps tals layouts laid rest items more cause e l = clash l.left (sym l.items_are ∙ e)
  where
    clash : (left : List TalValue) → map {B = Item} Ok left ≡ Err cause ∷ more → ⊥
    clash [] e = (let one : Item = Err cause in not-nil one more e)
    clash (t ∷ ts) e = (let one : Item = Ok t in let two : Item = Err cause in let z : one ≡ two = cons-first one two (map Ok ts) more e in apart t z)
      where
        apart : (t : TalValue) → (let one : Item = Ok t in one ≡ Err cause) → ⊥
        apart t e = cc

-- one more is laid out
pub one-more : (notes : List NoteValue) (keeps : Bool) (tals : List TalValue) (layouts : List TalLayout) (laid after : List PlacedTal) (rest : List ℕ) (items more : List Item) (tal : TalValue) (p : PlacedTal)
    → items ≡ Ok tal ∷ more → p.spelling ≡ layout_at rest
    → (keeps_now keeps laid ≡ true → p.content ≡ timekeeping_of notes tal) → (keeps_now keeps laid ≡ false → p.content ≡ content_of notes tal) → after ≡ laid ++ p ∷ []
    → Left notes keeps tals layouts laid rest items → Left notes keeps tals layouts after (behind 0 rest) more
one-more notes keeps tals layouts laid after rest items more tal p e spelling time other pushed l =
    goes l.left l.spellings l.there (sym l.items_are ∙ e) l.spelled l.said
  where
    later : keeps_now keeps after ≡ false
    later = ap (keeps_now keeps) pushed ∙ behind-one laid
      where
        behind-one : (xs : List PlacedTal) → keeps_now keeps (xs ++ p ∷ []) ≡ false
        behind-one [] = refl
        behind-one (x ∷ xs) = refl

    same : (t u : TalValue) → (let one : Item = Ok t in one ≡ Ok u) → t ≡ u
    same t u e = cc

    contents : (b : Bool) (ts : List TalValue) → (b ≡ true → p.content ≡ timekeeping_of notes tal) → (b ≡ false → p.content ≡ content_of notes tal)
        → p.content ∷ lane_contents notes ts ≡ contents_by b notes (tal ∷ ts)
    contents true ts h k = ap (λ c. c ∷ lane_contents notes ts) (h refl)
    contents false ts h k = ap (λ c. c ∷ lane_contents notes ts) (k refl)

    goes : (left : List TalValue) (spellings : List TalLayout) → IsLaidLane rest left spellings → map {B = Item} Ok left ≡ Ok tal ∷ more → spelled_of laid ++ spellings ≡ layouts
        → said_of laid ++ contents_by (keeps_now keeps laid) notes left ≡ contents_by keeps notes tals → Left notes keeps tals layouts after (behind 0 rest) more
    goes [] spellings there e spelled said = absurd (let one : Item = Ok tal in not-nil one more e)
    goes (t ∷ ts) [] there e spelled said = absurd there
    goes (t ∷ ts) (s ∷ ss) (bytes, tail, is, whole, next) e spelled said =
        let one : Item = Ok t in
        let two : Item = Ok tal in
        let first : t ≡ tal = same t tal (cons-first one two (map Ok ts) more e) in
        let read = first-read rest bytes tail t s is whole in
        record {
          left = ts;
          spellings = ss;
          there = subst (λ r. IsLaidLane r ts ss) (sym read.1) next;
          items_are = sym (cons-rest one two (map Ok ts) more e);
          spelled =
              ap (λ xs. spelled_of xs ++ ss) pushed ∙ ap (λ xs. xs ++ ss) (map-append (λ (q : PlacedTal). q.spelling) laid (p ∷ []))
              ∙ append_assoc (spelled_of laid) (p.spelling ∷ []) ss ∙ ap (λ x. spelled_of laid ++ (x ∷ ss)) (spelling ∙ read.0) ∙ spelled;
          said =
              ap (λ b. said_of after ++ contents_by b notes ts) later ∙ ap (λ xs. said_of xs ++ lane_contents notes ts) pushed
              ∙ ap (λ xs. xs ++ lane_contents notes ts) (map-append (λ (q : PlacedTal). q.content) laid (p ∷ []))
              ∙ append_assoc (said_of laid) (p.content ∷ []) (lane_contents notes ts)
              ∙ ap (λ x. said_of laid ++ x) (contents (keeps_now keeps laid) ts time other ∙ ap (λ (z : TalValue). contents_by (keeps_now keeps laid) notes (z ∷ ts)) (sym first)) ∙ said;
        }
