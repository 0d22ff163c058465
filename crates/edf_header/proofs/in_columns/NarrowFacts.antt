-- Columns that are kept without the spaces at the ends of their fields.
use Rattle.std.proofs.Common.{◌≡◌, ℕ, zero, suc, ◌+◌, ◌-◌, ◌*◌, ◌<◌, ◌≤◌, max, ◌&&◌, ◌==◌, List, [], ◌∷◌, ◌++◌, length, take, drop, replicate, Bool, true, false, cond, refl, sym, ap, ◌∙◌, arith, append_assoc, add-one}
use Rattle.std.proofs.Math.Seq.{take-append_seam, drop-append_seam}
use Rattle.std.proofs.lemmas.Grind.{common_steps}
use Rattle.std.proofs.lemmas.List.{length-append, length-take-le, length-replicate, take-append-drop, take-take, drop-drop, drop-replicate, length-drop, replicate_more}
use Rattle.std.proofs.lemmas.List.Folds.{list_all-append}
use Rattle.std.specs.List.{list_all}
use Rattle.edf_fields.specs.Parts.{part, text_of}
use Rattle.edf_fields.specs.texts.PrintableReading.{is_printable}
use Rattle.edf_header.specs.Narrow.{longest_text, narrowed, widened, SaysTheSame}

-- a field of spaces alone
blank : (xs : List ℕ) → list_all (λ b. b == 32) xs ≡ true → xs ≡ replicate (length xs) 32
blank [] h = refl
blank (d ∷ ds) h = grind (arith, common_steps, blank ds)

behind-case : (b : Bool) (c : ℕ) (cs : List ℕ) → list_all (λ b. b == 32) (c ∷ cs) ≡ b → drop (length (text_of cs)) cs ≡ replicate (length cs - length (text_of cs)) 32
    → drop (length (cond b [] (c ∷ text_of cs))) (c ∷ cs) ≡ replicate (length (c ∷ cs) - length (cond b [] (c ∷ text_of cs))) 32
behind-case true c cs h rest =
    let all : length (c ∷ cs) - 0 ≡ length (c ∷ cs) = omega arith in
    blank (c ∷ cs) h ∙ ap (λ k. replicate k 32) (sym all)
behind-case false c cs h rest =
    let e : length (c ∷ cs) - length (c ∷ text_of cs) ≡ length cs - length (text_of cs) = omega arith in
    rest ∙ ap (λ k. replicate k 32) (sym e)

-- what stands behind the text of a field is spaces
pub behind-text : (xs : List ℕ) → drop (length (text_of xs)) xs ≡ replicate (length xs - length (text_of xs)) 32
behind-text [] = refl
behind-text (c ∷ cs) = behind-case (list_all (λ b. b == 32) (c ∷ cs)) c cs refl (behind-text cs)

-- a space at the end doesn't count
text-space : (bs : List ℕ) → text_of (bs ++ 32 ∷ []) ≡ text_of bs
text-space [] = refl
text-space (c ∷ cs) = grind (arith, common_steps, text-space cs)

append-nil : (xs : List ℕ) → xs ++ [] ≡ xs
append-nil [] = refl
append-nil (x ∷ xs) = ap (λ r. x ∷ r) (append-nil xs)

pub text-spaces : (bs : List ℕ) (k : ℕ) → text_of (bs ++ replicate k 32) ≡ text_of bs
text-spaces bs zero = ap text_of (append-nil bs)
text-spaces bs (suc k) =
    let space : ℕ = 32 in
    let more : replicate (suc k) space ≡ replicate k space ++ space ∷ [] = ap (λ n. replicate n space) (sym (add-one k)) ∙ sym (replicate_more k space) in
    ap (λ xs. text_of (bs ++ xs)) more
    ∙ ap text_of (sym (append_assoc bs (replicate k 32) (32 ∷ [])))
    ∙ text-space (bs ++ replicate k 32)
    ∙ text-spaces bs k

pub all-printable : (k : ℕ) → list_all is_printable (replicate k 32) ≡ true
all-printable zero = refl
all-printable (suc k) = all-printable k

and-right : (b : Bool) → (b && true) ≡ b
and-right true = refl
and-right false = refl

pub printable-spaces : (bs : List ℕ) (k : ℕ) → list_all is_printable (bs ++ replicate k 32) ≡ list_all is_printable bs
printable-spaces bs k =
    list_all-append is_printable bs (replicate k 32)
    ∙ ap (λ b. list_all is_printable bs && b) (all-printable k)
    ∙ and-right (list_all is_printable bs)

-- a field without spaces at its end says the same
pub says-the-same : (xs field : List ℕ) (k : ℕ) → field ≡ xs ++ replicate k 32 → SaysTheSame xs field
says-the-same xs field k e = record {
  text = sym (text-spaces xs k) ∙ ap text_of (sym e);
  printable = sym (printable-spaces xs k) ∙ ap (list_all is_printable) (sym e);
  within = let long : length field ≡ length xs + length (replicate k 32) = ap length e ∙ length-append xs (replicate k 32) in omega (arith, long);
}

-- the next field, and those behind it
pub drop-next : (w f : ℕ) (bytes : List ℕ) → drop w (drop (w * f) bytes) ≡ drop (w * (f + 1)) bytes
drop-next w f bytes = let e : w * f + w ≡ w * (f + 1) = omega arith in drop-drop w (w * f) bytes ∙ ap (λ k. drop k bytes) e

drop-first : (w : ℕ) (bytes : List ℕ) → drop (w * 0) bytes ≡ bytes
drop-first w bytes = let e : w * 0 ≡ 0 = omega arith in ap (λ k. drop k bytes) e

pub longest_begins : (w m : ℕ) (bytes : List ℕ) → max 0 (longest_text w (m - 0) (drop (w * 0) bytes)) ≡ longest_text w m bytes
longest_begins w m bytes =
    let all : m - 0 ≡ m = omega arith in
    ap (λ k. max 0 (longest_text w k (drop (w * 0) bytes))) all ∙ ap (λ xs. max 0 (longest_text w m xs)) (drop-first w bytes) ∙ omega arith

pub longest_next : (w m f a : ℕ) (bytes : List ℕ) → f < m
    → max (max (length (text_of (part bytes (w * f) w))) a) (longest_text w (m - (f + 1)) (drop (w * (f + 1)) bytes))
    ≡ max a (longest_text w (m - f) (drop (w * f) bytes))
longest_next w m f a bytes lt =
    let next : suc (m - (f + 1)) ≡ m - f = omega (arith, lt) in
    let here : ℕ = length (text_of (part bytes (w * f) w)) in
    let turned : (b : ℕ) → max (max here a) b ≡ max a (max here b) = λ b. omega arith in
    turned (longest_text w (m - (f + 1)) (drop (w * (f + 1)) bytes))
    ∙ ap (λ xs. max a (max here (longest_text w (m - (f + 1)) xs))) (sym (drop-next w f bytes))
    ∙ ap (λ k. max a (longest_text w k (drop (w * f) bytes))) next

pub longest_ends : (w m a : ℕ) (bytes : List ℕ) → max a (longest_text w (m - m) (drop (w * m) bytes)) ≡ a
longest_ends w m a bytes =
    let none : m - m ≡ 0 = omega arith in
    ap (λ k. max a (longest_text w k (drop (w * m) bytes))) none ∙ omega arith

pub narrow_begins : (w d m : ℕ) (bytes : List ℕ) → narrowed w d (m - 0) (drop (w * 0) bytes) ≡ narrowed w d m bytes
narrow_begins w d m bytes =
    let all : m - 0 ≡ m = omega arith in
    ap (λ k. narrowed w d k (drop (w * 0) bytes)) all ∙ ap (narrowed w d m) (drop-first w bytes)

pub narrow_next : (w d m f : ℕ) (bytes out all : List ℕ) → f < m → out ++ narrowed w d (m - f) (drop (w * f) bytes) ≡ all
    → (out ++ part bytes (w * f) d) ++ narrowed w d (m - (f + 1)) (drop (w * (f + 1)) bytes) ≡ all
narrow_next w d m f bytes out all lt h =
    let next : suc (m - (f + 1)) ≡ m - f = omega (arith, lt) in
    append_assoc out (part bytes (w * f) d) (narrowed w d (m - (f + 1)) (drop (w * (f + 1)) bytes))
    ∙ ap (λ xs. out ++ (part bytes (w * f) d ++ narrowed w d (m - (f + 1)) xs)) (sym (drop-next w f bytes))
    ∙ ap (λ k. out ++ narrowed w d k (drop (w * f) bytes)) next
    ∙ h

-- a field that is filled up again
pub filled-again : (w d : ℕ) (xs : List ℕ) → length xs ≡ w → length (text_of xs) ≤ d → d ≤ w → take d xs ++ replicate (w - d) 32 ≡ xs
filled-again w d xs long short within =
    let t : ℕ = length (text_of xs) in
    let split : t + (d - t) ≡ d = omega (arith, short) in
    let rest : drop d xs ≡ replicate (w - d) 32 =
    ap (λ k. drop k xs) (sym split) ∙ sym (drop-drop (d - t) t xs) ∙ ap (drop (d - t)) (behind-text xs)
    ∙ drop-replicate (d - t) (length xs - t) 32
    ∙ (let count : length xs - t - (d - t) ≡ w - d = omega (arith, long, short, within) in ap (λ k. replicate k 32) count) in
    ap (λ ys. take d xs ++ ys) (sym rest) ∙ take-append-drop d xs

pub length-narrowed : (w d m : ℕ) (bytes : List ℕ) → d ≤ w → length bytes ≡ w * m → length (narrowed w d m bytes) ≡ d * m
length-narrowed w d zero bytes within long = omega arith
length-narrowed w d (suc m) bytes within long =
    let here : length (take d bytes) ≡ d = length-take-le d bytes (omega (arith, long, within)) in
    let left : length (drop w bytes) ≡ w * m = length-drop w bytes ∙ omega (arith, long) in
    length-append (take d bytes) (narrowed w d m (drop w bytes))
    ∙ (let more = length-narrowed w d m (drop w bytes) within left in omega (arith, here, more))

-- a column whose fields have no longer texts is itself again
pub widened-narrowed : (w d m : ℕ) (bytes : List ℕ) → d ≤ w → length bytes ≡ w * m → longest_text w m bytes ≤ d → widened w d m (narrowed w d m bytes) ≡ bytes
widened-narrowed w d zero [] within long short = refl
widened-narrowed w d zero (b ∷ bs) within long short = absurd (omega (arith, long))
widened-narrowed w d (suc m) bytes within long short =
    let enough : w ≤ length bytes = omega (arith, long) in
    let here : length (take d bytes) ≡ d = length-take-le d bytes (omega (arith, enough, within)) in
    let left : length (drop w bytes) ≡ w * m = length-drop w bytes ∙ omega (arith, long) in
    let rest : List ℕ = narrowed w d m (drop w bytes) in
    let front : take d (take d bytes ++ rest) ≡ take d bytes = ap (λ k. take k (take d bytes ++ rest)) (sym here) ∙ take-append_seam (take d bytes) rest in
    let behind : drop d (take d bytes ++ rest) ≡ rest = ap (λ k. drop k (take d bytes ++ rest)) (sym here) ∙ drop-append_seam (take d bytes) rest in
    let field : take d bytes ++ replicate (w - d) 32 ≡ take w bytes =
    ap (λ xs. xs ++ replicate (w - d) 32) (sym (take-take d w bytes within))
    ∙ filled-again w d (take w bytes) (length-take-le w bytes enough) (omega (arith, short)) within in
    ap (λ xs. (xs ++ replicate (w - d) 32) ++ widened w d m (drop d (take d bytes ++ rest))) front
    ∙ ap (λ xs. (take d bytes ++ replicate (w - d) 32) ++ widened w d m xs) behind
    ∙ ap (λ xs. xs ++ widened w d m rest) field
    ∙ ap (λ xs. take w bytes ++ xs) (widened-narrowed w d m (drop w bytes) within left (omega (arith, short)))
    ∙ take-append-drop w bytes

-- a field that is filled up
abbrev filled : ℕ → ℕ → List ℕ → List ℕ
filled w d xs = take d xs ++ replicate (w - d) 32

length-filled : (w d : ℕ) (xs : List ℕ) → d ≤ w → d ≤ length xs → length (filled w d xs) ≡ w
length-filled w d xs within enough =
    let space : ℕ = 32 in
    let here : length (take d xs) ≡ d = length-take-le d xs enough in
    let more : length (replicate (w - d) space) ≡ w - d = length-replicate (w - d) space in
    length-append (take d xs) (replicate (w - d) space) ∙ omega (arith, here, more, within)

pub length-widened : (w d m : ℕ) (bytes : List ℕ) → d ≤ w → length bytes ≡ d * m → length (widened w d m bytes) ≡ w * m
length-widened w d zero bytes within long = omega arith
length-widened w d (suc m) bytes within long =
    let field : length (filled w d bytes) ≡ w = length-filled w d bytes within (omega (arith, long)) in
    let left : length (drop d bytes) ≡ d * m = length-drop d bytes ∙ omega (arith, long) in
    let more : length (widened w d m (drop d bytes)) ≡ w * m = length-widened w d m (drop d bytes) within left in
    length-append (filled w d bytes) (widened w d m (drop d bytes)) ∙ omega (arith, field, more)

-- the parts of what stands behind a front
part-first : (w : ℕ) (xs ys : List ℕ) → length xs ≡ w → part (xs ++ ys) (w * 0) w ≡ xs
part-first w xs ys long =
    ap (take w) (drop-first w (xs ++ ys)) ∙ ap (λ k. take k (xs ++ ys)) (sym long) ∙ take-append_seam xs ys

part-behind : (w s : ℕ) (xs ys : List ℕ) → length xs ≡ w → part (xs ++ ys) (w * suc s) w ≡ part ys (w * s) w
part-behind w s xs ys long =
    let e : w * suc s ≡ w + w * s = omega arith in
    ap (λ k. take w (drop k (xs ++ ys))) e
    ∙ ap (take w) (sym (drop-drop (w * s) w (xs ++ ys)))
    ∙ ap (λ k. take w (drop (w * s) (drop k (xs ++ ys)))) (sym long)
    ∙ ap (λ zs. take w (drop (w * s) zs)) (drop-append_seam xs ys)

-- a field of a column that is filled up again
pub part-widened : (w d m s : ℕ) (bytes : List ℕ) → s < m → d ≤ w → length bytes ≡ d * m → part (widened w d m bytes) (w * s) w ≡ part bytes (d * s) d ++ replicate (w - d) 32
part-widened w d zero s bytes lt within long = absurd (omega (arith, lt))
part-widened w d (suc m) zero bytes lt within long =
    part-first w (filled w d bytes) (widened w d m (drop d bytes)) (length-filled w d bytes within (omega (arith, long)))
    ∙ ap (filled w d) (sym (drop-first d bytes))
part-widened w d (suc m) (suc s) bytes lt within long =
    let left : length (drop d bytes) ≡ d * m = length-drop d bytes ∙ omega (arith, long) in
    let here : drop (d * s) (drop d bytes) ≡ drop (d * suc s) bytes =
    drop-drop (d * s) d bytes ∙ (let e : d + d * s ≡ d * suc s = omega arith in ap (λ k. drop k bytes) e) in
    part-behind w s (filled w d bytes) (widened w d m (drop d bytes)) (length-filled w d bytes within (omega (arith, long)))
    ∙ part-widened w d m s (drop d bytes) (omega (arith, lt)) within left
    ∙ ap (filled w d) here

-- the field of a column as it is kept
pub field_kept : (w d m s : ℕ) (bytes front : List ℕ) → s < m → d ≤ w → length bytes ≡ d * m → front ≡ part bytes (d * s) d → SaysTheSame front (part (widened w d m bytes) (w * s) w)
field_kept w d m s bytes front lt within long e =
    says-the-same front (part (widened w d m bytes) (w * s) w) (w - d) (part-widened w d m s bytes lt within long ∙ ap (λ xs. xs ++ replicate (w - d) 32) (sym e))

pub narrow_ends : (w d m : ℕ) (bytes out all : List ℕ) → out ++ narrowed w d (m - m) (drop (w * m) bytes) ≡ all → out ≡ all
narrow_ends w d m bytes out all h =
    let none : m - m ≡ 0 = omega arith in
    sym (append-nil out) ∙ ap (λ k. out ++ narrowed w d k (drop (w * m) bytes)) (sym none) ∙ h

-- a column as it is kept is the column that it was made of
pub column-kept : (w d m : ℕ) (bytes kept : List ℕ) → d ≡ longest_text w m bytes → d ≤ w → length bytes ≡ w * m → kept ≡ narrowed w d m bytes → widened w d m kept ≡ bytes
column-kept w d m bytes kept longest within long e = ap (widened w d m) e ∙ widened-narrowed w d m bytes within long (omega (arith, longest))
