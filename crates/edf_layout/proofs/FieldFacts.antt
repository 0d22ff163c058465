-- Fields that have the same text and the same length are the same, and a header is its fields.
use Rattle.std.proofs.Common.{◌≡◌, ℕ, zero, suc, ◌+◌, ◌*◌, ◌-◌, ◌<◌, ◌≤◌, List, [], ◌∷◌, ◌++◌, length, drop, arith, refl, ap, ◌∙◌, sym, subst, true, false, Bool, cond, replicate, ◌==◌}
use Rattle.std.specs.List.{list_all}
use Rattle.std.proofs.lemmas.Grind.{common_steps}
use Rattle.std.proofs.lemmas.Bool.Decides.{nat_tests}
use Rattle.std.proofs.lemmas.List.{length-drop, take-append-drop, drop-drop}
use Rattle.edf_fields.specs.Parts.{part, text_of}
use Rattle.edf_fields.specs.declared.fields.layout.FixedField.{FixedField}
use Rattle.edf_fields.specs.declared.fields.layout.FixedField.TheVariants as fixed
use Rattle.edf_fields.specs.declared.fields.layout.SignalField.{SignalField}
use Rattle.edf_fields.specs.declared.fields.layout.SignalField.TheVariants as signal
use Rattle.edf_fields.specs.fields.Layout.{fixed_field, column_extent}
use Rattle.edf_fields.specs.fields.LayoutReading.{column_field}

-- spaces alone
all-spaces : (xs : List ℕ) → list_all (λ b. b == 32) xs ≡ true → xs ≡ replicate (length xs) 32
all-spaces [] h = refl
all-spaces (c ∷ cs) h = grind (arith, nat_tests, common_steps, all-spaces cs)

filled-more : (c : ℕ) (cs t : List ℕ) (b : Bool) → (b ≡ true → c ∷ cs ≡ replicate (length (c ∷ cs)) 32) → cs ≡ t ++ replicate (length cs - length t) 32
    → c ∷ cs ≡ cond b [] (c ∷ t) ++ replicate (length (c ∷ cs) - length (cond b [] (c ∷ t))) 32
filled-more c cs t true all rest = all refl ∙ ap (λ n. replicate n 32) (let e : suc (length cs) ≡ suc (length cs) - 0 = omega arith in e)
filled-more c cs t false all rest =
    ap (λ r. c ∷ r) rest ∙ ap (λ n. (c ∷ t) ++ replicate n 32) (let e : length cs - length t ≡ suc (length cs) - suc (length t) = omega arith in e)

-- a field is its text, and spaces up to its end
pub filled : (xs : List ℕ) → xs ≡ text_of xs ++ replicate (length xs - length (text_of xs)) 32
filled [] = refl
filled (c ∷ cs) = filled-more c cs (text_of cs) (list_all (λ b. b == 32) (c ∷ cs)) (all-spaces (c ∷ cs)) (filled cs)

pub text-same : (xs ys : List ℕ) → length xs ≡ length ys → text_of xs ≡ text_of ys → xs ≡ ys
text-same xs ys long same =
    filled xs
    ∙ ap (λ n. text_of xs ++ replicate (n - length (text_of xs)) 32) long
    ∙ ap (λ t. t ++ replicate (length ys - length t) 32) same
    ∙ sym (filled ys)

-- what stands from a place on is the part there and what stands behind it
pub part-then : (xs : List ℕ) (at n : ℕ) → drop at xs ≡ part xs at n ++ drop (at + n) xs
part-then xs at n = sym (take-append-drop n (drop at xs)) ∙ ap (λ r. part xs at n ++ r) (drop-drop n at xs)

pub join-parts : (xs ys : List ℕ) (at n : ℕ) → part xs at n ≡ part ys at n → drop (at + n) xs ≡ drop (at + n) ys → drop at xs ≡ drop at ys
join-parts xs ys at n here behind =
    part-then xs at n ∙ ap (λ p. p ++ drop (at + n) xs) here ∙ ap (λ r. part ys at n ++ r) behind ∙ sym (part-then ys at n)

pub nothing-behind : (xs : List ℕ) (at : ℕ) → length xs ≤ at → drop at xs ≡ []
nothing-behind xs at h = empty (drop at xs) (let long = length-drop at xs in omega arith)
  where
    empty : (zs : List ℕ) → length zs ≡ 0 → zs ≡ []
    empty [] h = refl
    empty (z ∷ zs) h = absurd (omega arith)

pub fixed-same : (xs ys : List ℕ) → length xs ≡ 256 → length ys ≡ 256 → ((field : FixedField) → fixed_field xs field ≡ fixed_field ys field) → xs ≡ ys
fixed-same xs ys long other same =
    let end : drop 256 xs ≡ drop 256 ys = nothing-behind xs 256 (omega arith) ∙ sym (nothing-behind ys 256 (omega arith)) in
    let j = join-parts xs ys in
    j 0 8 (same fixed.Version) (j 8 80 (same fixed.Patient) (j 88 80 (same fixed.Recording) (j 168 8 (same fixed.Startdate)
    (j 176 8 (same fixed.Starttime) (j 184 8 (same fixed.HeaderBytes) (j 192 44 (same fixed.Reserved) (j 236 8 (same fixed.Records)
    (j 244 8 (same fixed.Duration) (j 252 4 (same fixed.Signals) end)))))))))

-- the m fields from signal s on, in a column that begins at a place and has fields of w bytes
pub column-same : (xs ys : List ℕ) (at w s m : ℕ) → ((k : ℕ) → s ≤ k → k < s + m → part xs (at + w * k) w ≡ part ys (at + w * k) w)
    → drop (at + w * (s + m)) xs ≡ drop (at + w * (s + m)) ys → drop (at + w * s) xs ≡ drop (at + w * s) ys
column-same xs ys at w s zero each behind = subst (λ n. drop (at + w * n) xs ≡ drop (at + w * n) ys) (let e : s + 0 ≡ s = omega arith in e) behind
column-same xs ys at w s (suc m) each behind =
    let next : drop (at + w * (s + 1)) xs ≡ drop (at + w * (s + 1)) ys =
    column-same xs ys at w (s + 1) m (λ k low high. each k (omega arith) (omega arith))
    (subst (λ n. drop (at + w * n) xs ≡ drop (at + w * n) ys) (let e : s + suc m ≡ s + 1 + m = omega arith in e) behind) in
    let there : at + w * (s + 1) ≡ at + w * s + w = omega arith in
    join-parts xs ys (at + w * s) w (each s (omega arith) (omega arith)) (subst (λ n. drop n xs ≡ drop n ys) there next)

-- one column
pub field-column : (xs ys : List ℕ) (n : ℕ) (field : SignalField) → ((s : ℕ) → s < n → column_field xs n s field ≡ column_field ys n s field)
    → drop ((column_extent field).0 * n + (column_extent field).1 * n) xs ≡ drop ((column_extent field).0 * n + (column_extent field).1 * n) ys
    → drop ((column_extent field).0 * n) xs ≡ drop ((column_extent field).0 * n) ys
field-column xs ys n field same behind =
    let from = (column_extent field).0 * n in
    let w = (column_extent field).1 in
    let all : drop (from + w * 0) xs ≡ drop (from + w * 0) ys =
    column-same xs ys from w 0 n (λ k low high. same k (omega arith)) (subst (λ m. drop (from + w * m) xs ≡ drop (from + w * m) ys) (let e : n ≡ 0 + n = omega arith in e) behind) in
    subst (λ m. drop m xs ≡ drop m ys) (let e : from + w * 0 ≡ from = omega arith in e) all

pub columns-same : (xs ys : List ℕ) (n : ℕ) → length xs ≡ 256 * n → length ys ≡ 256 * n
    → ((s : ℕ) → s < n → (field : SignalField) → column_field xs n s field ≡ column_field ys n s field) → xs ≡ ys
columns-same xs ys n long other same =
    let end : drop (256 * n) xs ≡ drop (256 * n) ys = nothing-behind xs (256 * n) (omega arith) ∙ sym (nothing-behind ys (256 * n) (omega arith)) in
    let at : (a b : ℕ) → a ≡ b → drop b xs ≡ drop b ys → drop a xs ≡ drop a ys = λ a b e h. subst (λ k. drop k xs ≡ drop k ys) (sym e) h in
    let c : (field : SignalField) → drop ((column_extent field).0 * n + (column_extent field).1 * n) xs ≡ drop ((column_extent field).0 * n + (column_extent field).1 * n) ys
    → drop ((column_extent field).0 * n) xs ≡ drop ((column_extent field).0 * n) ys = λ field. field-column xs ys n field (λ s low. same s low field) in
    let r = c signal.Reserved (at (224 * n + 32 * n) (256 * n) (omega arith) end) in
    let q = c signal.Samples (at (216 * n + 8 * n) (224 * n) (omega arith) r) in
    let p = c signal.Prefilter (at (136 * n + 80 * n) (216 * n) (omega arith) q) in
    let o = c signal.DigitalMaximum (at (128 * n + 8 * n) (136 * n) (omega arith) p) in
    let m = c signal.DigitalMinimum (at (120 * n + 8 * n) (128 * n) (omega arith) o) in
    let l = c signal.PhysicalMaximum (at (112 * n + 8 * n) (120 * n) (omega arith) m) in
    let k = c signal.PhysicalMinimum (at (104 * n + 8 * n) (112 * n) (omega arith) l) in
    let j = c signal.Dimension (at (96 * n + 8 * n) (104 * n) (omega arith) k) in
    let i = c signal.Transducer (at (16 * n + 80 * n) (96 * n) (omega arith) j) in
    at 0 (0 * n) (omega arith) (c signal.Label (at (0 * n + 16 * n) (16 * n) (omega arith) i))

-- a text is at most as long as its field
pub length-text_of : (bs : List ℕ) → length (text_of bs) ≤ length bs
length-text_of [] = omega arith
length-text_of (c ∷ cs) = grind (arith, common_steps, length-text_of cs)
