-- A table that says a claim passes its tests, and the claim is the one that is read of it.
use Rattle.std.proofs.Common.{◌≡◌, ◌≢◌, ℕ, suc, ℤ, pos, neg_ℤ, ◌-◌, ◌^◌, ◌==◌, nat_le, nat_lt, int_le, int_lt, not, ◌&&◌, ◌||◌, ◌⊎◌, Bool, true, false, cond, List, [], ◌∷◌, length, map, slice_index, Option, Some, None, is_some, option_map, option_and_then, codes, inl, inr, ⊎_elim, ◌↔◌, refl, sym, ap, ◌∙◌, subst, arith}
use Rattle.std.specs.List.{All, list_all}
use Rattle.std.specs.Str.{bytes_eq}
use Rattle.std.proofs.lemmas.Bool.Decides.{nat_tests, Decides-int_eq}
use Rattle.std.proofs.lemmas.Slice.Eq.{bytes_eq-Decides}
use Rattle.toml.specs.Data.{Data, string, array, Items, Members, no_members, member, get_member, as_str, as_integer, as_array}
use Rattle.edf_fields.specs.texts.PrintableReading.{is_printable}
use Rattle.edf_fields.specs.texts.OnsetsReading.{span_of, SpellsSpan}
use Rattle.edf_fields.proofs.ForCallers.{le_decided, span_of_spelled, has-one_of, both-true, not-is, distinct-passes, le-passes, lt-passes, printable_decided, which-read, same-name}
use Rattle.edf_claim.specs.Claims.{text_items, HasOnlyKeys, claim_keys, more_claim_keys, interval_keys, IsLabel, SaysInterval, AreIntervals, IsFollowedBy, AreInOrder, IsInterval, SaysFormat, HasFormat, HasKeysOfFormat, SaysChannels, SaysKeep, SaysAnonymous, SaysShift, SaysRemove, SaysRemovePrefix, SaysBlank, SaysClaim, SaysOneClaim}
use Rattle.edf_fields.specs.fields.SubfieldNames.{name_of}
use Rattle.edf_claim.specs.ClaimValues.{ClaimValue}
use Rattle.edf_claim.specs.Faults.{FailsOr, FirstTableFault, ThereIs, SaysClaimOrFault, FaultIsFirst}
use Rattle.edf_fields.specs.Lists.{Has, is_one_of}
use Rattle.edf_fields.specs.Distinct.{AreDistinct, are_distinct}
use Rattle.edf_claim.specs.Reading.{option_is, keys_are, texts_of, distinct_texts, distinct_prefixes, is_format, has_format, has_keys_of_format, is_label, channels_of, span_at, interval_from, interval_of, intervals_of, is_followed_by, are_in_order, keep_of, whiches_of, or_default, anonymous_of, shift_within, shift_of, remove_of, remove_prefix_of, blank_of, claim_fault, terms_of}
use Rattle.edf_fields.specs.Tests.{first, unless}
use Rattle.edf_claim.specs.declared.kept.interval.Interval.{Interval}
use Rattle.edf_fields.specs.declared.fields.which.Which.{Which}
use Rattle.edf_claim.proofs.FaultFacts.{AreParts, all-passed}
use Rattle.edf_claim.proofs.ReadingFacts.{is-some, keys-said, format-said, channels-said, keep-said, anonymous-said, shift-said, remove-said, remove-prefix-said, blank-said, terms-are, table-says}
use Rattle.edf_claim.specs.declared.stop.ClaimStop.{ClaimStop}
use Rattle.edf_claim.specs.declared.stop.ClaimStop.TheVariants.{BadFormat, UnknownKey, BadChannels, BadKeep, BadAnonymous, BadShift, BadRemove, BadRemovePrefix, BadBlank}

cond-true : {X : Type 0} (b : Bool) (x y : X) → b ≡ true → cond b x y ≡ x
cond-true true x y h = refl
cond-true false x y h = absurd (let z : false ≡ true = h in cc)

-- an array of texts is read as these
pub texts-read : (ts : List (List ℕ)) → texts_of (text_items ts) ≡ Some ts
texts-read [] = refl
texts-read (t ∷ ts) = ap (option_map (λ us. t ∷ us)) (texts-read ts)

distinct-read : (ts : List (List ℕ)) → AreDistinct ts → distinct_texts (array (text_items ts)) ≡ Some ts
distinct-read ts h =
    ap (λ o. option_and_then (λ us. cond (are_distinct us) (Some us) None) o) (texts-read ts)
    ∙ cond-true (are_distinct ts) (Some ts) None (distinct-passes ts h)

keys-pass : (keys : List (List ℕ)) (entries : Members) → HasOnlyKeys keys entries → keys_are keys entries ≡ true
keys-pass keys no_members h = refl
keys-pass keys (member key value rest) h = both-true (is_one_of keys key) (keys_are keys rest) (has-one_of keys key h.0) (keys-pass keys rest h.1)

label-passes : (label : List ℕ) → IsLabel label → is_label label ≡ true
label-passes label h =
    let last : ℕ = slice_index label (length label - 1) in
    both-true (nat_le (length label) 16) (list_all is_printable label && (not (last == 32) && not (bytes_eq label (codes "EDF Annotations")))) ((le_decided (length label) 16).1 h.short)
    (both-true (list_all is_printable label) (not (last == 32) && not (bytes_eq label (codes "EDF Annotations"))) ((printable_decided label).1 h.printable)
    (both-true (not (last == 32)) (not (bytes_eq label (codes "EDF Annotations")))
    (not-is (last == 32) (λ e. h.ends (grind (arith, nat_tests))))
    (not-is (bytes_eq label (codes "EDF Annotations")) (λ e. h.ordinary ((bytes_eq-Decides label (codes "EDF Annotations")).0 e)))))

labels-pass : (labels : List (List ℕ)) → All IsLabel labels → list_all is_label labels ≡ true
labels-pass [] h = refl
labels-pass (label ∷ labels) h =
    both-true (is_label label) (list_all is_label labels) (label-passes label (h 0 [] (omega arith))) (labels-pass labels (λ k d lt. h (suc k) d (omega arith)))

not-empty : {X : Type 0} (xs : List X) → xs ≢ [] → nat_lt 0 (length xs) ≡ true
not-empty [] h = absurd (h refl)
not-empty (x ∷ xs) h = grind (arith, nat_tests)

pub channels-read : (entries : Members) (labels : List (List ℕ)) → SaysChannels entries labels → channels_of entries ≡ Some labels
unfolding channels_of
channels-read entries labels s =
    ap (λ o. option_and_then (λ ls. cond (nat_lt 0 (length ls) && list_all is_label ls) (Some ls) None) (option_and_then distinct_texts o)) s.there
    ∙ ap (λ o. option_and_then (λ ls. cond (nat_lt 0 (length ls) && list_all is_label ls) (Some ls) None) o) (distinct-read labels s.distinct)
    ∙ cond-true (nat_lt 0 (length labels) && list_all is_label labels) (Some labels) None
    (both-true (nat_lt 0 (length labels)) (list_all is_label labels) (not-empty labels s.some) (labels-pass labels s.each))

span-read : (key : List ℕ) (entries : Members) (t : List ℕ) (v : ℤ) → get_member key entries ≡ Some (string t) → SpellsSpan t v → span_at key entries ≡ Some v
span-read key entries t v e h = ap (λ o. option_and_then span_of (option_and_then as_str o)) e ∙ span_of_spelled t v h

interval-read : (entries : Members) (interval : Interval) → SaysInterval entries interval → IsInterval interval → interval_of entries ≡ Some interval
unfolding interval_of
interval-read entries interval s h =
    let test : int_lt interval.from_ps interval.to_ps ≡ true = lt-passes interval.from_ps interval.to_ps h.order in
    cond-true (keys_are interval_keys entries) (option_and_then (λ from. option_and_then (interval_from from) (span_at (codes "to") entries)) (span_at (codes "from") entries)) None (keys-pass interval_keys entries s.keys)
    ∙ ap (λ o. option_and_then (λ from. option_and_then (interval_from from) (span_at (codes "to") entries)) o) (span-read (codes "from") entries s.from interval.from_ps s.from_there s.from_is)
    ∙ ap (λ o. option_and_then (interval_from interval.from_ps) o) (span-read (codes "to") entries s.to interval.to_ps s.to_there s.to_is)
    ∙ cond-true (int_lt interval.from_ps interval.to_ps) (Some interval) None test

intervals-read : (items : Items) (is : List Interval) → AreIntervals items is → All IsInterval is → intervals_of items ≡ Some is
intervals-read items [] e h = ap intervals_of e
intervals-read items (interval ∷ is) s h =
    ap intervals_of s.2
    ∙ ap (λ o. option_and_then (λ i. option_map (λ js. i ∷ js) (intervals_of s.1)) o) (interval-read s.0 interval s.3 (h 0 interval (omega arith)))
    ∙ ap (option_map (λ js. interval ∷ js)) (intervals-read s.1 is s.4 (λ k d lt. h (suc k) d (omega arith)))

followed-passes : (interval : Interval) (is : List Interval) → IsFollowedBy interval is → is_followed_by interval is ≡ true
followed-passes interval [] h = refl
followed-passes interval (next ∷ more) h = le-passes interval.to_ps next.from_ps h

order-passes : (is : List Interval) → AreInOrder is → are_in_order is ≡ true
order-passes [] h = refl
order-passes (interval ∷ is) h = both-true (is_followed_by interval is) (are_in_order is) (followed-passes interval is h.0) (order-passes is h.1)

pub keep-read : (entries : Members) (kept : List Interval) → SaysKeep entries kept → keep_of entries ≡ Some kept
unfolding keep_of
keep-read entries kept s =
    let test : List Interval → Bool = λ is. nat_lt 0 (length is) && (nat_le (length is) 1000 && are_in_order is) in
    ap (λ o. option_and_then (λ is. cond (test is) (Some is) None) (option_and_then intervals_of (option_and_then as_array o))) s.there
    ∙ ap (λ o. option_and_then (λ is. cond (test is) (Some is) None) o) (intervals-read s.items kept s.tables s.each)
    ∙ cond-true (test kept) (Some kept) None
    (both-true (nat_lt 0 (length kept)) (nat_le (length kept) 1000 && are_in_order kept) (not-empty kept s.some)
    (both-true (nat_le (length kept) 1000) (are_in_order kept) ((le_decided (length kept) 1000).1 s.few) (order-passes kept s.in_order)))

whiches-read : (ws : List Which) → whiches_of (map name_of ws) ≡ Some ws
whiches-read [] = refl
whiches-read (w ∷ ws) =
    ap (λ o. option_and_then (λ v. option_map (λ vs. v ∷ vs) (whiches_of (map name_of ws))) o) (which-read w)
    ∙ ap (option_map (λ vs. w ∷ vs)) (whiches-read ws)

named-has : (ws : List Which) (w : Which) → Has (map name_of ws) (name_of w) → Has ws w
named-has [] w h = absurd h
named-has (v ∷ ws) w (inl e) = inl (same-name v w e)
named-has (v ∷ ws) w (inr h) = inr (named-has ws w h)

names-distinct : (ws : List Which) → AreDistinct ws → AreDistinct (map name_of ws)
names-distinct [] h = tt
names-distinct (w ∷ ws) h = (λ there. h.0 (named-has ws w there), names-distinct ws h.1)

pub anonymous-read : (entries : Members) (whiches : List Which) → SaysAnonymous entries whiches → anonymous_of entries ≡ Some whiches
unfolding anonymous_of
anonymous-read entries whiches s =
    let read : Data → Option (List Which) = λ value. option_and_then whiches_of (distinct_texts value) in
    elim s.said [
      | inl absent ↦ ap (or_default [] read) absent.0 ∙ ap Some (sym absent.1)
      | inr there ↦
          ap (or_default [] read) there
          ∙ ap (λ o. option_and_then whiches_of o) (distinct-read (map name_of whiches) (names-distinct whiches s.distinct))
          ∙ whiches-read whiches
    ]

pub shift-read : (entries : Members) (shift : ℤ) → SaysShift entries shift → shift_of entries ≡ Some shift
unfolding shift_of
shift-read entries shift s =
    let read : Data → Option ℤ = λ value. option_and_then shift_within (as_integer value) in
    let low_passes : int_le (neg_ℤ (pos (10 ^ 10))) shift ≡ true = le-passes (neg_ℤ (pos (10 ^ 10))) shift s.not_far_back in
    let high_passes : int_le shift (pos (10 ^ 10)) ≡ true = le-passes shift (pos (10 ^ 10)) s.not_far_on in
    elim s.said [
      | inl absent ↦ ap (or_default (pos 0) read) absent.0 ∙ ap Some (sym absent.1)
      | inr there ↦
          ap (or_default (pos 0) read) there
          ∙ cond-true (int_le (neg_ℤ (pos (10 ^ 10))) shift && int_le shift (pos (10 ^ 10))) (Some shift) None (both-true (int_le (neg_ℤ (pos (10 ^ 10))) shift) (int_le shift (pos (10 ^ 10))) low_passes high_passes)
    ]

pub remove-read : (entries : Members) (texts : List (List ℕ)) → SaysRemove entries texts → remove_of entries ≡ Some texts
unfolding remove_of
remove-read entries texts s =
    elim s.said [
      | inl absent ↦ ap (or_default [] distinct_texts) absent.0 ∙ ap Some (sym absent.1)
      | inr there ↦ ap (or_default [] distinct_texts) there ∙ distinct-read texts s.distinct
    ]

some-pass : (ts : List (List ℕ)) → All (λ t. t ≢ []) ts → list_all (λ t. nat_lt 0 (length t)) ts ≡ true
some-pass [] h = refl
some-pass (t ∷ ts) h =
    both-true (nat_lt 0 (length t)) (list_all (λ u. nat_lt 0 (length u)) ts) (not-empty t (h 0 [] (omega arith))) (some-pass ts (λ k d lt. h (suc k) d (omega (arith, lt))))

pub remove-prefix-read : (entries : Members) (texts : List (List ℕ)) → SaysRemovePrefix entries texts → remove_prefix_of entries ≡ Some texts
unfolding remove_prefix_of
remove-prefix-read entries texts s =
    let test : List (List ℕ) → Bool = list_all (λ t. nat_lt 0 (length t)) in
    elim s.said [
      | inl absent ↦ ap (or_default [] distinct_prefixes) absent.0 ∙ ap Some (sym absent.1)
      | inr there ↦
          ap (or_default [] distinct_prefixes) there ∙ ap (λ o. option_and_then (λ ts. cond (test ts) (Some ts) None) o) (distinct-read texts s.distinct)
          ∙ cond-true (test texts) (Some texts) None (some-pass texts s.some_bytes)
    ]

pub blank-read : (entries : Members) (texts : List (List ℕ)) → SaysBlank entries texts → blank_of entries ≡ Some texts
unfolding blank_of
blank-read entries texts s =
    elim s.said [
      | inl absent ↦ ap (or_default [] distinct_texts) absent.0 ∙ ap Some (sym absent.1)
      | inr there ↦ ap (or_default [] distinct_texts) there ∙ distinct-read texts s.distinct
    ]

format-tested : (entries : Members) (format : ℕ) → SaysFormat format entries → is_format (pos format) entries ≡ true
format-tested entries format s = ap (λ o. option_is (pos format) (option_and_then as_integer o)) s ∙ (Decides-int_eq (pos format) (pos format)).1 refl

either-or : (a b : Bool) → (a ≡ true) ⊎ (b ≡ true) → (a || b) ≡ true
either-or true b h = refl
either-or false b h = ⊎_elim (λ e. absurd (let z : false ≡ true = e in cc)) (λ e. e) h

format-passes : (entries : Members) → HasFormat entries → has_format entries ≡ true
unfolding has_format
format-passes entries h =
    either-or (is_format (pos 1) entries) (is_format (pos 2) entries) (⊎_elim (λ e. inl (format-tested entries 1 e)) (λ e. inr (format-tested entries 2 e)) h)

keys-of-format : (entries : Members) → HasKeysOfFormat entries → has_keys_of_format entries ≡ true
unfolding has_keys_of_format
keys-of-format entries h =
    either-or (is_format (pos 1) entries && keys_are claim_keys entries) (is_format (pos 2) entries && keys_are more_claim_keys entries)
    (⊎_elim
    (λ e. inl (both-true (is_format (pos 1) entries) (keys_are claim_keys entries) (format-tested entries 1 e.0) (keys-pass claim_keys entries e.1)))
    (λ e. inr (both-true (is_format (pos 2) entries) (keys_are more_claim_keys entries) (format-tested entries 2 e.0) (keys-pass more_claim_keys entries e.1)))
    h)

-- a table with the keys of its format has a format
has-format : (entries : Members) → HasKeysOfFormat entries → HasFormat entries
has-format entries h = ⊎_elim (λ e. inl e.0) (λ e. inr e.0) h

parts-read : (entries : Members) (c : ClaimValue) → SaysClaim entries c → AreParts entries c
parts-read entries c s = record {
  channels = channels-read entries c.channels s.channels;
  keep = keep-read entries c.keep s.keep;
  anonymous = anonymous-read entries c.anonymous s.anonymous;
  shift = shift-read entries c.shift s.shift;
  remove = remove-read entries c.remove s.remove;
  remove_prefix = remove-prefix-read entries c.remove_prefix s.remove_prefix;
  blank = blank-read entries c.blank s.blank;
}

pub said-passes : (entries : Members) (c : ClaimValue) → SaysClaim entries c → (claim_fault entries ≡ None) × (c ≡ terms_of entries)
said-passes entries c s =
    let parts = parts-read entries c s in
    (all-passed entries c (format-passes entries (has-format entries s.keys)) (keys-of-format entries s.keys) parts, terms-are entries c parts)

pub one-claim : SaysOneClaim
one-claim entries c d s t = (said-passes entries c s).1 ∙ sym (said-passes entries d t).1

pub claim-or-fault : SaysClaimOrFault
claim-or-fault entries c =
    (said-passes entries c, λ h. subst (λ (t : ClaimValue). SaysClaim entries t) (sym h.1) (table-says entries h.0))

-- a test as a boolean, and in words
abbrev Tests : Bool → Type 0 → Type 0
Tests passes test = (passes ≡ true) ↔ test

read-tests : {X : Type 0} (o : Option X) (holds : X → Type 0) → ((x : X) → o ≡ Some x → holds x) → ((x : X) → holds x → o ≡ Some x) → Tests (is_some o) (ThereIs holds)
read-tests o holds to from = (
  λ h. let a = is-some o h in (a.0, to a.0 a.1),
  λ h. ap is_some (from h.0 h.1),
)

-- one test, and those behind it
test-said : (passes : Bool) (test : Type 0) (cause stop : ClaimStop) (answers : List (Option ClaimStop)) (later : Type 0) → Tests passes test
    → (first answers ≡ Some stop) ↔ later → (first (unless passes cause ∷ answers) ≡ Some stop) ↔ FailsOr cause test stop later
test-said true test cause stop answers later is rest = (
  λ h. inr (is.0 refl, rest.0 h),
  λ h. ⊎_elim (λ fails. absurd (fails.1 (is.0 refl))) (λ more. rest.1 more.1) h,
)
test-said false test cause stop answers later is rest = (
  λ h. inl ((let e : Some cause ≡ Some stop = h in cc), λ t. let e : false ≡ true = is.1 t in cc),
  λ h. ⊎_elim (λ fails. ap Some (sym fails.0)) (λ more. absurd (let e : false ≡ true = is.1 more.0 in cc)) h,
)

no-tests : (stop : ClaimStop) → (first [] ≡ Some stop) ↔ ⊥
no-tests stop = (λ h. let e : None ≡ Some stop = h in cc, λ h. absurd h)

pub fault-said : (entries : Members) (stop : ClaimStop) → (claim_fault entries ≡ Some stop) ↔ FirstTableFault entries stop
unfolding claim_fault
fault-said entries stop =
    let t2 = unless (has_keys_of_format entries) UnknownKey in
    let t3 = unless (is_some (channels_of entries)) BadChannels in
    let t4 = unless (is_some (keep_of entries)) BadKeep in
    let t5 = unless (is_some (anonymous_of entries)) BadAnonymous in
    let t6 = unless (is_some (shift_of entries)) BadShift in
    let t7 = unless (is_some (remove_of entries)) BadRemove in
    let t8 = unless (is_some (remove_prefix_of entries)) BadRemovePrefix in
    let t9 = unless (is_some (blank_of entries)) BadBlank in
    let blank = test-said (is_some (blank_of entries)) (ThereIs (SaysBlank entries)) BadBlank stop [] ⊥ (read-tests (blank_of entries) (SaysBlank entries) (blank-said entries) (blank-read entries)) (no-tests stop) in
    let prefix =
    test-said (is_some (remove_prefix_of entries)) (ThereIs (SaysRemovePrefix entries)) BadRemovePrefix stop (t9 ∷ []) _ (read-tests (remove_prefix_of entries) (SaysRemovePrefix entries) (remove-prefix-said entries) (remove-prefix-read entries)) blank in
    let remove = test-said (is_some (remove_of entries)) (ThereIs (SaysRemove entries)) BadRemove stop (t8 ∷ t9 ∷ []) _ (read-tests (remove_of entries) (SaysRemove entries) (remove-said entries) (remove-read entries)) prefix in
    let shift = test-said (is_some (shift_of entries)) (ThereIs (SaysShift entries)) BadShift stop (t7 ∷ t8 ∷ t9 ∷ []) _ (read-tests (shift_of entries) (SaysShift entries) (shift-said entries) (shift-read entries)) remove in
    let anonymous =
    test-said (is_some (anonymous_of entries)) (ThereIs (SaysAnonymous entries)) BadAnonymous stop (t6 ∷ t7 ∷ t8 ∷ t9 ∷ []) _ (read-tests (anonymous_of entries) (SaysAnonymous entries) (anonymous-said entries) (anonymous-read entries)) shift in
    let keep = test-said (is_some (keep_of entries)) (ThereIs (SaysKeep entries)) BadKeep stop (t5 ∷ t6 ∷ t7 ∷ t8 ∷ t9 ∷ []) _ (read-tests (keep_of entries) (SaysKeep entries) (keep-said entries) (keep-read entries)) anonymous in
    let channels =
    test-said (is_some (channels_of entries)) (ThereIs (SaysChannels entries)) BadChannels stop (t4 ∷ t5 ∷ t6 ∷ t7 ∷ t8 ∷ t9 ∷ []) _ (read-tests (channels_of entries) (SaysChannels entries) (channels-said entries) (channels-read entries)) keep in
    let keys = test-said (has_keys_of_format entries) (HasKeysOfFormat entries) UnknownKey stop (t3 ∷ t4 ∷ t5 ∷ t6 ∷ t7 ∷ t8 ∷ t9 ∷ []) _ (keys-said entries, keys-of-format entries) channels in
    test-said (has_format entries) (HasFormat entries) BadFormat stop (t2 ∷ t3 ∷ t4 ∷ t5 ∷ t6 ∷ t7 ∷ t8 ∷ t9 ∷ []) _ (format-said entries, format-passes entries) keys

pub fault-is-first : FaultIsFirst
fault-is-first entries stop = ((fault-said entries stop).1, (fault-said entries stop).0)
