-- A table that passes its tests says the claim that is read of it.
use Rattle.std.proofs.Common.{◌≡◌, ◌≢◌, ℕ, ℤ, pos, neg_ℤ, ◌-◌, ◌^◌, ◌==◌, nat_le, nat_lt, int_le, int_lt, not, ◌&&◌, Bool, true, false, cond, List, [], ◌∷◌, length, map, slice_index, Option, Some, None, is_some, unwrap_or, option_map, option_and_then, codes, ◌⊎◌, inl, inr, ⊎_elim, ◌||◌, ◌<◌, refl, sym, ap, ◌∙◌, subst, arith}
use Rattle.std.specs.List.{All, list_all}
use Rattle.std.specs.Str.{bytes_eq}
use Rattle.std.proofs.lemmas.Bool.Decides.{Decides-int_eq}
use Rattle.std.proofs.lemmas.Int.{ints}
use Rattle.std.proofs.lemmas.List.Elements.{All-nil, All-cons}
use Rattle.std.proofs.lemmas.Slice.Eq.{bytes_eq-Decides}
use Rattle.toml.specs.Data.{Data, string, integer, float, boolean, datetime, array, table, Items, no_items, item, Members, no_members, member, get_member, as_str, as_integer, as_array, as_table}
use Rattle.edf_fields.specs.texts.PrintableReading.{is_printable}
use Rattle.edf_fields.specs.texts.OnsetsReading.{span_of}
use Rattle.edf_fields.proofs.ForCallers.{le_decided, span_of_some, span_small, and-true, not-true, one_of-has, distinct-tested, first-cons, unless-passed, printable_decided}
use Rattle.edf_claim.specs.Claims.{text_items, HasOnlyKeys, claim_keys, more_claim_keys, interval_keys, IsLabel, SaysInterval, AreIntervals, IsFollowedBy, AreInOrder, IsInterval, IsClaim, SaysFormat, HasFormat, HasKeysOfFormat, SaysChannels, SaysKeep, SaysAnonymous, SaysShift, SaysRemove, SaysRemovePrefix, SaysBlank, SaysClaim}
use Rattle.edf_fields.specs.fields.SubfieldNames.{name_of}
use Rattle.edf_claim.specs.ClaimValues.{ClaimValue}
use Rattle.edf_fields.specs.Lists.{Has, is_one_of}
use Rattle.edf_fields.specs.Distinct.{AreDistinct, are_distinct}
use Rattle.edf_claim.specs.Reading.{integer_of, text_at, keys_are, texts_of, distinct_texts, distinct_prefixes, option_is, is_format, has_format, has_keys_of_format, is_label, channels_of, span_at, interval_from, interval_of, intervals_of, is_followed_by, are_in_order, keep_of, whiches_of, or_default, anonymous_of, shift_within, shift_of, remove_of, remove_prefix_of, blank_of, claim_fault, terms_of}
use Rattle.edf_fields.specs.fields.SubfieldNamesReading.{named_in, all_subfields, which_of}
use Rattle.edf_fields.specs.Tests.{unless}
use Rattle.edf_claim.specs.declared.kept.interval.Interval.{Interval}
use Rattle.edf_claim.specs.declared.stop.ClaimStop.TheVariants.{BadFormat, UnknownKey, BadChannels, BadKeep, BadAnonymous, BadShift, BadRemove, BadRemovePrefix, BadBlank}
use Rattle.edf_fields.specs.declared.fields.which.Which.{Which}
use Rattle.edf_claim.proofs.FaultFacts.{AreParts}

-- what options and tests say that gave something
bind_some : {X Y : Type 0} (f : X → Option Y) (o : Option X) (y : Y) → option_and_then f o ≡ Some y → (x : X) × (o ≡ Some x) × (f x ≡ Some y)
bind_some f None y h = absurd (let e : None ≡ Some y = h in cc)
bind_some f (Some x) y h = (x, refl, h)

map_some : {X Y : Type 0} (f : X → Y) (o : Option X) (y : Y) → option_map f o ≡ Some y → (x : X) × (o ≡ Some x) × (f x ≡ y)
map_some f None y h = absurd (let e : None ≡ Some y = h in cc)
map_some f (Some x) y h = (x, refl, let e : Some (f x) ≡ Some y = h in cc)

test_some : {X : Type 0} (b : Bool) (x y : X) → cond b (Some x) None ≡ Some y → (b ≡ true) × (x ≡ y)
test_some true x y h = (refl, let e : Some x ≡ Some y = h in cc)
test_some false x y h = absurd (let e : None ≡ Some y = h in cc)

if_some : {X : Type 0} (b : Bool) (o : Option X) (y : X) → cond b o None ≡ Some y → (b ≡ true) × (o ≡ Some y)
if_some true o y h = (refl, h)
if_some false o y h = absurd (let e : None ≡ Some y = h in cc)

-- the data that an accessor gives
string_is : (d : Data) (t : List ℕ) → as_str d ≡ Some t → d ≡ string t
string_is (string s) t h = ap string (let e : Some s ≡ Some t = h in cc)
string_is (integer z) t h = absurd (let e : None ≡ Some t = h in cc)
string_is (float x) t h = absurd (let e : None ≡ Some t = h in cc)
string_is (boolean b) t h = absurd (let e : None ≡ Some t = h in cc)
string_is (datetime dt) t h = absurd (let e : None ≡ Some t = h in cc)
string_is (array ds) t h = absurd (let e : None ≡ Some t = h in cc)
string_is (table ms) t h = absurd (let e : None ≡ Some t = h in cc)

integer_is : (d : Data) (z : ℤ) → as_integer d ≡ Some z → d ≡ integer z
integer_is (string s) z h = absurd (let e : None ≡ Some z = h in cc)
integer_is (integer y) z h = ap integer (let e : Some y ≡ Some z = h in cc)
integer_is (float x) z h = absurd (let e : None ≡ Some z = h in cc)
integer_is (boolean b) z h = absurd (let e : None ≡ Some z = h in cc)
integer_is (datetime dt) z h = absurd (let e : None ≡ Some z = h in cc)
integer_is (array ds) z h = absurd (let e : None ≡ Some z = h in cc)
integer_is (table ms) z h = absurd (let e : None ≡ Some z = h in cc)

array_is : (d : Data) (items : Items) → as_array d ≡ Some items → d ≡ array items
array_is (string s) items h = absurd (let e : None ≡ Some items = h in cc)
array_is (integer z) items h = absurd (let e : None ≡ Some items = h in cc)
array_is (float x) items h = absurd (let e : None ≡ Some items = h in cc)
array_is (boolean b) items h = absurd (let e : None ≡ Some items = h in cc)
array_is (datetime dt) items h = absurd (let e : None ≡ Some items = h in cc)
array_is (array ds) items h = ap array (let e : Some ds ≡ Some items = h in cc)
array_is (table ms) items h = absurd (let e : None ≡ Some items = h in cc)

table_is : (d : Data) (entries : Members) → as_table d ≡ Some entries → d ≡ table entries
table_is (string s) entries h = absurd (let e : None ≡ Some entries = h in cc)
table_is (integer z) entries h = absurd (let e : None ≡ Some entries = h in cc)
table_is (float x) entries h = absurd (let e : None ≡ Some entries = h in cc)
table_is (boolean b) entries h = absurd (let e : None ≡ Some entries = h in cc)
table_is (datetime dt) entries h = absurd (let e : None ≡ Some entries = h in cc)
table_is (array ds) entries h = absurd (let e : None ≡ Some entries = h in cc)
table_is (table ms) entries h = ap table (let e : Some ms ≡ Some entries = h in cc)

-- an array of texts
texts_are : (items : Items) (ts : List (List ℕ)) → texts_of items ≡ Some ts → items ≡ text_items ts
texts_are no_items ts h = ap text_items (let e : Some [] ≡ Some ts = h in let f : [] ≡ ts = cc in f)
texts_are (item d rest) ts h =
    let a = bind_some (λ t. option_map (λ us. t ∷ us) (texts_of rest)) (as_str d) ts h in
    let b = map_some (λ us. a.0 ∷ us) (texts_of rest) ts a.2 in
    ap (λ v. item v rest) (string_is d a.0 a.1) ∙ ap (item (string a.0)) (texts_are rest b.0 b.1) ∙ ap text_items b.2

-- the texts of an array in which no text stands twice
distinct_are : (d : Data) (ts : List (List ℕ)) → distinct_texts d ≡ Some ts → (d ≡ array (text_items ts)) × AreDistinct ts
distinct_are d ts h =
    let a = bind_some (λ us. cond (are_distinct us) (Some us) None) (option_and_then texts_of (as_array d)) ts h in
    let b = bind_some texts_of (as_array d) a.0 a.1 in
    let t = test_some (are_distinct a.0) a.0 ts a.2 in
    (array_is d b.0 b.1 ∙ ap array (texts_are b.0 a.0 b.2 ∙ ap text_items t.1), subst (λ us. AreDistinct us) t.1 (distinct-tested a.0 t.0))

-- keys
pub keys-tested : (keys : List (List ℕ)) (entries : Members) → keys_are keys entries ≡ true → HasOnlyKeys keys entries
keys-tested keys no_members h = tt
keys-tested keys (member key value rest) h =
    let both = and-true (is_one_of keys key) (keys_are keys rest) h in
    (one_of-has keys key both.0, keys-tested keys rest both.1)

label-tested : (label : List ℕ) → is_label label ≡ true → IsLabel label
label-tested label h =
    let last : ℕ = slice_index label (length label - 1) in
    let a = and-true (nat_le (length label) 16) (list_all is_printable label && (not (last == 32) && not (bytes_eq label (codes "EDF Annotations")))) h in
    let b = and-true (list_all is_printable label) (not (last == 32) && not (bytes_eq label (codes "EDF Annotations"))) a.1 in
    let d = and-true (not (last == 32)) (not (bytes_eq label (codes "EDF Annotations"))) b.1 in
    let space : (last == 32) ≡ false = not-true (last == 32) d.0 in
    let other : bytes_eq label (codes "EDF Annotations") ≡ false = not-true (bytes_eq label (codes "EDF Annotations")) d.1 in
    record {
      short = (le_decided (length label) 16).0 a.0;
      printable = (printable_decided label).0 b.0;
      ends = λ e. absurd (let z : true ≡ false = sym (ap (λ n. n == 32) e) ∙ space in cc);
      ordinary = λ e. absurd (let z : true ≡ false = sym ((bytes_eq-Decides label (codes "EDF Annotations")).1 e) ∙ other in cc);
    }

labels-tested : (labels : List (List ℕ)) → list_all is_label labels ≡ true → All IsLabel labels
labels-tested [] h = All-nil IsLabel
labels-tested (label ∷ labels) h =
    let both = and-true (is_label label) (list_all is_label labels) h in
    All-cons IsLabel label labels (label-tested label both.0) (labels-tested labels both.1)

not-empty : {X : Type 0} (xs : List X) → nat_lt 0 (length xs) ≡ true → xs ≢ []
not-empty [] h e = let z : false ≡ true = h in cc
not-empty (x ∷ xs) h e = let z : x ∷ xs ≡ [] = e in cc

pub channels-said : (entries : Members) (labels : List (List ℕ)) → channels_of entries ≡ Some labels → SaysChannels entries labels
unfolding channels_of
channels-said entries labels h =
    let a = bind_some (λ ls. cond (nat_lt 0 (length ls) && list_all is_label ls) (Some ls) None) (option_and_then distinct_texts (get_member (codes "channels") entries)) labels h in
    let b = bind_some distinct_texts (get_member (codes "channels") entries) a.0 a.1 in
    let t = test_some (nat_lt 0 (length a.0) && list_all is_label a.0) a.0 labels a.2 in
    let tests = and-true (nat_lt 0 (length a.0)) (list_all is_label a.0) t.0 in
    let d = distinct_are b.0 a.0 b.2 in
    subst (λ (ls : List (List ℕ)). SaysChannels entries ls) t.1 (record {
      there = b.1 ∙ ap Some d.0;
      some = not-empty a.0 tests.0;
      each = labels-tested a.0 tests.1;
      distinct = d.1;
    })

-- the text and the time at a key
text-at : (key : List ℕ) (entries : Members) (t : List ℕ) → text_at key entries ≡ Some t → get_member key entries ≡ Some (string t)
text-at key entries t h =
    let a = bind_some as_str (get_member key entries) t h in
    a.1 ∙ ap Some (string_is a.0 t a.2)

interval-said : (entries : Members) (interval : Interval) → interval_of entries ≡ Some interval → SaysInterval entries interval × IsInterval interval
unfolding interval_of
interval-said entries interval h =
    let inner : ℤ → Option Interval = λ from. option_and_then (interval_from from) (span_at (codes "to") entries) in
    let a = if_some (keys_are interval_keys entries) (option_and_then inner (span_at (codes "from") entries)) interval h in
    let b = bind_some inner (span_at (codes "from") entries) interval a.1 in
    let d = bind_some (interval_from b.0) (span_at (codes "to") entries) interval b.2 in
    let from = bind_some span_of (text_at (codes "from") entries) b.0 b.1 in
    let to = bind_some span_of (text_at (codes "to") entries) d.0 d.1 in
    let t = test_some (int_lt b.0 d.0) (record { from_ps = b.0; to_ps = d.0 }) interval d.2 in
    let made : Interval = record { from_ps = b.0; to_ps = d.0 } in
    let from_small = span_small from.0 b.0 (span_of_some from.0 b.0 from.2) in
    let to_small = span_small to.0 d.0 (span_of_some to.0 d.0 to.2) in
    let test = t.0 in
    let says : SaysInterval entries made × IsInterval made = (
      record {
        keys = keys-tested interval_keys entries a.0;
        from = from.0;
        to = to.0;
        from_there = text-at (codes "from") entries from.0 from.1;
        to_there = text-at (codes "to") entries to.0 to.1;
        from_is = span_of_some from.0 b.0 from.2;
        to_is = span_of_some to.0 d.0 to.2;
      },
      record { start = from_small.0; order = omega (arith, ints, test); near = to_small.1 },
    ) in
    subst (λ (i : Interval). SaysInterval entries i × IsInterval i) t.1 says

intervals-said : (items : Items) (is : List Interval) → intervals_of items ≡ Some is → AreIntervals items is × All IsInterval is
intervals-said no_items is h =
    let e : [] ≡ is = (let f : Some [] ≡ Some is = h in cc) in
    subst (λ js. AreIntervals no_items js × All IsInterval js) e (refl, All-nil IsInterval)
intervals-said (item d rest) is h =
    let a = bind_some (λ i. option_map (λ js. i ∷ js) (intervals_of rest)) (option_and_then interval_of (as_table d)) is h in
    let b = bind_some interval_of (as_table d) a.0 a.1 in
    let m = map_some (λ js. a.0 ∷ js) (intervals_of rest) is a.2 in
    let more = intervals-said rest m.0 m.1 in
    let one = interval-said b.0 a.0 b.2 in
    subst (λ js. AreIntervals (item d rest) js × All IsInterval js) m.2
    ((b.0, rest, ap (λ v. item v rest) (table_is d b.0 b.1), one.0, more.0), All-cons IsInterval a.0 m.0 one.1 more.1)

followed-tested : (interval : Interval) (is : List Interval) → is_followed_by interval is ≡ true → IsFollowedBy interval is
followed-tested interval [] h = tt
followed-tested interval (next ∷ more) h = omega (arith, ints, h)

order-tested : (is : List Interval) → are_in_order is ≡ true → AreInOrder is
order-tested [] h = tt
order-tested (interval ∷ is) h =
    let both = and-true (is_followed_by interval is) (are_in_order is) h in
    (followed-tested interval is both.0, order-tested is both.1)

pub keep-said : (entries : Members) (is : List Interval) → keep_of entries ≡ Some is → SaysKeep entries is
unfolding keep_of
keep-said entries is h =
    let a = bind_some (λ js. cond (nat_lt 0 (length js) && (nat_le (length js) 1000 && are_in_order js)) (Some js) None)
    (option_and_then intervals_of (option_and_then as_array (get_member (codes "keep") entries))) is h in
    let b = bind_some intervals_of (option_and_then as_array (get_member (codes "keep") entries)) a.0 a.1 in
    let d = bind_some as_array (get_member (codes "keep") entries) b.0 b.1 in
    let t = test_some (nat_lt 0 (length a.0) && (nat_le (length a.0) 1000 && are_in_order a.0)) a.0 is a.2 in
    let tests = and-true (nat_lt 0 (length a.0)) (nat_le (length a.0) 1000 && are_in_order a.0) t.0 in
    let more = and-true (nat_le (length a.0) 1000) (are_in_order a.0) tests.1 in
    let said = intervals-said b.0 a.0 b.2 in
    subst (λ (js : List Interval). SaysKeep entries js) t.1 (record {
      items = b.0;
      there = d.1 ∙ ap Some (array_is d.0 b.0 d.2);
      tables = said.0;
      some = not-empty a.0 tests.0;
      few = (le_decided (length a.0) 1000).0 more.0;
      each = said.1;
      in_order = order-tested a.0 more.1;
    })

-- names
named-is : (all : List Which) (name : List ℕ) (w : Which) → named_in all name ≡ Some w → name ≡ name_of w
named-is [] name w h = absurd (let e : None ≡ Some w = h in cc)
named-is (v ∷ more) name w h = named-case v more name w (bytes_eq (name_of v) name) refl h (λ q. named-is more name w q)
  where
    named-case : (v : Which) (more : List Which) (name : List ℕ) (w : Which) (b : Bool) → bytes_eq (name_of v) name ≡ b → cond b (Some v) (named_in more name) ≡ Some w
        → (named_in more name ≡ Some w → name ≡ name_of w) → name ≡ name_of w
    named-case v more name w true e h rest =
        let z : v ≡ w = (let f : Some v ≡ Some w = h in cc) in
        sym ((bytes_eq-Decides (name_of v) name).0 e) ∙ ap name_of z
    named-case v more name w false e h rest = rest h

which-is : (name : List ℕ) (w : Which) → which_of name ≡ Some w → name ≡ name_of w
unfolding which_of
which-is name w h = named-is all_subfields name w h

whiches-are : (names : List (List ℕ)) (ws : List Which) → whiches_of names ≡ Some ws → names ≡ map name_of ws
whiches-are [] ws h = ap (map name_of) (let e : Some [] ≡ Some ws = h in let f : [] ≡ ws = cc in f)
whiches-are (name ∷ names) ws h =
    let a = bind_some (λ w. option_map (λ vs. w ∷ vs) (whiches_of names)) (which_of name) ws h in
    let b = map_some (λ vs. a.0 ∷ vs) (whiches_of names) ws a.2 in
    ap (λ n. n ∷ names) (which-is name a.0 a.1) ∙ ap (λ ns. name_of a.0 ∷ ns) (whiches-are names b.0 b.1) ∙ ap (map name_of) b.2

-- names that are distinct name distinct subfields
has-named : (ws : List Which) (w : Which) → Has ws w → Has (map name_of ws) (name_of w)
has-named [] w h = absurd h
has-named (v ∷ ws) w (inl e) = inl (ap name_of e)
has-named (v ∷ ws) w (inr h) = inr (has-named ws w h)

distinct-named : (ws : List Which) → AreDistinct (map name_of ws) → AreDistinct ws
distinct-named [] h = tt
distinct-named (w ∷ ws) h = (λ there. h.0 (has-named ws w there), distinct-named ws h.1)

-- a value that may be absent
or-default : {X : Type 0} (default : X) (read : Data → Option X) (o : Option Data) (x : X) → or_default default read o ≡ Some x
    → ((o ≡ None) × (x ≡ default)) ⊎ ((d : Data) × (o ≡ Some d) × (read d ≡ Some x))
or-default default read None x h = inl (refl, let e : Some default ≡ Some x = h in cc)
or-default default read (Some d) x h = inr (d, refl, h)

pub anonymous-said : (entries : Members) (ws : List Which) → anonymous_of entries ≡ Some ws → SaysAnonymous entries ws
unfolding anonymous_of
anonymous-said entries ws h =
    elim (or-default [] (λ value. option_and_then whiches_of (distinct_texts value)) (get_member (codes "anonymous") entries) ws h) [
      | inl absent ↦ record { said = inl absent; distinct = subst (λ (vs : List Which). AreDistinct vs) (sym absent.1) tt }
      | inr there ↦
          let a = bind_some whiches_of (distinct_texts there.0) ws there.2 in
          let d = distinct_are there.0 a.0 a.1 in
          let names : a.0 ≡ map name_of ws = whiches-are a.0 ws a.2 in
          record {
            said = inr (there.1 ∙ ap Some (d.0 ∙ ap (λ ns. array (text_items ns)) names));
            distinct = distinct-named ws (subst (λ (ns : List (List ℕ)). AreDistinct ns) names d.1);
          }
    ]

pub shift-said : (entries : Members) (z : ℤ) → shift_of entries ≡ Some z → SaysShift entries z
unfolding shift_of
shift-said entries z h =
    elim (or-default (pos 0) (λ value. option_and_then shift_within (as_integer value)) (get_member (codes "shift") entries) z h) [
      | inl absent ↦ let e = absent.1 in record { said = inl absent; not_far_back = omega (arith, ints, e); not_far_on = omega (arith, ints, e) }
      | inr there ↦
          let a = bind_some shift_within (as_integer there.0) z there.2 in
          let t = test_some (int_le (neg_ℤ (pos (10 ^ 10))) a.0 && int_le a.0 (pos (10 ^ 10))) a.0 z a.2 in
          let both = and-true (int_le (neg_ℤ (pos (10 ^ 10))) a.0) (int_le a.0 (pos (10 ^ 10))) t.0 in
          let low = both.0 in
          let high = both.1 in
          let same = t.1 in
          record {
            said = inr (there.1 ∙ ap Some (integer_is there.0 a.0 a.1 ∙ ap integer t.1));
            not_far_back = omega (arith, ints, low, same);
            not_far_on = omega (arith, ints, high, same);
          }
    ]

pub remove-said : (entries : Members) (ts : List (List ℕ)) → remove_of entries ≡ Some ts → SaysRemove entries ts
unfolding remove_of
remove-said entries ts h =
    elim (or-default [] distinct_texts (get_member (codes "remove") entries) ts h) [
      | inl absent ↦ record { said = inl absent; distinct = subst (λ (us : List (List ℕ)). AreDistinct us) (sym absent.1) tt }
      | inr there ↦ let d = distinct_are there.0 ts there.2 in record { said = inr (there.1 ∙ ap Some d.0); distinct = d.1 }
    ]

-- what an array of prefixes is read as
pub prefixes-none : (d : Data) (ts : List (List ℕ)) → Some ts ≡ distinct_texts d → false ≡ list_all (λ t. nat_lt 0 (length t)) ts → None ≡ distinct_prefixes d
prefixes-none d ts read tested =
    ap (λ b. cond b (Some ts) None) tested ∙ ap (λ o. option_and_then (λ us. cond (list_all (λ t. nat_lt 0 (length t)) us) (Some us) None) o) read

pub prefixes-some : (d : Data) (ts : List (List ℕ)) → Some ts ≡ distinct_texts d → true ≡ list_all (λ t. nat_lt 0 (length t)) ts → Some ts ≡ distinct_prefixes d
prefixes-some d ts read tested =
    ap (λ b. cond b (Some ts) None) tested ∙ ap (λ o. option_and_then (λ us. cond (list_all (λ t. nat_lt 0 (length t)) us) (Some us) None) o) read

-- texts none of which is empty
some-tested : (ts : List (List ℕ)) → list_all (λ t. nat_lt 0 (length t)) ts ≡ true → All (λ t. t ≢ []) ts
some-tested [] h = All-nil (λ (t : List ℕ). t ≢ [])
some-tested (t ∷ ts) h =
    let both = and-true (nat_lt 0 (length t)) (list_all (λ u. nat_lt 0 (length u)) ts) h in
    let some : 0 < length t = (le_decided 1 (length t)).0 both.0 in
    All-cons (λ (u : List ℕ). u ≢ []) t ts (λ e. let z : length t ≡ 0 = ap length e in absurd (omega (arith, some, z))) (some-tested ts both.1)

pub remove-prefix-said : (entries : Members) (ts : List (List ℕ)) → remove_prefix_of entries ≡ Some ts → SaysRemovePrefix entries ts
unfolding remove_prefix_of
remove-prefix-said entries ts h =
    elim (or-default [] distinct_prefixes (get_member (codes "remove-prefix") entries) ts h) [
      | inl absent ↦ record {
        said = inl absent;
        distinct = subst (λ (us : List (List ℕ)). AreDistinct us) (sym absent.1) tt;
        some_bytes = subst (λ (us : List (List ℕ)). All (λ (t : List ℕ). t ≢ []) us) (sym absent.1) (All-nil (λ (t : List ℕ). t ≢ []));
      }
      | inr there ↦
          let a = bind_some (λ us. cond (list_all (λ t. nat_lt 0 (length t)) us) (Some us) None) (distinct_texts there.0) ts there.2 in
          let t = test_some (list_all (λ t. nat_lt 0 (length t)) a.0) a.0 ts a.2 in
          let d = distinct_are there.0 a.0 a.1 in
          record {
            said = inr (there.1 ∙ ap Some (d.0 ∙ ap (λ us. array (text_items us)) t.1));
            distinct = subst (λ (us : List (List ℕ)). AreDistinct us) t.1 d.1;
            some_bytes = subst (λ (us : List (List ℕ)). All (λ (t : List ℕ). t ≢ []) us) t.1 (some-tested a.0 t.0);
          }
    ]

pub blank-said : (entries : Members) (ts : List (List ℕ)) → blank_of entries ≡ Some ts → SaysBlank entries ts
unfolding blank_of
blank-said entries ts h =
    elim (or-default [] distinct_texts (get_member (codes "blank") entries) ts h) [
      | inl absent ↦ record { said = inl absent; distinct = subst (λ (us : List (List ℕ)). AreDistinct us) (sym absent.1) tt }
      | inr there ↦ let d = distinct_are there.0 ts there.2 in record { said = inr (there.1 ∙ ap Some d.0); distinct = d.1 }
    ]

-- what a table says is a claim
pub said-sound : (entries : Members) (c : ClaimValue) → SaysClaim entries c → IsClaim c
said-sound entries c s = record {
  some_channels = s.channels.some;
  labels = s.channels.each;
  distinct_channels = s.channels.distinct;
  some_intervals = s.keep.some;
  few_intervals = s.keep.few;
  intervals = s.keep.each;
  in_order = s.keep.in_order;
  distinct_anonymous = s.anonymous.distinct;
  not_far_back = s.shift.not_far_back;
  not_far_on = s.shift.not_far_on;
  distinct_remove = s.remove.distinct;
  distinct_prefixes = s.remove_prefix.distinct;
  some_prefixes = s.remove_prefix.some_bytes;
  distinct_blank = s.blank.distinct;
}

pub is-some : {X : Type 0} (o : Option X) → is_some o ≡ true → (x : X) × (o ≡ Some x)
is-some None h = absurd (let e : false ≡ true = h in cc)
is-some (Some x) h = (x, refl)

format-is : (entries : Members) (format : ℕ) → is_format (pos format) entries ≡ true → SaysFormat format entries
format-is entries format h =
    let one = format-case (integer_of (codes "format") entries) refl h in
    let a = bind_some as_integer (get_member (codes "format") entries) (pos format) one in
    a.1 ∙ ap Some (integer_is a.0 (pos format) a.2)
  where
    format-case : (o : Option ℤ) → integer_of (codes "format") entries ≡ o → option_is (pos format) o ≡ true → integer_of (codes "format") entries ≡ Some (pos format)
    format-case None e t = absurd (let z : false ≡ true = t in cc)
    format-case (Some y) e t = e ∙ ap Some ((Decides-int_eq y (pos format)).0 t)

or-either : (a b : Bool) → (a || b) ≡ true → (a ≡ true) ⊎ (b ≡ true)
or-either true b h = inl refl
or-either false b h = inr h

pub format-said : (entries : Members) → has_format entries ≡ true → HasFormat entries
unfolding has_format
format-said entries h = ⊎_elim (λ e. inl (format-is entries 1 e)) (λ e. inr (format-is entries 2 e)) (or-either (is_format (pos 1) entries) (is_format (pos 2) entries) h)

pub keys-said : (entries : Members) → has_keys_of_format entries ≡ true → HasKeysOfFormat entries
unfolding has_keys_of_format
keys-said entries h =
    ⊎_elim
    (λ e. let both = and-true (is_format (pos 1) entries) (keys_are claim_keys entries) e in inl (format-is entries 1 both.0, keys-tested claim_keys entries both.1))
    (λ e. let both = and-true (is_format (pos 2) entries) (keys_are more_claim_keys entries) e in inr (format-is entries 2 both.0, keys-tested more_claim_keys entries both.1))
    (or-either (is_format (pos 1) entries && keys_are claim_keys entries) (is_format (pos 2) entries && keys_are more_claim_keys entries) h)

-- the parts that are read are those of the claim that is read
pub terms-are : (entries : Members) (c : ClaimValue) → AreParts entries c → c ≡ terms_of entries
terms-are entries c p =
    let t = terms_of entries in
    ap (λ o. record { channels = unwrap_or o []; keep = c.keep; anonymous = c.anonymous; shift = c.shift; remove = c.remove; remove_prefix = c.remove_prefix; blank = c.blank }) (sym p.channels)
    ∙ ap (λ o. record { channels = t.channels; keep = unwrap_or o []; anonymous = c.anonymous; shift = c.shift; remove = c.remove; remove_prefix = c.remove_prefix; blank = c.blank }) (sym p.keep)
    ∙ ap (λ o. record { channels = t.channels; keep = t.keep; anonymous = unwrap_or o []; shift = c.shift; remove = c.remove; remove_prefix = c.remove_prefix; blank = c.blank }) (sym p.anonymous)
    ∙ ap (λ o. record { channels = t.channels; keep = t.keep; anonymous = t.anonymous; shift = unwrap_or o (pos 0); remove = c.remove; remove_prefix = c.remove_prefix; blank = c.blank }) (sym p.shift)
    ∙ ap (λ o. record { channels = t.channels; keep = t.keep; anonymous = t.anonymous; shift = t.shift; remove = unwrap_or o []; remove_prefix = c.remove_prefix; blank = c.blank }) (sym p.remove)
    ∙ ap (λ o. record { channels = t.channels; keep = t.keep; anonymous = t.anonymous; shift = t.shift; remove = t.remove; remove_prefix = unwrap_or o []; blank = c.blank }) (sym p.remove_prefix)
    ∙ ap (λ o. record { channels = t.channels; keep = t.keep; anonymous = t.anonymous; shift = t.shift; remove = t.remove; remove_prefix = t.remove_prefix; blank = unwrap_or o [] }) (sym p.blank)

pub table-says : (entries : Members) → claim_fault entries ≡ None → SaysClaim entries (terms_of entries)
unfolding claim_fault
table-says entries h =
    let t1 = unless (has_format entries) BadFormat in
    let t2 = unless (has_keys_of_format entries) UnknownKey in
    let t3 = unless (is_some (channels_of entries)) BadChannels in
    let t4 = unless (is_some (keep_of entries)) BadKeep in
    let t5 = unless (is_some (anonymous_of entries)) BadAnonymous in
    let t6 = unless (is_some (shift_of entries)) BadShift in
    let t7 = unless (is_some (remove_of entries)) BadRemove in
    let t8 = unless (is_some (remove_prefix_of entries)) BadRemovePrefix in
    let t9 = unless (is_some (blank_of entries)) BadBlank in
    let p1 = first-cons t1 (t2 ∷ t3 ∷ t4 ∷ t5 ∷ t6 ∷ t7 ∷ t8 ∷ t9 ∷ []) h in
    let p2 = first-cons t2 (t3 ∷ t4 ∷ t5 ∷ t6 ∷ t7 ∷ t8 ∷ t9 ∷ []) p1.1 in
    let p3 = first-cons t3 (t4 ∷ t5 ∷ t6 ∷ t7 ∷ t8 ∷ t9 ∷ []) p2.1 in
    let p4 = first-cons t4 (t5 ∷ t6 ∷ t7 ∷ t8 ∷ t9 ∷ []) p3.1 in
    let p5 = first-cons t5 (t6 ∷ t7 ∷ t8 ∷ t9 ∷ []) p4.1 in
    let p6 = first-cons t6 (t7 ∷ t8 ∷ t9 ∷ []) p5.1 in
    let p7 = first-cons t7 (t8 ∷ t9 ∷ []) p6.1 in
    let p8 = first-cons t8 (t9 ∷ []) p7.1 in
    let p9 = first-cons t9 [] p8.1 in
    let channels = is-some (channels_of entries) (unless-passed (is_some (channels_of entries)) BadChannels p3.0) in
    let keep = is-some (keep_of entries) (unless-passed (is_some (keep_of entries)) BadKeep p4.0) in
    let anonymous = is-some (anonymous_of entries) (unless-passed (is_some (anonymous_of entries)) BadAnonymous p5.0) in
    let shift = is-some (shift_of entries) (unless-passed (is_some (shift_of entries)) BadShift p6.0) in
    let remove = is-some (remove_of entries) (unless-passed (is_some (remove_of entries)) BadRemove p7.0) in
    let prefix = is-some (remove_prefix_of entries) (unless-passed (is_some (remove_prefix_of entries)) BadRemovePrefix p8.0) in
    let blank = is-some (blank_of entries) (unless-passed (is_some (blank_of entries)) BadBlank p9.0) in
    let c : ClaimValue = record { channels = channels.0; keep = keep.0; anonymous = anonymous.0; shift = shift.0; remove = remove.0; remove_prefix = prefix.0; blank = blank.0 } in
    let same : c ≡ terms_of entries = terms-are entries c (record {
      channels = channels.1;
      keep = keep.1;
      anonymous = anonymous.1;
      shift = shift.1;
      remove = remove.1;
      remove_prefix = prefix.1;
      blank = blank.1;
    }) in
    subst (λ (t : ClaimValue). SaysClaim entries t) same (record {
      keys = keys-said entries (unless-passed (has_keys_of_format entries) UnknownKey p2.0);
      channels = channels-said entries channels.0 channels.1;
      keep = keep-said entries keep.0 keep.1;
      anonymous = anonymous-said entries anonymous.0 anonymous.1;
      shift = shift-said entries shift.0 shift.1;
      remove = remove-said entries remove.0 remove.1;
      remove_prefix = remove-prefix-said entries prefix.0 prefix.1;
      blank = blank-said entries blank.0 blank.1;
    })
