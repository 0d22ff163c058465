-- The claim that a table says, as functions, and the first fault of a table that says none.
use Rattle.std.specs.Prelude.{ℕ, ℤ, pos, neg_ℤ, ◌-◌, ◌^◌, ◌==◌, nat_le, nat_lt, int_le, int_lt, not, ◌&&◌, ◌||◌, Bool, true, false, if◌then◌else◌, List, [], ◌∷◌, length, slice_index, Option, Some, None, is_some, unwrap_or, option_map, option_and_then, codes}
use Rattle.std.specs.List.{list_all}
use Rattle.std.specs.Ordering.{int_eq}
use Rattle.std.specs.Str.{bytes_eq}
use Rattle.edf_fields.specs.texts.PrintableReading.{is_printable}
use Rattle.edf_fields.specs.texts.OnsetsReading.{span_of}
use Rattle.edf_claim.specs.Claims.{claim_keys, more_claim_keys, interval_keys}
use Rattle.edf_fields.specs.fields.SubfieldNamesReading.{which_of}
use Rattle.edf_claim.specs.ClaimValues.{ClaimValue}
use Rattle.edf_fields.specs.Lists.{is_one_of}
use Rattle.edf_fields.specs.Distinct.{are_distinct}
use Rattle.edf_claim.specs.declared.kept.interval.Interval.{Interval}
use Rattle.edf_claim.specs.declared.stop.ClaimStop.{ClaimStop}
use Rattle.edf_claim.specs.declared.stop.ClaimStop.TheVariants.{BadFormat, UnknownKey, BadChannels, BadKeep, BadAnonymous, BadShift, BadRemove, BadRemovePrefix, BadBlank}
use Rattle.edf_fields.specs.declared.fields.which.Which.{Which}
use Rattle.toml.specs.Data.{Data, Items, no_items, item, Members, no_members, member, get_member, as_str, as_integer, as_array, as_table}
use Rattle.edf_fields.specs.Tests.{first, unless}

-- the integer at a key
abbrev pub integer_of : List ℕ → Members → Option ℤ
integer_of key entries = option_and_then as_integer (get_member key entries)

-- the text at a key
abbrev pub text_at : List ℕ → Members → Option (List ℕ)
text_at key entries = option_and_then as_str (get_member key entries)

-- the table has no key but these
abbrev pub keys_are : List (List ℕ) → Members → Bool
keys_are keys no_members = true
keys_are keys (member key value rest) = is_one_of keys key && keys_are keys rest

-- the items as texts, where each of them is one
abbrev pub texts_of : Items → Option (List (List ℕ))
texts_of no_items = Some []
texts_of (item value rest) = option_and_then (λ t. option_map (λ ts. t ∷ ts) (texts_of rest)) (as_str value)

-- the texts of an array in which no text stands twice
abbrev pub distinct_texts : Data → Option (List (List ℕ))
distinct_texts value =
    option_and_then (λ ts. if are_distinct ts then Some ts else None) (option_and_then texts_of (as_array value))

-- the number is there, and it is this one
abbrev pub option_is : ℤ → Option ℤ → Bool
option_is z None = false
option_is z (Some y) = int_eq y z

-- the format is this one
abbrev pub is_format : ℤ → Members → Bool
is_format format entries = option_is format (integer_of (codes "format") entries)

-- `HasFormat` as a test
unfoldable pub has_format : Members → Bool
has_format entries = is_format (pos 1) entries || is_format (pos 2) entries

-- `HasKeysOfFormat` as a test
unfoldable pub has_keys_of_format : Members → Bool
has_keys_of_format entries =
    (is_format (pos 1) entries && keys_are claim_keys entries) || (is_format (pos 2) entries && keys_are more_claim_keys entries)

-- `IsLabel` as a test
abbrev pub is_label : List ℕ → Bool
is_label label =
    nat_le (length label) 16
    && (list_all is_printable label && (not (slice_index label (length label - 1) == 32) && not (bytes_eq label (codes "EDF Annotations"))))

-- the labels of the channels
unfoldable pub channels_of : Members → Option (List (List ℕ))
channels_of entries =
    option_and_then (λ labels. if nat_lt 0 (length labels) && list_all is_label labels then Some labels else None)
    (option_and_then distinct_texts (get_member (codes "channels") entries))

-- the time that a text at a key spells
abbrev pub span_at : List ℕ → Members → Option ℤ
span_at key entries = option_and_then span_of (text_at key entries)

-- an interval, where its first bound is below its second
abbrev pub interval_from : ℤ → ℤ → Option Interval
interval_from from to = if int_lt from to then Some (record { from_ps = from; to_ps = to }) else None

-- the interval that a table says
unfoldable pub interval_of : Members → Option Interval
interval_of entries =
    if keys_are interval_keys entries
    then option_and_then (λ from. option_and_then (interval_from from) (span_at (codes "to") entries)) (span_at (codes "from") entries)
    else None

-- the intervals of an array of tables
abbrev pub intervals_of : Items → Option (List Interval)
intervals_of no_items = Some []
intervals_of (item value rest) =
    option_and_then (λ i. option_map (λ is. i ∷ is) (intervals_of rest)) (option_and_then interval_of (as_table value))

-- `IsFollowedBy` as a test
abbrev pub is_followed_by : Interval → List Interval → Bool
is_followed_by interval [] = true
is_followed_by interval (next ∷ more) = int_le interval.to_ps next.from_ps

-- `AreInOrder` as a test
abbrev pub are_in_order : List Interval → Bool
are_in_order [] = true
are_in_order (interval ∷ intervals) = is_followed_by interval intervals && are_in_order intervals

-- the intervals that are kept
unfoldable pub keep_of : Members → Option (List Interval)
keep_of entries =
    option_and_then (λ is. if nat_lt 0 (length is) && (nat_le (length is) 1000 && are_in_order is) then Some is else None)
    (option_and_then intervals_of (option_and_then as_array (get_member (codes "keep") entries)))

-- the subfields of these names
abbrev pub whiches_of : List (List ℕ) → Option (List Which)
whiches_of [] = Some []
whiches_of (name ∷ names) = option_and_then (λ w. option_map (λ ws. w ∷ ws) (whiches_of names)) (which_of name)

-- what is read of a value that may be absent
abbrev pub or_default : {X : Type 0} → X → (Data → Option X) → Option Data → Option X
or_default default read None = Some default
or_default default read (Some value) = read value

-- what is made anonymous
unfoldable pub anonymous_of : Members → Option (List Which)
anonymous_of entries =
    or_default [] (λ value. option_and_then whiches_of (distinct_texts value)) (get_member (codes "anonymous") entries)

-- a shift within ten thousand million seconds
abbrev pub shift_within : ℤ → Option ℤ
shift_within z = if int_le (neg_ℤ (pos (10 ^ 10))) z && int_le z (pos (10 ^ 10)) then Some z else None

-- the shift
unfoldable pub shift_of : Members → Option ℤ
shift_of entries = or_default (pos 0) (λ value. option_and_then shift_within (as_integer value)) (get_member (codes "shift") entries)

-- the texts of annotations that are removed
unfoldable pub remove_of : Members → Option (List (List ℕ))
remove_of entries = or_default [] distinct_texts (get_member (codes "remove") entries)

-- the texts of an array in which no text stands twice and none is empty
abbrev pub distinct_prefixes : Data → Option (List (List ℕ))
distinct_prefixes value =
    option_and_then (λ ts. if list_all (λ t. nat_lt 0 (length t)) ts then Some ts else None) (distinct_texts value)

-- the texts with which those of removed annotations begin
unfoldable pub remove_prefix_of : Members → Option (List (List ℕ))
remove_prefix_of entries = or_default [] distinct_prefixes (get_member (codes "remove-prefix") entries)

-- the texts of annotations that are blanked
unfoldable pub blank_of : Members → Option (List (List ℕ))
blank_of entries = or_default [] distinct_texts (get_member (codes "blank") entries)

-- why a table says no claim: the first cause in this order
unfoldable pub claim_fault : Members → Option ClaimStop
claim_fault entries =
    first (
    unless (has_format entries) BadFormat
    ∷ unless (has_keys_of_format entries) UnknownKey
    ∷ unless (is_some (channels_of entries)) BadChannels
    ∷ unless (is_some (keep_of entries)) BadKeep
    ∷ unless (is_some (anonymous_of entries)) BadAnonymous
    ∷ unless (is_some (shift_of entries)) BadShift
    ∷ unless (is_some (remove_of entries)) BadRemove
    ∷ unless (is_some (remove_prefix_of entries)) BadRemovePrefix
    ∷ unless (is_some (blank_of entries)) BadBlank
    ∷ []
    )

-- the claim that is read of a table; what is none counts as absent
abbrev pub terms_of : Members → ClaimValue
terms_of entries = record {
  channels = unwrap_or (channels_of entries) [];
  keep = unwrap_or (keep_of entries) [];
  anonymous = unwrap_or (anonymous_of entries) [];
  shift = unwrap_or (shift_of entries) (pos 0);
  remove = unwrap_or (remove_of entries) [];
  remove_prefix = unwrap_or (remove_prefix_of entries) [];
  blank = unwrap_or (blank_of entries) [];
}
