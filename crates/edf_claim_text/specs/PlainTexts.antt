-- The plainest form of a claim: TOML 1.0 with the keys in one order, and a line for each label, interval, subfield and text.
use Rattle.std.specs.Prelude.{ℕ, nat_le, not, ◌&&◌, ◌==◌, Bool, true, false, if◌then◌else◌, List, [], ◌++◌, length, codes}
use Rattle.std.specs.Fmt.{decimal, signed_decimal}
use Rattle.std.specs.List.{flat_map}
use Rattle.edf_claim.specs.Spellings.{said_interval, said_text}
use Rattle.edf_claim.specs.ClaimValues.{ClaimValue}
use Rattle.edf_claim.specs.declared.kept.interval.Interval.{Interval}
use Rattle.edf_fields.specs.declared.fields.which.Which.{Which}
use Rattle.edf_fields.specs.fields.SubfieldNames.{name_of}

-- the line of a text in an array
unfoldable pub text_line : List ℕ → List ℕ
text_line text = codes "  " ++ (said_text text ++ codes ",\n")

-- the line of a subfield
abbrev pub name_line : Which → List ℕ
name_line which = text_line (name_of which)

-- what stands behind an interval: its times in picoseconds, where they are said, and the end of the line
abbrev pub behind_interval : Bool → Interval → List ℕ
behind_interval true interval =
    codes ", # " ++ (signed_decimal interval.from_ps ++ (codes " ps to " ++ (signed_decimal interval.to_ps ++ codes " ps\n")))
behind_interval false interval = codes ",\n"

-- the line of an interval
unfoldable pub interval_line : Bool → Interval → List ℕ
interval_line says_ps interval = codes "  " ++ (said_interval interval ++ behind_interval says_ps interval)

-- a key with an array that has these lines
unfoldable pub array_text : List ℕ → List ℕ → List ℕ
array_text key lines = key ++ (codes " = [\n" ++ (lines ++ codes "]\n"))

-- a key with an array of these texts
abbrev pub texts_array : List ℕ → List (List ℕ) → List ℕ
texts_array key texts = array_text key (flat_map text_line texts)

-- the claim says something that format 1 can't say
abbrev pub needs_more_keys : ClaimValue → Bool
needs_more_keys c = not (length c.remove_prefix == 0 && length c.blank == 0)

-- the keys that format 2 has besides
unfoldable pub both_keys : ClaimValue → List ℕ
both_keys c = texts_array (codes "remove-prefix") c.remove_prefix ++ texts_array (codes "blank") c.blank

-- these, where they are needed
abbrev pub more_keys : ClaimValue → List ℕ
more_keys c = if needs_more_keys c then both_keys c else []

-- the keys of what is made anonymous, of the shift and of the texts of annotations
unfoldable pub changes_text : ClaimValue → List ℕ
changes_text c =
    array_text (codes "anonymous") (flat_map name_line c.anonymous)
    ++ (codes "shift = " ++ (signed_decimal c.shift ++ (codes "\n" ++ (texts_array (codes "remove") c.remove ++ more_keys c))))

-- the lines of a claim, which say its intervals in picoseconds, too, or don't
unfoldable pub lines_of : Bool → ClaimValue → List ℕ
lines_of says_ps c =
    codes "format = " ++ (decimal (if needs_more_keys c then 2 else 1) ++ (codes "\n"
    ++ (texts_array (codes "channels") c.channels
    ++ (array_text (codes "keep") (flat_map (interval_line says_ps) c.keep) ++ changes_text c))))

-- the text of a claim: with picoseconds where it is then no longer than a claim may be
abbrev pub plain_text : ClaimValue → List ℕ
plain_text c = if nat_le (length (lines_of true c)) 65536 then lines_of true c else lines_of false c
