-- How a claim spells texts and times where this project writes one: as TOML 1.0 has them, and in one way only.
use Rattle.std.specs.Prelude.{ℕ, zero, suc, ◌+◌, ◌/◌, ◌%◌, ◌^◌, unsigned_abs, ◌==◌, ◌||◌, nat_lt, if◌then◌else◌, List, [], ◌∷◌, ◌++◌, codes}
use Rattle.std.specs.Fmt.{decimal}
use Rattle.std.specs.List.{flat_map}
use Rattle.edf_claim.specs.declared.kept.interval.Interval.{Interval}

-- the lower-case hexadecimal digit of this value
abbrev pub hex_digit : ℕ → ℕ
hex_digit value = if nat_lt value 10 then 48 + value else 87 + value

-- a byte between quotation marks: a quotation mark or a backslash behind a backslash, a control byte by its number, and else itself
abbrev pub said_byte : ℕ → List ℕ
said_byte byte =
    if byte == 34 then 92 ∷ 34 ∷ []
    else if byte == 92 then 92 ∷ 92 ∷ []
    else if nat_lt byte 32 || byte == 127 then 92 ∷ 117 ∷ 48 ∷ 48 ∷ hex_digit (byte / 16) ∷ hex_digit (byte % 16) ∷ []
    else byte ∷ []

-- a text between quotation marks
unfoldable pub said_text : List ℕ → List ℕ
said_text text = 34 ∷ (flat_map said_byte text ++ (34 ∷ []))

-- the last so many digits of a number, but for the zeros at their end
abbrev pub last_digits : ℕ → ℕ → List ℕ
last_digits zero number = []
last_digits (suc places) number =
    if number == 0 then [] else (48 + number / 10 ^ places % 10) ∷ last_digits places (number % 10 ^ places)

-- the fraction of a second in so many picoseconds: nothing, or a dot and its digits without zeros at their end
abbrev pub said_fraction : ℕ → List ℕ
said_fraction ps = if ps == 0 then [] else 46 ∷ last_digits 12 ps

-- so many picoseconds in seconds
unfoldable pub said_seconds : ℕ → List ℕ
said_seconds ps = decimal (ps / 10 ^ 12) ++ said_fraction (ps % 10 ^ 12)

-- an interval as a table in one line
unfoldable pub said_interval : Interval → List ℕ
said_interval interval =
    codes "{ from = \"" ++ (said_seconds (unsigned_abs interval.from_ps)
    ++ (codes "\", to = \"" ++ (said_seconds (unsigned_abs interval.to_ps) ++ codes "\" }")))
