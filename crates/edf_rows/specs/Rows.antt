-- The worked rows, and the line that is stored for each.
use Rattle.std.specs.Prelude.{ℕ, Bool, true, false, List, [], ◌∷◌, codes}
use Rattle.edf_rows.specs.declared.rows.Exports.{Exports}
use Rattle.edf_rows.specs.declared.rows.Exports.TheVariants.{One, Several}
use Rattle.edf_rows.specs.declared.rows.Row.{Row}

-- a worked row, in what its text says: its number, whether several exports are checked together, and the line that is stored for it
pub record WorkedRow : Type 0 where
  pub number : ℕ
  pub of_several : Bool
  pub stored : List ℕ

abbrev pub one : ℕ → List ℕ → WorkedRow
one number stored = record { number = number; of_several = false; stored = stored }

abbrev pub several : ℕ → List ℕ → WorkedRow
several number stored = record { number = number; of_several = true; stored = stored }

-- the rows, in the order in which they are written
-- rows: by tools/gate/tables.py
unfoldable pub worked_rows : List WorkedRow
worked_rows =
    one 1 (codes "YES channels 1 samples 2 annotations 0\n")
    ∷ one 2 (codes "YES channels 2 samples 24 annotations 3\n")
    ∷ one 3 (codes "YES channels 2 samples 24 annotations 3\n")
    ∷ one 4 (codes "YES channels 2 samples 12 annotations 1\n")
    ∷ one 5 (codes "NO 10 sample \"ECG\" at 3000000000000 ps extra\n")
    ∷ one 6 (codes "YES channels 2 samples 12 annotations 2\n")
    ∷ one 7 (codes "NO 2 export fault: NotContiguous at record 1\n")
    ∷ one 8 (codes "NO 10 sample \"EEG Fpz-Cz\" at 750000000000 ps original 30 export 31\n")
    ∷ one 9 (codes "NO 10 sample \"ECG\" at 2500000000000 ps original 105 export 104\n")
    ∷ one 10 (codes "YES channels 1 samples 6 annotations 0\n")
    ∷ one 11 (codes "NO 10 sample \"Temp\" at 1000000000000 ps missing\n")
    ∷ one 12 (codes "NO 10 sample \"Temp\" at 333333333333 ps extra\n")
    ∷ one 13 (codes "NO 10 sample \"Temp\" at 333333333333 ps original 2 export 9\n")
    ∷ one 14 (codes "YES channels 2 samples 24 annotations 3\n")
    ∷ one 15 (codes "YES channels 2 samples 24 annotations 3\n")
    ∷ one 16 (codes "NO 7 calibration \"EEG Fpz-Cz\"\n")
    ∷ one 17 (codes "NO 7 calibration \"EEG Fpz-Cz\"\n")
    ∷ one 18 (codes "NO 8 subfield name not X\n")
    ∷ one 19 (codes "NO 8 subfield sex changed\n")
    ∷ one 20 (codes "YES channels 2 samples 24 annotations 3\n")
    ∷ one 21 (codes "NO 8 subfield patient-extras not X\n")
    ∷ one 22 (codes "NO 8 subfield patient-extras changed\n")
    ∷ one 23 (codes "YES channels 2 samples 24 annotations 3\n")
    ∷ one 24 (codes "NO 8 subfield date changed\n")
    ∷ one 25 (codes "NO 2 export fault: StartdateDiffers at header field startdate\n")
    ∷ one 26 (codes "YES channels 2 samples 24 annotations 3\n")
    ∷ one 27 (codes "NO 11 annotation missing at 1500000000000 ps duration 1000000000000 ps text \"Apnea\"\n")
    ∷ one 28 (codes "NO 11 annotation extra at 500000000000 ps duration none text \"Lights off\"\n")
    ∷ one 29 (codes "NO 2 export fault: Truncated at record 3\n")
    ∷ one 30 (codes "NO 2 export fault: TrailingBytes at end\n")
    ∷ one 31 (codes "NO 1 original fault: Truncated at header field version\n")
    ∷ one 32 (codes "NO 2 export fault: Truncated at signal 2 field label\n")
    ∷ one 33 (codes "NO 2 export fault: BadTal(NotUtf8) at record 3\n")
    ∷ one 34 (codes "NO 1 original fault: BadRange at header field records\n")
    ∷ one 35 (codes "NO 9 not clean header\n")
    ∷ one 36 (codes "NO 9 not clean \"ECG\"\n")
    ∷ one 37 (codes "YES channels 2 samples 24 annotations 3\n")
    ∷ one 38 (codes "NO 5 extra channel \"EEG Fpz-Cz\"\n")
    ∷ one 39 (codes "NO 4 missing channel \"ECG\"\n")
    ∷ one 40 (codes "NO 6 channel text \"ECG\" prefilter\n")
    ∷ one 41 (codes "NO 3 unknown channel \"EMG\"\n")
    ∷ one 42 (codes "NO 2 export fault: BadStart at header field startdate\n")
    ∷ one 53 (codes "NO 11 annotation extra at 1500000000000 ps duration 1000000000000 ps text \"Apnea\"\n")
    ∷ one 54 (codes "YES channels 2 samples 24 annotations 3\n")
    ∷ one 55 (codes "NO 11 annotation extra at 500000000000 ps duration none text \"Lights off\"\n")
    ∷ one 56 (codes "YES channels 2 samples 24 annotations 2\n")
    ∷ one 57 (codes "YES channels 2 samples 24 annotations 1\n")
    ∷ one 58 (codes "YES channels 2 samples 24 annotations 3\n")
    ∷ one 59 (codes "YES channels 2 samples 24 annotations 3\n")
    ∷ one 60 (codes "NO 2 export fault: BadStart at header field startdate\n")
    ∷ one 61 (codes "NO 2 export fault: StartdateDiffers at header field startdate\n")
    ∷ one 62 (codes "NO 2 export fault: StartdateDiffers at header field startdate\n")
    ∷ several 63 (codes "YES parts 1 channels 2 samples 24 annotations 3\n")
    ∷ several 64 (codes "YES parts 2 channels 2 samples 24 annotations 3\n")
    ∷ several 65 (codes "NO 12 part 1 starts early\n")
    ∷ several 66 (codes "NO 12 part 1 starts early\n")
    ∷ several 67 (codes "NO 10 sample \"ECG\" at 2000000000000 ps missing\n")
    ∷ several 68 (codes "NO 2 part 1 export fault: Truncated at record 1\n")
    ∷ several 69 (codes "NO 8 part 1 subfield sex changed\n")
    ∷ []

-- end of rows

-- whether they are several, which are checked together
abbrev pub are_several : Exports → Bool
are_several (One file) = false
are_several (Several first second) = true

-- a row, in the words of the code
abbrev pub row_of : Row → WorkedRow
row_of row = record { number = row.number; of_several = are_several row.exports; stored = row.stored.now }
