-- Why a check stops: by what is told of the reads of its sources before and behind.
use Rattle.std.specs.Prelude.{◌≡◌, ℕ, ◌+◌, ◌⊎◌, List, [], ◌∷◌, map}
use Rattle.edf_pace.specs.Words.{Fails, Reads, Ghosts}
use Rattle.edf_stop.specs.declared.parts_stops.PartSide.{PartSide}
use Rattle.edf_stop.specs.declared.parts_stops.PartSide.TheVariants as sides
use Rattle.edf_stop.specs.declared.parts_stops.PartsStop.{PartsStop}
use Rattle.edf_stop.specs.declared.parts_stops.PartsStop.TheVariants.{OutOfMemory, ReadFailed}

-- a read of this part failed, where the first one has the number j: by what is told of the reads of all, before and behind
abbrev pub HasFailed : ℕ → List Reads → List Reads → ℕ → Type 0
HasFailed j [] news part = ⊥
HasFailed j (before ∷ olds) [] part = ⊥
HasFailed j (before ∷ olds) (behind ∷ news) part = ((part ≡ j) × Fails before behind) ⊎ HasFailed (j + 1) olds news part

-- of a failed read of the original this is said, of one of a part that it was one of this, and of want of memory the second: that no read
-- failed
abbrev pub PartsStops : Type 0 → Type 0 → ℕ → List Reads → List Reads → PartsStop → Type 0
PartsStops original none j olds news OutOfMemory = none
PartsStops original none j olds news (ReadFailed sides.Original) = original
PartsStops original none j olds news (ReadFailed (sides.Part part)) = HasFailed j olds news part

-- only this file was read
abbrev pub FileStops : PartSide → Type 0 → Type 0 → PartsStop → Type 0
FileStops file failed none OutOfMemory = none
FileStops file failed none (ReadFailed other) = (other ≡ file) × failed

abbrev pub StopsOf : {S : Type 0} → Ghosts S → PartSide → S → S → PartsStop → Type 0
StopsOf source file old new = FileStops file (Fails (source.reads old) (source.reads new)) (source.reads new ≡ source.reads old)

-- no read failed
abbrev pub NoneFailed : {O E : Type 0} → Ghosts O → O → O → Ghosts E → E → E → List E → List E → Type 0
NoneFailed original o o' export e e' es es' =
    (original.reads o' ≡ original.reads o) × (export.reads e' ≡ export.reads e) × (map export.reads es' ≡ map export.reads es)

-- the original and the parts from one of this number on were read
abbrev pub StopsOfAll : {O E : Type 0} → Ghosts O → O → O → Ghosts E → ℕ → List E → List E → PartsStop → Type 0
StopsOfAll original o o' export part es es' =
    PartsStops (Fails (original.reads o) (original.reads o'))
    ((original.reads o' ≡ original.reads o) × (map export.reads es' ≡ map export.reads es)) part (map export.reads es) (map export.reads es')

-- the same of a single part
abbrev pub StopsOfTwo : {O E : Type 0} → Ghosts O → O → O → Ghosts E → ℕ → E → E → PartsStop → Type 0
StopsOfTwo original o o' export part e e' OutOfMemory = (original.reads o' ≡ original.reads o) × (export.reads e' ≡ export.reads e)
StopsOfTwo original o o' export part e e' (ReadFailed sides.Original) = Fails (original.reads o) (original.reads o')
StopsOfTwo original o o' export part e e' (ReadFailed (sides.Part other)) = (other ≡ part) × Fails (export.reads e) (export.reads e')
