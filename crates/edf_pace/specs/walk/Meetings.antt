-- How the channels of two files meet between two times. These are steps between the definitions and the code.
use Rattle.std.specs.Prelude.{◌≡◌, true}
use Rattle.edf_pace.specs.Words.{Reader, is_current}
use Rattle.edf_samples.specs.declared.counts.meeting.Meeting.{Meeting}
use Rattle.edf_samples.specs.declared.stretch.Stretch.{Stretch}
use Rattle.edf_samples.specs.Meetings.{IsMeeting}
use Rattle.edf_samples.specs.Shares.{IsCutBy}
use Rattle.edf_pace.specs.declared.walk.shares.Shares.{Shares}

-- two readers show the samples of these shares, which are kept, and any two channels with as many samples meet so
pub record AreMet (r s : Reader) (shares : Shares) (m : Meeting) : Type 0 where
  pub original : is_current r.status ≡ true
  pub export : is_current s.status ≡ true
  pub kept : shares.is_kept ≡ true
  pub meet : (x y : Stretch) → IsCutBy shares.original (r.head).duration x → IsCutBy shares.export (s.head).duration y → IsMeeting x y m
