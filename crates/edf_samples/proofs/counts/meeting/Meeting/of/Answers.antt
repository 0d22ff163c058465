use Rattle.edf_samples.proofs.MeetingFacts.{meeting_alike}
use Rattle.edf_samples.proofs.counts.meeting.Meeting.of.Goals as goal

pub returns : goal.returns
returns c = λ u v e f. meeting_alike c.args.x c.args.y u v c.meeting_of.result c.meeting_of.ensures e f
