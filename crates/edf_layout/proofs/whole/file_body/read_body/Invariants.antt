use Rattle.std.proofs.Common.{◌≡◌, ◌-◌, ℕ, List, length, IsTrue}
use Rattle.edf_stream.specs.records.Readers.{IsOpen, StandsIn}
use Rattle.edf_layout.specs.body.PlainLanes.{AreRising}
use Rattle.edf_layout.specs.whole.FileBodies.{AreNear, lanes_kept, notes_kept}
use Rattle.edf_layout.specs.body.PlainOrders.{lane_sizes}
use Rattle.edf_layout.proofs.reading.BodyFacts.{IsGathered}
use Rattle.edf_layout.proofs.reading.RisingFacts.{EndBy}
use Rattle.edf_layout.proofs.whole.file_body.read_body.Given as goal

abbrev pub invariant-loop-body : goal.invariant-loop-body
invariant-loop-body g l = record {
  going : IsOpen (l.reading).status;
  head : (l.reading).head ≡ (l.fn.reader).head;
  failures : g.S.Source.reads l.source ≡ g.S.Source.reads l.fn.source;
  honesty : IsTrue (g.S.Source.is_honest l.fn.source) → IsTrue (g.S.Source.is_honest l.source);
  alike : length l.body.lanes.items ≡ length l.body.starts.items;
  rising : AreRising l.body.starts.items;
  near : AreNear l.body.starts.items;
  ended : EndBy l.body.starts.items ((l.reading).head).duration (l.reading).ended;
  gathered : IsTrue (g.S.Source.is_honest l.fn.source) → (file : List ℕ) → StandsIn l.fn.reader (g.S.Source.left l.fn.source) file
      → StandsIn l.reading (g.S.Source.left l.source) file
      × IsGathered file (l.reading).head (l.reading).read l.body.starts.items (lanes_kept (lane_sizes (l.fn.reader).head) l.body) (notes_kept l.body);
}

abbrev pub decreases-loop-body : goal.decreases-loop-body
decreases-loop-body g l = ((l.reading).head).records - (l.reading).read
